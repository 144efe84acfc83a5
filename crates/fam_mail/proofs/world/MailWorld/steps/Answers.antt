use Rattle.std.proofs.Common.{Result, List, refl, sym, subst, set}
use Rattle.std.specs.Prelude.{Bool}
use Rattle.fam_media.specs.States.{MediaChange, change}
use Rattle.std.proofs.lemmas.Option.{slice_get_read}
use Rattle.fam_mail.specs.Calls.{CountEnds, HostCounts, MailWorldFits}
use Rattle.fam_mail.specs.declared.note.MailFault.{MailFault}
use Rattle.fam_mail.specs.World.{MailHost, MailView, mail_host, mail_view, mail_hosts}
use Rattle.fam_mail.specs.declared.note.MailNote.{MailNote}
use Rattle.fam_mail.proofs.Calling.{count_said, fits_noted, fits_set, runs}
use Rattle.fam_mail.proofs.Members.{map_at, map_set}
use Rattle.fam_mail.specs.Calls.{no_task_refusal, refusal_named}
use Rattle.fam_mail.specs.Happens.{IsCountedIn}
use Rattle.fam_mail.proofs.Counting.{from_counted, none_counted, quiet_idle, quiet_named, refusal_counted}
use Rattle.fam_mail.proofs.world.MailWorld.steps.Goals as goal

pub returns-in-Err-clause-fits : goal.returns-in-Err-clause-fits
returns-in-Err-clause-fits g c =
    let i = c.self.inside in
    let v : MailView = mail_view i.entry i.hosts.items i.journal.items in
    let fits : MailWorldFits (g.M.Media.size c.args.media.now) v = subst (MailWorldFits (g.M.Media.size c.args.media.now)) (sym c.self.view_is) c.requires.fits in
    fits_noted (g.M.Media.size c.args.media.now) v c.refused.new.journal.items fits

pub steps_of-requires-clause-runs : goal.steps_of-requires-clause-runs
steps_of-requires-clause-runs g c =
    let i = c.self.inside in
    let items = i.hosts.items in
    let v : MailView = mail_view i.entry items i.journal.items in
    let at_is = slice_get_read items i.hosts.len c.in-Ok.at c.index_mut.result.now i.hosts.ok.0 c.in-Ok.ensures.within c.index_mut.ensures.value in
    runs c.args.name.now v c.in-Ok.at (c.in-Ok.ensures.placed i.entry i.journal.items) (mail_host c.index_mut.result.now) (map_at mail_host items c.in-Ok.at c.index_mut.result.now at_is)

pub steps_of-requires-clause-fits : goal.steps_of-requires-clause-fits
steps_of-requires-clause-fits g c =
    let i = c.self.inside in
    let items = i.hosts.items in
    let v : MailView = mail_view i.entry items i.journal.items in
    let at_is = slice_get_read items i.hosts.len c.in-Ok.at c.index_mut.result.now i.hosts.ok.0 c.in-Ok.ensures.within c.index_mut.ensures.value in
    let fits : MailWorldFits (g.M.Media.size c.args.media.now) v = subst (MailWorldFits (g.M.Media.size c.args.media.now)) (sym c.self.view_is) c.requires.fits in
    fits.host c.in-Ok.at (mail_host c.index_mut.result.now) (map_at mail_host items c.in-Ok.at c.index_mut.result.now at_is)

pub returns-clause-ends : goal.returns-clause-ends
returns-clause-ends g c =
    let i = c.self.inside in
    let items = i.hosts.items in
    let at = c.in-Ok.at in
    let x = c.index_mut.result.now in
    let y = c.steps_of.new.host in
    let told : MediaChange = change g.M.Media.state c.args.media.now c.steps_of.new.media in
    let v : MailView = mail_view i.entry items i.journal.items in
    let new : MailView = mail_view i.entry (set items at y) c.steps_of.new.journal.items in
    let at_is = slice_get_read items i.hosts.len at x i.hosts.ok.0 c.in-Ok.ensures.within c.index_mut.ensures.value in
    let counts : HostCounts c.args.count (g.M.Media.size c.args.media.now) i.entry c.args.name.now (mail_host x) told (mail_host y) i.journal.items c.steps_of.new.journal.items c.steps_of.result =
    subst (λ (j : List MailNote). HostCounts c.args.count (g.M.Media.size c.args.media.now) i.entry c.args.name.now (mail_host x) told (mail_host y) j c.steps_of.new.journal.items
    c.steps_of.result) c.two_rooms.ensures.same c.steps_of.ensures.counts in
    let said = count_said c.args.name.now v at (c.in-Ok.ensures.placed i.entry i.journal.items) (mail_host x) (map_at mail_host items at x at_is) (g.M.Media.size c.args.media.now) told
    (mail_host y) (mail_hosts (set items at y)) c.steps_of.new.journal.items
    (map_set mail_host (λ (h : MailHost). mail_host y) items at y x at_is refl) c.args.count c.steps_of.result counts in
    subst (λ (w : MailView). CountEnds c.args.count (g.M.Media.size c.args.media.now) c.args.name.now told w new c.or_fault.result) c.self.view_is
    (subst (λ (r : Result Bool MailFault). CountEnds c.args.count (g.M.Media.size c.args.media.now) c.args.name.now told v new r) (sym c.or_fault.ensures) said)

pub returns-clause-fits : goal.returns-clause-fits
returns-clause-fits g c =
    let i = c.self.inside in
    let items = i.hosts.items in
    let lines = g.M.Media.size c.args.media.now in
    let fits : MailWorldFits lines (mail_view i.entry items i.journal.items) = subst (MailWorldFits lines) (sym c.self.view_is) c.requires.fits in
    fits_set i.entry items i.journal.items c.steps_of.new.journal.items c.in-Ok.at c.index_mut.result.now c.steps_of.new.host lines (g.M.Media.size c.steps_of.new.media) c.steps_of.ensures.steady.size
    (slice_get_read items i.hosts.len c.in-Ok.at c.index_mut.result.now i.hosts.ok.0 c.in-Ok.ensures.within c.index_mut.ensures.value) fits c.steps_of.ensures.fits

pub steps_of-requires-clause-within : goal.steps_of-requires-clause-within
steps_of-requires-clause-within g c =
    let i = c.self.inside in
    let fits : MailWorldFits (g.M.Media.size c.args.media.now) (mail_view i.entry i.hosts.items i.journal.items) = subst (MailWorldFits (g.M.Media.size c.args.media.now)) (sym c.self.view_is)
    c.requires.fits in
    fits.place

pub returns-then-is_err-clause-counted : goal.returns-then-is_err-clause-counted
returns-then-is_err-clause-counted g c exact =
    subst (λ (w : MailView). IsCountedIn w.journal c.two_rooms.new.journal.items (g.M.Media.state c.args.media.now).faults (g.M.Media.state c.args.media.now).faults) c.self.view_is
    (none_counted _ _ _ _ c.two_rooms.ensures.same refl)

pub returns-in-Err-clause-counted : goal.returns-in-Err-clause-counted
returns-in-Err-clause-counted g c exact =
    let i = c.self.inside in
    let v : MailView = mail_view i.entry i.hosts.items i.journal.items in
    subst (λ (w : MailView). IsCountedIn w.journal c.refused.new.journal.items (g.M.Media.state c.args.media.now).faults (g.M.Media.state c.args.media.now).faults) c.self.view_is
    (from_counted _ _ _ _ _ c.two_rooms.ensures.same
    (refusal_counted c.args.name.now (refusal_named c.args.name.now no_task_refusal v) c.in-Err.cause _ _ _ (quiet_named c.args.name.now no_task_refusal quiet_idle v)
    (c.in-Err.ensures.placed i.entry i.journal.items) c.refused.ensures.noted))

pub returns-clause-counted : goal.returns-clause-counted
returns-clause-counted g c exact =
    subst (λ (w : MailView). IsCountedIn w.journal c.steps_of.new.journal.items (g.M.Media.state c.args.media.now).faults (g.M.Media.state c.steps_of.new.media).faults) c.self.view_is
    (from_counted _ _ _ _ _ c.two_rooms.ensures.same (c.steps_of.ensures.counted exact))
