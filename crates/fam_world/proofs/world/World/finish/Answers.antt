use Rattle.std.proofs.Common.{◌≡◌, ◌++◌, ◌∷◌, [], List, Option, None, Some, Result, Ok, Err, set, refl, ap, sym, subst, ◌∙◌, true, lt_of_lt_of_le}
use Rattle.fam_media.specs.States.{change}
use Rattle.std.specs.Prelude.{IfSome, IsErrOf, OnErr, OnOk, is_some}
use Rattle.fam_base.specs.declared.line.OutOfMemory.{OutOfMemory}
use Rattle.fam_journal.specs.declared.refusal.Refusal.{Refusal}
use Rattle.fam_world.specs.declared.fault.WorldFault.TheVariants as fault
use Rattle.std.proofs.lemmas.Option.{same_Some, slice_get_read}
use Rattle.fam_commands.specs.FirstStore.{IsUnstored}
use Rattle.fam_commands.specs.Task.{Task}
use Rattle.fam_machine.specs.Caches.{Cache}
use Rattle.fam_journal.specs.Calls as call
use Rattle.fam_journal.specs.CallRecords.{FinishOutOfMemory, FitsMedia, MediaCall}
use Rattle.fam_journal.specs.Notes.{Note, Refused}
use Rattle.fam_journal.specs.View.{HostView, WorldView}
use Rattle.fam_notes.specs.declared.note.Note.{Note as Kept}
use Rattle.fam_world.specs.Answers.{IfAnswered, IsRefused}
use Rattle.fam_world.specs.Counted.{Ends, SomeSteps, RunsUp, host_standing, told_of}
use Rattle.fam_world.specs.View.{host_view, notes_view, world_view}
use Rattle.fam_world.proofs.Counting.{far_ends, far_runs, told_full}
use Rattle.fam_world.proofs.Finishing.{finish_done, finish_lacks, finish_nothing, finishes_as_steps, view_set}
use Rattle.fam_world.proofs.Members.{map_at, map_set}
use Rattle.fam_world.proofs.Moving.{media_refused}
use Rattle.fam_world.proofs.WithoutMedia.{refused_told, not_full}
use Rattle.fam_world.proofs.Untouched.{none_refused}
use Rattle.fam_world.proofs.world.World.finish.Goals as goal

-- of a task that is there
unstored_then : (o : Option Task) (held : Cache) (Q : Type 0) → is_some o ≡ true → IfSome o (λ t. IsUnstored t held) → IfSome o (λ t. IsUnstored t held → Q) → Q
unstored_then None held Q runs unstored then = absurd cc
unstored_then (Some t) held Q runs unstored then = then unstored

ok_then : {T E P : Type 0} (r : Result T E) {x : T} → r ≡ Ok x → OnOk r P → P
ok_then (Ok x) is p = p
ok_then (Err e) is p = absurd cc

err_then : {T E P : Type 0} (r : Result T E) {e : E} → r ≡ Err e → OnErr r P → P
err_then (Ok x) is p = absurd cc
err_then (Err e) is p = p

done_answered : (r : Result (Unit {0}) OutOfMemory) (P : Option Refusal → Type 0) → (r ≡ Ok tt → P None) → IfAnswered {T = Unit {0}} (told_of r) P
done_answered (Ok done) P holds = holds refl
done_answered (Err full) P holds = tt

pub returns-in-Err-clause-answered : goal.returns-in-Err-clause-answered
returns-in-Err-clause-answered g c =
    let m = g.M.Media in
    let media = c.args.media.now in
    let old : WorldView = world_view c.self.inside.hosts.items c.self.inside.journal.items in
    let new : WorldView = world_view c.self.inside.hosts.items c.refused.new.journal.items in
    let size = m.size media in
    let placed = c.in-Err.ensures.placed size old.journal in
    let refused : IsRefused (call.Finishes c.args.name.now) size old c.in-Err.cause = record {
      first = finishes_as_steps c.args.name.now old size _ placed.first;
      plain = placed.plain;
      named = placed.named;
      faultless = placed.faultless;
    } in
    subst (λ (w : WorldView). IfAnswered {T = Unit {0}} (Err c.refused.result) (λ answered. MediaCall (call.Finishes c.args.name.now) size answered (change m.state media media) w new)) c.self.view_is
    (refused_told c.refused.result c.in-Err.cause _ c.refused.ensures.given
    (media_refused (call.Finishes c.args.name.now) tt tt size (m.state media).image (m.state media).faults old new c.in-Err.cause (g.met.M.Media.modelled media) refused refl
    (c.refused.ensures.noted ∙ ap (λ (xs : List Kept). notes_view xs ++ Refused c.args.name.now c.in-Err.cause ∷ []) c.make_room.ensures.same)))

pub returns-clause-answered : goal.returns-clause-answered
returns-clause-answered g c =
    let m = g.M.Media in
    let media = c.args.media.now in
    let media_now = c.finish_of.new.media in
    let items = c.self.inside.hosts.items in
    let old : WorldView = world_view items c.self.inside.journal.items in
    let size = m.size media in
    let at = c.in-Ok.at in
    let x = c.index_mut.result.now in
    let y = c.finish_of.new.host in
    let at_is = slice_get_read items c.self.inside.hosts.len at x c.self.inside.hosts.ok.0 c.in-Ok.ensures.within c.index_mut.ensures.value in
    let free = c.in-Ok.ensures.placed size old.journal in
    let new : WorldView = world_view (set items at y) c.finish_of.new.journal.items in
    let P : Option Refusal → Type 0 = λ answered. MediaCall (call.Finishes c.args.name.now) size answered (change m.state media media_now) c.args.self.now new in
    subst (λ r. IfAnswered {T = Unit {0}} r P) (sym c.or_fault.ensures)
    (done_answered c.finish_of.result P
    (λ is.
    let ends = subst (λ (j : List Note). Ends at size (host_standing m.state media (host_view x) j)
    (host_standing m.state media_now (host_view y) new.journal)) (ap notes_view c.make_room.ensures.same)
    (subst (RunsUp at size (host_standing m.state media (host_view x) (notes_view c.make_room.new.journal.items))
    (host_standing m.state media_now (host_view y) new.journal)) is c.finish_of.ensures.runs) in
    let far = far_ends c.args.name.now at size old (host_view x) free.number (map_at host_view items at x at_is) free.within (m.state media).image
    (m.state media_now).image (m.state media).faults (m.state media_now).faults new (host_view y)
    (map_set host_view (λ v. host_view y) items at y x at_is refl) ends in
    subst (λ (w : WorldView). MediaCall (call.Finishes c.args.name.now) size None (change m.state media media_now) w new) c.self.view_is
    (finish_done c.args.name.now at size far free.number free.free free.within (g.met.M.Media.modelled media)
    (λ v there. subst (λ (u : HostView). u.task ≡ None) (same_Some (host_view y) v (sym (view_set items at x y at_is) ∙ there)) (ok_then c.finish_of.result is c.finish_of.ensures.over)))))

pub returns-clause-want : goal.returns-clause-want
returns-clause-want g c = λ full.
    let m = g.M.Media in
    let media = c.args.media.now in
    let media_now = c.finish_of.new.media in
    let items = c.self.inside.hosts.items in
    let old : WorldView = world_view items c.self.inside.journal.items in
    let size = m.size media in
    let at = c.in-Ok.at in
    let x = c.index_mut.result.now in
    let y = c.finish_of.new.host in
    let at_is = slice_get_read items c.self.inside.hosts.len at x c.self.inside.hosts.ok.0 c.in-Ok.ensures.within c.index_mut.ensures.value in
    let view_is = map_at host_view items at x at_is in
    let free = c.in-Ok.ensures.placed size old.journal in
    let new : WorldView = world_view (set items at y) c.finish_of.new.journal.items in
    let is = told_full c.finish_of.result (subst (λ r. IsErrOf r fault.OutOfMemory) c.or_fault.ensures full) in
    let runs = subst (λ (j : List Note). SomeSteps at size (host_standing m.state media (host_view x) j)
    (host_standing m.state media_now (host_view y) new.journal)) (ap notes_view c.make_room.ensures.same)
    (subst (RunsUp at size (host_standing m.state media (host_view x) (notes_view c.make_room.new.journal.items))
    (host_standing m.state media_now (host_view y) new.journal)) is c.finish_of.ensures.runs) in
    let far = far_runs c.args.name.now at size old (host_view x) free.number view_is free.within (m.state media).image (m.state media_now).image
    (m.state media).faults (m.state media_now).faults new (host_view y)
    (map_set host_view (λ v. host_view y) items at y x at_is refl) runs in
    subst (λ (w : WorldView). FinishOutOfMemory c.args.name.now size (change m.state media media_now) w new) c.self.view_is
    (finish_lacks c.args.name.now at size far free.number free.free free.within (g.met.M.Media.modelled media)
    (λ v there. subst (λ (u : HostView). is_some u.task ≡ true) (same_Some (host_view y) v (sym (view_set items at x y at_is) ∙ there)) (err_then c.finish_of.result is c.finish_of.ensures.on))
    (λ unstored. unstored_then x.task x.cache.lines _ (c.in-Ok.ensures.runs (host_view x) view_is) (unstored (host_view x) view_is) (err_then c.finish_of.result is c.finish_of.ensures.same)))

pub returns-then-is_err-clause-want : goal.returns-then-is_err-clause-want
returns-then-is_err-clause-want g c = λ _.
    let m = g.M.Media in
    let media = c.args.media.now in
    let old : WorldView = world_view c.self.inside.hosts.items c.self.inside.journal.items in
    let size = m.size media in
    let new : WorldView = world_view c.self.inside.hosts.items c.make_room.new.journal.items in
    subst (λ (w : WorldView). FinishOutOfMemory c.args.name.now size (change m.state media media) w new) c.self.view_is
    (subst (λ (j : List Note). FinishOutOfMemory c.args.name.now size (change m.state media media) old (record { hosts = old.hosts; journal = j })) (sym (ap notes_view c.make_room.ensures.same))
    (finish_nothing c.args.name.now size (m.state media).image (m.state media).faults old))

pub finish_of-requires : goal.finish_of-requires
finish_of-requires g c =
    let items = c.self.inside.hosts.items in
    let x = c.index_mut.result.now in
    let at_is = slice_get_read items c.self.inside.hosts.len c.in-Ok.at x c.self.inside.hosts.ok.0 c.in-Ok.ensures.within c.index_mut.ensures.value in
    let view_is = map_at host_view items c.in-Ok.at x at_is in
    let fits = subst (λ (w : WorldView). FitsMedia (g.M.Media.size c.args.media.now) w.hosts) (sym c.self.view_is) c.requires.fits c.in-Ok.at (host_view x) view_is in
    record {
      runs = c.in-Ok.ensures.runs (host_view x) view_is;
      fits = fits.task;
      cached = record { below = fits.cache };
      few = lt_of_lt_of_le c.in-Ok.ensures.within c.self.invariant;
    }

pub returns-clause-untouched : goal.returns-clause-untouched
returns-clause-untouched g c =
    let old : WorldView = world_view c.self.inside.hosts.items c.self.inside.journal.items in
    let size = g.M.Media.size c.args.media.now in
    none_refused (call.Finishes c.args.name.now) size old c.args.self.now c.args.media.now c.finish_of.new.media
    (finishes_as_steps c.args.name.now old size _ (c.in-Ok.ensures.placed size old.journal).free) c.self.view_is

pub returns-then-is_err-clause-untouched : goal.returns-then-is_err-clause-untouched
returns-then-is_err-clause-untouched g c = λ cause is. refl

pub returns-in-Err-clause-untouched : goal.returns-in-Err-clause-untouched
returns-in-Err-clause-untouched g c = λ cause is. refl

pub returns-then-is_err-clause-size : goal.returns-then-is_err-clause-size
returns-then-is_err-clause-size g c = refl

pub returns-in-Err-clause-size : goal.returns-in-Err-clause-size
returns-in-Err-clause-size g c = refl

pub returns-clause-size : goal.returns-clause-size
returns-clause-size g c = c.finish_of.ensures.size

pub returns-in-Err-clause-want : goal.returns-in-Err-clause-want
returns-in-Err-clause-want g c = λ full. not_full c.refused.result _ c.refused.ensures.given full
