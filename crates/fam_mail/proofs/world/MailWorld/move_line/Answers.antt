use Rattle.std.proofs.Common.{◌≡◌, ◌<◌, ◌≤◌, ℕ, ◌++◌, ◌∷◌, [], List, Err, inr, refl, ap, ap₂, sym, subst, ◌∙◌, le_refl, set, None}
use Rattle.std.proofs.lemmas.List.{append-nil}
use Rattle.std.proofs.lemmas.Option.{slice_get_read}
use Rattle.fam_base.specs.declared.line.LineNo.{LineNo}
use Rattle.fam_cache.specs.declared.fault.CacheFault.{CacheFault}
use Rattle.fam_cache.specs.Effects.{FailsTo}
use Rattle.fam_machine.specs.Caches.{Cache, cell_at}
use Rattle.fam_machine.specs.Cuts.{IsMachine}
use Rattle.fam_machine.specs.HostMoves.{failed_move, moved}
use Rattle.fam_machine.specs.Operations.{line_no, machine}
use Rattle.fam_media.specs.Outside.{IfModelled}
use Rattle.fam_media.specs.States.{MediaChange, change}
use Rattle.fam_rules.specs.Written.{file_line}
use Rattle.fam_mail.specs.Boxes.{capacity_of}
use Rattle.fam_mail.specs.Calls.{MailHostFits, IfMailAnswered, IsFreeHost, MovesLine, MailWorldFits, capacity_in, file_line_refusal}
use Rattle.fam_cache.specs.OwnMoves.{move_of}
use Rattle.fam_mail.specs.World.{MailHost, MailView, mail_host, mail_view}
use Rattle.fam_mail.specs.declared.note.MailFault.{MailFault}
use Rattle.fam_mail.specs.declared.note.MailNote.{MailNote}
use Rattle.fam_mail.specs.declared.note.MailNote.TheVariants as note
use Rattle.fam_mail.specs.declared.note.MailRefusal.TheVariants as why
use Rattle.fam_mail.proofs.Calling.{fits_noted, fits_set, free_call, host_fits, not_full}
use Rattle.fam_mail.proofs.Members.{map_at, map_same, map_set}
use Rattle.fam_mail.specs.Calls.{refusal_named}
use Rattle.fam_mail.specs.Happens.{IsCountedIn}
use Rattle.fam_mail.proofs.Counting.{failure_counted, fault_counted, from_counted, none_counted, quiet_line, quiet_named, refusal_counted, unfailed_counted}
use Rattle.fam_mail.proofs.world.MailWorld.move_line.Goals as goal

pub returns-then-is_err-clause-fits : goal.returns-then-is_err-clause-fits
returns-then-is_err-clause-fits g c =
    let i = c.self.inside in
    let v : MailView = mail_view i.entry i.hosts.items i.journal.items in
    let fits : MailWorldFits (g.M.Media.size c.args.media.now) v = subst (MailWorldFits (g.M.Media.size c.args.media.now)) (sym c.self.view_is) c.requires.fits in
    fits_noted (g.M.Media.size c.args.media.now) v c.make_room.new.journal.items fits

pub returns-then-is_err-clause-undone : goal.returns-then-is_err-clause-undone
returns-then-is_err-clause-undone g c = λ full. refl

pub returns-then-is_err-clause-err : goal.returns-then-is_err-clause-err
returns-then-is_err-clause-err g c = λ full.
    ap (λ (ns : List MailNote). mail_view c.self.inside.entry c.self.inside.hosts.items ns) c.make_room.ensures.same ∙ c.self.view_is

pub returns-then-is_err-clause-steady : goal.returns-then-is_err-clause-steady
returns-then-is_err-clause-steady g c = record { size = refl; later = le_refl _ }

pub returns-in-Err-clause-undone : goal.returns-in-Err-clause-undone
returns-in-Err-clause-undone g c = λ full. refl

pub returns-in-Err-clause-err : goal.returns-in-Err-clause-err
returns-in-Err-clause-err g c = λ full. not_full c.refused.result _ c.refused.ensures.given full

pub returns-in-Err-clause-steady : goal.returns-in-Err-clause-steady
returns-in-Err-clause-steady g c = record { size = refl; later = le_refl _ }

pub returns-in-Err-clause-fits : goal.returns-in-Err-clause-fits
returns-in-Err-clause-fits g c =
    let i = c.self.inside in
    let v : MailView = mail_view i.entry i.hosts.items i.journal.items in
    let fits : MailWorldFits (g.M.Media.size c.args.media.now) v = subst (MailWorldFits (g.M.Media.size c.args.media.now)) (sym c.self.view_is) c.requires.fits in
    fits_noted (g.M.Media.size c.args.media.now) v c.refused.new.journal.items fits

pub returns-in-Ok-shift-clause-answered : goal.returns-in-Ok-shift-clause-answered
returns-in-Ok-shift-clause-answered g c =
    let i = c.self.inside in
    let items = i.hosts.items in
    let at = c.in-Ok.at in
    let x = c.index_mut.result.now in
    let y = record x { cache = c.shift.new.self } in
    let told : MediaChange = change g.M.Media.state c.args.media.now c.shift.new.media in
    let v : MailView = mail_view i.entry items i.journal.items in
    let new : MailView = mail_view i.entry (set items at y) c.make_room.new.journal.items in
    let at_is = slice_get_read items i.hosts.len at x i.hosts.ok.0 c.in-Ok.ensures.within c.index_mut.ensures.value in
    let free : IsFreeHost c.args.name.now (file_line_refusal c.args.line (capacity_in v)) v at =
    subst (λ (n : ℕ). IsFreeHost c.args.name.now (file_line_refusal c.args.line n) v at) c.capacity.ensures (c.in-Ok.ensures.placed i.entry i.journal.items) in
    let place : c.file_line-place.result.0 ≡ file_line i.entry c.args.line = c.file_line-place.ensures.value in
    let same : c.make_room.new.journal.items ≡ i.journal.items ++ [] = ◌∙◌ {A = List MailNote} c.make_room.ensures.same (sym (append-nil i.journal.items)) in
    subst (λ (w : MailView). MovesLine c.args.name.now c.args.line (move_of c.args.what) told None w new) c.self.view_is (
      free_call c.args.name.now (file_line_refusal c.args.line (capacity_in v)) v at free,
      record {
        at = at;
        host = mail_host x;
        number = free.number;
        host_is = map_at mail_host items at x at_is;
        next = mail_host y;
        notes = [];
        does = record {
          done = subst (λ (l : ℕ). IfModelled told.old.image (λ image. IsMachine (moved (move_of c.args.what) l (machine image x.cache.lines)) told.new.image c.shift.new.self.lines)) place
              c.in-Ok-shift.ensures.moved;
          later = c.shift.ensures.steady.later;
          next_is = refl;
          notes_are = refl;
        };
        is = ap₂ (λ (hs : List MailHost) (ns : List MailNote). record { entry = i.entry; hosts = hs; journal = ns })
            (map_set mail_host (λ (h : MailHost). mail_host y) items at y x at_is refl) same;
      },
    )

pub returns-in-Ok-shift-clause-fits : goal.returns-in-Ok-shift-clause-fits
returns-in-Ok-shift-clause-fits g c =
    let i = c.self.inside in
    let items = i.hosts.items in
    let at = c.in-Ok.at in
    let x = c.index_mut.result.now in
    let lines = g.M.Media.size c.args.media.now in
    let capacity = capacity_of i.entry.size in
    let at_is = slice_get_read items i.hosts.len at x i.hosts.ok.0 c.in-Ok.ensures.within c.index_mut.ensures.value in
    let fits : MailWorldFits lines (mail_view i.entry items i.journal.items) = subst (MailWorldFits lines) (sym c.self.view_is) c.requires.fits in
    let below : c.file_line-place.result.0 < lines = subst (λ (l : ℕ). l < lines) (sym c.file_line-place.ensures.value)
    (fits.place c.args.line (subst (λ (n : ℕ). c.args.line ≤ n) c.capacity.ensures c.in-Ok.ensures.below)) in
    let here : MailHostFits lines capacity (record (mail_host x) { cache = c.shift.new.self.lines }) =
    host_fits lines capacity c.file_line-place.result.0 (mail_host x) c.shift.new.self.lines below c.shift.ensures.held (fits.host at (mail_host x) (map_at mail_host items at x at_is)) in
    fits_set i.entry items i.journal.items c.make_room.new.journal.items at x (record x { cache = c.shift.new.self }) lines (g.M.Media.size c.shift.new.media) c.shift.ensures.steady.size at_is
    fits (subst (λ (n : ℕ). MailHostFits n capacity (record (mail_host x) { cache = c.shift.new.self.lines })) (sym c.shift.ensures.steady.size) here)

pub returns-in-Err-Failed-clause-answered : goal.returns-in-Err-Failed-clause-answered
returns-in-Err-Failed-clause-answered g c =
    let i = c.self.inside in
    let items = i.hosts.items in
    let at = c.in-Ok.at in
    let x = c.index_mut.result.now in
    let y = record x { cache = c.shift.new.self } in
    let told : MediaChange = change g.M.Media.state c.args.media.now c.shift.new.media in
    let v : MailView = mail_view i.entry items i.journal.items in
    let new : MailView = mail_view i.entry (set items at y) c.refused-in-Err-Failed.new.journal.items in
    let at_is = slice_get_read items i.hosts.len at x i.hosts.ok.0 c.in-Ok.ensures.within c.index_mut.ensures.value in
    let free : IsFreeHost c.args.name.now (file_line_refusal c.args.line (capacity_in v)) v at =
    subst (λ (n : ℕ). IsFreeHost c.args.name.now (file_line_refusal c.args.line n) v at) c.capacity.ensures (c.in-Ok.ensures.placed i.entry i.journal.items) in
    let value : c.file_line-place.result.0 ≡ file_line i.entry c.args.line = c.file_line-place.ensures.value in
    let place : c.file_line-place.result ≡ line_no (file_line i.entry c.args.line) = ap (λ (l : ℕ). line_no l) value in
    let failed = c.in-Err-Failed.is ∙ ap (λ (f : CacheFault). Err f) c.in-Err-Failed.field-0-is in
    subst (λ (w : MailView). IfMailAnswered {T = Unit {0}} (Err c.refused-in-Err-Failed.result) (λ answered. MovesLine c.args.name.now c.args.line (move_of c.args.what) told answered w new))
    c.self.view_is
    (subst (λ (f : MailFault). IfMailAnswered {T = Unit {0}} (Err f) (λ answered. MovesLine c.args.name.now c.args.line (move_of c.args.what) told answered v new))
    (sym c.refused-in-Err-Failed.ensures.given)
    (inr (
      free_call c.args.name.now (file_line_refusal c.args.line (capacity_in v)) v at free,
      record {
        at = at;
        host = mail_host x;
        number = free.number;
        host_is = map_at mail_host items at x at_is;
        failed = subst (λ (l : ℕ). IfModelled told.old.image (λ image. FailsTo l (λ through memory. failed_move (move_of c.args.what) through memory (cell_at x.cache.lines l)) image
            told.new.image)) value (c.shift.ensures.failed failed);
        rose = c.shift.ensures.rose failed;
        later = c.shift.ensures.steady.later;
        cause_is = ap (λ (l : LineNo). why.MediaFault l) place;
        is = ap₂ (λ (hs : List MailHost) (ns : List MailNote). record { entry = i.entry; hosts = hs; journal = ns })
            (map_same mail_host items at y x at_is (ap (λ (k : Cache). record (mail_host x) { cache = k }) c.in-Err-Failed.ensures.err))
            (c.refused-in-Err-Failed.ensures.noted ∙ ap (λ (ns : List MailNote). ns ++ note.Refused c.args.name.now (why.MediaFault c.file_line-place.result) ∷ []) c.make_room.ensures.same);
      },
    )))

pub returns-in-Err-Failed-clause-fits : goal.returns-in-Err-Failed-clause-fits
returns-in-Err-Failed-clause-fits g c =
    let i = c.self.inside in
    let items = i.hosts.items in
    let at = c.in-Ok.at in
    let x = c.index_mut.result.now in
    let lines = g.M.Media.size c.args.media.now in
    let capacity = capacity_of i.entry.size in
    let at_is = slice_get_read items i.hosts.len at x i.hosts.ok.0 c.in-Ok.ensures.within c.index_mut.ensures.value in
    let fits : MailWorldFits lines (mail_view i.entry items i.journal.items) = subst (MailWorldFits lines) (sym c.self.view_is) c.requires.fits in
    let below : c.file_line-place.result.0 < lines = subst (λ (l : ℕ). l < lines) (sym c.file_line-place.ensures.value)
    (fits.place c.args.line (subst (λ (n : ℕ). c.args.line ≤ n) c.capacity.ensures c.in-Ok.ensures.below)) in
    let here : MailHostFits lines capacity (record (mail_host x) { cache = c.shift.new.self.lines }) =
    host_fits lines capacity c.file_line-place.result.0 (mail_host x) c.shift.new.self.lines below c.shift.ensures.held (fits.host at (mail_host x) (map_at mail_host items at x at_is)) in
    fits_set i.entry items i.journal.items c.refused-in-Err-Failed.new.journal.items at x (record x { cache = c.shift.new.self }) lines (g.M.Media.size c.shift.new.media)
    c.shift.ensures.steady.size at_is fits (subst (λ (n : ℕ). MailHostFits n capacity (record (mail_host x) { cache = c.shift.new.self.lines })) (sym c.shift.ensures.steady.size) here)

pub shift-requires : goal.shift-requires
shift-requires g c =
    let lines = g.M.Media.size c.args.media.now in
    let fits : MailWorldFits lines (mail_view c.self.inside.entry c.self.inside.hosts.items c.self.inside.journal.items) = subst (MailWorldFits lines) (sym c.self.view_is) c.requires.fits in
    record {
      within = subst (λ (l : ℕ). l < lines) (sym c.file_line-place.ensures.value) (fits.place c.args.line (subst (λ (n : ℕ). c.args.line ≤ n) c.capacity.ensures c.in-Ok.ensures.below));
    }

pub returns-in-Ok-shift-clause-steady : goal.returns-in-Ok-shift-clause-steady
returns-in-Ok-shift-clause-steady g c = c.shift.ensures.steady

pub returns-in-Err-Failed-clause-undone : goal.returns-in-Err-Failed-clause-undone
returns-in-Err-Failed-clause-undone g c = λ full. not_full c.refused-in-Err-Failed.result _ c.refused-in-Err-Failed.ensures.given full

pub returns-in-Err-Failed-clause-err : goal.returns-in-Err-Failed-clause-err
returns-in-Err-Failed-clause-err g c = λ full. not_full c.refused-in-Err-Failed.result _ c.refused-in-Err-Failed.ensures.given full

pub returns-in-Err-Failed-clause-steady : goal.returns-in-Err-Failed-clause-steady
returns-in-Err-Failed-clause-steady g c = c.shift.ensures.steady

pub returns-in-Err-OutOfMemory-clause-fits : goal.returns-in-Err-OutOfMemory-clause-fits
returns-in-Err-OutOfMemory-clause-fits g c =
    let i = c.self.inside in
    let items = i.hosts.items in
    let at = c.in-Ok.at in
    let x = c.index_mut.result.now in
    let lines = g.M.Media.size c.args.media.now in
    let capacity = capacity_of i.entry.size in
    let at_is = slice_get_read items i.hosts.len at x i.hosts.ok.0 c.in-Ok.ensures.within c.index_mut.ensures.value in
    let fits : MailWorldFits lines (mail_view i.entry items i.journal.items) = subst (MailWorldFits lines) (sym c.self.view_is) c.requires.fits in
    let below : c.file_line-place.result.0 < lines = subst (λ (l : ℕ). l < lines) (sym c.file_line-place.ensures.value)
    (fits.place c.args.line (subst (λ (n : ℕ). c.args.line ≤ n) c.capacity.ensures c.in-Ok.ensures.below)) in
    let here : MailHostFits lines capacity (record (mail_host x) { cache = c.shift.new.self.lines }) =
    host_fits lines capacity c.file_line-place.result.0 (mail_host x) c.shift.new.self.lines below c.shift.ensures.held (fits.host at (mail_host x) (map_at mail_host items at x at_is)) in
    fits_set i.entry items i.journal.items c.make_room.new.journal.items at x (record x { cache = c.shift.new.self }) lines (g.M.Media.size c.shift.new.media) c.shift.ensures.steady.size at_is
    fits (subst (λ (n : ℕ). MailHostFits n capacity (record (mail_host x) { cache = c.shift.new.self.lines })) (sym c.shift.ensures.steady.size) here)

pub returns-in-Err-OutOfMemory-clause-undone : goal.returns-in-Err-OutOfMemory-clause-undone
returns-in-Err-OutOfMemory-clause-undone g c = λ full.
    c.shift.ensures.undone (c.in-Err-OutOfMemory.is ∙ ap (λ (f : CacheFault). Err f) c.in-Err-OutOfMemory.field-0-is)

pub returns-in-Err-OutOfMemory-clause-err : goal.returns-in-Err-OutOfMemory-clause-err
returns-in-Err-OutOfMemory-clause-err g c = λ full.
    let i = c.self.inside in
    let items = i.hosts.items in
    let x = c.index_mut.result.now in
    let at_is = slice_get_read items i.hosts.len c.in-Ok.at x i.hosts.ok.0 c.in-Ok.ensures.within c.index_mut.ensures.value in
    ap₂ (λ (hs : List MailHost) (ns : List MailNote). record { entry = i.entry; hosts = hs; journal = ns })
    (map_same mail_host items c.in-Ok.at (record x { cache = c.shift.new.self }) x at_is (ap (λ (k : Cache). record (mail_host x) { cache = k }) c.in-Err-OutOfMemory.ensures.err))
    c.make_room.ensures.same ∙ c.self.view_is

pub returns-in-Err-OutOfMemory-clause-steady : goal.returns-in-Err-OutOfMemory-clause-steady
returns-in-Err-OutOfMemory-clause-steady g c = c.shift.ensures.steady

pub returns-then-is_err-clause-counted : goal.returns-then-is_err-clause-counted
returns-then-is_err-clause-counted g c exact =
    subst (λ (w : MailView). IsCountedIn w.journal c.make_room.new.journal.items (g.M.Media.state c.args.media.now).faults (g.M.Media.state c.args.media.now).faults) c.self.view_is
    (none_counted _ _ _ _ c.make_room.ensures.same refl)

pub returns-in-Err-clause-counted : goal.returns-in-Err-clause-counted
returns-in-Err-clause-counted g c exact =
    let i = c.self.inside in
    let v : MailView = mail_view i.entry i.hosts.items i.journal.items in
    let refusal = file_line_refusal c.args.line c.capacity.result in
    subst (λ (w : MailView). IsCountedIn w.journal c.refused.new.journal.items (g.M.Media.state c.args.media.now).faults (g.M.Media.state c.args.media.now).faults) c.self.view_is
    (from_counted _ _ _ _ _ c.make_room.ensures.same
    (refusal_counted c.args.name.now (refusal_named c.args.name.now refusal v) c.in-Err.cause _ _ _ (quiet_named c.args.name.now refusal (quiet_line c.args.line c.capacity.result) v)
    (c.in-Err.ensures.placed i.entry i.journal.items) c.refused.ensures.noted))

pub returns-in-Ok-shift-clause-counted : goal.returns-in-Ok-shift-clause-counted
returns-in-Ok-shift-clause-counted g c exact =
    subst (λ (w : MailView). IsCountedIn w.journal c.make_room.new.journal.items (g.M.Media.state c.args.media.now).faults (g.M.Media.state c.shift.new.media).faults) c.self.view_is
    (none_counted _ _ _ _ c.make_room.ensures.same (c.in-Ok-shift.ensures.counted exact))

pub returns-in-Err-Failed-clause-counted : goal.returns-in-Err-Failed-clause-counted
returns-in-Err-Failed-clause-counted g c exact =
    subst (λ (w : MailView). IsCountedIn w.journal c.refused-in-Err-Failed.new.journal.items (g.M.Media.state c.args.media.now).faults (g.M.Media.state c.shift.new.media).faults) c.self.view_is
    (from_counted _ _ _ _ _ c.make_room.ensures.same
    (fault_counted _ _ (note.Refused c.args.name.now (why.MediaFault c.file_line-place.result)) _ _ refl c.refused-in-Err-Failed.ensures.noted
    (failure_counted _ _ _ c.in-Err-Failed.field-0-is (c.in-Err-Failed.ensures.counted exact))))

pub returns-in-Err-OutOfMemory-clause-counted : goal.returns-in-Err-OutOfMemory-clause-counted
returns-in-Err-OutOfMemory-clause-counted g c exact =
    subst (λ (w : MailView). IsCountedIn w.journal c.make_room.new.journal.items (g.M.Media.state c.args.media.now).faults (g.M.Media.state c.shift.new.media).faults) c.self.view_is
    (none_counted _ _ _ _ c.make_room.ensures.same (unfailed_counted _ _ _ c.in-Err-OutOfMemory.field-0-is (c.in-Err-OutOfMemory.ensures.counted exact)))
