use Rattle.std.proofs.Common.{set, ◌<◌, ◌++◌, ◌∷◌, [], List, Err, None, refl, ap, ◌∙◌, subst}
use Rattle.fam_media.specs.States.{change}
use Rattle.std.proofs.lemmas.Option.{slice_get_read}
use Rattle.fam_machine.specs.Caches.{Cache}
use Rattle.fam_cache.specs.declared.fault.CacheFault.{CacheFault}
use Rattle.fam_journal.specs.declared.refusal.Refusal.TheVariants as why
use Rattle.fam_journal.specs.Calls as call
use Rattle.fam_journal.specs.Notes.{Refused}
use Rattle.fam_journal.specs.View.{WorldView}
use Rattle.fam_notes.specs.declared.note.Note.{Note as Kept}
use Rattle.fam_journal.specs.CallRecords.{MediaCall}
use Rattle.fam_world.specs.Answers.{IfAnswered, IsFree, IsRefused}
use Rattle.fam_cache.specs.OwnMoves.{move_of}
use Rattle.fam_world.specs.View.{host_view, notes_view, world_view}
use Rattle.fam_world.proofs.Members.{map_at, map_same, map_set}
use Rattle.fam_world.proofs.Moving.{media_refused, move_failed_call, moved_call, with_cache}
use Rattle.fam_world.proofs.WithoutMedia.{refused_told, not_full}
use Rattle.fam_world.proofs.Untouched.{free_untouched}
use Rattle.fam_world.proofs.world.World.move_line.Goals as goal

pub returns-in-Err-clause-answered : goal.returns-in-Err-clause-answered
returns-in-Err-clause-answered g c =
    let old : WorldView = world_view c.self.inside.hosts.items c.self.inside.journal.items in
    let new : WorldView = world_view c.self.inside.hosts.items c.refused.new.journal.items in
    let asked : call.Call = call.Moves c.args.name.now c.args.line.0 (move_of c.args.what) in
    let refused : IsRefused asked (g.M.Media.size c.args.media.now) old c.in-Err.cause =
    subst (λ n. IsRefused asked n old c.in-Err.cause) c.lines.ensures.count (c.in-Err.ensures.placed (move_of c.args.what) old.journal) in
    subst (λ (w : WorldView). IfAnswered {T = Unit {0}} (Err c.refused.result)
    (λ answered. MediaCall asked (g.M.Media.size c.args.media.now) answered (change g.M.Media.state c.args.media.now c.args.media.now) w new))
    c.self.view_is
    (refused_told c.refused.result c.in-Err.cause _ c.refused.ensures.given
    (media_refused asked tt tt (g.M.Media.size c.args.media.now) (g.M.Media.state c.args.media.now).image (g.M.Media.state c.args.media.now).faults
    old new c.in-Err.cause (g.met.M.Media.modelled c.args.media.now) refused refl
    (c.refused.ensures.noted ∙ ap (λ (xs : List Kept). notes_view xs ++ Refused c.args.name.now c.in-Err.cause ∷ []) c.make_room.ensures.same)))

pub returns-in-Ok-shift-clause-answered : goal.returns-in-Ok-shift-clause-answered
returns-in-Ok-shift-clause-answered g c =
    let items = c.self.inside.hosts.items in
    let old : WorldView = world_view items c.self.inside.journal.items in
    let at = c.in-Ok.at in
    let x = c.index_mut.result.now in
    let at_is = slice_get_read items c.self.inside.hosts.len at x c.self.inside.hosts.ok.0 c.in-Ok.ensures.within c.index_mut.ensures.value in
    let asked : call.Call = call.Moves c.args.name.now c.args.line.0 (move_of c.args.what) in
    let free : IsFree asked (g.M.Media.size c.args.media.now) old at = subst (λ n. IsFree asked n old at) c.lines.ensures.count (c.in-Ok.ensures.placed (move_of c.args.what) old.journal) in
    let new : WorldView = world_view (set items at (record x { cache = c.shift.new.self })) c.make_room.new.journal.items in
    subst (λ (w : WorldView). MediaCall asked (g.M.Media.size c.args.media.now) None (change g.M.Media.state c.args.media.now c.shift.new.media) w new) c.self.view_is
    (moved_call c.args.name.now c.args.line.0 at (move_of c.args.what) (g.M.Media.size c.args.media.now) old (host_view x) free.number free.free (map_at host_view items at x at_is)
    (g.M.Media.state c.args.media.now).image (g.M.Media.state c.shift.new.media).image (g.M.Media.state c.args.media.now).faults
    (g.M.Media.state c.shift.new.media).faults _ (g.met.M.Media.modelled c.args.media.now)
    c.shift.new.self.lines (map_set host_view (with_cache c.shift.new.self.lines) items at _ x at_is refl) (ap notes_view c.make_room.ensures.same)
    (subst (λ n. c.args.line.0 < n) c.lines.ensures.count c.in-Ok.ensures.inside) c.shift.ensures.held c.shift.ensures.steady.later c.in-Ok-shift.ensures.moved)

pub returns-in-Err-Failed-clause-answered : goal.returns-in-Err-Failed-clause-answered
returns-in-Err-Failed-clause-answered g c =
    let items = c.self.inside.hosts.items in
    let old : WorldView = world_view items c.self.inside.journal.items in
    let at = c.in-Ok.at in
    let x = c.index_mut.result.now in
    let at_is = slice_get_read items c.self.inside.hosts.len at x c.self.inside.hosts.ok.0 c.in-Ok.ensures.within c.index_mut.ensures.value in
    let asked : call.Call = call.Moves c.args.name.now c.args.line.0 (move_of c.args.what) in
    let free : IsFree asked (g.M.Media.size c.args.media.now) old at = subst (λ n. IsFree asked n old at) c.lines.ensures.count (c.in-Ok.ensures.placed (move_of c.args.what) old.journal) in
    let failed = c.in-Err-Failed.is ∙ ap (λ (f : CacheFault). Err f) c.in-Err-Failed.field-0-is in
    let new : WorldView = world_view (set items at (record x { cache = c.shift.new.self })) c.refused-in-Err-Failed.new.journal.items in
    subst (λ (w : WorldView). IfAnswered {T = Unit {0}} (Err c.refused-in-Err-Failed.result)
    (λ answered. MediaCall asked (g.M.Media.size c.args.media.now) answered (change g.M.Media.state c.args.media.now c.shift.new.media) w new))
    c.self.view_is
    (refused_told c.refused-in-Err-Failed.result (why.MediaFault c.args.line) _ c.refused-in-Err-Failed.ensures.given
    (move_failed_call c.args.name.now c.args.line.0 at (move_of c.args.what) (g.M.Media.size c.args.media.now) old (host_view x) free.number free.free (map_at host_view items at x at_is)
    (g.M.Media.state c.args.media.now).image (g.M.Media.state c.shift.new.media).image (g.M.Media.state c.args.media.now).faults
    (g.M.Media.state c.shift.new.media).faults _ (g.met.M.Media.modelled c.args.media.now)
    c.args.line refl (map_same host_view items at _ x at_is (ap (λ (k : Cache). record (host_view x) { cache = k }) c.in-Err-Failed.ensures.err))
    (c.refused-in-Err-Failed.ensures.noted ∙ ap (λ (xs : List Kept). notes_view xs ++ Refused c.args.name.now (why.MediaFault c.args.line) ∷ []) c.make_room.ensures.same)
    c.shift.ensures.steady.later (c.shift.ensures.rose failed) (c.shift.ensures.failed failed)))

pub returns-in-Ok-shift-clause-untouched : goal.returns-in-Ok-shift-clause-untouched
returns-in-Ok-shift-clause-untouched g c =
    let old : WorldView = world_view c.self.inside.hosts.items c.self.inside.journal.items in
    let asked : call.Call = call.Moves c.args.name.now c.args.line.0 (move_of c.args.what) in
    let size = g.M.Media.size c.args.media.now in
    free_untouched asked size c.in-Ok.at old c.args.self.now c.args.media.now c.shift.new.media
    (subst (λ n. IsFree asked n old c.in-Ok.at) c.lines.ensures.count (c.in-Ok.ensures.placed (move_of c.args.what) old.journal)) c.self.view_is

pub returns-in-Err-Failed-clause-untouched : goal.returns-in-Err-Failed-clause-untouched
returns-in-Err-Failed-clause-untouched g c =
    let old : WorldView = world_view c.self.inside.hosts.items c.self.inside.journal.items in
    let asked : call.Call = call.Moves c.args.name.now c.args.line.0 (move_of c.args.what) in
    let size = g.M.Media.size c.args.media.now in
    free_untouched asked size c.in-Ok.at old c.args.self.now c.args.media.now c.shift.new.media
    (subst (λ n. IsFree asked n old c.in-Ok.at) c.lines.ensures.count (c.in-Ok.ensures.placed (move_of c.args.what) old.journal)) c.self.view_is

pub returns-then-is_err-clause-untouched : goal.returns-then-is_err-clause-untouched
returns-then-is_err-clause-untouched g c = λ cause is. refl

pub returns-in-Err-clause-untouched : goal.returns-in-Err-clause-untouched
returns-in-Err-clause-untouched g c = λ cause is. refl

pub returns-then-is_err-clause-size : goal.returns-then-is_err-clause-size
returns-then-is_err-clause-size g c = refl

pub returns-in-Err-clause-size : goal.returns-in-Err-clause-size
returns-in-Err-clause-size g c = refl

pub returns-then-is_err-clause-undone : goal.returns-then-is_err-clause-undone
returns-then-is_err-clause-undone g c = λ full. refl

pub returns-then-is_err-clause-err : goal.returns-then-is_err-clause-err
returns-then-is_err-clause-err g c = λ full. ap (λ (xs : List Kept). world_view c.self.inside.hosts.items xs) c.make_room.ensures.same ∙ c.self.view_is

pub returns-in-Err-clause-undone : goal.returns-in-Err-clause-undone
returns-in-Err-clause-undone g c = λ full. refl

pub returns-in-Err-clause-err : goal.returns-in-Err-clause-err
returns-in-Err-clause-err g c = λ full. not_full c.refused.result _ c.refused.ensures.given full

pub returns-in-Ok-shift-clause-size : goal.returns-in-Ok-shift-clause-size
returns-in-Ok-shift-clause-size g c = c.shift.ensures.steady.size

pub returns-in-Err-Failed-clause-undone : goal.returns-in-Err-Failed-clause-undone
returns-in-Err-Failed-clause-undone g c = λ full. not_full c.refused-in-Err-Failed.result _ c.refused-in-Err-Failed.ensures.given full

pub returns-in-Err-Failed-clause-err : goal.returns-in-Err-Failed-clause-err
returns-in-Err-Failed-clause-err g c = λ full. not_full c.refused-in-Err-Failed.result _ c.refused-in-Err-Failed.ensures.given full

pub returns-in-Err-Failed-clause-size : goal.returns-in-Err-Failed-clause-size
returns-in-Err-Failed-clause-size g c = c.shift.ensures.steady.size

pub returns-in-Err-OutOfMemory-clause-untouched : goal.returns-in-Err-OutOfMemory-clause-untouched
returns-in-Err-OutOfMemory-clause-untouched g c = λ cause is. c.shift.ensures.undone (c.in-Err-OutOfMemory.is ∙ ap (λ (f : CacheFault). Err f) c.in-Err-OutOfMemory.field-0-is)

pub returns-in-Err-OutOfMemory-clause-undone : goal.returns-in-Err-OutOfMemory-clause-undone
returns-in-Err-OutOfMemory-clause-undone g c = λ full. c.shift.ensures.undone (c.in-Err-OutOfMemory.is ∙ ap (λ (f : CacheFault). Err f) c.in-Err-OutOfMemory.field-0-is)

pub returns-in-Err-OutOfMemory-clause-size : goal.returns-in-Err-OutOfMemory-clause-size
returns-in-Err-OutOfMemory-clause-size g c = c.shift.ensures.steady.size
