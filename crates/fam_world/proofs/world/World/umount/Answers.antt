use Rattle.std.proofs.Common.{◌++◌, ◌∷◌, [], List, None, refl, ap, ◌∙◌, Err, subst}
use Rattle.fam_journal.specs.Calls as call
use Rattle.fam_journal.specs.Notes.{Refused, Umount}
use Rattle.fam_journal.specs.View.{HostView, WorldView}
use Rattle.fam_notes.specs.declared.note.Note.{Note as Kept}
use Rattle.fam_journal.specs.CallRecords.{WorldCall}
use Rattle.fam_world.specs.Answers.{IfAnswered}
use Rattle.fam_world.specs.View.{notes_view, world_view}
use Rattle.fam_world.proofs.WithoutMedia.{hosted, quiet_done, quiet_refused, refused_told, not_full}
use Rattle.fam_world.proofs.world.World.umount.Goals as goal

pub returns-in-Err-clause-answered : goal.returns-in-Err-clause-answered
returns-in-Err-clause-answered c = λ lines.
    let old : WorldView = world_view c.self.inside.hosts.items c.self.inside.journal.items in
    let new : WorldView = world_view c.self.inside.hosts.items c.refused.new.journal.items in
    subst (λ (w : WorldView). IfAnswered {T = Unit {0}} (Err c.refused.result) (λ answered. WorldCall (call.Umounts c.args.name.now) lines answered w new)) c.self.view_is
    (refused_told c.refused.result c.in-Err.cause _ c.refused.ensures.given
    (quiet_refused (call.Umounts c.args.name.now) lines old new c.in-Err.cause ((c.in-Err.ensures.placed lines old.journal).first) refl
    (c.refused.ensures.noted ∙ ap (λ (xs : List Kept). notes_view xs ++ Refused c.args.name.now c.in-Err.cause ∷ []) c.make_room.ensures.same)))

pub returns-in-Ok-clause-answered : goal.returns-in-Ok-clause-answered
returns-in-Ok-clause-answered c = λ lines.
    let old : WorldView = world_view c.self.inside.hosts.items c.self.inside.journal.items in
    let new : WorldView = world_view c.forget.new.hosts.items c.add.new.journal.items in
    let at = c.in-Ok.at in
    let free = c.in-Ok.ensures.placed lines old.journal in
    subst (λ (w : WorldView). WorldCall (call.Umounts c.args.name.now) lines None w new) c.self.view_is
    (quiet_done (call.Umounts c.args.name.now) lines old new free.free
    (hosted c.args.name.now at (λ (v : HostView). record v { kept = None }) Umount old new free.number c.forget.ensures.views
    (c.add.ensures ∙ ap (λ (xs : List Kept). notes_view xs ++ Umount at ∷ []) c.make_room.ensures.same)))

pub returns-in-Err-clause-err : goal.returns-in-Err-clause-err
returns-in-Err-clause-err c = λ full. not_full c.refused.result _ c.refused.ensures.given full
