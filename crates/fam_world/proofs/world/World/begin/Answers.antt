use Rattle.std.proofs.Common.{◌++◌, ◌∷◌, [], List, Some, refl, ap, ap₂, sym, ◌∙◌, Err, None, subst}
use Rattle.fam_journal.specs.Calls as call
use Rattle.fam_journal.specs.Notes.{Refused, Start}
use Rattle.fam_base.specs.declared.cmd.Cmd.{Cmd}
use Rattle.fam_commands.specs.Task.{mounted}
use Rattle.fam_journal.specs.Members.{changed_at}
use Rattle.fam_journal.specs.View.{HostView, WorldView}
use Rattle.fam_notes.specs.declared.note.Note.{Note as Kept}
use Rattle.fam_journal.specs.CallRecords.{WorldCall}
use Rattle.fam_world.specs.Answers.{IfAnswered}
use Rattle.fam_world.specs.View.{notes_view, world_view}
use Rattle.fam_world.proofs.WithoutMedia.{hosted, quiet_done, quiet_refused, refused_told, not_full}
use Rattle.fam_world.proofs.world.World.begin.Goals as goal

pub returns-in-Err-clause-answered : goal.returns-in-Err-clause-answered
returns-in-Err-clause-answered c =
    let old : WorldView = world_view c.self.inside.hosts.items c.self.inside.journal.items in
    let new : WorldView = world_view c.self.inside.hosts.items c.refused.new.journal.items in
    subst (λ (w : WorldView). IfAnswered {T = Unit {0}} (Err c.refused.result) (λ answered. WorldCall (call.Begins c.args.name.now c.args.cmd.now) c.args.lines answered w new)) c.self.view_is
    (refused_told c.refused.result c.in-Err.cause _ c.refused.ensures.given
    (quiet_refused (call.Begins c.args.name.now c.args.cmd.now) c.args.lines old new c.in-Err.cause ((c.in-Err.ensures.placed c.args.cmd.now old.journal (sym c.is_mount.ensures)).first) refl
    (c.refused.ensures.noted ∙ ap (λ (xs : List Kept). notes_view xs ++ Refused c.args.name.now c.in-Err.cause ∷ []) c.make_room.ensures.same)))

pub returns-clause-answered : goal.returns-clause-answered
returns-clause-answered c =
    let old : WorldView = world_view c.self.inside.hosts.items c.self.inside.journal.items in
    let new : WorldView = world_view c.begin_task.new.hosts.items c.add.new.journal.items in
    let at = c.in-Ok.at in
    let free = c.in-Ok.ensures.placed c.args.cmd.now old.journal (sym c.is_mount.ensures) in
    subst (λ (w : WorldView). WorldCall (call.Begins c.args.name.now c.args.cmd.now) c.args.lines None w new) c.self.view_is
    (quiet_done (call.Begins c.args.name.now c.args.cmd.now) c.args.lines old new free.free
    (hosted c.args.name.now at (λ (v : HostView). record v { task = Some (mounted v.kept c.args.cmd.now v.uuid c.args.lines) }) (λ h. Start h c.args.cmd.now) old new free.number
    (c.begin_task.ensures.views ∙ ap (λ (k : Cmd). changed_at at (λ (v : HostView). record v { task = Some (mounted v.kept k v.uuid c.args.lines) }) old.hosts) c.in-Ok-two_copies.ensures.own)
    (c.add.ensures ∙ ap₂ (λ (xs : List Kept) (k : Cmd). notes_view xs ++ Start at k ∷ []) c.make_room.ensures.same c.in-Ok-two_copies.ensures.noted)))

pub returns-in-Err-clause-err : goal.returns-in-Err-clause-err
returns-in-Err-clause-err c = λ full. not_full c.refused.result _ c.refused.ensures.given full
