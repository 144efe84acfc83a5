use Rattle.std.proofs.Common.{◌++◌, ◌∷◌, [], List, ap, ◌∙◌}
use Rattle.fam_journal.specs.Calls.{Refuses}
use Rattle.fam_journal.specs.Notes.{Refused}
use Rattle.fam_journal.specs.View.{WorldView}
use Rattle.fam_notes.specs.declared.note.Note.{Note as Kept}
use Rattle.fam_world.specs.View.{notes_view, world_view}
use Rattle.fam_world.proofs.WithoutMedia.{quiet_done, refuses_free, world_is}
use Rattle.fam_world.proofs.world.World.refuse.Goals as goal

pub returns-clause-answered : goal.returns-clause-answered
returns-clause-answered c = λ lines.
    let old : WorldView = c.args.self.now in
    let new : WorldView = world_view c.self.inside.hosts.items c.add.new.journal.items in
    quiet_done (Refuses c.args.name.now c.args.cause) lines old new (refuses_free c.args.name.now c.args.cause old lines)
    (world_is new old.hosts (old.journal ++ Refused c.args.name.now c.args.cause ∷ []) (ap (λ (w : WorldView). w.hosts) c.self.view_is)
    (c.add.ensures ∙ ap (λ (xs : List Kept). notes_view xs ++ Refused c.args.name.now c.args.cause ∷ []) c.make_room.ensures.same
    ∙ ap (λ (w : WorldView). w.journal ++ Refused c.args.name.now c.args.cause ∷ []) c.self.view_is))
