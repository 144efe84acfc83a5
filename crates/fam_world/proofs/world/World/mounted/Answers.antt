use Rattle.std.proofs.Common.{ap, ◌∙◌}
use Rattle.fam_journal.specs.View.{WorldView}
use Rattle.fam_world.specs.View.{count_named, notes_view}
use Rattle.fam_world.proofs.world.World.mounted.Goals as goal

pub returns : goal.returns
returns c = c.entries_kept.ensures (notes_view c.self.inside.journal.items) ∙ ap (λ (w : WorldView). count_named c.args.name.now w) c.self.view_is
