use Rattle.fam_tree.specs.Runs.{no_entry}
use Rattle.std.proofs.Common.{◌∙◌}
use Rattle.fam_tree.proofs.ChunkPlaces.{same_place, within_too}
use Rattle.fam_tree.proofs.chunks.Chunks.borrowed_at.Goals as goal

pub borrowed_at-requires : goal.borrowed_at-requires
borrowed_at-requires c = within_too c.find-i.result.0.now c.args.self.now c.find-i.result.1 c.args.place c.find-i.ensures c.requires

pub returns : goal.returns
returns c = c.borrowed_at.ensures ∙ same_place c.find-i.result.0.now c.args.self.now c.find-i.result.1 c.args.place no_entry c.find-i.ensures c.requires
