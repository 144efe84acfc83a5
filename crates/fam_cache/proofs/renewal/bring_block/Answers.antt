use Rattle.std.proofs.Common.{ap, ◌∙◌}
use Rattle.fam_cache.specs.Blocks.{cache_of}
use Rattle.fam_cache.proofs.BlockLemmas.{absent_none, cell_none}
use Rattle.fam_cache.proofs.renewal.bring_block.Goals as goal

pub returns-in_default-clause-absent : goal.returns-in_default-clause-absent
returns-in_default-clause-absent g c = cell_none c.args.places.now.blocks.items c.args.line.0 c.requires.gap

pub returns-in_default-clause-failed_lines : goal.returns-in_default-clause-failed_lines
returns-in_default-clause-failed_lines g c =
    ap cache_of c.make_room.ensures.same ∙ absent_none c.args.places.now.blocks.items c.args.line.0 c.requires.gap

pub returns-in-Ok-read-clause-absent : goal.returns-in-Ok-read-clause-absent
returns-in-Ok-read-clause-absent g c = cell_none c.args.places.now.blocks.items c.args.line.0 c.requires.gap

pub returns-in-Err-clause-absent : goal.returns-in-Err-clause-absent
returns-in-Err-clause-absent g c = cell_none c.args.places.now.blocks.items c.args.line.0 c.requires.gap

pub returns-in-Err-clause-failed_lines : goal.returns-in-Err-clause-failed_lines
returns-in-Err-clause-failed_lines g c =
    ap cache_of c.make_room.ensures.same ∙ absent_none c.args.places.now.blocks.items c.args.line.0 c.requires.gap
