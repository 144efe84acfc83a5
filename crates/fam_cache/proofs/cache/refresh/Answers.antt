use Rattle.std.proofs.Common.{◌∙◌}
use Rattle.fam_cache.proofs.SpotLemmas.{held_placed, gap_unheld, dirty_held}
use Rattle.fam_cache.proofs.cache.refresh.Goals as goal

pub returns-in_default-clause-idle : goal.returns-in_default-clause-idle
returns-in_default-clause-idle g c dirty =
    absurd (gap_unheld c.args.places.now.blocks.items c.args.line.0 c.seek-spot.result c.seek-spot.ensures c.in_default.ensures.gap (dirty_held _ dirty))

pub returns-in_default-clause-absent : goal.returns-in_default-clause-absent
returns-in_default-clause-absent g c is =
    gap_unheld c.args.places.now.blocks.items c.args.line.0 c.seek-spot.result c.seek-spot.ensures c.in_default.ensures.gap

pub returns-in-Ok-fetch_copy-clause-none : goal.returns-in-Ok-fetch_copy-clause-none
returns-in-Ok-fetch_copy-clause-none g c held =
    c.put_copy.ensures.none (held_placed c.args.places.now.blocks.items c.args.line.0 c.seek-spot.result c.seek-spot.ensures held) ∙ c.make_room.ensures.spare
