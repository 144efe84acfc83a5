use Rattle.std.proofs.Common.{◌≡◌, ◌∙◌, ◌++◌, ◌∷◌, [], length, vec_len, vec_capacity, replicate, ap, refl, arith}
use Rattle.fam_cache.specs.declared.blocks.Block.{Block}
use Rattle.fam_cache.specs.declared.blocks.Mark.TheVariants.{Empty}
use Rattle.fam_cache.specs.Blocks.{cache_of}
use Rattle.fam_cache.proofs.BlockLemmas.{added_empty, added_keeps, added_stands}
use Rattle.fam_cache.proofs.blocks.add_block.Goals as goal

abbrev block : (c : goal.After-cache-2-1) → Block
block c = record { number = c.args.number; marks = replicate 16 Empty; words = replicate 16 (replicate 8 0) }

items : (c : goal.After-cache-2-1) → c.push_reserved.new.self.items ≡ c.args.cache.now.blocks.items ++ block c ∷ []
items c = c.push_reserved.ensures.items ∙ ap (λ blocks. blocks.items ++ block c ∷ []) c.enlist.ensures.blocks

at_end : (c : goal.After-cache-2-1) → c.len-place.result ≡ length c.args.cache.now.blocks.items
at_end c = omega (arith, c.len-place.ensures)

pub returns-clause-kept : goal.returns-clause-kept
returns-clause-kept c =
    added_keeps c.args.cache.now (record {
      blocks = c.push_reserved.new.self;
      areas = c.enlist.new.cache.areas;
      room = c.saturating_sub-cache.result;
      greatest = c.max-cache.result;
    }) c.requires.kept (block c) c.requires.none (items c)
    c.len-place.result (at_end c) (record { marks = refl; words = refl }) c.enlist.ensures.put
    (omega (
      arith,
      c.push_reserved.ensures.len,
      c.push_reserved.ensures.capacity,
      ap vec_len c.enlist.ensures.blocks,
      ap vec_capacity c.enlist.ensures.blocks,
      c.requires.kept.blocks,
      c.requires.room.blocks,
      c.enlist.ensures.same_room,
      c.saturating_sub-cache.ensures,
    ))
    (omega (arith, c.enlist.ensures.one, c.enlist.ensures.capacity, c.requires.kept.areas, c.requires.room.areas, c.enlist.ensures.same_room, c.saturating_sub-cache.ensures))
    (omega (arith, c.push_reserved.ensures.len, ap vec_len c.enlist.ensures.blocks, c.requires.kept.few, c.requires.room.few, c.enlist.ensures.same_room, c.saturating_sub-cache.ensures))
    (omega (arith, c.enlist.ensures.same_greatest, c.max-cache.ensures)) (omega (arith, c.max-cache.ensures))

pub returns-clause-same : goal.returns-clause-same
returns-clause-same c = ap cache_of (items c) ∙ added_empty c.args.cache.now.blocks.items 16 c.args.number (replicate 16 (replicate 8 0))

pub returns-clause-stands : goal.returns-clause-stands
returns-clause-stands c =
    added_stands c.args.cache.now (record {
      blocks = c.push_reserved.new.self;
      areas = c.enlist.new.cache.areas;
      room = c.saturating_sub-cache.result;
      greatest = c.max-cache.result;
    }) c.requires.kept (block c) c.requires.none (items c) c.len-place.result (at_end c)
