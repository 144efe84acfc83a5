use Rattle.std.proofs.Common.{◌∙◌, ◌≡◌, ◌+◌, ◌<◌, ap, sym, arith, List, length, get_or}
use Rattle.fam_cache.specs.declared.blocks.Block.{Block}
use Rattle.std.specs.Prelude.{count_by}
use Rattle.std.proofs.lemmas.List.{get_or_default}
use Rattle.fam_cache.specs.Blocks.{is_dirty_by, no_block}
use Rattle.fam_cache.proofs.BlockLemmas.{alone}
use Rattle.fam_cache.proofs.CountLemmas.{dirty_counted, dirty_few, dirty_more, dirty_none, dirty_whole}
use Rattle.fam_cache.proofs.blocks.dirty_lines_of.Goals as goal

-- the block is one of those, and its marks were counted
inside : (c : goal.After-dirty_in) → c.loop-block.block-index < length c.args.cache.now.blocks.items
inside c = omega (arith, c.loop-block-test.true, ap length c.deref-block-items.ensures.value)

counted : (c : goal.After-dirty_in) → c.dirty_in.result ≡ count_by is_dirty_by (get_or c.args.cache.now.blocks.items c.loop-block.block-index no_block).marks
counted c = c.dirty_in.ensures.count ∙ ap (λ (bs : List Block). count_by is_dirty_by (get_or bs c.loop-block.block-index no_block).marks) c.deref-block-items.ensures.value

pub returns : goal.returns
returns c =
    let bs = c.args.cache.now.blocks.items in
    c.loop-block.invariant ∙ dirty_whole bs c.loop-block.block-index (omega (arith, c.loop-block-test.false, c.deref-block-items.ensures.len))
    ∙ dirty_counted bs c.requires.whole (alone c.args.cache.now c.requires)

pub loop-block-init : goal.loop-block-init
loop-block-init c = sym dirty_none

pub loop-block-preserved : goal.loop-block-preserved
loop-block-preserved c =
    let bs = c.args.cache.now.blocks.items in
    omega (
      arith,
      c.loop-block.invariant,
      counted c,
      dirty_more bs c.loop-block.block-index (get_or bs c.loop-block.block-index no_block) (inside c)
          (get_or_default bs c.loop-block.block-index no_block _ (inside c)),
    )

pub overflow_add-count : goal.overflow_add-count
overflow_add-count c =
    let bs = c.args.cache.now.blocks.items in
    let all = dirty_few bs (c.loop-block.block-index + 1) c.requires.whole (omega (arith, inside c)) in
    omega (
      arith,
      all,
      c.loop-block.invariant,
      counted c,
      dirty_more bs c.loop-block.block-index (get_or bs c.loop-block.block-index no_block)
          (inside c) (get_or_default bs c.loop-block.block-index no_block _ (inside c)),
      c.requires.few,
      inside c,
    )
