use Rattle.std.proofs.Common.{◌≡◌, ◌∙◌, ◌+◌, ◌/◌, ◌%◌, ◌<◌, ℕ, ap, sym, subst, arith}
use Rattle.fam_machine.specs.OneLine.{IsDirty}
use Rattle.fam_cache.specs.BroughtRuns.{LacksNone}
use Rattle.fam_cache.specs.Blocks.{IsBlockOf, cell_in, lines_of}
use Rattle.fam_cache.proofs.BlockLemmas.{read_cell}
use Rattle.fam_cache.proofs.CountLemmas.{clean_block}
use Rattle.fam_cache.proofs.blocks.runs.lacks_none.Goals as goal
use Rattle.fam_cache.proofs.blocks.runs.lacks_none.Goals.{After-dirty_in}

-- what is said of lines of the block is said of those that are asked for
of_lines : (c : After-dirty_in) → ((k : ℕ) → k < c.args.count → ¬ (IsDirty (cell_in c.index-block.result.now (c.args.first % 16 + k))))
    → LacksNone (lines_of c.args.cache.now) c.args.first c.args.count
of_lines c clean = λ k below dirty.
    let at = c.args.first + k in
    let same_block : at / 16 ≡ c.args.first / 16 = omega (arith, below, c.requires.within) in
    let place : at % 16 ≡ c.args.first % 16 + k = omega (arith, below, c.requires.within) in
    let stands : IsBlockOf c.args.cache.now.blocks.items c.args.at (at / 16) = subst (IsBlockOf c.args.cache.now.blocks.items c.args.at) (sym same_block) c.requires.stands in
    clean k below
    (subst IsDirty (read_cell c.args.cache.now c.requires.kept c.args.at at stands c.index-block.result.now c.index-block.ensures ∙ ap (cell_in c.index-block.result.now) place) dirty)

pub returns-then-dirty_in-eq0 : goal.returns-then-dirty_in-eq0
returns-then-dirty_in-eq0 c = λ _. of_lines c.before (λ k below. clean_block c.index-block.result.now (sym c.dirty_in.ensures.count ∙ c.if-dirty_in-eq0.true) (c.args.first % 16 + k))

pub returns-else-dirty_in-eq0 : goal.returns-else-dirty_in-eq0
returns-else-dirty_in-eq0 c = λ clean. of_lines c.before.before (λ k below. c.is_clean.ensures clean (c.args.first % 16 + k) (omega arith) (omega (arith, below)))
