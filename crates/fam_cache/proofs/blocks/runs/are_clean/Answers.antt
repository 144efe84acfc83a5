use Rattle.std.proofs.Common.{◌≡◌, ◌∙◌, ◌+◌, ◌/◌, ◌%◌, ◌<◌, ℕ, ap, sym, subst, arith}
use Rattle.fam_cache.specs.BroughtRuns.{AreClean, IsClean}
use Rattle.fam_cache.specs.Blocks.{IsBlockOf, cell_in, lines_of}
use Rattle.fam_cache.proofs.BlockLemmas.{read_cell}
use Rattle.fam_cache.proofs.blocks.runs.are_clean.Goals as goal
use Rattle.fam_cache.proofs.blocks.runs.are_clean.Goals.{After-others_in}

-- what is said of lines of the block is said of those that are asked for
of_lines : (c : After-others_in) → ((k : ℕ) → k < c.args.count → IsClean (cell_in c.index-block.result.now (c.args.first % 16 + k))) → AreClean (lines_of c.args.cache.now) c.args.first c.args.count
of_lines c clean = λ k below.
    let at = c.args.first + k in
    let same_block : at / 16 ≡ c.args.first / 16 = omega (arith, below, c.requires.within) in
    let place : at % 16 ≡ c.args.first % 16 + k = omega (arith, below, c.requires.within) in
    let stands : IsBlockOf c.args.cache.now.blocks.items c.args.at (at / 16) = subst (IsBlockOf c.args.cache.now.blocks.items c.args.at) (sym same_block) c.requires.stands in
    subst IsClean (sym (read_cell c.args.cache.now c.requires.kept c.args.at at stands c.index-block.result.now c.index-block.ensures ∙ ap (cell_in c.index-block.result.now) place)) (clean k below)

pub returns-then-others_in-eq0 : goal.returns-then-others_in-eq0
returns-then-others_in-eq0 c = λ _. of_lines c.before (λ k below. c.others_in.ensures c.if-others_in-eq0.true (c.args.first % 16 + k) (omega (arith, below, c.requires.within)))

pub returns-else-others_in-eq0 : goal.returns-else-others_in-eq0
returns-else-others_in-eq0 c = λ clean. of_lines c.before.before (λ k below. c.are_fresh.ensures clean (c.args.first % 16 + k) (omega arith) (omega (arith, below)))
