use Rattle.std.proofs.Common.{◌≡◌, ◌+◌, ◌-◌, ◌%◌, ℕ, length, replicate, take, drop, ap, ◌∙◌, arith}
use Rattle.std.proofs.lemmas.List.{length-take-le, length-drop}
use Rattle.fam_cache.specs.declared.blocks.Mark.TheVariants.{Fresh}
use Rattle.fam_cache.specs.Blocks.{IsWhole}
use Rattle.fam_cache.proofs.BlockLemmas.{b_whole}
use Rattle.fam_cache.proofs.SetRuns.{run_cache}
use Rattle.fam_cache.proofs.blocks.runs.set_run.Goals as goal

pub returns-clause-cache : goal.returns-clause-cache
returns-clause-cache c =
    let block = c.index_mut-block.result.now in
    let from = c.args.first % 16 in
    let n = from + length c.args.lines.now - from in
    let whole : IsWhole block = b_whole c.args.cache.now c.requires.kept c.args.at c.args.first c.requires.stands block c.index_mut-block.ensures.value in
    let count : length (take n (drop from block.marks)) ≡ length c.args.lines.now =
    omega (
      arith,
      length-take-le n (drop from block.marks) (omega (arith, length-drop from block.marks, whole.marks, c.requires.within)),
      length-drop from block.marks,
    ) in
    run_cache c.args.cache.now c.requires.kept c.args.at c.args.first c.requires.stands block c.index_mut-block.ensures.value
    n c.fill.new.self c.copy_from_slice.new.self c.args.lines.now (omega arith) c.requires.within
    (c.fill.ensures.after (λ y same. same) ∙ ap (λ (k : ℕ). replicate k Fresh) count) c.copy_from_slice.ensures.after
