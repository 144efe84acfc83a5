use Rattle.std.proofs.Common.{◌∙◌, ℕ, take, ap, arith}
use Rattle.std.proofs.lemmas.List.{length-take-le}
use Rattle.fam_cache.specs.Blocks.{lines_of}
use Rattle.fam_cache.specs.BroughtRuns.{brought_run}
use Rattle.fam_cache.proofs.SetRuns.{brought_take}
use Rattle.fam_cache.proofs.cache.bringing.put_lines.Goals as goal

pub returns-clause-cache : goal.returns-clause-cache
returns-clause-cache c =
    let lines = take c.args.count c.args.lines.now in
    c.set_run.ensures.cache
    ∙ ap (λ (n : ℕ). brought_run c.args.first lines n (lines_of c.args.places.now)) (length-take-le c.args.count c.args.lines.now c.requires.few)
    ∙ brought_take c.args.first c.args.lines.now c.args.count c.args.count (lines_of c.args.places.now) (omega arith)
