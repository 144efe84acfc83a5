use Rattle.std.proofs.Common.{◌≡◌, ℕ, List, take, ap, ◌∙◌, arith}
use Rattle.std.specs.List.{flat_map}
use Rattle.std.proofs.lemmas.List.{take_all}
use Rattle.fam_tree.specs.Lines.{listing_line}
use Rattle.fam_tree.specs.Runs.{listed}
use Rattle.fam_tree.proofs.Words.{listing_whole}
use Rattle.fam_tree.proofs.lines.print_listing.Goals as goal

pub returns : goal.returns
returns c =
    let entries = c.parts.result.0.now in
    let runs = c.parts.result.1.now in
    let all : take c.loop-run.run-index runs ≡ runs = take_all c.loop-run.run-index runs (omega (arith, c.loop-run-test.false)) in
    c.loop-run.invariant
    ∙ ap (λ (some : List (List ℕ)). flat_map listing_line (listed entries some)) all
    ∙ ap (flat_map listing_line) c.parts.ensures.listed
    ∙ listing_whole c.args.tree.now
