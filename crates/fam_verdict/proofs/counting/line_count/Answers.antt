use Rattle.std.proofs.Common.{◌≡◌, ℕ, suc, ◌<◌, List, length, ap, subst, sym, ◌∙◌, arith, rules}
use Rattle.fam_tree.specs.Cuts.{back}
use Rattle.fam_tree.specs.Lines.{line_feed}
use Rattle.fam_tree.specs.Listings.{text_lines}
use Rattle.fam_tree.proofs.Cutting.{back_shorter, lines_more, none_left}
use Rattle.fam_verdict.proofs.counting.line_count.Goals as goal

-- what stands behind a line has one line fewer, and fewer bytes
fewer : (rest behind : List ℕ) → 0 < length rest → behind ≡ back line_feed rest
    → (length (text_lines rest) ≡ suc (length (text_lines behind))) × (length behind < length rest)
fewer rest behind some is = (
  ap length (lines_more rest some) ∙ ap (λ (l : List ℕ). suc (length (text_lines l))) (sym is),
  subst (λ (l : List ℕ). length l < length rest) (sym is) (back_shorter line_feed rest some),
)

pub loop-rest-preserved : goal.loop-rest-preserved
loop-rest-preserved c =
    let some : 0 < length c.loop-rest.rest.now = search rules in
    let less = fewer c.loop-rest.rest.now c.behind-rest.result.now some c.behind-rest.ensures in
    record { so_far = omega (arith, less); few = omega (arith, less) }

pub loop-rest-smaller : goal.loop-rest-smaller
loop-rest-smaller c =
    let some : 0 < length c.loop-rest.rest.now = search rules in
    (fewer c.loop-rest.rest.now c.behind-rest.result.now some c.behind-rest.ensures).1

pub returns : goal.returns
returns c =
    let none : length c.loop-rest.rest.now ≡ 0 = search rules in
    omega (arith, none_left c.loop-rest.rest.now none)
