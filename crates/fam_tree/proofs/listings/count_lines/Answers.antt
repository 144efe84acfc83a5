use Rattle.std.proofs.Common.{◌≡◌, ◌<◌, ℕ, List, length, ap, sym, subst, arith, rules}
use Rattle.fam_tree.specs.Lines.{line_feed}
use Rattle.fam_tree.specs.Listings.{text_lines}
use Rattle.fam_tree.proofs.Cutting.{back_shorter, lines_more, none_left}
use Rattle.fam_tree.proofs.listings.count_lines.Goals as goal

pub loop-rest-smaller : goal.loop-rest-smaller
loop-rest-smaller c =
    let left : 0 < length c.loop-rest.rest.now = search rules in
    subst (λ (l : List ℕ). length l < length c.loop-rest.rest.now) (sym c.cut.ensures.back) (back_shorter line_feed c.loop-rest.rest.now left)

pub loop-rest-preserved : goal.loop-rest-preserved
loop-rest-preserved c =
    let left : 0 < length c.loop-rest.rest.now = search rules in
    record {
      count = omega (arith, c.loop-rest.invariant.count, ap length (lines_more c.loop-rest.rest.now left), ap (λ (l : List ℕ). length (text_lines l)) c.cut.ensures.back);
      within = omega (arith, c.loop-rest.invariant.within, ap (λ (l : List ℕ). length l) c.cut.ensures.back, back_shorter line_feed c.loop-rest.rest.now left);
    }

pub returns-clause-count : goal.returns-clause-count
returns-clause-count c =
    let none : length c.loop-rest.rest.now ≡ 0 = search rules in
    omega (arith, c.loop-rest.invariant.count, none_left c.loop-rest.rest.now none)
