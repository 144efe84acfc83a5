use Rattle.std.proofs.Common.{◌≡◌, ◌+◌, ◌-◌, ◌<◌, ◌/◌, List, ℕ, true, false, length, sym, ap, subst, ◌∙◌, arith}
use Rattle.std.specs.List.{AllWithin}
use Rattle.fam_base.specs.declared.entry.Entry.{Entry}
use Rattle.fam_tree.specs.Runs.{ends_before}
use Rattle.fam_tree.proofs.RunPlaces.{ends_from, ends_to, first_placed}
use Rattle.fam_tree.proofs.runs.run_for.Goals as goal

pub loop-low-preserved-then-is_below-2 : goal.loop-low-preserved-then-is_below-2
loop-low-preserved-then-is_below-2 c =
    let es = c.args.entries.now in
    let q = c.args.path.now in
    let runs = c.args.runs.now in
    let run = c.index-runs-middle.result in
    let m : ℕ = c.loop-low.low + (c.loop-low.high - c.loop-low.low) / 2 in
    let next : c.loop-low.low < c.loop-low.high = c.loop-low-test.true in
    let ends : ends_before es q run ≡ true = ap (λ (l : List Entry). ends_before l q run) (sym c.view-view.ensures) ∙ sym c.is_below-in-loop-low.ensures ∙ c.if-is_below-2.true in
    record {
      ordered = omega (arith, next);
      within = c.loop-low.invariant.within;
      below = ends_to es q runs c.requires m run (omega (arith, next, c.loop-low.invariant.within)) c.index-runs-middle.is ends;
      above = c.loop-low.invariant.above;
    }

pub loop-low-preserved : goal.loop-low-preserved
loop-low-preserved c =
    let es = c.args.entries.now in
    let q = c.args.path.now in
    let runs = c.args.runs.now in
    let run = c.index-runs-middle.result in
    let m : ℕ = c.loop-low.low + (c.loop-low.high - c.loop-low.low) / 2 in
    let next : c.loop-low.low < c.loop-low.high = c.loop-low-test.true in
    let ends : ends_before es q run ≡ false = ap (λ (l : List Entry). ends_before l q run) (sym c.view-view.ensures) ∙ sym c.is_below-in-loop-low.ensures ∙ c.if-is_below-2.false in
    record {
      ordered = omega (arith, next);
      within = omega (arith, next, c.loop-low.invariant.within);
      below = c.loop-low.invariant.below;
      above = ends_from es q runs c.requires m run (omega (arith, next, c.loop-low.invariant.within)) c.index-runs-middle.is ends;
    }

pub returns-clause-some : goal.returns-clause-some
returns-clause-some c =
    let runs = c.args.runs.now in
    let same : c.loop-low.high ≡ c.loop-low.low = omega (arith, c.loop-low-test.false, c.loop-low.invariant.ordered) in
    first_placed c.args.entries.now c.args.path.now runs c.requires c.loop-low.low (omega (arith, c.loop-low.invariant.within, same)) c.loop-low.invariant.below
    (subst (λ (n : ℕ). AllWithin (λ (r : List ℕ). ends_before c.args.entries.now c.args.path.now r ≡ false) runs n (length runs - 1)) same c.loop-low.invariant.above)

pub returns-then-is_below-clause-some : goal.returns-then-is_below-clause-some
returns-then-is_below-clause-some c =
    let es = c.args.entries.now in
    let q = c.args.path.now in
    let runs = c.args.runs.now in
    let run = c.index-runs-last-then-rises.result in
    let last = c.in_ok-last.last in
    let one : last + 1 ≡ length runs = omega (arith, c.in_ok-last.ensures, c.if-last-gt0.true) in
    let ends : ends_before es q run ≡ true = ap (λ (l : List Entry). ends_before l q run) (sym c.view-view.ensures) ∙ sym c.is_below.ensures ∙ c.if-is_below.true in
    let m : last - 1 + 1 ≡ last = omega (arith, c.if-last-gt0.true) in
    let below : AllWithin (λ (r : List ℕ). ends_before es q r ≡ true) runs 0 (last - 1 + 1) =
    ends_to es q runs c.requires (last - 1) run (omega (arith, one)) c.index-runs-last-then-rises.is ends in
    first_placed es q runs c.requires last (omega (arith, one)) (subst (λ (n : ℕ). AllWithin (λ (r : List ℕ). ends_before es q r ≡ true) runs 0 n) m below)
    (λ k d low high. absurd (omega (arith, one, low, high)))
