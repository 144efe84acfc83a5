use Rattle.std.proofs.Common.{◌≡◌, ◌+◌, ◌-◌, ◌<◌, ◌/◌, ℕ, true, List, length, get_or, sym, ap, subst, ◌∙◌, arith}
use Rattle.std.specs.List.{AllWithin}
use Rattle.std.specs.declared.cmp.Ordering.TheVariants.{Less, Equal, Greater}
use Rattle.fam_base.specs.declared.entry.Entry.{Entry}
use Rattle.fam_tree.specs.Runs.{AreWithin, InOrder, IsAt, IsGap, ends_before, place_cmp, run_of}
use Rattle.fam_tree.proofs.RunPlaces.{end_gap}
use Rattle.fam_tree.proofs.Places.{found_at, gap_at, greater_from, less_to}
use Rattle.fam_tree.proofs.run.Run.seek.Goals as goal

pub loop-low-preserved-in-Less : goal.loop-low-preserved-in-Less
loop-low-preserved-in-Less c =
    let es = c.args.entries.now in
    let q = c.args.path.now in
    let xs = c.as_slice-places.result.now in
    let here : xs ≡ c.args.self.now = c.as_slice-places.ensures.value ∙ ap (λ v. v.items) c.deref.ensures ∙ c.self.view_is in
    let m : ℕ = c.loop-low.low + (c.loop-low.high - c.loop-low.low) / 2 in
    let next : c.loop-low.low < c.loop-low.high = c.loop-low-test.true in
    let inside : AreWithin (length es) xs = rw here c.requires.inside in
    let order : InOrder (run_of es xs) = rw here c.requires.order in
    let less : place_cmp es q (get_or xs m 0) ≡ Less = ap (λ (l : List Entry). place_cmp l q (get_or xs m 0)) (sym c.view-view.ensures) ∙ sym c.order_at.ensures ∙ c.in-Less.is in
    record {
      ordered = omega (arith, next);
      within = c.loop-low.invariant.within;
      below = less_to es q xs inside order m (omega (arith, next, c.loop-low.invariant.within)) less;
      above = c.loop-low.invariant.above;
    }

pub returns-in-Equal-clause-found : goal.returns-in-Equal-clause-found
returns-in-Equal-clause-found c =
    let es = c.args.entries.now in
    let q = c.args.path.now in
    let xs = c.as_slice-places.result.now in
    let here : xs ≡ c.args.self.now = c.as_slice-places.ensures.value ∙ ap (λ v. v.items) c.deref.ensures ∙ c.self.view_is in
    let m : ℕ = c.loop-low.low + (c.loop-low.high - c.loop-low.low) / 2 in
    let next : c.loop-low.low < c.loop-low.high = c.loop-low-test.true in
    let inside : AreWithin (length es) xs = rw here c.requires.inside in
    let order : InOrder (run_of es xs) = rw here c.requires.order in
    let same : place_cmp es q (get_or xs m 0) ≡ Equal = ap (λ (l : List Entry). place_cmp l q (get_or xs m 0)) (sym c.view-view.ensures) ∙ sym c.order_at.ensures ∙ c.in-Equal.is in
    subst (λ (l : List ℕ). IsAt (run_of es l) q m) here (found_at es q xs inside order m (omega (arith, next, c.loop-low.invariant.within)) same)

pub loop-low-preserved : goal.loop-low-preserved
loop-low-preserved c =
    let es = c.args.entries.now in
    let q = c.args.path.now in
    let xs = c.as_slice-places.result.now in
    let here : xs ≡ c.args.self.now = c.as_slice-places.ensures.value ∙ ap (λ v. v.items) c.deref.ensures ∙ c.self.view_is in
    let m : ℕ = c.loop-low.low + (c.loop-low.high - c.loop-low.low) / 2 in
    let next : c.loop-low.low < c.loop-low.high = c.loop-low-test.true in
    let inside : AreWithin (length es) xs = rw here c.requires.inside in
    let order : InOrder (run_of es xs) = rw here c.requires.order in
    let greater : place_cmp es q (get_or xs m 0) ≡ Greater = ap (λ (l : List Entry). place_cmp l q (get_or xs m 0)) (sym c.view-view.ensures) ∙ sym c.order_at.ensures ∙ c.in-Greater.is in
    record {
      ordered = omega (arith, next);
      within = omega (arith, next, c.loop-low.invariant.within);
      below = c.loop-low.invariant.below;
      above = greater_from es q xs inside order m (omega (arith, next, c.loop-low.invariant.within)) greater;
    }

pub returns-clause-gap : goal.returns-clause-gap
returns-clause-gap c =
    let es = c.args.entries.now in
    let q = c.args.path.now in
    let xs = c.as_slice-places.result.now in
    let here : xs ≡ c.args.self.now = c.as_slice-places.ensures.value ∙ ap (λ v. v.items) c.deref.ensures ∙ c.self.view_is in
    let inside : AreWithin (length es) xs = rw here c.requires.inside in
    let same : c.loop-low.high ≡ c.loop-low.low = omega (arith, c.loop-low-test.false, c.loop-low.invariant.ordered) in
    let higher : AllWithin (λ (x : ℕ). place_cmp es q x ≡ Greater) xs c.loop-low.low (length xs) =
    subst (λ (n : ℕ). AllWithin (λ (x : ℕ). place_cmp es q x ≡ Greater) xs n (length xs)) same c.loop-low.invariant.above in
    subst (λ (l : List ℕ). IsGap (run_of es l) q c.loop-low.low) here (gap_at es q xs c.loop-low.low inside (omega (arith, same, c.loop-low.invariant.within)) c.loop-low.invariant.below higher)

pub returns-then-is_below-clause-gap : goal.returns-then-is_below-clause-gap
returns-then-is_below-clause-gap c =
    let es = c.args.entries.now in
    let q = c.args.path.now in
    let own = c.args.self.now in
    let xs = c.as_slice-places.result.now in
    let here : xs ≡ own = c.as_slice-places.ensures.value ∙ ap (λ v. v.items) c.deref.ensures ∙ c.self.view_is in
    let ends : ends_before es q own ≡ true = ap (λ (l : List Entry). ends_before l q own) (sym c.view-view.ensures) ∙ sym c.is_below.ensures ∙ c.if-is_below.true in
    subst (λ (n : ℕ). IsGap (run_of es own) q n) (ap (λ (l : List ℕ). length l) (sym here)) (end_gap es q own c.requires.inside c.requires.order ends)
