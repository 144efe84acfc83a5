-- One extent more is taken out of the free runs.
use Rattle.std.proofs.Common.{◌≡◌, ℕ, Bool, true, false, not, ◌+◌, ◌-◌, ◌/◌, ◌<◌, ◌≤◌, ◌==◌, ◌&&◌, ◌||◌, None, List, [], ◌++◌, length, drop, drop_of_length-le, get_or, refl, sym, ap, subst, ◌∙◌, arith}
use Rattle.std.proofs.lemmas.Bool.{eq-eqb, or_right}
use Rattle.fam_base.specs.declared.extents.Extent.{Extent}
use Rattle.fam_base.specs.ExtentLists.{no_extent}
use Rattle.fam_format.specs.Units.{units_in, first_overlap}
use Rattle.fam_alloc.specs.Next.{is_between}
use Rattle.fam_alloc.specs.Taken.{holds}
use Rattle.fam_alloc.specs.Runs.{in_runs, outside, AreSpaced, IsInRun, is_empty_at, with_rest, without_rest, with_length, settled}
use Rattle.fam_alloc.proofs.OverlapLemmas.{or_assoc, or_false, holds-append, holds-range, units_at, units_rest, overlap_same, overlap_passed}
use Rattle.fam_alloc.proofs.SpacedLemmas.{in_run}
use Rattle.fam_alloc.proofs.CutLemmas.{cut, opened_is, closed_is, cut_spaced, cut_length, cut_in}
use Rattle.fam_alloc.proofs.EmptyLemmas.{some_stands, cut_empty, settled_spaced, settled_in, settled_length, settled_empty}

-- the units of no extent
none_behind : (unit : ℕ) (xs : List Extent) (i : ℕ) → length xs ≤ i → units_in unit (drop i xs) ≡ []
none_behind unit xs i past = ap (units_in unit) (drop_of_length-le xs past)

-- the extent at i, with the units from a up to b, and the run from s up to e that holds them
module _ (units unit : ℕ) (xs : List Extent) (i : ℕ) (rs : List (ℕ × ℕ)) (a b s e : ℕ) (below : i < length xs)
    (first : a ≡ (get_or xs i no_extent).offset / unit) (last : b ≡ a + (get_or xs i no_extent).length / unit) (some : a < b)
    (p : AreSpaced 0 units rs) (held : IsInRun rs a s e) (ends_inside : b ≤ e) where
  -- the units of the extent
  at_extent : (u : ℕ) → holds (units_at unit xs i) u ≡ is_between a b u
  at_extent u = rw (last, first) (holds-range _ _ u)

  rest_of : units_in unit (drop i xs) ≡ units_at unit xs i ++ units_in unit (drop (i + 1) xs)
  rest_of = units_rest unit xs i below

  -- all of them are free
  stands_free : (u : ℕ) → a ≤ u → u < b → outside rs u ≡ false
  stands_free u low high = ap not (in_run 0 units rs s (e - s) u p held.stands (omega (arith, held.low)) (omega (arith, held.order)))

  -- the runs once the run was opened
  module _ (opened : List (ℕ × ℕ)) (is : opened ≡ with_length (with_rest rs b e) s (a - s)) where
    pub as_cut : opened ≡ cut rs s e a b
    as_cut = is ∙ opened_is units s e a b held.low some ends_inside 0 rs p held.stands

    pub opened_spaced : AreSpaced 0 units opened
    opened_spaced = subst (AreSpaced 0 units) (sym as_cut) (cut_spaced units s e a b held.low some ends_inside 0 rs p held.stands)

    opened_outside : (u : ℕ) → outside opened u ≡ (outside rs u || is_between a b u)
    opened_outside u =
        ap (λ (os : List (ℕ × ℕ)). outside os u) as_cut
        ∙ ap not (cut_in units s e a b held.low some ends_inside 0 rs u p held.stands)
        ∙ not_and (in_runs rs u) (is_between a b u)
      where
        not_and : (x y : Bool) → not (x && not y) ≡ (not x || y)
        not_and true true = refl
        not_and true false = refl
        not_and false true = refl
        not_and false false = refl

    -- where the rest of the extents doesn't overlap there, they don't with this one
    pub opened_fits : first_overlap (outside opened) (units_in unit (drop (i + 1) xs)) ≡ None → first_overlap (outside rs) (units_in unit (drop i xs)) ≡ None
    opened_fits h =
        ap (first_overlap (outside rs)) rest_of
        ∙ overlap_passed (outside rs) _ _ (units_in unit (drop (i + 1) xs)) (λ u low high. stands_free u (omega (arith, first)) (omega (arith, first, last)))
        ∙ sym (overlap_same (outside opened) (λ u. outside rs u || holds (units_at unit xs i) u) (units_in unit (drop (i + 1) xs))
        (λ u. opened_outside u ∙ ap (λ (t : Bool). outside rs u || t) (sym (at_extent u))))
        ∙ h

    -- what is put back where the rest was refused
    pub put_back : (refused closed : List (ℕ × ℕ)) → refused ≡ opened → closed ≡ with_length (without_rest refused b e) s (e - s) → closed ≡ rs
    put_back refused closed same back =
        back
        ∙ ap (λ (os : List (ℕ × ℕ)). with_length (without_rest os b e) s (e - s)) (same ∙ as_cut)
        ∙ closed_is units s e a b held.low some ends_inside 0 rs p held.stands

    -- what is left where the rest was taken
    module _ (rest left : List (ℕ × ℕ)) (q : AreSpaced 0 units rest)
        (taken : (u : ℕ) → outside rest u ≡ (outside opened u || holds (units_in unit (drop (i + 1) xs)) u))
        (empty : (k : ℕ) → is_empty_at rest k ≡ is_empty_at opened k) (over : left ≡ settled rest s a) where
      empty_now : (k : ℕ) → is_empty_at rest k ≡ (is_empty_at rs k || ((s == a) && (s == k)))
      empty_now k =
          empty k ∙ ap (λ (os : List (ℕ × ℕ)). is_empty_at os k) as_cut
          ∙ cut_empty units s e a b held.low some ends_inside 0 rs k p held.stands

      front_left : s ≡ a → is_empty_at rest s ≡ true
      front_left at = empty_now s ∙ rw (eq-eqb s a at, eq-eqb s s refl) (or_right (is_empty_at rs s) true refl)

      pub left_spaced : AreSpaced 0 units left
      left_spaced = subst (AreSpaced 0 units) (sym over) (settled_spaced units rest s a q front_left)

      pub left_outside : (u : ℕ) → outside left u ≡ (outside rs u || holds (units_in unit (drop i xs)) u)
      left_outside u =
          ap (λ (os : List (ℕ × ℕ)). outside os u) over
          ∙ ap not (settled_in units rest s a q front_left u)
          ∙ taken u
          ∙ ap (λ (t : Bool). t || holds (units_in unit (drop (i + 1) xs)) u) (opened_outside u)
          ∙ sym (or_assoc (outside rs u) (is_between a b u) (holds (units_in unit (drop (i + 1) xs)) u))
          ∙ ap (λ (t : Bool). outside rs u || (t || holds (units_in unit (drop (i + 1) xs)) u)) (sym (at_extent u))
          ∙ ap (λ (t : Bool). outside rs u || t) (sym (holds-append (units_at unit xs i) (units_in unit (drop (i + 1) xs)) u) ∙ ap (λ (us : List ℕ). holds us u) (sym rest_of))

      pub left_empty : (k : ℕ) → is_empty_at left k ≡ is_empty_at rs k
      left_empty k =
          ap (λ (os : List (ℕ × ℕ)). is_empty_at os k) over
          ∙ settled_empty units rest s a q front_left (is_empty_at rs) (some_stands 0 units rs s (e - s) p held.stands (omega (arith, held.low))) empty_now k

      pub left_length : length rest + (i + 1) ≤ length opened + length xs → length left + i ≤ length rs + length xs
      left_length h =
          omega (
            arith,
            h,
            ap (λ (os : List (ℕ × ℕ)). length os) over,
            ap (λ (os : List (ℕ × ℕ)). length os) as_cut,
            settled_length units rest s a q front_left,
            cut_length units s e a b held.low some ends_inside rs,
          )

  -- where it is the last extent
  module _ (new : List (ℕ × ℕ)) (all : length xs ≤ i + 1) (over : new ≡ settled (with_length (with_rest rs b e) s (a - s)) s a) where
    none_more : (u : ℕ) → outside (with_length (with_rest rs b e) s (a - s)) u ≡ (outside (with_length (with_rest rs b e) s (a - s)) u || holds (units_in unit (drop (i + 1) xs)) u)
    none_more u =
        or_false (outside (with_length (with_rest rs b e) s (a - s)) u)
        ∙ ap (λ (us : List ℕ). outside (with_length (with_rest rs b e) s (a - s)) u || holds us u) (sym (none_behind unit xs (i + 1) all))

    pub last_spaced : AreSpaced 0 units new
    last_spaced =
        left_spaced (with_length (with_rest rs b e) s (a - s)) refl (with_length (with_rest rs b e) s (a - s)) new (opened_spaced _ refl) none_more (λ k. refl) over

    pub last_outside : (u : ℕ) → outside new u ≡ (outside rs u || holds (units_in unit (drop i xs)) u)
    last_outside =
        left_outside (with_length (with_rest rs b e) s (a - s)) refl (with_length (with_rest rs b e) s (a - s)) new (opened_spaced _ refl) none_more (λ k. refl) over

    pub last_fits : first_overlap (outside rs) (units_in unit (drop i xs)) ≡ None
    last_fits =
        opened_fits (with_length (with_rest rs b e) s (a - s)) refl
        (ap (first_overlap (outside (with_length (with_rest rs b e) s (a - s)))) (none_behind unit xs (i + 1) all))

    pub last_empty : (k : ℕ) → is_empty_at new k ≡ is_empty_at rs k
    last_empty =
        left_empty (with_length (with_rest rs b e) s (a - s)) refl (with_length (with_rest rs b e) s (a - s)) new (opened_spaced _ refl) none_more (λ k. refl) over

    pub last_length : length new + i ≤ length rs + length xs
    last_length =
        left_length (with_length (with_rest rs b e) s (a - s)) refl (with_length (with_rest rs b e) s (a - s)) new (opened_spaced _ refl) none_more (λ k. refl) over (omega arith)
