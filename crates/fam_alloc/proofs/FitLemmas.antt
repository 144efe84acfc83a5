-- The lowest room among runs.
use Rattle.std.proofs.Common.{◌≡◌, ℕ, Bool, true, false, not, ◌+◌, ◌-◌, ◌<◌, ◌≤◌, ◌&&◌, ◌||◌, Option, Some, None, List, [], ◌∷◌, cond, leb, min, max, nat_cmp, is_le, refl, sym, ap, subst, ◌∙◌, inl, inr, arith}
use Rattle.std.specs.List.{AllByRecursion}
use Rattle.std.specs.BTreeMap.Range.{entries_between, range_contains}
use Rattle.std.specs.declared.ops.Bound.TheVariants.{Included, Excluded}
use Rattle.std.proofs.lemmas.Bool.{cases_lt, cond-true, cond-false, le-leb, lt-leb, false≢true, or_left, and_right}
use Rattle.fam_rules.specs.Room.{Fits, IsRoom, room}
use Rattle.fam_rules.proofs.RoomLaws.{room_only}
use Rattle.fam_alloc.specs.Next.{is_between}
use Rattle.fam_alloc.specs.Runs.{in_runs, outside, AreSpaced}
use Rattle.fam_alloc.proofs.SpacedLemmas.{cmp_greater, not_below, behind_run, within_run, clear_below}

-- the first of the runs that has `count` units from `from` on and below `to`
abbrev pub first_fit : ℕ → ℕ → ℕ → List (ℕ × ℕ) → Option ℕ
first_fit from to count [] = None
first_fit from to count (r ∷ rs) =
    cond (leb count (min to (r.0 + r.1) - max from r.0)) (Some (max from r.0)) (first_fit from to count rs)

pub fit_here : (from to count : ℕ) (r : ℕ × ℕ) (rs : List (ℕ × ℕ)) → count ≤ min to (r.0 + r.1) - max from r.0 → first_fit from to count (r ∷ rs) ≡ Some (max from r.0)
fit_here from to count r rs h = cond-true (leb count (min to (r.0 + r.1) - max from r.0)) (Some (max from r.0)) (first_fit from to count rs) (le-leb count _ h)

pub fit_later : (from to count : ℕ) (r : ℕ × ℕ) (rs : List (ℕ × ℕ)) → min to (r.0 + r.1) - max from r.0 < count → first_fit from to count (r ∷ rs) ≡ first_fit from to count rs
fit_later from to count r rs h = cond-false (leb count (min to (r.0 + r.1) - max from r.0)) (Some (max from r.0)) (first_fit from to count rs) (lt-leb count _ h)

-- the room from a higher start on is the room, where nothing fits below it
lower_room : (used : ℕ → Bool) (from to count low above : ℕ) (o : Option ℕ) → low ≤ above
    → ((t : ℕ) → max from low ≤ t → Fits used to count t → above ≤ t) → IsRoom used (max from above) to count o
    → IsRoom used (max from low) to count o
lower_room used from to count low above (Some s) order none h =
    (omega (arith, h.0), h.1, λ t from_low f. h.2 t (omega (arith, none t from_low f)) f)
lower_room used from to count low above None order none h = λ t from_low f. h t (omega (arith, none t from_low f)) f

-- the first of the runs that fits is the room
pub fit_is : (used : ℕ → Bool) (units from to count : ℕ) → 0 < count → (low : ℕ) (rs : List (ℕ × ℕ)) → AreSpaced low units rs
    → ((u : ℕ) → low ≤ u → used u ≡ outside rs u) → IsRoom used (max from low) to count (first_fit from to count rs)
fit_is used units from to count some low [] p same = λ t above f. absurd (false≢true (sym (f.free t (omega arith) (omega arith)) ∙ same t (omega arith)))
fit_is used units from to count some low (r ∷ rs) p same = elim (cases_lt (min to (r.0 + r.1) - max from r.0) count) [
  | inl short ↦
      subst (IsRoom used (max from low) to count) (sym (fit_later from to count r rs short))
      (lower_room used from to count low (r.0 + r.1 + 1) (first_fit from to count rs) (omega (arith, p.0))
      (λ t above f. behind short t above f)
      (fit_is used units from to count some (r.0 + r.1 + 1) rs p.2 (λ u h. rest u (omega arith))))
  | inr fits ↦
      subst (IsRoom used (max from low) to count) (sym (fit_here from to count r rs fits))
      (omega (arith, p.0), record { within = omega arith; free = λ u above below. inside u (omega arith) (omega arith) }, λ t above f. least t above f)
]
  where
    -- before the run
    clear : (u : ℕ) → low ≤ u → u < r.0 → used u ≡ true
    clear u h below = same u h ∙ ap not (clear_below r.0 units (r ∷ rs) u (omega arith, p.1, p.2) below)

    -- in it
    inside : (u : ℕ) → r.0 ≤ u → u < r.0 + r.1 → used u ≡ false
    inside u above below = same u (omega (arith, p.0)) ∙ ap not (or_left (is_between r.0 (r.0 + r.1) u) (in_runs rs u) (within_run r.0 (r.0 + r.1) u above below))

    -- behind it
    rest : (u : ℕ) → r.0 + r.1 ≤ u → used u ≡ outside rs u
    rest u past = same u (omega (arith, p.0)) ∙ ap (λ (b : Bool). not (b || in_runs rs u)) (behind_run r.0 (r.0 + r.1) u past)

    ends : used (r.0 + r.1) ≡ true
    ends = rest (r.0 + r.1) (omega arith) ∙ ap not (clear_below (r.0 + r.1 + 1) units rs (r.0 + r.1) p.2 (omega arith))

    -- nothing fits before the run
    least : (t : ℕ) → max from low ≤ t → Fits used to count t → max from r.0 ≤ t
    least t above f = elim (cases_lt t r.0) [
      | inl before ↦ absurd (false≢true (sym (f.free t (omega arith) (omega arith)) ∙ clear t (omega arith) before))
      | inr past ↦ omega arith
    ]

    -- nor in it, where it is too short
    behind : min to (r.0 + r.1) - max from r.0 < count → (t : ℕ) → max from low ≤ t → Fits used to count t → r.0 + r.1 + 1 ≤ t
    behind short t above f = elim (cases_lt (r.0 + r.1) t) [
      | inl past ↦ omega arith
      | inr within ↦
          let low_t = least t above f in
          absurd (false≢true (sym (f.free (r.0 + r.1) within (omega (arith, f.within))) ∙ ends))
    ]

-- and so it is of all runs
pub fit_is_room : (units from to count : ℕ) (rs : List (ℕ × ℕ)) → 0 < count → AreSpaced 0 units rs → first_fit from to count rs ≡ room (outside rs) from to count
fit_is_room units from to count rs some p =
    room_only (outside rs) from to count (first_fit from to count rs)
    (subst (λ (k : ℕ). IsRoom (outside rs) k to count (first_fit from to count rs)) (let e : max from 0 ≡ from = omega arith in e)
    (fit_is (outside rs) units from to count some 0 rs p (λ u h. refl)))

-- runs that end at `from` or below, or start at `to` or above, have no fit
pub fit_between : (from to count first : ℕ) (rs : List (ℕ × ℕ)) → 0 < count → AllByRecursion (λ r. r.0 < first → r.0 + r.1 ≤ from) rs
    → first_fit from to count (entries_between nat_cmp (Included first) (Excluded to) rs) ≡ first_fit from to count rs
fit_between from to count first [] some low = refl
fit_between from to count first (r ∷ rs) some low =
    let rest : List (ℕ × ℕ) = entries_between nat_cmp (Included first) (Excluded to) rs in
    elim (cases_lt r.0 first) [
      | inl below ↦
          ap (first_fit from to count) (cond-false (range_contains nat_cmp (Included first) (Excluded to) r.0) (r ∷ rest) rest
          (ap (λ o. is_le o && not (is_le (nat_cmp to r.0))) (cmp_greater first r.0 below)))
          ∙ fit_between from to count first rs some low.1
          ∙ sym (fit_later from to count r rs (omega (arith, low.0 below)))
      | inr above ↦ elim (cases_lt r.0 to) [
        | inl within ↦
            ap (first_fit from to count) (cond-true (range_contains nat_cmp (Included first) (Excluded to) r.0) (r ∷ rest) rest (rw (not_below first r.0 above, cmp_greater to r.0 within) refl))
            ∙ ap (λ (o : Option ℕ). cond (leb count (min to (r.0 + r.1) - max from r.0)) (Some (max from r.0)) o) (fit_between from to count first rs some low.1)
        | inr past ↦
            ap (first_fit from to count) (cond-false (range_contains nat_cmp (Included first) (Excluded to) r.0) (r ∷ rest) rest
            (rw (not_below to r.0 past) (and_right (is_le (nat_cmp first r.0)) false refl)))
            ∙ fit_between from to count first rs some low.1
            ∙ sym (fit_later from to count r rs (omega arith))
      ]
    ]
