-- Units that are taken out of the run that holds them.
use Rattle.std.proofs.Common.{◌≡◌, ℕ, Bool, true, false, not, ◌+◌, ◌-◌, ◌<◌, ◌≤◌, ◌&&◌, ◌||◌, ◌⊎◌, Some, None, List, [], ◌∷◌, length, cond, ltb, nat_cmp, Ordering, refl, sym, ap, subst, ◌∙◌, inl, inr, arith}
use Rattle.std.proofs.lemmas.Bool.{cases_eq, cases_lt, cases_Bool, cond-true, cond-false, lt-ltb, le-ltb, and_right}
use Rattle.std.proofs.lemmas.Option.{none-some}
use Rattle.std.specs.BTreeMap.{insert_entry, is_at}
use Rattle.std.specs.Map.{remove_entry}
use Rattle.std.specs.Ordering.{match_ordering}
use Rattle.fam_alloc.specs.Next.{is_between}
use Rattle.fam_alloc.specs.Runs.{in_runs, AreSpaced, run_from, with_rest, without_rest, with_length}
use Rattle.fam_alloc.proofs.SpacedLemmas.{cmp_less, cmp_greater, at_here, at_other, before_run, behind_run, within_run, spaced_lower, clear_below, run_here, run_later, place}

-- a run in front of the place at which one is added
insert_later : (r : ℕ × ℕ) (rs : List (ℕ × ℕ)) (b v : ℕ) → r.0 < b → insert_entry nat_cmp (r ∷ rs) b v ≡ r ∷ insert_entry nat_cmp rs b v
insert_later r rs b v h =
    ap (λ (o : Ordering). match_ordering o ((b, v) ∷ r ∷ rs) ((r.0, v) ∷ rs) (r ∷ insert_entry nat_cmp rs b v)) (cmp_greater b r.0 h)

-- and one that is added in front of all
insert_front : (low units : ℕ) (rs : List (ℕ × ℕ)) (b v : ℕ) → AreSpaced low units rs → b < low → insert_entry nat_cmp rs b v ≡ (b, v) ∷ rs
insert_front low units [] b v p h = refl
insert_front low units (r ∷ rs) b v p h =
    ap (λ (o : Ordering). match_ordering o ((b, v) ∷ r ∷ rs) ((r.0, v) ∷ rs) (r ∷ insert_entry nat_cmp rs b v)) (cmp_less b r.0 (omega (arith, p.0)))

pub length_here : (r : ℕ × ℕ) (rs : List (ℕ × ℕ)) (s n : ℕ) → s ≡ r.0 → with_length (r ∷ rs) s n ≡ (r.0, n) ∷ rs
length_here r rs s n at = cond-true (is_at (nat_cmp s) r.0) ((r.0, n) ∷ rs) (r ∷ with_length rs s n) (at_here s r.0 at)

pub length_later : (r : ℕ × ℕ) (rs : List (ℕ × ℕ)) (s n : ℕ) → (s ≡ r.0 → ⊥) → with_length (r ∷ rs) s n ≡ r ∷ with_length rs s n
length_later r rs s n other = cond-false (is_at (nat_cmp s) r.0) ((r.0, n) ∷ rs) (r ∷ with_length rs s n) (at_other s r.0 other)

-- a run that is absent gets no length
pub length_absent : (rs : List (ℕ × ℕ)) (s n : ℕ) → run_from rs s ≡ None → with_length rs s n ≡ rs
length_absent [] s n h = refl
length_absent (r ∷ rs) s n h = elim (cases_eq s r.0) [
  | inl at ↦ absurd (none-some r.1 (sym h ∙ run_here r rs s at))
  | inr other ↦
      length_later r rs s n other
      ∙ ap (λ (xs : List (ℕ × ℕ)). r ∷ xs) (length_absent rs s n (sym (run_later r rs s other) ∙ h))
]

pub remove_here : (r : ℕ × ℕ) (rs : List (ℕ × ℕ)) (s : ℕ) → s ≡ r.0 → remove_entry (is_at (nat_cmp s)) (r ∷ rs) ≡ rs
remove_here r rs s at = cond-true (is_at (nat_cmp s) r.0) rs (r ∷ remove_entry (is_at (nat_cmp s)) rs) (at_here s r.0 at)

pub remove_later : (r : ℕ × ℕ) (rs : List (ℕ × ℕ)) (s : ℕ) → (s ≡ r.0 → ⊥) → remove_entry (is_at (nat_cmp s)) (r ∷ rs) ≡ r ∷ remove_entry (is_at (nat_cmp s)) rs
remove_later r rs s other = cond-false (is_at (nat_cmp s) r.0) rs (r ∷ remove_entry (is_at (nat_cmp s)) rs) (at_other s r.0 other)

-- the part behind `end` of a run up to `past`, where it has units
abbrev pub rest_then : ℕ → ℕ → List (ℕ × ℕ) → List (ℕ × ℕ)
rest_then end past rs = cond (ltb end past) ((end, past - end) ∷ rs) rs

-- the run from s up to e without the units from a up to b. The part in front stays, also where it has no units
abbrev pub cut : List (ℕ × ℕ) → ℕ → ℕ → ℕ → ℕ → List (ℕ × ℕ)
cut [] s e a b = []
cut (r ∷ rs) s e a b = cond (is_at (nat_cmp s) r.0) ((r.0, a - s) ∷ rest_then b e rs) (r ∷ cut rs s e a b)

pub cut_here : (r : ℕ × ℕ) (rs : List (ℕ × ℕ)) (s e a b : ℕ) → s ≡ r.0 → cut (r ∷ rs) s e a b ≡ (r.0, a - s) ∷ rest_then b e rs
cut_here r rs s e a b at = cond-true (is_at (nat_cmp s) r.0) ((r.0, a - s) ∷ rest_then b e rs) (r ∷ cut rs s e a b) (at_here s r.0 at)

pub cut_later : (r : ℕ × ℕ) (rs : List (ℕ × ℕ)) (s e a b : ℕ) → (s ≡ r.0 → ⊥) → cut (r ∷ rs) s e a b ≡ r ∷ cut rs s e a b
cut_later r rs s e a b other = cond-false (is_at (nat_cmp s) r.0) ((r.0, a - s) ∷ rest_then b e rs) (r ∷ cut rs s e a b) (at_other s r.0 other)

-- a run in front of what is kept or given up
rest_later : (r : ℕ × ℕ) (rs : List (ℕ × ℕ)) (b e : ℕ) → r.0 < b → with_rest (r ∷ rs) b e ≡ r ∷ with_rest rs b e
rest_later r rs b e h = elim (cases_Bool (ltb b e)) [
  | inl some ↦
      cond-true (ltb b e) (insert_entry nat_cmp (r ∷ rs) b (e - b)) (r ∷ rs) some
      ∙ insert_later r rs b (e - b) h
      ∙ ap (λ (xs : List (ℕ × ℕ)). r ∷ xs) (sym (cond-true (ltb b e) (insert_entry nat_cmp rs b (e - b)) rs some))
  | inr none ↦
      cond-false (ltb b e) (insert_entry nat_cmp (r ∷ rs) b (e - b)) (r ∷ rs) none
      ∙ ap (λ (xs : List (ℕ × ℕ)). r ∷ xs) (sym (cond-false (ltb b e) (insert_entry nat_cmp rs b (e - b)) rs none))
]

without_later : (r : ℕ × ℕ) (rs : List (ℕ × ℕ)) (b e : ℕ) → r.0 < b → without_rest (r ∷ rs) b e ≡ r ∷ without_rest rs b e
without_later r rs b e h = elim (cases_Bool (ltb b e)) [
  | inl some ↦
      cond-true (ltb b e) (remove_entry (is_at (nat_cmp b)) (r ∷ rs)) (r ∷ rs) some
      ∙ remove_later r rs b (λ p. omega arith)
      ∙ ap (λ (xs : List (ℕ × ℕ)). r ∷ xs) (sym (cond-true (ltb b e) (remove_entry (is_at (nat_cmp b)) rs) rs some))
  | inr none ↦
      cond-false (ltb b e) (remove_entry (is_at (nat_cmp b)) (r ∷ rs)) (r ∷ rs) none
      ∙ ap (λ (xs : List (ℕ × ℕ)). r ∷ xs) (sym (cond-false (ltb b e) (remove_entry (is_at (nat_cmp b)) rs) rs none))
]

-- a run from s up to e that holds the units from a up to b
module _ (units s e a b : ℕ) (from : s ≤ a) (some : a < b) (upto : b ≤ e) where
  -- what is kept behind the first run
  rest_front : (r : ℕ × ℕ) (rs : List (ℕ × ℕ)) → AreSpaced (r.0 + r.1 + 1) units rs → s ≡ r.0 → r.1 ≡ e - s → with_rest (r ∷ rs) b e ≡ r ∷ rest_then b e rs
  rest_front r rs p at n =
      rest_later r rs b e (omega (arith, at))
      ∙ ap (λ (xs : List (ℕ × ℕ)). r ∷ xs) (ap (λ (xs : List (ℕ × ℕ)). cond (ltb b e) xs rs) (insert_front (r.0 + r.1 + 1) units rs b (e - b) p (omega (arith, at, n))))

  -- the steps that take the units out of the run
  pub opened_is : (low : ℕ) (rs : List (ℕ × ℕ)) → AreSpaced low units rs → run_from rs s ≡ Some (e - s) → with_length (with_rest rs b e) s (a - s) ≡ cut rs s e a b
  opened_is low [] p h = absurd (none-some (e - s) h)
  opened_is low (r ∷ rs) p h = elim (place low units r rs s (e - s) p h) [
    | inl here ↦
        ap (λ (xs : List (ℕ × ℕ)). with_length xs s (a - s)) (rest_front r rs p.2 here.0 here.1)
        ∙ length_here r (rest_then b e rs) s (a - s) here.0
        ∙ sym (cut_here r rs s e a b here.0)
    | inr later ↦
        let other : s ≡ r.0 → ⊥ = λ q. omega (arith, later.0) in
        ap (λ (xs : List (ℕ × ℕ)). with_length xs s (a - s)) (rest_later r rs b e (omega (arith, later.0)))
        ∙ length_later r (with_rest rs b e) s (a - s) other
        ∙ ap (λ (xs : List (ℕ × ℕ)). r ∷ xs) (opened_is (r.0 + r.1 + 1) rs p.2 later.1)
        ∙ sym (cut_later r rs s e a b other)
  ]

  -- what was kept is given up again
  without_front : (rs : List (ℕ × ℕ)) → without_rest (rest_then b e rs) b e ≡ rs
  without_front rs = elim (cases_Bool (ltb b e)) [
    | inl had ↦
        ap (λ (xs : List (ℕ × ℕ)). without_rest xs b e) (cond-true (ltb b e) ((b, e - b) ∷ rs) rs had)
        ∙ cond-true (ltb b e) (remove_entry (is_at (nat_cmp b)) ((b, e - b) ∷ rs)) ((b, e - b) ∷ rs) had
        ∙ remove_here (b, e - b) rs b refl
    | inr none ↦
        ap (λ (xs : List (ℕ × ℕ)). without_rest xs b e) (cond-false (ltb b e) ((b, e - b) ∷ rs) rs none)
        ∙ cond-false (ltb b e) (remove_entry (is_at (nat_cmp b)) rs) rs none
  ]

  -- the steps that put them back
  pub closed_is : (low : ℕ) (rs : List (ℕ × ℕ)) → AreSpaced low units rs → run_from rs s ≡ Some (e - s) → with_length (without_rest (cut rs s e a b) b e) s (e - s) ≡ rs
  closed_is low [] p h = absurd (none-some (e - s) h)
  closed_is low (r ∷ rs) p h = elim (place low units r rs s (e - s) p h) [
    | inl here ↦
        let opened : without_rest (cut (r ∷ rs) s e a b) b e ≡ (r.0, a - s) ∷ rs =
        ap (λ (xs : List (ℕ × ℕ)). without_rest xs b e) (cut_here r rs s e a b here.0)
        ∙ without_later (r.0, a - s) (rest_then b e rs) b e (omega (arith, here.0))
        ∙ ap (λ (xs : List (ℕ × ℕ)). (r.0, a - s) ∷ xs) (without_front rs) in
        ap (λ (xs : List (ℕ × ℕ)). with_length xs s (e - s)) opened
        ∙ length_here (r.0, a - s) rs s (e - s) here.0
        ∙ ap (λ (n : ℕ). (r.0, n) ∷ rs) (sym here.1)
    | inr later ↦
        let other : s ≡ r.0 → ⊥ = λ q. omega (arith, later.0) in
        ap (λ (xs : List (ℕ × ℕ)). with_length (without_rest xs b e) s (e - s)) (cut_later r rs s e a b other)
        ∙ ap (λ (xs : List (ℕ × ℕ)). with_length xs s (e - s)) (without_later r (cut rs s e a b) b e (omega (arith, later.0)))
        ∙ length_later r (without_rest (cut rs s e a b) b e) s (e - s) other
        ∙ ap (λ (xs : List (ℕ × ℕ)). r ∷ xs) (closed_is (r.0 + r.1 + 1) rs p.2 later.1)
  ]

  -- the runs stay in order
  rest_spaced : (low : ℕ) (rs : List (ℕ × ℕ)) → low ≤ b → e ≤ units → AreSpaced (e + 1) units rs → AreSpaced low units (rest_then b e rs)
  rest_spaced low rs h within p = elim (cases_lt b e) [
    | inl had ↦
        subst (AreSpaced low units) (sym (cond-true (ltb b e) ((b, e - b) ∷ rs) rs (lt-ltb b e had)))
        (h, omega arith, spaced_lower (e + 1) (b + (e - b) + 1) units rs (omega arith) p)
    | inr none ↦
        subst (AreSpaced low units) (sym (cond-false (ltb b e) ((b, e - b) ∷ rs) rs (le-ltb b e none)))
        (spaced_lower (e + 1) low units rs (omega arith) p)
  ]

  pub cut_spaced : (low : ℕ) (rs : List (ℕ × ℕ)) → AreSpaced low units rs → run_from rs s ≡ Some (e - s) → AreSpaced low units (cut rs s e a b)
  cut_spaced low [] p h = tt
  cut_spaced low (r ∷ rs) p h = elim (place low units r rs s (e - s) p h) [
    | inl here ↦
        let end : r.0 + r.1 ≡ e = omega (arith, here.0, here.1) in
        subst (AreSpaced low units) (sym (cut_here r rs s e a b here.0))
        (p.0, omega (arith, p.1, here.0), rest_spaced (r.0 + (a - s) + 1) rs (omega (arith, here.0)) (omega (arith, p.1)) (subst (λ (k : ℕ). AreSpaced (k + 1) units rs) end p.2))
    | inr later ↦
        subst (AreSpaced low units) (sym (cut_later r rs s e a b (λ q. omega (arith, later.0))))
        (p.0, p.1, cut_spaced (r.0 + r.1 + 1) rs p.2 later.1)
  ]

  -- one more at most
  pub cut_length : (rs : List (ℕ × ℕ)) → length (cut rs s e a b) ≤ length rs + 1
  cut_length [] = omega arith
  cut_length (r ∷ rs) = elim (cases_eq s r.0) [
    | inl here ↦ elim (cases_Bool (ltb b e)) [
      | inl had ↦ omega (arith, ap (λ (xs : List (ℕ × ℕ)). length xs) (cut_here r rs s e a b here), ap (λ (xs : List (ℕ × ℕ)). length xs) (cond-true (ltb b e) ((b, e - b) ∷ rs) rs had))
      | inr none ↦ omega (arith, ap (λ (xs : List (ℕ × ℕ)). length xs) (cut_here r rs s e a b here), ap (λ (xs : List (ℕ × ℕ)). length xs) (cond-false (ltb b e) ((b, e - b) ∷ rs) rs none))
    ]
    | inr later ↦ omega (arith, ap (λ (xs : List (ℕ × ℕ)). length xs) (cut_later r rs s e a b later), cut_length rs)
  ]

  -- a unit of the parts that are left, or of the other runs
  cut_tests : (u : ℕ) (more : Bool) → (u ≤ e → more ≡ false) → (is_between s (s + (a - s)) u || (is_between b (b + (e - b)) u || more)) ≡ ((is_between s e u || more) && not (is_between a b u))
  cut_tests u more none = elim (cases_lt e u) [
    | inl past ↦ rw (behind_run s (s + (a - s)) u (omega arith), behind_run b (b + (e - b)) u (omega arith), behind_run s e u (omega arith), behind_run a b u (omega arith)) (and_all more)
    | inr upto_end ↦ elim (cases_lt u a) [
      | inl low ↦ elim (cases_lt u s) [
        | inl lower ↦ rw (before_run s (s + (a - s)) u lower, before_run b (b + (e - b)) u (omega arith), before_run s e u lower, before_run a b u low, none upto_end) refl
        | inr inside ↦ rw (within_run s (s + (a - s)) u inside (omega arith), within_run s e u inside (omega arith), before_run a b u low) refl
      ]
      | inr high ↦ elim (cases_lt u b) [
        | inl taken ↦ rw (behind_run s (s + (a - s)) u (omega arith), before_run b (b + (e - b)) u taken, within_run a b u high taken, none upto_end)
            (sym (and_right (is_between s e u || false) false refl))
        | inr behind ↦ elim (cases_lt u e) [
          | inl rest ↦ rw (behind_run s (s + (a - s)) u (omega arith), within_run b (b + (e - b)) u behind (omega arith), within_run s e u (omega arith) rest, behind_run a b u behind) refl
          | inr at_end ↦ rw (behind_run s (s + (a - s)) u (omega arith), behind_run b (b + (e - b)) u (omega arith), behind_run s e u at_end, behind_run a b u behind, none upto_end) refl
        ]
      ]
    ]
  ]
    where
      and_all : (x : Bool) → x ≡ (x && true)
      and_all true = refl
      and_all false = refl

  rest_in : (rs : List (ℕ × ℕ)) (u : ℕ) → in_runs (rest_then b e rs) u ≡ (is_between b (b + (e - b)) u || in_runs rs u)
  rest_in rs u = elim (cases_lt b e) [
    | inl had ↦ ap (λ (xs : List (ℕ × ℕ)). in_runs xs u) (cond-true (ltb b e) ((b, e - b) ∷ rs) rs (lt-ltb b e had))
    | inr none ↦
        ap (λ (xs : List (ℕ × ℕ)). in_runs xs u) (cond-false (ltb b e) ((b, e - b) ∷ rs) rs (le-ltb b e none))
        ∙ ap (λ (t : Bool). t || in_runs rs u) (sym (empty_run u none))
  ]
    where
      empty_run : (u : ℕ) → e ≤ b → is_between b (b + (e - b)) u ≡ false
      empty_run u none = elim (cases_lt u b) [
        | inl low ↦ before_run b (b + (e - b)) u low
        | inr high ↦ behind_run b (b + (e - b)) u (omega arith)
      ]

  -- the units from a up to b stand in no run any more, and the others where they stood
  pub cut_in : (low : ℕ) (rs : List (ℕ × ℕ)) (u : ℕ) → AreSpaced low units rs → run_from rs s ≡ Some (e - s) → in_runs (cut rs s e a b) u ≡ (in_runs rs u && not (is_between a b u))
  cut_in low [] u p h = refl
  cut_in low (r ∷ rs) u p h = elim (place low units r rs s (e - s) p h) [
    | inl here ↦
        let end : r.0 + r.1 ≡ e = omega (arith, here.0, here.1) in
        ap (λ (xs : List (ℕ × ℕ)). in_runs xs u) (cut_here r rs s e a b here.0)
        ∙ ap (λ (t : Bool). is_between r.0 (r.0 + (a - s)) u || t) (rest_in rs u)
        ∙ ap (λ (k : ℕ). is_between k (k + (a - s)) u || (is_between b (b + (e - b)) u || in_runs rs u)) (sym here.0)
        ∙ cut_tests u (in_runs rs u) (λ below. clear_below (r.0 + r.1 + 1) units rs u p.2 (omega arith))
        ∙ ap (λ (k : ℕ). (is_between k e u || in_runs rs u) && not (is_between a b u)) here.0
        ∙ ap (λ (k : ℕ). (is_between r.0 k u || in_runs rs u) && not (is_between a b u)) (sym end)
    | inr later ↦
        ap (λ (xs : List (ℕ × ℕ)). in_runs xs u) (cut_later r rs s e a b (λ q. omega (arith, later.0)))
        ∙ ap (λ (t : Bool). is_between r.0 (r.0 + r.1) u || t) (cut_in (r.0 + r.1 + 1) rs u p.2 later.1)
        ∙ in_front (is_between r.0 (r.0 + r.1) u) (in_runs rs u) (apart later.0)
  ]
    where
      -- a unit of the run in front is none of those that are taken
      apart : r.0 + r.1 < s → (is_between r.0 (r.0 + r.1) u ≡ false) ⊎ (is_between a b u ≡ false)
      apart below = elim (cases_lt u a) [
        | inl low ↦ inr (before_run a b u low)
        | inr high ↦ inl (behind_run r.0 (r.0 + r.1) u (omega arith))
      ]

      both : (x y : Bool) → (x || (y && true)) ≡ ((x || y) && true)
      both true y = refl
      both false y = refl

      in_front : (x y : Bool) → (x ≡ false) ⊎ (is_between a b u ≡ false) → (x || (y && not (is_between a b u))) ≡ ((x || y) && not (is_between a b u))
      in_front x y (inl none) = rw none refl
      in_front x y (inr out) = rw out (both x y)
