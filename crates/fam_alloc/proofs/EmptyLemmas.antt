-- Runs of no units, which stand only while extents are taken.
use Rattle.std.proofs.Common.{◌≡◌, ℕ, Bool, true, false, not, ◌+◌, ◌-◌, ◌<◌, ◌≤◌, ◌==◌, ◌&&◌, ◌||◌, Some, List, [], ◌∷◌, length, ltb, nat_cmp, refl, sym, ap, subst, ◌∙◌, inl, inr, arith}
use Rattle.std.proofs.lemmas.Bool.{cases_eq, cases_lt, cond-true, cond-false, eq-eqb, ne_eqb, eqb-true, lt-ltb, le-ltb, or_from, or_cases, or_parts, and_left, and_right, and_from, and_parts, false≢true, false_from_ne_true}
use Rattle.std.proofs.lemmas.Option.{none-some, same_Some}
use Rattle.std.specs.BTreeMap.{is_at}
use Rattle.std.specs.Map.{remove_entry}
use Rattle.fam_alloc.specs.Next.{is_between}
use Rattle.fam_alloc.specs.Runs.{in_runs, AreSpaced, NoneEmpty, is_empty_at, run_from, with_length, settled}
use Rattle.fam_alloc.proofs.OverlapLemmas.{or_assoc}
use Rattle.fam_alloc.proofs.SpacedLemmas.{before_run, behind_run, spaced_lower, run_here, run_later, run_bounds, place}
use Rattle.fam_alloc.proofs.CutLemmas.{cut, cut_here, cut_later, rest_then, length_here, length_later, remove_here, remove_later}

-- none stands below the first
none_lower : (low units : ℕ) (rs : List (ℕ × ℕ)) (q : ℕ) → AreSpaced low units rs → q < low → is_empty_at rs q ≡ false
none_lower low units [] q p h = refl
none_lower low units (r ∷ rs) q p h =
    or_from ((r.0 == q) && (r.1 == 0)) (is_empty_at rs q)
    (and_left (r.0 == q) (r.1 == 0) (ne_eqb r.0 q (let e : r.0 ≡ q → ⊥ = λ x. omega (arith, p.0) in e)))
    (none_lower (r.0 + r.1 + 1) units rs q p.2 (omega (arith, p.0)))

-- one that stands at s is the run from s
pub empty_stands : (low units : ℕ) (rs : List (ℕ × ℕ)) (s : ℕ) → AreSpaced low units rs → is_empty_at rs s ≡ true → run_from rs s ≡ Some 0
empty_stands low units [] s p h = absurd (false≢true h)
empty_stands low units (r ∷ rs) s p h = elim (or_cases ((r.0 == s) && (r.1 == 0)) (is_empty_at rs s) h) [
  | inl here ↦
      let parts = and_parts (r.0 == s) (r.1 == 0) here in
      run_here r rs s (sym (eqb-true r.0 s parts.0)) ∙ ap Some (eqb-true r.1 0 parts.1)
  | inr later ↦
      let rest : run_from rs s ≡ Some 0 = empty_stands (r.0 + r.1 + 1) units rs s p.2 later in
      run_later r rs s (λ e. omega (arith, (run_bounds (r.0 + r.1 + 1) units rs s 0 p.2 rest).0)) ∙ rest
]

-- a run that has units isn't one
pub some_stands : (low units : ℕ) (rs : List (ℕ × ℕ)) (s n : ℕ) → AreSpaced low units rs → run_from rs s ≡ Some n → 0 < n → is_empty_at rs s ≡ false
some_stands low units rs s n p h some =
    false_from_ne_true (is_empty_at rs s) (λ e.
    let none : n ≡ 0 = same_Some n 0 (sym h ∙ empty_stands low units rs s p e) in
    omega arith)

-- none stands in runs that all have units
pub none_stands : (rs : List (ℕ × ℕ)) (q : ℕ) → NoneEmpty rs → is_empty_at rs q ≡ false
none_stands [] q h = refl
none_stands (r ∷ rs) q h =
    or_from ((r.0 == q) && (r.1 == 0)) (is_empty_at rs q)
    (and_right (r.0 == q) (r.1 == 0) (ne_eqb r.1 0 (let e : r.1 ≡ 0 → ⊥ = λ x. omega (arith, h.0) in e)))
    (none_stands rs q h.1)

-- and where none stands all have units
pub all_have : (rs : List (ℕ × ℕ)) → ((q : ℕ) → is_empty_at rs q ≡ false) → NoneEmpty rs
all_have [] none = tt
all_have (r ∷ rs) none = (
  elim (cases_eq r.1 0) [
    | inl empty ↦ absurd (false≢true (sym (or_parts ((r.0 == r.0) && (r.1 == 0)) (is_empty_at rs r.0) (none r.0)).0 ∙ and_from (r.0 == r.0) (r.1 == 0) (eq-eqb r.0 r.0 refl) (eq-eqb r.1 0 empty)))
    | inr some ↦ omega arith
  ],
  all_have rs (λ q. (or_parts ((r.0 == q) && (r.1 == 0)) (is_empty_at rs q) (none q)).1),
)

-- so it stays, where none came
pub still_none : (old new : List (ℕ × ℕ)) → NoneEmpty old → ((q : ℕ) → is_empty_at new q ≡ is_empty_at old q) → NoneEmpty new
still_none old new have same = all_have new (λ q. same q ∙ none_stands old q have)

-- units are taken out of the run from s up to e: its front part may be left with none
module _ (units s e a b : ℕ) (from : s ≤ a) (some : a < b) (upto : b ≤ e) where
  rest_empty : (rs : List (ℕ × ℕ)) (q : ℕ) → is_empty_at (rest_then b e rs) q ≡ is_empty_at rs q
  rest_empty rs q = elim (cases_lt b e) [
    | inl had ↦
        ap (λ (xs : List (ℕ × ℕ)). is_empty_at xs q) (cond-true (ltb b e) ((b, e - b) ∷ rs) rs (lt-ltb b e had))
        ∙ ap (λ (t : Bool). t || is_empty_at rs q) (and_right (b == q) (e - b == 0) (ne_eqb (e - b) 0 (let n : e - b ≡ 0 → ⊥ = λ x. omega arith in n)))
    | inr none ↦ ap (λ (xs : List (ℕ × ℕ)). is_empty_at xs q) (cond-false (ltb b e) ((b, e - b) ∷ rs) rs (le-ltb b e none))
  ]

  -- whether the front part has units
  front_empty : (q : ℕ) (more : Bool) → (((s == q) && (a - s == 0)) || more) ≡ (more || ((s == a) && (s == q)))
  front_empty q more = elim (cases_eq s a) [
    | inl whole ↦ rw (eq-eqb (a - s) 0 (omega arith), eq-eqb s a whole) (swapped (s == q) more)
    | inr part ↦ rw (ne_eqb (a - s) 0 (let n : a - s ≡ 0 → ⊥ = λ x. part (omega arith) in n), ne_eqb s a part) (none (s == q) more)
  ]
    where
      swapped : (x y : Bool) → ((x && true) || y) ≡ (y || (true && x))
      swapped true true = refl
      swapped true false = refl
      swapped false true = refl
      swapped false false = refl

      none : (x y : Bool) → ((x && false) || y) ≡ (y || (false && x))
      none true true = refl
      none true false = refl
      none false true = refl
      none false false = refl

  pub cut_empty : (low : ℕ) (rs : List (ℕ × ℕ)) (q : ℕ) → AreSpaced low units rs → run_from rs s ≡ Some (e - s) → is_empty_at (cut rs s e a b) q ≡ (is_empty_at rs q || ((s == a) && (s == q)))
  cut_empty low [] q p h = absurd (none-some (e - s) h)
  cut_empty low (r ∷ rs) q p h = elim (place low units r rs s (e - s) p h) [
    | inl here ↦
        ap (λ (xs : List (ℕ × ℕ)). is_empty_at xs q) (cut_here r rs s e a b here.0)
        ∙ ap (λ (t : Bool). ((r.0 == q) && (a - s == 0)) || t) (rest_empty rs q)
        ∙ ap (λ (k : ℕ). ((k == q) && (a - s == 0)) || is_empty_at rs q) (sym here.0)
        ∙ front_empty q (is_empty_at rs q)
        ∙ ap (λ (t : Bool). (t || is_empty_at rs q) || ((s == a) && (s == q))) (sym (and_right (r.0 == q) (r.1 == 0) (ne_eqb r.1 0 (let n : r.1 ≡ 0 → ⊥ = λ x. omega (arith, here.1) in n))))
    | inr later ↦
        ap (λ (xs : List (ℕ × ℕ)). is_empty_at xs q) (cut_later r rs s e a b (λ x. omega (arith, later.0)))
        ∙ ap (λ (t : Bool). ((r.0 == q) && (r.1 == 0)) || t) (cut_empty (r.0 + r.1 + 1) rs q p.2 later.1)
        ∙ or_assoc ((r.0 == q) && (r.1 == 0)) (is_empty_at rs q) ((s == a) && (s == q))
  ]

-- a run of no units is given up
removed_spaced : (low units : ℕ) (rs : List (ℕ × ℕ)) (s : ℕ) → AreSpaced low units rs → run_from rs s ≡ Some 0 → AreSpaced low units (remove_entry (is_at (nat_cmp s)) rs)
removed_spaced low units [] s p h = tt
removed_spaced low units (r ∷ rs) s p h = elim (place low units r rs s 0 p h) [
  | inl here ↦ subst (AreSpaced low units) (sym (remove_here r rs s here.0)) (spaced_lower (r.0 + r.1 + 1) low units rs (omega (arith, p.0)) p.2)
  | inr later ↦ subst (AreSpaced low units) (sym (remove_later r rs s (λ x. omega (arith, later.0)))) (p.0, p.1, removed_spaced (r.0 + r.1 + 1) units rs s p.2 later.1)
]

removed_in : (low units : ℕ) (rs : List (ℕ × ℕ)) (s u : ℕ) → AreSpaced low units rs → run_from rs s ≡ Some 0 → in_runs (remove_entry (is_at (nat_cmp s)) rs) u ≡ in_runs rs u
removed_in low units [] s u p h = refl
removed_in low units (r ∷ rs) s u p h = elim (place low units r rs s 0 p h) [
  | inl here ↦
      ap (λ (xs : List (ℕ × ℕ)). in_runs xs u) (remove_here r rs s here.0)
      ∙ ap (λ (t : Bool). t || in_runs rs u) (sym (no_units r.0 r.1 u here.1))
  | inr later ↦
      ap (λ (xs : List (ℕ × ℕ)). in_runs xs u) (remove_later r rs s (λ x. omega (arith, later.0)))
      ∙ ap (λ (t : Bool). is_between r.0 (r.0 + r.1) u || t) (removed_in (r.0 + r.1 + 1) units rs s u p.2 later.1)
]
  where
    no_units : (k n u : ℕ) → n ≡ 0 → is_between k (k + n) u ≡ false
    no_units k n u none = elim (cases_lt u k) [
      | inl low ↦ before_run k (k + n) u low
      | inr high ↦ behind_run k (k + n) u (omega arith)
    ]

removed_empty : (low units : ℕ) (rs : List (ℕ × ℕ)) (s q : ℕ) → AreSpaced low units rs → run_from rs s ≡ Some 0
    → is_empty_at (remove_entry (is_at (nat_cmp s)) rs) q ≡ (is_empty_at rs q && not (s == q))
removed_empty low units [] s q p h = refl
removed_empty low units (r ∷ rs) s q p h = elim (place low units r rs s 0 p h) [
  | inl here ↦
      ap (λ (xs : List (ℕ × ℕ)). is_empty_at xs q) (remove_here r rs s here.0)
      ∙ elim (cases_eq s q) [
        | inl at ↦
            none_lower (r.0 + r.1 + 1) units rs q p.2 (omega (arith, here.0))
            ∙ sym (and_right (((r.0 == q) && (r.1 == 0)) || is_empty_at rs q) (not (s == q)) (ap not (eq-eqb s q at)))
        | inr other ↦
            let first : r.0 ≡ q → ⊥ = λ x. other (here.0 ∙ x) in
            rw (ne_eqb s q other, ne_eqb r.0 q first) (sym (and_true (is_empty_at rs q)))
      ]
  | inr later ↦
      ap (λ (xs : List (ℕ × ℕ)). is_empty_at xs q) (remove_later r rs s (λ x. omega (arith, later.0)))
      ∙ ap (λ (t : Bool). ((r.0 == q) && (r.1 == 0)) || t) (removed_empty (r.0 + r.1 + 1) units rs s q p.2 later.1)
      ∙ elim (cases_eq s q) [
        | inl at ↦
            let first : r.0 ≡ q → ⊥ = λ x. omega (arith, later.0) in
            rw (eq-eqb s q at, ne_eqb r.0 q first) refl
        | inr other ↦ rw (ne_eqb s q other) (or_and_true ((r.0 == q) && (r.1 == 0)) (is_empty_at rs q))
      ]
]
  where
    and_true : (x : Bool) → (x && true) ≡ x
    and_true true = refl
    and_true false = refl

    or_and_true : (x y : Bool) → (x || (y && true)) ≡ ((x || y) && true)
    or_and_true true y = refl
    or_and_true false y = refl

removed_length : (rs : List (ℕ × ℕ)) (s : ℕ) → length (remove_entry (is_at (nat_cmp s)) rs) ≤ length rs
removed_length [] s = omega arith
removed_length (r ∷ rs) s = elim (cases_eq s r.0) [
  | inl here ↦ omega (arith, ap (λ (xs : List (ℕ × ℕ)). length xs) (remove_here r rs s here))
  | inr later ↦ omega (arith, ap (λ (xs : List (ℕ × ℕ)). length xs) (remove_later r rs s later), removed_length rs s)
]

-- a length that is given to a run and the run that is given up
remove_given : (rs : List (ℕ × ℕ)) (s n : ℕ) → remove_entry (is_at (nat_cmp s)) (with_length rs s n) ≡ remove_entry (is_at (nat_cmp s)) rs
remove_given [] s n = refl
remove_given (r ∷ rs) s n = elim (cases_eq s r.0) [
  | inl here ↦
      ap (λ (xs : List (ℕ × ℕ)). remove_entry (is_at (nat_cmp s)) xs) (length_here r rs s n here)
      ∙ remove_here (r.0, n) rs s here ∙ sym (remove_here r rs s here)
  | inr later ↦
      ap (λ (xs : List (ℕ × ℕ)). remove_entry (is_at (nat_cmp s)) xs) (length_later r rs s n later)
      ∙ remove_later r (with_length rs s n) s later
      ∙ ap (λ (xs : List (ℕ × ℕ)). r ∷ xs) (remove_given rs s n)
      ∙ sym (remove_later r rs s later)
]

-- a run that is left no units is removed
pub shortened_whole : (rs : List (ℕ × ℕ)) (s a : ℕ) → s ≡ a → remove_entry (is_at (nat_cmp s)) rs ≡ settled (with_length rs s (a - s)) s a
shortened_whole rs s a at =
    sym (cond-true (s == a) (remove_entry (is_at (nat_cmp s)) (with_length rs s (a - s))) (with_length rs s (a - s)) (eq-eqb s a at)
    ∙ remove_given rs s (a - s))

-- and one that is left some stays
pub shortened_part : (rs : List (ℕ × ℕ)) (s a : ℕ) → (s ≡ a → ⊥) → with_length rs s (a - s) ≡ settled (with_length rs s (a - s)) s a
shortened_part rs s a part =
    sym (cond-false (s == a) (remove_entry (is_at (nat_cmp s)) (with_length rs s (a - s))) (with_length rs s (a - s)) (ne_eqb s a part))

-- what a run from s leaves once its first units were taken from `a` on
module _ (units : ℕ) (rs : List (ℕ × ℕ)) (s a : ℕ) (p : AreSpaced 0 units rs) (left : s ≡ a → is_empty_at rs s ≡ true) where
  gone : s ≡ a → settled rs s a ≡ remove_entry (is_at (nat_cmp s)) rs
  gone e = cond-true (s == a) (remove_entry (is_at (nat_cmp s)) rs) rs (eq-eqb s a e)

  stays : (s ≡ a → ⊥) → settled rs s a ≡ rs
  stays ne = cond-false (s == a) (remove_entry (is_at (nat_cmp s)) rs) rs (ne_eqb s a ne)

  pub settled_spaced : AreSpaced 0 units (settled rs s a)
  settled_spaced = elim (cases_eq s a) [
    | inl e ↦ subst (AreSpaced 0 units) (sym (gone e)) (removed_spaced 0 units rs s p (empty_stands 0 units rs s p (left e)))
    | inr ne ↦ subst (AreSpaced 0 units) (sym (stays ne)) p
  ]

  pub settled_in : (u : ℕ) → in_runs (settled rs s a) u ≡ in_runs rs u
  settled_in u = elim (cases_eq s a) [
    | inl e ↦ ap (λ (xs : List (ℕ × ℕ)). in_runs xs u) (gone e) ∙ removed_in 0 units rs s u p (empty_stands 0 units rs s p (left e))
    | inr ne ↦ ap (λ (xs : List (ℕ × ℕ)). in_runs xs u) (stays ne)
  ]

  pub settled_length : length (settled rs s a) ≤ length rs
  settled_length = elim (cases_eq s a) [
    | inl e ↦ omega (arith, ap (λ (xs : List (ℕ × ℕ)). length xs) (gone e), removed_length rs s)
    | inr ne ↦ omega (arith, ap (λ (xs : List (ℕ × ℕ)). length xs) (stays ne))
  ]

  -- the runs of no units are those from before the units were taken
  pub settled_empty : (before : ℕ → Bool) → before s ≡ false → ((q : ℕ) → is_empty_at rs q ≡ (before q || ((s == a) && (s == q)))) → (q : ℕ) → is_empty_at (settled rs s a) q ≡ before q
  settled_empty before had now q = elim (cases_eq s a) [
    | inl e ↦
        ap (λ (xs : List (ℕ × ℕ)). is_empty_at xs q) (gone e)
        ∙ removed_empty 0 units rs s q p (empty_stands 0 units rs s p (left e))
        ∙ ap (λ (t : Bool). t && not (s == q)) (now q)
        ∙ elim (cases_eq s q) [
          | inl at ↦ and_right (before q || ((s == a) && (s == q))) (not (s == q)) (ap not (eq-eqb s q at)) ∙ sym had ∙ ap before at
          | inr other ↦ rw (ne_eqb s q other) (unmixed (before q) (s == a))
        ]
    | inr ne ↦
        ap (λ (xs : List (ℕ × ℕ)). is_empty_at xs q) (stays ne)
        ∙ now q
        ∙ rw (ne_eqb s a ne) (or_none (before q))
  ]
    where
      unmixed : (x y : Bool) → ((x || (y && false)) && true) ≡ x
      unmixed true y = refl
      unmixed false true = refl
      unmixed false false = refl

      or_none : (x : Bool) → (x || false) ≡ x
      or_none true = refl
      or_none false = refl
