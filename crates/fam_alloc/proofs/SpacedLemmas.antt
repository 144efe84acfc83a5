-- Runs in order with a gap between two of them: which units they hold.
use Rattle.std.proofs.Common.{◌≡◌, ℕ, Bool, true, false, not, min, max, ◌+◌, ◌-◌, ◌<◌, ◌≤◌, ◌||◌, ◌⊎◌, Option, Some, None, List, [], ◌∷◌, ltb, IsSome, is_some, is_le, is_gt, is_eq, nat_cmp, Less, Equal, Greater, refl, sym, ap, ◌∙◌, inl, inr, arith}
use Rattle.std.proofs.lemmas.Bool.{cases_eq, cases_lt, cond-true, cond-false, eq-eqb, ne_eqb, lt-ltb, le-ltb, or_left, or_right, or_from, or_parts, false≢true}
use Rattle.std.proofs.lemmas.Bool.Decides.{nat_tests}
use Rattle.std.proofs.lemmas.Option.{none-some, same_Some}
use Rattle.std.specs.BTreeMap.{is_at}
use Rattle.std.specs.List.{AllByRecursion}
use Rattle.fam_alloc.specs.Next.{is_between, IsNext}
use Rattle.fam_alloc.specs.Runs.{in_runs, outside, AreSpaced, IsInRun, run_from}

-- how two numbers compare
pub cmp_less : (a b : ℕ) → a < b → nat_cmp a b ≡ Less
cmp_less a b h = rw (lt-ltb a b h) refl

pub cmp_greater : (a b : ℕ) → b < a → nat_cmp a b ≡ Greater
cmp_greater a b h = rw (le-ltb a b (omega arith), ne_eqb a b (let e : a ≡ b → ⊥ = λ p. omega arith in e)) refl

pub cmp_equal : (a b : ℕ) → a ≡ b → nat_cmp a b ≡ Equal
cmp_equal a b h = rw (le-ltb a b (omega arith), eq-eqb a b h) refl

pub at_here : (s k : ℕ) → s ≡ k → is_at (nat_cmp s) k ≡ true
at_here s k h = ap is_eq (cmp_equal s k h)

pub at_other : (s k : ℕ) → (s ≡ k → ⊥) → is_at (nat_cmp s) k ≡ false
at_other s k h = elim (cases_lt s k) [
  | inl less ↦ ap is_eq (cmp_less s k less)
  | inr not_less ↦ ap is_eq (cmp_greater s k (omega arith))
]

pub not_above : (q u : ℕ) → q ≤ u → is_gt (nat_cmp q u) ≡ false
not_above q u h = elim (cases_lt q u) [
  | inl less ↦ ap is_gt (cmp_less q u less)
  | inr not_less ↦ ap is_gt (cmp_equal q u (omega arith))
]

pub not_below : (q u : ℕ) → q ≤ u → is_le (nat_cmp q u) ≡ true
not_below q u h = elim (cases_lt q u) [
  | inl less ↦ ap is_le (cmp_less q u less)
  | inr not_less ↦ ap is_le (cmp_equal q u (omega arith))
]

-- a unit before, in and behind a run
pub before_run : (a b u : ℕ) → u < a → is_between a b u ≡ false
before_run a b u h = grind (arith, nat_tests)

pub behind_run : (a b u : ℕ) → b ≤ u → is_between a b u ≡ false
behind_run a b u h = grind (arith, nat_tests)

pub within_run : (a b u : ℕ) → a ≤ u → u < b → is_between a b u ≡ true
within_run a b u low high = grind (arith, nat_tests)

-- the runs may start lower
pub spaced_lower : (low lower units : ℕ) (rs : List (ℕ × ℕ)) → lower ≤ low → AreSpaced low units rs → AreSpaced lower units rs
spaced_lower low lower units [] h s = tt
spaced_lower low lower units (r ∷ rs) h s = (omega (arith, s.0), s.1, s.2)

-- and the device may have more units
pub spaced_wider : (low units more : ℕ) (rs : List (ℕ × ℕ)) → units ≤ more → AreSpaced low units rs → AreSpaced low more rs
spaced_wider low units more [] h s = tt
spaced_wider low units more (r ∷ rs) h s = (s.0, omega (arith, s.1), spaced_wider (r.0 + r.1 + 1) units more rs h s.2)

-- no run holds a unit below the first
pub clear_below : (low units : ℕ) (rs : List (ℕ × ℕ)) (u : ℕ) → AreSpaced low units rs → u < low → in_runs rs u ≡ false
clear_below low units [] u s h = refl
clear_below low units (r ∷ rs) u s h =
    or_from (is_between r.0 (r.0 + r.1) u) (in_runs rs u)
    (before_run r.0 (r.0 + r.1) u (omega (arith, s.0)))
    (clear_below (r.0 + r.1 + 1) units rs u s.2 (omega (arith, s.0)))

-- nor one past the end
pub clear_past : (low units : ℕ) (rs : List (ℕ × ℕ)) (u : ℕ) → AreSpaced low units rs → units ≤ u → in_runs rs u ≡ false
clear_past low units [] u s h = refl
clear_past low units (r ∷ rs) u s h =
    or_from (is_between r.0 (r.0 + r.1) u) (in_runs rs u)
    (behind_run r.0 (r.0 + r.1) u (omega (arith, s.1)))
    (clear_past (r.0 + r.1 + 1) units rs u s.2 h)

-- the run at the front, and one behind it
pub run_here : (r : ℕ × ℕ) (rs : List (ℕ × ℕ)) (s : ℕ) → s ≡ r.0 → run_from (r ∷ rs) s ≡ Some r.1
run_here r rs s at = cond-true (is_at (nat_cmp s) r.0) (Some r.1) (run_from rs s) (at_here s r.0 at)

pub run_later : (r : ℕ × ℕ) (rs : List (ℕ × ℕ)) (s : ℕ) → (s ≡ r.0 → ⊥) → run_from (r ∷ rs) s ≡ run_from rs s
run_later r rs s other = cond-false (is_at (nat_cmp s) r.0) (Some r.1) (run_from rs s) (at_other s r.0 other)

-- where a run of the list starts and ends
pub run_bounds : (low units : ℕ) (rs : List (ℕ × ℕ)) (s n : ℕ) → AreSpaced low units rs → run_from rs s ≡ Some n → (low ≤ s) × (s + n ≤ units)
run_bounds low units [] s n p h = absurd (none-some n h)
run_bounds low units (r ∷ rs) s n p h = elim (cases_eq s r.0) [
  | inl at ↦
      let same : r.1 ≡ n = same_Some r.1 n (sym (run_here r rs s at) ∙ h) in
      (omega (arith, p.0), omega (arith, p.1))
  | inr other ↦
      let later = run_bounds (r.0 + r.1 + 1) units rs s n p.2 (sym (run_later r rs s other) ∙ h) in
      (omega (arith, p.0, later.0), later.1)
]

-- it is the first, or stands behind it
pub place : (low units : ℕ) (r : ℕ × ℕ) (rs : List (ℕ × ℕ)) (s n : ℕ) → AreSpaced low units (r ∷ rs) → run_from (r ∷ rs) s ≡ Some n
    → ((s ≡ r.0) × (r.1 ≡ n)) ⊎ ((r.0 + r.1 < s) × (run_from rs s ≡ Some n))
place low units r rs s n p h = elim (cases_eq s r.0) [
  | inl at ↦ inl (at, same_Some r.1 n (sym (run_here r rs s at) ∙ h))
  | inr other ↦
      let later : run_from rs s ≡ Some n = sym (run_later r rs s other) ∙ h in
      inr (omega (arith, (run_bounds (r.0 + r.1 + 1) units rs s n p.2 later).0), later)
]

-- a unit of a run of the list
pub in_run : (low units : ℕ) (rs : List (ℕ × ℕ)) (s n u : ℕ) → AreSpaced low units rs → run_from rs s ≡ Some n → s ≤ u → u < s + n → in_runs rs u ≡ true
in_run low units [] s n u p h from to = absurd (none-some n h)
in_run low units (r ∷ rs) s n u p h from to = elim (place low units r rs s n p h) [
  | inl here ↦ or_left (is_between r.0 (r.0 + r.1) u) (in_runs rs u) (within_run r.0 (r.0 + r.1) u (omega (arith, here.0)) (omega (arith, here.0, here.1)))
  | inr later ↦ or_right (is_between r.0 (r.0 + r.1) u) (in_runs rs u) (in_run (r.0 + r.1 + 1) units rs s n u p.2 later.1 from to)
]

-- the unit behind it stands in none
pub clear_behind : (low units : ℕ) (rs : List (ℕ × ℕ)) (s n : ℕ) → AreSpaced low units rs → run_from rs s ≡ Some n → in_runs rs (s + n) ≡ false
clear_behind low units [] s n p h = absurd (none-some n h)
clear_behind low units (r ∷ rs) s n p h = elim (place low units r rs s n p h) [
  | inl here ↦
      or_from (is_between r.0 (r.0 + r.1) (s + n)) (in_runs rs (s + n))
      (behind_run r.0 (r.0 + r.1) (s + n) (omega (arith, here.0, here.1)))
      (clear_below (r.0 + r.1 + 1) units rs (s + n) p.2 (omega (arith, here.0, here.1)))
  | inr later ↦
      or_from (is_between r.0 (r.0 + r.1) (s + n)) (in_runs rs (s + n))
      (behind_run r.0 (r.0 + r.1) (s + n) (omega (arith, later.0)))
      (clear_behind (r.0 + r.1 + 1) units rs s n p.2 later.1)
]

-- where no run starts at u or below it, none holds it
pub none_upto : (low units : ℕ) (rs : List (ℕ × ℕ)) (u : ℕ) → AreSpaced low units rs → ((q : ℕ) → q ≤ u → IsSome (run_from rs q) → ⊥) → in_runs rs u ≡ false
none_upto low units [] u p none = refl
none_upto low units (r ∷ rs) u p none = elim (cases_lt u r.0) [
  | inl below ↦ clear_below r.0 units (r ∷ rs) u (omega arith, p.1, p.2) below
  | inr above ↦ absurd (none r.0 above (ap is_some (run_here r rs r.0 refl)))
]

-- what an option that has a value has
some_of : (o : Option ℕ) → IsSome o → (m : ℕ) × (o ≡ Some m)
some_of None h = absurd (false≢true h)
some_of (Some m) h = (m, refl)

-- and one that has none
pub no_run : (rs : List (ℕ × ℕ)) (q : ℕ) → run_from rs q ≡ None → IsSome (run_from rs q) → ⊥
no_run rs q none some = false≢true (sym (ap is_some none) ∙ some)

-- a run of the rest starts above the end of the first
above_end : (end units : ℕ) (rs : List (ℕ × ℕ)) (q : ℕ) → AreSpaced (end + 1) units rs → IsSome (run_from rs q) → end < q
above_end end units rs q p some =
    let m = some_of (run_from rs q) some in
    omega (arith, (run_bounds (end + 1) units rs q m.0 p m.1).0)

-- and so it is a run of the whole
of_rest : (units : ℕ) (r : ℕ × ℕ) (rs : List (ℕ × ℕ)) (q : ℕ) → AreSpaced (r.0 + r.1 + 1) units rs → IsSome (run_from rs q) → IsSome (run_from (r ∷ rs) q)
of_rest units r rs q p some =
    ap is_some (run_later r rs q (λ e. omega (arith, above_end (r.0 + r.1) units rs q p some))) ∙ some

-- the last run that starts at u or below it is the one that holds u, if any does
pub last_holds : (low units : ℕ) (rs : List (ℕ × ℕ)) (u s n : ℕ) → AreSpaced low units rs → run_from rs s ≡ Some n → s ≤ u
    → ((q : ℕ) → q ≤ u → IsSome (run_from rs q) → q ≤ s) → in_runs rs u ≡ ltb u (s + n)
last_holds low units [] u s n p h from last = absurd (none-some n h)
last_holds low units (r ∷ rs) u s n p h from last = elim (place low units r rs s n p h) [
  | inl here ↦ elim (cases_lt u (s + n)) [
    | inl inside ↦ in_run low units (r ∷ rs) s n u p h from inside ∙ sym (lt-ltb u (s + n) inside)
    | inr behind ↦
        or_from (is_between r.0 (r.0 + r.1) u) (in_runs rs u)
        (behind_run r.0 (r.0 + r.1) u (omega (arith, here.0, here.1)))
        (none_upto (r.0 + r.1 + 1) units rs u p.2
        (λ q below some. omega (arith, here.0, above_end (r.0 + r.1) units rs q p.2 some, last q below (of_rest units r rs q p.2 some))))
        ∙ sym (le-ltb u (s + n) behind)
  ]
  | inr later ↦
      ap (λ (b : Bool). b || in_runs rs u) (behind_run r.0 (r.0 + r.1) u (omega (arith, later.0)))
      ∙ last_holds (r.0 + r.1 + 1) units rs u s n p.2 later.1 from (λ q below some. last q below (of_rest units r rs q p.2 some))
]

-- no run that starts below another reaches it
pub ends_below : (low units : ℕ) (rs : List (ℕ × ℕ)) (s n : ℕ) → AreSpaced low units rs → run_from rs s ≡ Some n → AllByRecursion (λ r. r.0 < s → r.0 + r.1 ≤ s) rs
ends_below low units [] s n p h = tt
ends_below low units (r ∷ rs) s n p h = elim (place low units r rs s n p h) [
  | inl here ↦ ((λ below. absurd (omega (arith, here.0))), none_below s (r.0 + r.1 + 1) units rs p.2 (omega (arith, here.0)))
  | inr later ↦ ((λ below. omega (arith, later.0)), ends_below (r.0 + r.1 + 1) units rs s n p.2 later.1)
]
  where
    none_below : (s low units : ℕ) (rs : List (ℕ × ℕ)) → AreSpaced low units rs → s ≤ low → AllByRecursion (λ r. r.0 < s → r.0 + r.1 ≤ s) rs
    none_below s low units [] p h = tt
    none_below s low units (r ∷ rs) p h = ((λ below. absurd (omega (arith, p.0))), none_below s (r.0 + r.1 + 1) units rs p.2 (omega (arith, p.0)))

-- nor does one of a list that holds no unit up to s
pub ends_upto : (rs : List (ℕ × ℕ)) (s : ℕ) → ((u : ℕ) → u ≤ s → in_runs rs u ≡ false) → AllByRecursion (λ r. r.0 < s → r.0 + r.1 ≤ s) rs
ends_upto [] s none = tt
ends_upto (r ∷ rs) s none = (
  λ below. elim (cases_lt r.0 (r.0 + r.1)) [
    | inl some ↦ absurd (false≢true (sym (or_parts (is_between r.0 (r.0 + r.1) r.0) (in_runs rs r.0) (none r.0 (omega arith))).0 ∙ within_run r.0 (r.0 + r.1) r.0 (omega arith) some))
    | inr empty ↦ omega arith
  ],
  ends_upto rs s (λ u high. (or_parts (is_between r.0 (r.0 + r.1) u) (in_runs rs u) (none u high)).1),
)

-- and what ends up to s ends up to a higher unit
pub ends_wider : (rs : List (ℕ × ℕ)) (s u : ℕ) → s ≤ u → AllByRecursion (λ r. r.0 < s → r.0 + r.1 ≤ s) rs → AllByRecursion (λ r. r.0 < s → r.0 + r.1 ≤ u) rs
ends_wider [] s u h all = tt
ends_wider (r ∷ rs) s u h all = ((λ below. omega (arith, all.0 below)), ends_wider rs s u h all.1)

-- from a unit on, the first that stands in no run: behind the run that holds the unit
pub next_held : (units : ℕ) (rs : List (ℕ × ℕ)) (from to start end next : ℕ) → AreSpaced 0 units rs → IsInRun rs from start end → from ≤ to
    → next ≡ min (max end from) to → IsNext (outside rs) true from to next
next_held units rs from to start end next p held order e = record {
  low = omega arith;
  high = omega arith;
  before = λ u above below. ap not (in_run 0 units rs start (end - start) u p held.stands (omega (arith, held.low)) (omega (arith, held.order)));
  here = λ more. elim (cases_lt from end) [
    | inl inside ↦
        let at : next ≡ start + (end - start) = omega (arith, held.order) in
        ap (outside rs) at ∙ ap not (clear_behind 0 units rs start (end - start) p held.stands)
    | inr past ↦
        let at : next ≡ from = omega arith in
        ap (outside rs) at ∙ ap not (held.here ∙ le-ltb from end past)
  ];
}

-- or the unit itself, where no run starts at it or below
pub next_none : (rs : List (ℕ × ℕ)) (from to : ℕ) → ((v : ℕ) → v ≤ from → in_runs rs v ≡ false) → from ≤ to → IsNext (outside rs) true from to from
next_none rs from to none order = record {
  low = omega arith;
  high = order;
  before = λ u above below. absurd (omega arith);
  here = λ more. ap not (none from (omega arith));
}
