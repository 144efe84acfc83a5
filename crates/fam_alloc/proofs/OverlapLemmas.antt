-- Units of extents, and the first that overlaps.
use Rattle.std.proofs.Common.{◌≡◌, ℕ, zero, suc, Bool, true, false, ◌+◌, ◌-◌, ◌*◌, ◌/◌, ◌<◌, ◌≤◌, ◌==◌, ◌||◌, Option, Some, List, [], ◌∷◌, ◌++◌, length, take, drop, get_or, cond, refl, sym, ap, subst, ◌∙◌, inl, inr, arith}
use Rattle.std.specs.List.{range_with_len}
use Rattle.std.proofs.lemmas.Bool.{cases_lt, cases_eq, cond-true, cond-false, ne_eqb, eq-eqb, or_right}
use Rattle.std.proofs.lemmas.Bool.Decides.{nat_tests}
use Rattle.std.proofs.lemmas.List.Concat.{flat_map-append}
use Rattle.std.proofs.lemmas.List.{get_or_past, take_more, drop_more, append-nil, length-append}
use Rattle.std.proofs.lemmas.List.FromFn.{length-range_with_len}
use Rattle.std.proofs.Math.Nat.{mul-le-mul_left}
use Rattle.fam_base.specs.declared.extents.Extent.{Extent}
use Rattle.fam_base.specs.ExtentLists.{no_extent}
use Rattle.fam_format.specs.Units.{units_in, first_overlap}
use Rattle.fam_alloc.specs.Next.{is_between, IsNext}
use Rattle.fam_alloc.specs.Taken.{LieWithin, holds}

pub or_assoc : (x y z : Bool) → (x || (y || z)) ≡ ((x || y) || z)
or_assoc true y z = refl
or_assoc false y z = refl

pub or_false : (x : Bool) → x ≡ (x || false)
or_false true = refl
or_false false = refl

-- an extent of the list ends within the units
extent_ends : (unit units : ℕ) (extents : List Extent) (i : ℕ) → LieWithin unit units extents → (get_or extents i no_extent).offset + (get_or extents i no_extent).length ≤ units * unit
extent_ends unit units extents i h =
    elim (cases_lt i (length extents)) [
      | inl below ↦ h i no_extent below
      | inr past ↦ rw (get_or_past extents i no_extent past) (omega arith)
    ]

pub quotients : (o l unit units : ℕ) → 0 < unit → o + l ≤ units * unit → o / unit + l / unit ≤ units
quotients o l unit units some h =
    elim (cases_lt units (o / unit + l / unit)) [
      | inl past ↦ absurd (omega (arith, mul-le-mul_left unit (let p : units + 1 ≤ o / unit + l / unit = omega arith in p)))
      | inr within ↦ within
    ]

-- and so do its units
pub run_ends : (unit units : ℕ) (extents : List Extent) (i : ℕ) → 0 < unit → LieWithin unit units extents
    → (get_or extents i no_extent).offset / unit + (get_or extents i no_extent).length / unit ≤ units
run_ends unit units extents i some h = quotients _ _ unit units some (extent_ends unit units extents i h)

-- a unit of a run of units
pub holds-range : (a n u : ℕ) → holds (range_with_len a n) u ≡ is_between a (a + n) u
holds-range a zero u = grind (arith, nat_tests)
holds-range a (suc n) u = ap (λ (b : Bool). (a == u) || b) (holds-range (a + 1) n u) ∙ one_more a n u
  where
    one_more : (a n u : ℕ) → ((a == u) || is_between (a + 1) (a + 1 + n) u) ≡ is_between a (a + suc n) u
    one_more a n u = grind (arith, nat_tests)

pub holds-append : (us vs : List ℕ) (u : ℕ) → holds (us ++ vs) u ≡ (holds us u || holds vs u)
holds-append [] vs u = refl
holds-append (x ∷ us) vs u = ap (λ (b : Bool). (x == u) || b) (holds-append us vs u) ∙ or_assoc (x == u) (holds us u) (holds vs u)

-- the units of one extent
abbrev pub units_at : ℕ → List Extent → ℕ → List ℕ
units_at unit extents i =
    range_with_len ((get_or extents i no_extent).offset / unit) ((get_or extents i no_extent).length / unit)

-- one extent more
pub units_more : (unit : ℕ) (extents : List Extent) (i : ℕ) → i < length extents → units_in unit (take (i + 1) extents) ≡ units_in unit (take i extents) ++ units_at unit extents i
units_more unit extents i below =
    let f : Extent → List ℕ = λ x. range_with_len (x.offset / unit) (x.length / unit) in
    ap (units_in unit) (take_more extents i no_extent below)
    ∙ flat_map-append f (take i extents) (get_or extents i no_extent ∷ [])
    ∙ ap (λ (us : List ℕ). units_in unit (take i extents) ++ us) (append-nil (units_at unit extents i))

-- one extent less in what is left
pub units_rest : (unit : ℕ) (extents : List Extent) (i : ℕ) → i < length extents → units_in unit (drop i extents) ≡ units_at unit extents i ++ units_in unit (drop (i + 1) extents)
units_rest unit extents i below = ap (units_in unit) (drop_more extents i no_extent below)

-- the units of a run and of the extents before it
pub holds_more : (unit : ℕ) (extents : List Extent) (i start end : ℕ) → i < length extents → start ≡ (get_or extents i no_extent).offset / unit
    → end ≡ start + (get_or extents i no_extent).length / unit → (u : ℕ) → (holds (units_in unit (take i extents)) u || is_between start end u)
    ≡ holds (units_in unit (take (i + 1) extents)) u
holds_more unit extents i start end below s e u =
    let within : is_between start end u ≡ holds (units_at unit extents i) u = rw (e, s) (sym (holds-range _ _ u)) in
    ap (λ (b : Bool). holds (units_in unit (take i extents)) u || b) within
    ∙ sym (holds-append (units_in unit (take i extents)) (units_at unit extents i) u)
    ∙ ap (λ (us : List ℕ). holds us u) (sym (units_more unit extents i below))

-- tests that answer alike have one first overlap
pub overlap_same : (f g : ℕ → Bool) (us : List ℕ) → ((u : ℕ) → f u ≡ g u) → first_overlap f us ≡ first_overlap g us
overlap_same f g [] same = refl
overlap_same f g (u ∷ us) same =
    ap (λ (b : Bool). cond b (Some u) (first_overlap (λ v. (v == u) || f v) us)) (same u)
    ∙ ap (λ (o : Option ℕ). cond (g u) (Some u) o) (overlap_same (λ v. (v == u) || f v) (λ v. (v == u) || g v) us (λ v. ap (λ (b : Bool). (v == u) || b) (same v)))

-- the first unit of a run that is used is the overlap
pub overlap_found : (used : ℕ → Bool) (a n first : ℕ) (us : List ℕ) → IsNext used true a (a + n) first → first < a + n → Some first ≡ first_overlap used (range_with_len a n ++ us)
overlap_found used a zero first us h below = absurd (omega (arith, h.low))
overlap_found used a (suc n) first us h below =
    elim (cases_eq first a) [
      | inl at ↦
          let taken : used a ≡ true = ap used (sym at) ∙ h.here below in
          ap Some at ∙ sym (cond-true (used a) (Some a) (first_overlap (λ v. (v == a) || used v) (range_with_len (a + 1) n ++ us)) taken)
      | inr other ↦
          let clear : used a ≡ false = h.before a (omega arith) (omega (arith, h.low)) in
          overlap_found (λ v. (v == a) || used v) (a + 1) n first us (record {
            low = omega (arith, h.low);
            high = omega (arith, h.high);
            before = λ u above under. rw (ne_eqb u a (let e : u ≡ a → ⊥ = λ p. omega arith in e)) (h.before u (omega arith) under);
            here = λ q. rw (ne_eqb first a other) (h.here below);
          }) (omega arith)
          ∙ sym (cond-false (used a) (Some a) (first_overlap (λ v. (v == a) || used v) (range_with_len (a + 1) n ++ us)) clear)
    ]

-- one unit in front of others
pub turned : (x y : Bool) (v a : ℕ) → (((v == a) || x) || y) ≡ (x || ((a == v) || y))
turned x y v a = elim (cases_eq v a) [
  | inl e ↦ rw (eq-eqb v a e, eq-eqb a v (sym e)) (sym (or_right x (true || y) refl))
  | inr o ↦ rw (ne_eqb v a o, ne_eqb a v (λ e. o (sym e))) refl
]

-- a run that is all free is passed
pub overlap_passed : (used : ℕ → Bool) (a n : ℕ) (us : List ℕ) → ((u : ℕ) → a ≤ u → u < a + n → used u ≡ false)
    → first_overlap used (range_with_len a n ++ us) ≡ first_overlap (λ v. used v || holds (range_with_len a n) v) us
overlap_passed used a zero us free = overlap_same used (λ v. used v || false) us (λ v. or_false (used v))
overlap_passed used a (suc n) us free =
    cond-false (used a) (Some a) (first_overlap (λ v. (v == a) || used v) (range_with_len (a + 1) n ++ us)) (free a (omega arith) (omega arith))
    ∙ overlap_passed (λ v. (v == a) || used v) (a + 1) n us (λ u above below. rw (ne_eqb u a (let e : u ≡ a → ⊥ = λ p. omega arith in e)) (free u (omega arith) (omega arith)))
    ∙ overlap_same _ _ us (λ v. turned (used v) (holds (range_with_len (a + 1) n) v) v a)

-- the first unit of an extent that overlaps
pub found_at : (used : ℕ → Bool) (unit : ℕ) (extents : List Extent) (i start end first : ℕ) → i < length extents
    → start ≡ (get_or extents i no_extent).offset / unit → end ≡ start + (get_or extents i no_extent).length / unit → IsNext used true start end first
    → first < end → Some first ≡ first_overlap used (units_in unit (drop i extents))
found_at used unit extents i start end first below s e h taken =
    let n : ℕ = (get_or extents i no_extent).length / unit in
    let rest : List ℕ = units_in unit (drop (i + 1) extents) in
    overlap_found used start n first rest (subst (λ (k : ℕ). IsNext used true start k first) e h) (omega arith)
    ∙ ap (λ (k : ℕ). first_overlap used (range_with_len k n ++ rest)) s
    ∙ ap (first_overlap used) (sym (units_rest unit extents i below))

-- an extent that doesn't overlap is passed
pub passed_at : (used : ℕ → Bool) (unit : ℕ) (extents : List Extent) (i start end first : ℕ) → i < length extents
    → start ≡ (get_or extents i no_extent).offset / unit → end ≡ start + (get_or extents i no_extent).length / unit
    → IsNext (λ u. used u || holds (units_in unit (take i extents)) u) true start end first → end ≤ first
    → first_overlap (λ u. used u || holds (units_in unit (take (i + 1) extents)) u) (units_in unit (drop (i + 1) extents))
    ≡ first_overlap (λ u. used u || holds (units_in unit (take i extents)) u) (units_in unit (drop i extents))
passed_at used unit extents i start end first below s e h clear =
    let n : ℕ = (get_or extents i no_extent).length / unit in
    let a : ℕ = (get_or extents i no_extent).offset / unit in
    let rest : List ℕ = units_in unit (drop (i + 1) extents) in
    let prefix : ℕ → Bool = λ u. used u || holds (units_in unit (take i extents)) u in
    overlap_same (λ u. used u || holds (units_in unit (take (i + 1) extents)) u) (λ u. prefix u || holds (units_at unit extents i) u) rest
    (λ u. ap (λ (us : List ℕ). used u || holds us u) (units_more unit extents i below)
    ∙ ap (λ (b : Bool). used u || b) (holds-append (units_in unit (take i extents)) (units_at unit extents i) u)
    ∙ or_assoc (used u) (holds (units_in unit (take i extents)) u) (holds (units_at unit extents i) u))
    ∙ sym (overlap_passed prefix a n rest (λ u above under. h.before u (omega arith) (omega arith)))
    ∙ ap (first_overlap prefix) (sym (units_rest unit extents i below))

-- marks of one extent more
pub marked_more : (old : ℕ → Bool) (now : Bool) (unit : ℕ) (extents : List Extent) (i start end u : ℕ) → i < length extents
    → start ≡ (get_or extents i no_extent).offset / unit → end ≡ start + (get_or extents i no_extent).length / unit
    → now ≡ (old u || holds (units_in unit (take i extents)) u)
    → (now || is_between start end u) ≡ (old u || holds (units_in unit (take (i + 1) extents)) u)
marked_more old now unit extents i start end u below s e h =
    ap (λ (b : Bool). b || is_between start end u) h
    ∙ sym (or_assoc (old u) (holds (units_in unit (take i extents)) u) (is_between start end u))
    ∙ ap (λ (b : Bool). old u || b) (holds_more unit extents i start end below s e u)

-- the count of one extent more
pub count_more : (unit : ℕ) (extents : List Extent) (i start end count : ℕ) → i < length extents
    → end ≡ start + (get_or extents i no_extent).length / unit → count ≡ length (units_in unit (take i extents))
    → count + (end - start) ≡ length (units_in unit (take (i + 1) extents))
count_more unit extents i start end count below e h =
    let n : ℕ = (get_or extents i no_extent).length / unit in
    let a : ℕ = (get_or extents i no_extent).offset / unit in
    let more : length (units_in unit (take (i + 1) extents)) ≡ length (units_in unit (take i extents)) + length (units_at unit extents i) =
    ap (λ (us : List ℕ). length us) (units_more unit extents i below) ∙ length-append (units_in unit (take i extents))
    (units_at unit extents i) in
    omega (arith, length-range_with_len a n)
