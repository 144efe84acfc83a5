-- Bytes of extents by their units.
use Rattle.std.proofs.Common.{◌≡◌, ℕ, zero, suc, ◌+◌, ◌-◌, ◌*◌, ◌/◌, ◌%◌, ◌<◌, List, [], ◌∷◌, ◌++◌, length, get_or, sym, ap, subst, ◌∙◌, inl, inr, arith}
use Rattle.std.specs.List.{range_with_len, All, Contains}
use Rattle.std.proofs.Math.Nat.{mul-add-div_right, mul-add-mod_self_right}
use Rattle.std.proofs.lemmas.Bool.{cases_lt, cases_order}
use Rattle.std.proofs.lemmas.Nat.{div-add-mod', div_below}
use Rattle.std.proofs.lemmas.List.{length-append, get_or_default, get_or_append_left, get_or-append-add}
use Rattle.std.proofs.lemmas.List.Elements.{All-head, All-tail}
use Rattle.std.proofs.lemmas.List.FromFn.{length-range_with_len, get_or-range_with_len}
use Rattle.fam_base.specs.declared.entry.Params.{Params}
use Rattle.fam_base.specs.declared.extents.Extent.{Extent}
use Rattle.fam_base.specs.ExtentLists.{no_extent}
use Rattle.fam_format.specs.EntryLaws.{IsInDevice}
use Rattle.fam_format.specs.Units.{units_in}
use Rattle.fam_rules.specs.Place.{total_length, simple_place, IsOnce}
use Rattle.fam_rules.proofs.SimplePlaces.{simple_here, simple_further, left_over}

-- Units that stand once.

-- where no unit stands twice, one unit has one place
pub once_same : (us : List ℕ) → IsOnce us → (i j : ℕ) → i < length us → j < length us → get_or us i 0 ≡ get_or us j 0 → i ≡ j
once_same us once i j a b same =
    elim (cases_order i j) [
      | inl equal ↦ equal
      | inr less ↦ elim less [ inl left ↦ absurd (once i j left b same) | inr right ↦ absurd (once j i right a (sym same)) ]
    ]

module _ (us vs : List ℕ) (once : IsOnce (us ++ vs)) where
  -- nor in the prefix
  pub once_left : IsOnce us
  once_left i j less below same =
      once i j less (omega (arith, length-append us vs)) (get_or_append_left us vs 0 i (omega arith) ∙ same ∙ sym (get_or_append_left us vs 0 j below))

  -- nor behind it
  pub once_right : IsOnce vs
  once_right i j less below same =
      once (length us + i) (length us + j) (omega arith) (omega (arith, length-append us vs)) (get_or-append-add us vs i 0 ∙ same ∙ sym (get_or-append-add us vs j 0))

  -- and no unit is in both
  pub once_apart : (u : ℕ) → Contains us u → Contains vs u → ⊥
  once_apart u (i, i_below, i_is) (j, j_below, j_is) =
      once i (length us + j) (omega arith) (omega (arith, length-append us vs))
      (get_or_append_left us vs 0 i i_below ∙ get_or_default us i 0 u i_below ∙ i_is
      ∙ sym (get_or-append-add us vs j 0 ∙ get_or_default vs j 0 u j_below ∙ j_is))

-- The bytes of units.

-- byte b of the device is byte o of these units laid end to end
pub record StandsIn (size : ℕ) (units : List ℕ) (o b : ℕ) : Type 0 where
  pub below : o / size < length units
  pub unit : get_or units (o / size) 0 ≡ b / size
  pub rest : b % size ≡ o % size

-- it stands there in more units
pub stands_left : (size : ℕ) (us vs : List ℕ) (o b : ℕ) → StandsIn size us o b → StandsIn size (us ++ vs) o b
stands_left size us vs o b h = record {
  below = omega (arith, h.below, length-append us vs);
  unit = get_or_append_left us vs 0 (o / size) h.below ∙ h.unit;
  rest = h.rest;
}

-- and behind others
pub stands_right : (size : ℕ) (us vs : List ℕ) (o b : ℕ) → 0 < size → StandsIn size vs o b → StandsIn size (us ++ vs) (length us * size + o) b
stands_right size us vs o b some h =
    let at : (length us * size + o) / size ≡ length us + o / size = mul-add-div_right some (length us) o in
    record {
      below = omega (arith, at, h.below, length-append us vs);
      unit = ap (λ (k : ℕ). get_or (us ++ vs) k 0) at ∙ get_or-append-add us vs (o / size) 0 ∙ h.unit;
      rest = h.rest ∙ sym (mul-add-mod_self_right (length us) size o);
    }

-- the unit of such a byte is one of them
pub stands_unit : (size : ℕ) (us : List ℕ) (o b : ℕ) → StandsIn size us o b → Contains us (b / size)
stands_unit size us o b h = (o / size, h.below, get_or_default us (o / size) (b / size) 0 h.below ∙ h.unit)

-- where no unit stands twice, a byte stands at one place
pub stands_once : (size : ℕ) (us : List ℕ) (a c b : ℕ) → IsOnce us → StandsIn size us a b → StandsIn size us c b → a ≡ c
stands_once size us a c b once first second =
    let units : a / size ≡ c / size = once_same us once (a / size) (c / size) first.below second.below (first.unit ∙ sym second.unit) in
    let products : a / size * size ≡ c / size * size = ap (λ (n : ℕ). n * size) units in
    omega (arith, products, first.rest, second.rest, div-add-mod' a size, div-add-mod' c size)

-- The bytes of extents.

-- whole units have no rest
whole : (n size : ℕ) → n % size ≡ 0 → n / size * size ≡ n
whole n size none = omega (arith, none, div-add-mod' n size)

-- a byte of an extent
stands_extent : (p : Params) (x : Extent) (o : ℕ) → 0 < p.unit → IsInDevice p x → o < x.length → StandsIn p.unit (range_with_len (x.offset / p.unit) (x.length / p.unit)) o (x.offset + o)
stands_extent p x o some inside below =
    let count : length (range_with_len (x.offset / p.unit) (x.length / p.unit)) ≡ x.length / p.unit = length-range_with_len (x.offset / p.unit) (x.length / p.unit) in
    let within : o / p.unit < x.length / p.unit = div_below o p.unit (x.length / p.unit) some (omega (arith, whole x.length p.unit inside.length)) in
    let offset : x.offset / p.unit * p.unit ≡ x.offset = whole x.offset p.unit inside.offset in
    record {
      below = omega (arith, count, within);
      unit = get_or-range_with_len (x.offset / p.unit) (x.length / p.unit) (o / p.unit) 0 within
          ∙ sym (mul-add-div_right some (x.offset / p.unit) o)
          ∙ ap (λ (n : ℕ). (n + o) / p.unit) offset;
      rest = sym (ap (λ (n : ℕ). (n + o) % p.unit) offset) ∙ mul-add-mod_self_right (x.offset / p.unit) p.unit o;
    }

-- a byte of the extents behind the first one
stands_behind : (p : Params) (x : Extent) (xs : List Extent) (o n b : ℕ) → 0 < p.unit → IsInDevice p x → x.length + o ≡ n
    → StandsIn p.unit (units_in p.unit xs) o b → StandsIn p.unit (units_in p.unit (x ∷ xs)) n b
stands_behind p x xs o n b some inside at h =
    let first : List ℕ = range_with_len (x.offset / p.unit) (x.length / p.unit) in
    let bytes : length first * p.unit ≡ x.length = ap (λ (k : ℕ). k * p.unit) (length-range_with_len (x.offset / p.unit) (x.length / p.unit)) ∙ whole x.length p.unit inside.length in
    subst (λ (k : ℕ). StandsIn p.unit (units_in p.unit (x ∷ xs)) k b) (ap (λ (k : ℕ). k + o) bytes ∙ at) (stands_right p.unit first (units_in p.unit xs) o b some h)

-- a byte of a simple map
pub simple_stands : (p : Params) (xs : List Extent) (o : ℕ) → 0 < p.unit → All (IsInDevice p) xs → o < total_length xs → StandsIn p.unit (units_in p.unit xs) o (simple_place xs o)
simple_stands p [] o some inside below = absurd (omega arith)
simple_stands p (x ∷ xs) o some inside below =
    let head : IsInDevice p x = All-head (IsInDevice p) x xs inside in
    elim (cases_lt o x.length) [
      | inl here ↦
          subst (StandsIn p.unit (units_in p.unit (x ∷ xs)) o) (sym (simple_here x xs o here))
          (stands_left p.unit (range_with_len (x.offset / p.unit) (x.length / p.unit)) (units_in p.unit xs) o (x.offset + o) (stands_extent p x o some head here))
      | inr past ↦
          subst (StandsIn p.unit (units_in p.unit (x ∷ xs)) o) (sym (simple_further x xs o past))
          (stands_behind p x xs (o - x.length) o _ some head (omega arith) (simple_stands p xs (o - x.length) some (All-tail (IsInDevice p) x xs inside) (left_over x xs o past below)))
    ]

-- a byte of a strip, where all strips have one length
pub strip_stands : (p : Params) (xs : List Extent) (strip s t : ℕ) → 0 < p.unit → All (IsInDevice p) xs → All (λ x. x.length ≡ strip) xs
    → s < length xs → t < strip → StandsIn p.unit (units_in p.unit xs) (s * strip + t) ((get_or xs s no_extent).offset + t)
strip_stands p [] strip s t some inside lengths below within = absurd (omega arith)
strip_stands p (x ∷ xs) strip zero t some inside lengths below within =
    let head : IsInDevice p x = All-head (IsInDevice p) x xs inside in
    let long : x.length ≡ strip = All-head (λ y. y.length ≡ strip) x xs lengths in
    subst (λ (k : ℕ). StandsIn p.unit (units_in p.unit (x ∷ xs)) k (x.offset + t)) (let e : t ≡ 0 * strip + t = omega arith in e)
    (stands_left p.unit (range_with_len (x.offset / p.unit) (x.length / p.unit)) (units_in p.unit xs) t (x.offset + t) (stands_extent p x t some head (omega (arith, long))))
strip_stands p (x ∷ xs) strip (suc s) t some inside lengths below within =
    let head : IsInDevice p x = All-head (IsInDevice p) x xs inside in
    let long : x.length ≡ strip = All-head (λ y. y.length ≡ strip) x xs lengths in
    stands_behind p x xs (s * strip + t) (suc s * strip + t) _ some head (omega (arith, long))
    (strip_stands p xs strip s t some (All-tail (IsInDevice p) x xs inside) (All-tail (λ y. y.length ≡ strip) x xs lengths) (omega arith) within)
