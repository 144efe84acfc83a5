-- What calls on a bitmap or on free runs say of the list of used units.
use Rattle.std.proofs.Common.{◌≡◌, ℕ, Bool, true, false, ◌+◌, ◌<◌, ◌≤◌, ◌&&◌, ◌||◌, Option, None, List, length, ltb, replicate, refl, sym, ap, subst, ◌∙◌, inl, inr, arith}
use Rattle.std.proofs.lemmas.Bool.{cases_lt, le-ltb, le-leb}
use Rattle.fam_base.specs.declared.extents.Extent.{Extent}
use Rattle.fam_format.specs.Units.{units_in, first_overlap}
use Rattle.fam_rules.specs.Room.{room, strips}
use Rattle.fam_rules.proofs.RoomSame.{room_same, strips_same}
use Rattle.fam_alloc.specs.Next.{is_bit_set, is_between, IsNext}
use Rattle.fam_alloc.specs.Taken.{is_taken, taken_units, holds, LieWithin, units_by}
use Rattle.fam_alloc.proofs.MapLemmas.{length-units_by, taken_below, taken_past, passing, passing_same, passing_le, passing_first, passing_more, zeros_free, units_below, units_past, overlap_same_on}

-- the units of the device
pub units_of_view : (f : ℕ → Bool) (units : ℕ) (map : List Bool) → units_by f units ≡ map → units ≡ length map
units_of_view f units map e = sym (length-units_by f units) ∙ ap (λ (bs : List Bool). length bs) e

-- the test below their number
pub taken_of_view : (f : ℕ → Bool) (units : ℕ) (map : List Bool) → units_by f units ≡ map → (u : ℕ) → u < units → f u ≡ is_taken map u
taken_of_view f units map e u below = sym (taken_below f units u below) ∙ ap (λ (bs : List Bool). is_taken bs u) e

counted : (f : ℕ → Bool) (units : ℕ) → taken_units (units_by f units) ≡ passing f units
unfolding units_by
counted f units = refl

-- no more are used than there are
pub counted_le : (f : ℕ → Bool) (units : ℕ) → taken_units (units_by f units) ≤ units
counted_le f units = omega (arith, counted f units, passing_le f units)

-- the next unit that is used
pub next_of_view : (f : ℕ → Bool) (units from to next : ℕ) (map : List Bool) → units_by f units ≡ map → to ≤ length map → IsNext f true from to next → IsNext (is_taken map) true from to next
next_of_view f units from to next map e within n =
    let all : units ≡ length map = units_of_view f units map e in
    record {
      low = n.low;
      high = n.high;
      before = λ u above below. sym (taken_of_view f units map e u (omega (arith, n.high))) ∙ n.before u above below;
      here = λ h. sym (taken_of_view f units map e next (omega arith)) ∙ n.here h;
    }

-- room in the list is room by the test
pub room_of_view : (f : ℕ → Bool) (units k : ℕ) (map : List Bool) (found : Option ℕ) → units_by f units ≡ map → found ≡ room f 0 units k → found ≡ room (is_taken map) 0 (length map) k
room_of_view f units k map found e h =
    h ∙ room_same f (is_taken map) 0 units k (taken_of_view f units map e)
    ∙ ap (λ (n : ℕ). room (is_taken map) 0 n k) (units_of_view f units map e)

-- and so are strips
pub strips_of_view : (f : ℕ → Bool) (units k n buckets seq : ℕ) (map : List Bool) (found : Option (List ℕ)) → units_by f units ≡ map
    → found ≡ strips f units k n buckets seq → found ≡ strips (is_taken map) (length map) k n buckets seq
strips_of_view f units k n buckets seq map found e h =
    h ∙ strips_same f (is_taken map) units k n buckets seq (taken_of_view f units map e)
    ∙ ap (λ (m : ℕ). strips (is_taken map) m k n buckets seq) (units_of_view f units map e)

-- zeros with the first units marked
pub first_marked : (words zeros : List ℕ) (n used : ℕ) → zeros ≡ replicate n 0
    → ((u : ℕ) → is_bit_set words u ≡ (is_bit_set zeros u || is_between 0 used u)) → (u : ℕ) → is_bit_set words u ≡ ltb u used
first_marked words zeros n used z marked u =
    marked u ∙ ap (λ (b : Bool). b || is_between 0 used u) (ap (λ (ws : List ℕ). is_bit_set ws u) z ∙ zeros_free n u)
    ∙ ap (λ (b : Bool). b && ltb u used) (le-leb 0 u (omega arith))

-- a new map: the first units are used
module _ (f : ℕ → Bool) (units used : ℕ) (within : used ≤ units) (first : (u : ℕ) → u < units → f u ≡ ltb u used) where
  pub new_taken : (u : ℕ) → is_taken (units_by f units) u ≡ ltb u used
  new_taken u = elim (cases_lt u units) [
    | inl below ↦ taken_below f units u below ∙ first u below
    | inr past ↦ taken_past f units u past ∙ sym (le-ltb u used (omega arith))
  ]

  pub new_counted : used ≡ taken_units (units_by f units)
  new_counted =
      let all : passing (λ u. ltb u used) units ≡ used = passing_first used units ∙ (omega arith) in
      sym all ∙ passing_same (λ u. ltb u used) f units (λ u below. sym (first u below)) ∙ sym (counted f units)

-- extents that lie within the device
module _ (f : ℕ → Bool) (units unit : ℕ) (map : List Bool) (extents : List Extent) (view : units_by f units ≡ map) (some : 0 < unit) (within : LieWithin unit (length map) extents) where
  pub lie_within : LieWithin unit units extents
  lie_within = subst (λ (n : ℕ). LieWithin unit n extents) (sym (units_of_view f units map view)) within

  -- the first overlap in the list is the one by the test
  pub overlap_of_view : first_overlap (is_taken map) (units_in unit extents) ≡ first_overlap f (units_in unit extents)
  overlap_of_view = overlap_same_on (is_taken map) f (units_in unit extents)
      (λ u h. sym (taken_of_view f units map view u (units_below unit units extents some lie_within u h)))

  -- once the extents' units are used the list has them too
  pub taken_more : (g : ℕ → Bool) → ((u : ℕ) → g u ≡ (f u || holds (units_in unit extents) u)) → (u : ℕ) → is_taken (units_by g units) u ≡ (is_taken map u || holds (units_in unit extents) u)
  taken_more g more u = elim (cases_lt u units) [
    | inl below ↦ taken_below g units u below ∙ more u ∙ ap (λ (b : Bool). b || holds (units_in unit extents) u) (taken_of_view f units map view u below)
    | inr past ↦
        let old : is_taken map u ≡ false = ap (λ (bs : List Bool). is_taken bs u) (sym view) ∙ taken_past f units u past in
        let out : holds (units_in unit extents) u ≡ false = units_past unit units extents some lie_within u past in
        rw (taken_past g units u past, old, out) refl
  ]

  -- and as many more are used as the extents have
  pub counted_more : (g : ℕ → Bool) (used count : ℕ) → used ≡ taken_units (units_by f units) → first_overlap f (units_in unit extents) ≡ None
      → count ≡ length (units_in unit extents) → ((u : ℕ) → g u ≡ (f u || holds (units_in unit extents) u))
      → used + count ≡ taken_units (units_by g units)
  counted_more g used count had clear n more =
      let all : passing g units ≡ passing f units + length (units_in unit extents) =
      passing_same g (λ u. f u || holds (units_in unit extents) u) units (λ u below. more u)
      ∙ passing_more f (units_in unit extents) units clear (units_below unit units extents some lie_within) in
      omega (arith, had, n, all, counted f units, counted g units)
