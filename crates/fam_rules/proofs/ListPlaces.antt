-- The places of the bytes of a list of files.
use Rattle.std.proofs.Common.{◌≡◌, ℕ, zero, suc, ◌-◌, ◌/◌, ◌<◌, ◌≤◌, List, [], ◌∷◌, ◌++◌, length, get_or, take, refl, sym, ap, subst, ◌∙◌, inl, inr, arith}
use Rattle.std.specs.List.{All, Contains}
use Rattle.std.proofs.Math.Seq.{take-suc}
use Rattle.std.proofs.lemmas.Bool.{cases_lt, false≢true}
use Rattle.std.proofs.lemmas.Option.{slice_get-get_or, slice_get_cases}
use Rattle.std.proofs.lemmas.List.{length-append, get_or_append_left, get_or-append_right, take_all, append-nil}
use Rattle.std.proofs.lemmas.List.Concat.{flat_map-append}
use Rattle.std.proofs.lemmas.List.Elements.{All-head, All-tail, Contains-append_left, Contains-append_right, Contains-get_or}
use Rattle.fam_base.specs.declared.entry.Params.{Params}
use Rattle.fam_base.specs.declared.entry.Entry.{Entry}
use Rattle.fam_format.specs.Params.{SoundParams}
use Rattle.fam_format.specs.Slot.{Proper}
use Rattle.fam_format.specs.Units.{units_in, list_units}
use Rattle.fam_format.specs.Reading.{Lines, Sound, reading_of}
use Rattle.fam_format.specs.ReadingLaws.{HasWords, Holds, IsSlot}
use Rattle.fam_format.proofs.ReadingLawsProofs.{sound_holds}
use Rattle.fam_format.proofs.OverlapLaws.{tested_used}
use Rattle.fam_rules.specs.Place.{place, IsOnce, StandsAt, AreApart, IsFreeAfter, IsLaidOut}
use Rattle.fam_rules.proofs.UnitPlaces.{once_left, once_right, once_apart}
use Rattle.fam_rules.proofs.FilePlaces.{place_once, place_unit}

-- Two bytes of files.

-- a byte of the first file
at_first : (x : Entry) (xs : List Entry) (o b : ℕ) → StandsAt (x ∷ xs) 0 o b → (o < x.size) × (place x o ≡ b)
at_first x xs o b h =
    let is : h.entry ≡ x = let at = h.at in cc in
    (subst (λ (e : Entry). o < e.size) is h.below, sym (ap (λ (e : Entry). place e o) is) ∙ h.place)

-- a byte of a file behind the first one
at_rest : (x : Entry) (xs : List Entry) (i o b : ℕ) → StandsAt (x ∷ xs) (suc i) o b → StandsAt xs i o b
at_rest x xs i o b h = record { entry = h.entry; at = h.at; below = h.below; place = h.place }

-- the unit of a byte of the first file is one of its units
first_unit : (p : Params) (x : Entry) (xs : List Entry) (o b : ℕ) → SoundParams p → Proper p x → StandsAt (x ∷ xs) 0 o b → Contains (units_in p.unit x.extents) (b / p.unit)
first_unit p x xs o b sound proper h =
    let first = at_first x xs o b h in
    subst (λ (n : ℕ). Contains (units_in p.unit x.extents) (n / p.unit)) first.1 (place_unit p x o sound proper first.0)

-- and that of any file's byte is one of the list's
list_unit : (p : Params) (list : List Entry) (i o b : ℕ) → SoundParams p → All (Proper p) list → StandsAt list i o b → Contains (list_units p.unit list) (b / p.unit)
list_unit p [] i o b sound proper h = absurd (let none = h.at in cc)
list_unit p (x ∷ xs) zero o b sound proper h =
    Contains-append_left (units_in p.unit x.extents) (list_units p.unit xs) (b / p.unit)
    (first_unit p x xs o b sound (All-head (Proper p) x xs proper) h)
list_unit p (x ∷ xs) (suc i) o b sound proper h =
    Contains-append_right (units_in p.unit x.extents) (list_units p.unit xs) (b / p.unit)
    (list_unit p xs i o b sound (All-tail (Proper p) x xs proper) (at_rest x xs i o b h))

-- no byte of the first file is one of the files behind it
no_two : (p : Params) (x : Entry) (xs : List Entry) (j o q b : ℕ) → SoundParams p → All (Proper p) (x ∷ xs) → IsOnce (list_units p.unit (x ∷ xs))
    → StandsAt (x ∷ xs) 0 o b → StandsAt (x ∷ xs) (suc j) q b → ⊥
no_two p x xs j o q b sound proper once first second =
    once_apart (units_in p.unit x.extents) (list_units p.unit xs) once (b / p.unit)
    (first_unit p x xs o b sound (All-head (Proper p) x xs proper) first)
    (list_unit p xs j q b sound (All-tail (Proper p) x xs proper) (at_rest x xs j q b second))

-- by the places of both files in the list
bytes_by : (p : Params) (list : List Entry) (i j o q b : ℕ) → SoundParams p → All (Proper p) list → IsOnce (list_units p.unit list) → StandsAt list i o b → StandsAt list j q b → (i ≡ j) × (o ≡ q)
bytes_by p [] i j o q b sound proper once first second = absurd (let none = first.at in cc)
bytes_by p (x ∷ xs) zero zero o q b sound proper once first second =
    let one = at_first x xs o b first in
    let two = at_first x xs q b second in
    (refl, place_once p x o q sound (All-head (Proper p) x xs proper) (once_left (units_in p.unit x.extents) (list_units p.unit xs) once) one.0 two.0 (one.1 ∙ sym two.1))
bytes_by p (x ∷ xs) zero (suc j) o q b sound proper once first second = absurd (no_two p x xs j o q b sound proper once first second)
bytes_by p (x ∷ xs) (suc i) zero o q b sound proper once first second = absurd (no_two p x xs i q o b sound proper once second first)
bytes_by p (x ∷ xs) (suc i) (suc j) o q b sound proper once first second =
    let rest = bytes_by p xs i j o q b sound (All-tail (Proper p) x xs proper) (once_right (units_in p.unit x.extents) (list_units p.unit xs) once)
    (at_rest x xs i o b first) (at_rest x xs j q b second) in
    (ap (λ (n : ℕ). suc n) rest.0, rest.1)

-- where no unit stands in two extents, a byte of the device is one byte of one file
pub bytes_apart : (p : Params) (list : List Entry) (i j o q b : ℕ) → SoundParams p → AreApart p list → StandsAt list i o b → StandsAt list j q b → (i ≡ j) × (o ≡ q)
bytes_apart p list i j o q b sound apart first second = bytes_by p list i j o q b sound apart.proper apart.once first second

-- Lists of entries that join one another.

-- units that stand once, and others, with none in both, stand once
module _ (us vs : List ℕ) (left : IsOnce us) (right : IsOnce vs) (apart : (k : ℕ) → k < length vs → Contains us (get_or vs k 0) → ⊥) where
  -- a unit of the first is none of the others
  across : (i k : ℕ) → i < length us → k < length vs → get_or us i 0 ≡ get_or vs k 0 → ⊥
  across i k i_below k_below same = apart k k_below (subst (Contains us) same (Contains-get_or us i 0 i_below))

  -- so no unit stands twice in both
  pub once_append : IsOnce (us ++ vs)
  once_append i j less below same =
      let total = length-append us vs in
      elim (cases_lt j (length us)) [
        | inl inner ↦
            let i_in : i < length us = omega arith in
            left i j less inner (sym (get_or_append_left us vs 0 i i_in) ∙ same ∙ get_or_append_left us vs 0 j inner)
        | inr outer ↦
            let at_j : get_or (us ++ vs) j 0 ≡ get_or vs (j - length us) 0 = get_or-append_right us vs (length us) j 0 refl outer in
            let j_below : j - length us < length vs = omega arith in
            elim (cases_lt i (length us)) [
              | inl inner ↦ across i (j - length us) inner j_below (sym (get_or_append_left us vs 0 i inner) ∙ same ∙ at_j)
              | inr past ↦ right (i - length us) (j - length us) (omega arith) j_below (sym (get_or-append_right us vs (length us) i 0 refl past) ∙ same ∙ at_j)
            ]
      ]

-- free units are none of the list's
free_apart : (p : Params) (before : List Entry) (e : Entry) → IsFreeAfter p before e → (k : ℕ) → k < length (units_in p.unit e.extents)
    → Contains (list_units p.unit before) (get_or (units_in p.unit e.extents) k 0) → ⊥
free_apart p before e h k below among =
    false≢true (sym (h.units.free k below) ∙ tested_used p before (get_or (units_in p.unit e.extents) k 0) (inr among))

-- one entry more
units_more : (p : Params) (list : List Entry) (n : ℕ) (x : Entry) → n < length list → get_or list n x ≡ x
    → list_units p.unit (take n list) ++ units_in p.unit x.extents ≡ list_units p.unit (take (suc n) list)
units_more p list n x below is =
    let prefix : take (suc n) list ≡ take n list ++ x ∷ [] = take-suc list n x below ∙ ap (λ (e : Entry). take n list ++ e ∷ []) is in
    sym (ap (λ (es : List Entry). list_units p.unit es) prefix
    ∙ flat_map-append (λ (e : Entry). units_in p.unit e.extents) (take n list) (x ∷ [])
    ∙ ap (λ (us : List ℕ). list_units p.unit (take n list) ++ us) (append-nil (units_in p.unit x.extents)))

-- in the first n entries no unit stands twice
once_prefix : (p : Params) (list : List Entry) → IsLaidOut p list → (n : ℕ) → n ≤ length list → IsOnce (list_units p.unit (take n list))
once_prefix p list laid zero within = λ i j less below same. absurd (omega arith)
once_prefix p list laid (suc n) within =
    elim (slice_get_cases list n).1 [
      | inl (x, below, at, is) ↦
          let free : IsFreeAfter p (take n list) x = laid n x at in
          subst IsOnce (units_more p list n x below is)
          (once_append (list_units p.unit (take n list)) (units_in p.unit x.extents) (once_prefix p list laid n (omega arith)) free.units.once (free_apart p (take n list) x free))
      | inr (past, none) ↦ absurd (omega arith)
    ]

-- entries that are laid out one behind the other are apart
pub laid_apart : (p : Params) (list : List Entry) → IsLaidOut p list → AreApart p list
laid_apart p list laid = record {
  proper = λ k d below. (laid k (get_or list k d) (slice_get-get_or list k d below)).proper;
  once = subst (λ (es : List Entry). IsOnce (list_units p.unit es)) (take_all (length list) list (omega arith)) (once_prefix p list laid (length list) (omega arith));
}

-- so are those of a sound image
pub sound_apart : (line : Lines) (have : ℕ) (p : Params) (entries : List Entry) → HasWords line → reading_of line have ≡ Sound p entries → AreApart p entries
sound_apart line have p entries words sound =
    let holds : Holds line have p entries = sound_holds line have p entries words sound in
    laid_apart p entries (λ i e at. let slot : IsSlot line p (take i entries) i e = holds.slots i e at in record { proper = slot.proper; units = slot.joins.units })
