-- An entry without a map.
use Rattle.std.proofs.Common.{◌≡◌, ◌==◌, ◌&&◌, ℕ, Bool, false, slice_index, List, refl, sym, ap, ◌∙◌, arith}
use Rattle.std.proofs.lemmas.Bool.Decides.{nat_tests}
use Rattle.std.proofs.lemmas.List.FromFn.{length-map-range_with_len}
use Rattle.fam_base.specs.declared.entry.Params.{Params}
use Rattle.fam_base.specs.declared.entry.Entry.{Entry}
use Rattle.fam_base.specs.declared.entry.Kind.{Kind}
use Rattle.fam_base.specs.declared.entry.Kind.TheVariants.{File, Directory}
use Rattle.fam_base.specs.declared.entry.MapKind.{MapKind}
use Rattle.fam_base.specs.declared.entry.MapKind.TheVariants.{Empty}
use Rattle.fam_format.specs.Slot.{is_map, fits_map, is_bare, fields_of, extents_of, extent_of, kind_of, map_of}

bare_fits : (p : Params) (e : Entry) (kind : Kind) → fits_map p e kind Empty ≡ is_bare e
bare_fits p e File = refl
bare_fits p e Directory = refl

-- where the words tell no map, it fits where they tell no bytes and no extents
bare_map : (p : Params) (words : List ℕ) → slice_index words 7 ≡ 0 → ((slice_index words 2 == 0) && (slice_index words 9 == 0)) ≡ is_map p (fields_of words)
unfolding is_map fields_of extents_of
bare_map p words none =
    let no_map : map_of (slice_index words 7) (slice_index words 8) ≡ Empty = ap (λ (word : ℕ). map_of word (slice_index words 8)) none in
    ap (λ (n : ℕ). (slice_index words 2 == 0) && (n == 0)) (sym (length-map-range_with_len (extent_of words) 0 (slice_index words 9)))
    ∙ sym (bare_fits p (fields_of words) (kind_of (slice_index words 1)))
    ∙ sym (ap (λ (m : MapKind). fits_map p (fields_of words) (kind_of (slice_index words 1)) m) no_map)

module _ (p : Params) (words : List ℕ) (none : slice_index words 7 ≡ 0) where
  -- it has no bytes
  pub without_bytes : slice_index words 2 ≡ 0 → (slice_index words 9 == 0) ≡ is_map p (fields_of words)
  without_bytes is = ap (λ (n : ℕ). (n == 0) && (slice_index words 9 == 0)) (sym is) ∙ bare_map p words none

  -- it has some
  pub with_bytes : (slice_index words 2 ≡ 0 → ⊥) → (slice_index words 2 == 0) ≡ is_map p (fields_of words)
  with_bytes some =
      let no : (slice_index words 2 == 0) ≡ false = grind (arith, nat_tests) in
      no ∙ sym (ap (λ (b : Bool). b && (slice_index words 9 == 0)) no) ∙ bare_map p words none
