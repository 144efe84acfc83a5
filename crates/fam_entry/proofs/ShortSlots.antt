-- Slots with a short path and no map.
use Rattle.std.proofs.Common.{◌≡◌, ◌==◌, ◌≤◌, ℕ, true, false, slice_index, ◌<◌, List, [], length, get_or, take, Some, None, refl, sym, ◌∙◌, arith}
use Rattle.fam_base.specs.declared.entry.Params.{Params}
use Rattle.fam_base.specs.declared.entry.Kind.{Kind}
use Rattle.fam_base.specs.declared.entry.MapKind.TheVariants.{Empty}
use Rattle.fam_base.specs.Paths.{is_path}
use Rattle.fam_format.specs.declared.faults.Reason.TheVariants.{BadPath}
use Rattle.fam_format.specs.Layout.{geometry}
use Rattle.fam_format.specs.Slot.{extents_of, fields_of, is_map, is_map_words, kind_of, map_fault, path_fault, path_of, path_word}
use Rattle.fam_format.specs.Words.{byte_from}
use Rattle.fam_format.proofs.Formats.{slot_allows}
use Rattle.fam_tree.specs.Borrowed.{made_of}
use Rattle.fam_entry.specs.Short.{IsShort}
use Rattle.fam_entry.proofs.BareMap.{without_bytes}
use Rattle.fam_entry.proofs.PathField.{no_path_fault, bad_path, path_read}

module _ (words : List ℕ) (short : IsShort words) where
  words_fit : is_map_words words ≡ true
  words_fit = rw (short.map, short.count, short.chunk) refl

  -- nothing is against the map
  pub no_map_fault : (p : Params) → map_fault p words ≡ None
  no_map_fault p =
      let none : (slice_index words 9 == 0) ≡ true = rw short.count refl in
      let fits : is_map p (fields_of words) ≡ true = sym (without_bytes p words short.map short.size) ∙ none in
      rw (words_fit, fits) refl

  -- the entry that the words tell has neither bytes nor extents
  pub short_fields : (kind : Kind) (path : List ℕ) → kind ≡ kind_of (slice_index words 1) → path ≡ path_of words
      → made_of kind Empty 0 (slice_index words 3) (slice_index words 4) (slice_index words 5) path [] ≡ fields_of words
  unfolding fields_of extents_of
  short_fields kind path is_kind is_path = rw (is_kind, is_path, short.size, short.map, short.count) refl

  -- what stands in the first bytes is the path
  pub short_read : (bytes : List ℕ) → length bytes ≡ 32 → ((k : ℕ) → k < 32 → get_or bytes k 0 ≡ byte_from path_word words k) → take (slice_index words 6) bytes ≡ path_of words
  short_read bytes long each = path_read words bytes (slice_index words 6) refl short.path long (λ k below. each k (omega (arith, below, short.path)))

  allowed : (p : Params) → slice_index words 6 ≤ (geometry p).path_limit
  allowed p = omega (arith, short.path, slot_allows p)

  -- the path decides
  pub path_is_one : (p : Params) → is_path (path_of words) ≡ true → path_fault (geometry p) words ≡ None
  path_is_one p is = no_path_fault (geometry p) words (allowed p) is

  pub path_is_none : (p : Params) → is_path (path_of words) ≡ false → path_fault (geometry p) words ≡ Some BadPath
  path_is_none p is = bad_path (geometry p) words (allowed p) is
