-- Bytes that a loop fills, and extents that are read by place.
use Rattle.std.proofs.Common.{◌≡◌, ℕ, ◌<◌, ◌≤◌, List, length, map, get_or, take, Option, None, unwrap_or, sym, ap, ◌∙◌}
use Rattle.std.specs.List.{range_with_len, slice_get}
use Rattle.std.proofs.lemmas.List.{get_or-take, length-take-le}
use Rattle.std.proofs.lemmas.List.FromFn.{fill_by_all}
use Rattle.std.proofs.lemmas.Option.{unwrap_or-slice_get}
use Rattle.fam_base.specs.declared.extents.Extent.{Extent}
use Rattle.fam_base.specs.ExtentLists.{no_extent}
use Rattle.fam_format.specs.Words.{byte_from, bytes_from}

-- there is no extent past the last
pub none_past : (xs : List Extent) (i : ℕ) (o : Option Extent) → o ≡ slice_get xs i → o ≡ None → no_extent ≡ get_or xs i no_extent
none_past xs i o e n = sym (sym (unwrap_or-slice_get xs i no_extent) ∙ ap (λ (p : Option Extent). unwrap_or p no_extent) (sym e ∙ n))

-- the first n bytes by f
pub filled_prefix : (f : ℕ → ℕ) (bytes : List ℕ) (n : ℕ) → n ≤ length bytes → ((k : ℕ) → k < n → get_or bytes k 0 ≡ f k) → take n bytes ≡ map f (range_with_len 0 n)
filled_prefix f bytes n fits each =
    fill_by_all f (take n bytes) n 0 (length-take-le n bytes fits) (λ k below. get_or-take n bytes k 0 below ∙ each k below)

-- the bytes that the words from one on hold
pub filled_bytes : (first : ℕ) (words bytes : List ℕ) (len : ℕ) → len ≤ length bytes → ((k : ℕ) → k < len → get_or bytes k 0 ≡ byte_from first words k) → take len bytes ≡ bytes_from first words len
unfolding bytes_from
filled_bytes first words bytes len fits each = filled_prefix (byte_from first words) bytes len fits each
