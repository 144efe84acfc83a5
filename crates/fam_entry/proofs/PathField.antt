-- A field that a path's bytes are put into, eight at a time.
use Rattle.std.proofs.Common.{◌≡◌, ℕ, zero, suc, ◌+◌, ◌-◌, ◌*◌, ◌/◌, ◌%◌, ◌<◌, ◌≤◌, true, false, nat_lt, List, ◌∷◌, ◌++◌, length, map, get_or, slice_index, take, drop, replicate, Some, None, length-append, ◌⊎◌, inl, inr, refl, sym, ap, ◌∙◌, arith}
use Rattle.std.specs.List.{range_with_len}
use Rattle.std.specs.Int.{to_le_bytes, w64}
use Rattle.std.proofs.lemmas.Bool.{cases_lt}
use Rattle.std.proofs.lemmas.Bool.Decides.{nat_tests}
use Rattle.std.proofs.lemmas.List.{get_or_append_left, get_or-append_right, get_or-take, get_or-drop, length-take-le, length-drop, take-append-drop}
use Rattle.std.proofs.lemmas.List.FromFn.{fill_by_all}
use borrow.Rule.Slice.PartMut.{put_mid}
use Rattle.fam_base.specs.Image.{byte_of}
use Rattle.fam_base.specs.Paths.{is_path, IsPathField}
use Rattle.fam_format.specs.declared.faults.Reason.TheVariants.{BadPath}
use Rattle.fam_format.specs.Layout.{Geometry}
use Rattle.fam_format.specs.Slot.{path_word, path_of, path_fault}
use Rattle.fam_format.specs.Words.{byte_from, bytes_from}
use Rattle.fam_format.proofs.WordRounds.{le_byte}
use Rattle.fam_entry.proofs.Filling.{filled_bytes}

module _ {whole : ℕ} (a n m : ℕ) (xs ys : List ℕ) (long : length xs ≡ whole) (within : a + m ≤ whole) (size : n ≡ m) (count : length ys ≡ m) where
  put_size : put_mid a n xs ys ≡ put_mid a m xs ys
  put_size = ap (λ (k : ℕ). put_mid a k xs ys) size

  -- as many bytes as before
  pub put_length : length (put_mid a n xs ys) ≡ whole
  put_length =
      let all : length (put_mid a m xs ys) ≡ whole =
      omega (arith, length-append (take a xs) (ys ++ drop m (drop a xs)), length-append ys (drop m (drop a xs)), length-take-le a xs (omega arith), length-drop m (drop a xs), length-drop a xs) in
      ap length put_size ∙ all

  -- what stood before the bytes
  pub put_below : (k : ℕ) → k < a → get_or (put_mid a n xs ys) k 0 ≡ get_or xs k 0
  put_below k below =
      ap (λ (l : List ℕ). get_or l k 0) put_size
      ∙ get_or_append_left (take a xs) (ys ++ drop m (drop a xs)) 0 k (omega (arith, length-take-le a xs (omega arith)))
      ∙ get_or-take a xs k 0 below

  -- the bytes
  pub put_at : (j : ℕ) → j < m → get_or (put_mid a n xs ys) (a + j) 0 ≡ get_or ys j 0
  put_at j below =
      let place : a + j - a ≡ j = omega arith in
      ap (λ (l : List ℕ). get_or l (a + j) 0) put_size
      ∙ get_or-append_right (take a xs) (ys ++ drop m (drop a xs)) a (a + j) 0 (length-take-le a xs (omega arith)) (omega arith)
      ∙ ap (λ (k : ℕ). get_or (ys ++ drop m (drop a xs)) k 0) place
      ∙ get_or_append_left ys (drop m (drop a xs)) 0 j (omega arith)

  -- what stood behind them
  pub put_behind : (k : ℕ) → a + m ≤ k → get_or (put_mid a n xs ys) k 0 ≡ get_or xs k 0
  put_behind k behind =
      let place : a + (m + (k - a - m)) ≡ k = omega arith in
      ap (λ (l : List ℕ). get_or l k 0) put_size
      ∙ get_or-append_right (take a xs) (ys ++ drop m (drop a xs)) a k 0 (length-take-le a xs (omega arith)) (omega arith)
      ∙ get_or-append_right ys (drop m (drop a xs)) m (k - a) 0 count (omega arith)
      ∙ get_or-drop m (drop a xs) (k - a - m) 0 ∙ get_or-drop a xs (m + (k - a - m)) 0 ∙ ap (λ (l : ℕ). get_or xs l 0) place

-- a place before eight bytes, or the offset of one of them
pub at_eight : (i k : ℕ) → k < 8 * (i + 1) → (k < 8 * i) ⊎ ((8 * i + (k - 8 * i) ≡ k) × (k - 8 * i < 8))
at_eight i k below =
    elim (cases_lt k (8 * i)) [ inl before ↦ inl before | inr at ↦ inr (omega arith, omega arith) ]

-- the bytes of word i are those from place 8 i on
pub word_put : (words ys : List ℕ) (i j : ℕ) → ys ≡ to_le_bytes w64 (get_or words (42 + i) 0) → j < 8 → get_or ys j 0 ≡ byte_from 42 words (8 * i + j)
word_put words ys i j is below =
    let word : (8 * i + j) / 8 ≡ i = omega arith in
    let place : (8 * i + j) % 8 ≡ j = omega arith in
    ap (λ (l : List ℕ). get_or l j 0) is ∙ le_byte (get_or words (42 + i) 0) j below
    ∙ sym (ap (λ (w : ℕ). byte_of (get_or words (42 + w) 0) ((8 * i + j) % 8)) word ∙ ap (byte_of (get_or words (42 + i) 0)) place)

same_map : (n a : ℕ) → map {B = ℕ} (λ (_ : ℕ). 0) (range_with_len a n) ≡ replicate n 0
same_map zero a = refl
same_map (suc n) a = ap (λ (l : List ℕ). 0 ∷ l) (same_map n (a + 1))

-- zeros behind the bytes
zeros_behind : (bytes : List ℕ) (len : ℕ) → len ≤ 512 → length bytes ≡ 512 → ((k : ℕ) → len ≤ k → get_or bytes k 0 ≡ 0) → drop len bytes ≡ replicate (512 - len) 0
zeros_behind bytes len few long zeros =
    fill_by_all (λ _. 0) (drop len bytes) (512 - len) 0 (omega (arith, length-drop len bytes)) (λ k below. get_or-drop len bytes k 0 ∙ zeros (len + k) (omega arith))
    ∙ same_map (512 - len) 0

-- a field whose first bytes are a path, in front of zeros
pub path_field : (words bytes : List ℕ) (len : ℕ) → len ≤ 512 → length bytes ≡ 512 → ((k : ℕ) → k < len → get_or bytes k 0 ≡ byte_from path_word words k) → ((k : ℕ) → len ≤ k → get_or bytes k 0 ≡ 0)
    → is_path (take len bytes) ≡ true → IsPathField bytes len
path_field words bytes len few long each zeros path =
    let count : length (take len bytes) ≡ len = length-take-le len bytes (omega arith) in
    record {
      path = path;
      count = count;
      zeros = sym (take-append-drop len bytes) ∙ ap (λ (l : List ℕ). take len bytes ++ l) (zeros_behind bytes len few long zeros ∙ ap (λ (n : ℕ). replicate (512 - n) 0) (sym count));
    }

-- what is in the field is the path of the words
pub path_read : {whole : ℕ} (words bytes : List ℕ) (len : ℕ) → slice_index words 6 ≡ len → len ≤ whole → length bytes ≡ whole
    → ((k : ℕ) → k < len → get_or bytes k 0 ≡ byte_from path_word words k) → take len bytes ≡ path_of words
path_read words bytes len is few long each =
    filled_bytes path_word words bytes len (omega arith) each ∙ ap (λ (n : ℕ). bytes_from path_word words n) (sym is)

-- of a length that slots of this shape allow
module _ (g : Geometry) (words : List ℕ) (few : slice_index words 6 ≤ g.path_limit) where
  not_long : nat_lt g.path_limit (slice_index words 6) ≡ false
  not_long = grind (arith, nat_tests)

  -- a path, and no path
  pub no_path_fault : is_path (path_of words) ≡ true → path_fault g words ≡ None
  no_path_fault path = rw (not_long, path) refl

  pub bad_path : is_path (path_of words) ≡ false → path_fault g words ≡ Some BadPath
  bad_path none = rw (not_long, none) refl

-- longer than they allow
pub too_long : (g : Geometry) (words : List ℕ) → g.path_limit < slice_index words 6 → path_fault g words ≡ Some BadPath
too_long g words over =
    let long : nat_lt g.path_limit (slice_index words 6) ≡ true = grind (arith, nat_tests) in
    rw long refl

-- a field at first
pub zero_at : (n k : ℕ) → get_or {A = ℕ} (replicate n 0) k 0 ≡ 0
zero_at zero k = refl
zero_at (suc n) zero = refl
zero_at (suc n) (suc k) = zero_at n k
