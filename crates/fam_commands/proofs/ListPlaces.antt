-- Where the members of lists in pieces stand, and what stays of a list with more behind it.
use Rattle.std.proofs.Common.{ℕ, zero, suc, ◌≡◌, ◌<◌, ◌≤◌, ◌+◌, ◌-◌, ◌*◌, List, [], ◌∷◌, ◌++◌, length, take, drop, map, Some, refl, ◌∙◌, ap, arith, length-append}
use Rattle.std.specs.Prelude.{slice_get, slice_index, slice_range}
use Rattle.std.specs.List.{flat_map, range_with_len}
use Rattle.std.proofs.lemmas.List.{get_or_append_left, drop-append-le, take-append-le, length-drop}

-- a place in the first of two lists
pub get-append_left : {A : Type 0} (xs ys : List A) (k : ℕ) → k < length xs → slice_get (xs ++ ys) k ≡ slice_get xs k
get-append_left [] ys k lt = absurd (omega arith)
get-append_left (x ∷ xs) ys zero lt = refl
get-append_left (x ∷ xs) ys (suc k) lt = get-append_left xs ys k (omega arith)

get-append_after : {A : Type 0} (xs ys : List A) (k : ℕ) → slice_get (xs ++ ys) (length xs + k) ≡ slice_get ys k
get-append_after [] ys k = ap (λ (j : ℕ). slice_get ys j) (let z : 0 + k ≡ k = omega arith in z)
get-append_after (x ∷ xs) ys k = ap (λ (j : ℕ). slice_get (x ∷ (xs ++ ys)) j) (let z : suc (length xs) + k ≡ suc (length xs + k) = omega arith in z) ∙ get-append_after xs ys k

-- place m is k behind the first n
pub get-append_right : {A : Type 0} (xs ys : List A) (n k m : ℕ) → length xs ≡ n → m ≡ n + k → slice_get (xs ++ ys) m ≡ slice_get ys k
get-append_right xs ys n k m long is =
    ap (λ (j : ℕ). slice_get (xs ++ ys) j) (let z : m ≡ length xs + k = omega arith in z) ∙ get-append_after xs ys k

-- pieces of w members each
module _ {A : Type 0} (f : ℕ → List A) (w : ℕ) (even : (j : ℕ) → length (f j) ≡ w) where
  -- pieces of one length, end to end
  pub length-pieces : (from n : ℕ) → length (flat_map f (range_with_len from n)) ≡ w * n
  length-pieces from zero = omega arith
  length-pieces from (suc n) = length-append (f from) (flat_map f (range_with_len (from + 1) n)) ∙ omega (arith, even from, length-pieces (from + 1) n)

  -- member r of piece j
  pub piece_from : (from n j r m : ℕ) (rest : List A) → j < n → r < w → m ≡ w * j + r → slice_get (flat_map f (range_with_len from n) ++ rest) m ≡ slice_get (f (from + j)) r
  piece_from from zero j r m rest below small is = absurd (omega arith)
  piece_from from (suc n) zero r m rest below small is =
      ap (λ (k : ℕ). slice_get ((f from ++ flat_map f (range_with_len (from + 1) n)) ++ rest) k) (let z : m ≡ r = omega arith in z)
      ∙ get-append_left (f from ++ flat_map f (range_with_len (from + 1) n)) rest r (omega (arith, length-append (f from) (flat_map f (range_with_len (from + 1) n)), even from))
      ∙ get-append_left (f from) (flat_map f (range_with_len (from + 1) n)) r (omega (arith, even from))
      ∙ ap (λ (k : ℕ). slice_get (f k) r) (let z : from ≡ from + 0 = omega arith in z)
  piece_from from (suc n) (suc j) r m rest below small is =
      ap (λ (xs : List A). slice_get xs m) (append_assoc' (f from) (flat_map f (range_with_len (from + 1) n)) rest)
      ∙ get-append_right (f from) (flat_map f (range_with_len (from + 1) n) ++ rest) w (w * j + r) m (even from) (omega arith)
      ∙ piece_from (from + 1) n j r (w * j + r) rest (omega arith) small refl
      ∙ ap (λ (k : ℕ). slice_get (f k) r) (let z : (from + 1) + j ≡ from + suc j = omega arith in z)
    where
      append_assoc' : (xs ys zs : List A) → (xs ++ ys) ++ zs ≡ xs ++ (ys ++ zs)
      append_assoc' [] ys zs = refl
      append_assoc' (x ∷ xs) ys zs = ap (λ (l : List A). x ∷ l) (append_assoc' xs ys zs)

  -- a place in one of them
  pub piece_at : (n j r m : ℕ) (rest : List A) → j < n → r < w → m ≡ w * j + r → slice_get (flat_map f (range_with_len 0 n) ++ rest) m ≡ slice_get (f j) r
  piece_at n j r m rest below small is = piece_from 0 n j r m rest below small is ∙ ap (λ (k : ℕ). slice_get (f k) r) (let z : 0 + j ≡ j = omega arith in z)

  -- a place in the piece of number i, where the first one has number first
  pub pieces_from : (first n i r m : ℕ) (rest : List A) → first ≤ i → i < first + n → r < w → m ≡ w * (i - first) + r → slice_get (flat_map f (range_with_len first n) ++ rest) m ≡ slice_get (f i) r
  pieces_from first n i r m rest behind below small is = piece_from first n (i - first) r m rest (omega arith) small is
      ∙ ap (λ (k : ℕ). slice_get (f k) r) (let z : first + (i - first) ≡ i = omega arith in z)

  -- and what stands behind them
  pub after_from : (first n r m : ℕ) (rest : List A) → m ≡ w * n + r → slice_get (flat_map f (range_with_len first n) ++ rest) m ≡ slice_get rest r
  after_from first n r m rest is = get-append_right (flat_map f (range_with_len first n)) rest (w * n) r m (length-pieces first n) is

  -- what stands behind the pieces
  pub after_pieces : (n r m : ℕ) (rest : List A) → m ≡ w * n + r → slice_get (flat_map f (range_with_len 0 n) ++ rest) m ≡ slice_get rest r
  after_pieces n r m rest is = get-append_right (flat_map f (range_with_len 0 n)) rest (w * n) r m (length-pieces 0 n) is

-- member k of a map over numbers
pub get-map_from : {A : Type 0} (f : ℕ → A) (from n k : ℕ) → k < n → slice_get (map f (range_with_len from n)) k ≡ Some (f (from + k))
get-map_from f from zero k below = absurd (omega arith)
get-map_from f from (suc n) zero below = ap (λ (i : ℕ). Some (f i)) (let z : from ≡ from + 0 = omega arith in z)
get-map_from f from (suc n) (suc k) below = get-map_from f (from + 1) n k (omega arith) ∙ ap (λ (i : ℕ). Some (f i)) (let z : (from + 1) + k ≡ from + suc k = omega arith in z)

-- a place in a mapped range
pub get-map_range : {A : Type 0} (f : ℕ → A) (n k : ℕ) → k < n → slice_get (map f (range_with_len 0 n)) k ≡ Some (f k)
get-map_range f n k below = get-map_from f 0 n k below ∙ ap (λ (i : ℕ). Some (f i)) (let z : 0 + k ≡ k = omega arith in z)

-- a range of a list is the same with more behind the list
pub range_stays : (xs more : List ℕ) (a b : ℕ) → b ≤ length xs → a ≤ b → slice_range (xs ++ more) a b ≡ slice_range xs a b
range_stays xs more a b within order =
    ap (λ (l : List ℕ). take (b - a) l) (drop-append-le a xs more (omega arith))
    ∙ take-append-le (b - a) (drop a xs) more (omega (arith, length-drop a xs))

-- more words behind don't change a word
pub index_stays : (xs more : List ℕ) (i : ℕ) → i < length xs → slice_index (xs ++ more) i ≡ slice_index xs i
index_stays xs more i within = get_or_append_left xs more 0 i within
