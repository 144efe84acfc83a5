-- Fronts of bytes compare as the numbers that they spell.
use Rattle.std.proofs.Common.{ℕ, zero, suc, ◌≡◌, ◌≢◌, ◌+◌, ◌-◌, ◌*◌, ◌<◌, List, [], ◌∷◌, ◌++◌, length, take, drop, refl, sym, ap, ap₂, ◌∙◌, arith, inl, inr, subst}
use Rattle.std.specs.Prelude.{⊤, slice_range, slice_index, replicate}
use Rattle.std.proofs.lemmas.Bool.{lt-ltb, le-ltb, eq-eqb, ne_eqb, cases_order}
use Rattle.std.proofs.lemmas.List.{get_or-drop, length-take-le, length-drop}
use Rattle.std.proofs.lemmas.List.Folds.{drop_split}
use Rattle.std.specs.Ordering.{nat_cmp, ordering_then}
use Rattle.std.specs.declared.cmp.Ordering.{Ordering}
use Rattle.std.specs.declared.cmp.Ordering.TheVariants.{Less, Equal, Greater}
use Rattle.fam_base.specs.PathOrder.{big, path_cmp}

less : (k x : ℕ) → k < x → nat_cmp k x ≡ Less
less k x h = rw (lt-ltb k x h) refl

greater : (k x : ℕ) → x < k → nat_cmp k x ≡ Greater
greater k x h = rw (le-ltb k x (omega arith), ne_eqb k x (omega arith)) refl

equal : (k x : ℕ) → k ≡ x → nat_cmp k x ≡ Equal
equal k x h = rw (le-ltb k x (omega arith), eq-eqb k x h) refl

then_equal : (r : Ordering) → r ≡ ordering_then r Equal
then_equal Less = refl
then_equal Equal = refl
then_equal Greater = refl

then_then : (r s t : Ordering) → ordering_then (ordering_then r s) t ≡ ordering_then r (ordering_then s t)
then_then Less s t = refl
then_then Equal s t = refl
then_then Greater s t = refl

-- one byte more
digit : (n m x y : ℕ) → x < 256 → y < 256 → nat_cmp (n * 256 + x) (m * 256 + y) ≡ ordering_then (nat_cmp n m) (nat_cmp x y)
digit n m x y small other =
    elim (cases_order n m) [
      | inl e ↦ elim (cases_order x y) [
        | inl f ↦ equal (n * 256 + x) (m * 256 + y) (omega (arith, e, f)) ∙ sym (ap₂ ordering_then (equal n m e) (equal x y f))
        | inr d ↦ elim d [
          | inl up ↦ less (n * 256 + x) (m * 256 + y) (omega (arith, e, up)) ∙ sym (ap₂ ordering_then (equal n m e) (less x y up))
          | inr down ↦ greater (n * 256 + x) (m * 256 + y) (omega (arith, e, down)) ∙ sym (ap₂ ordering_then (equal n m e) (greater x y down))
        ]
      ]
      | inr d ↦ elim d [
        | inl up ↦ less (n * 256 + x) (m * 256 + y) (omega (arith, up, small, other)) ∙ sym (ap (λ (r : Ordering). ordering_then r (nat_cmp x y)) (less n m up))
        | inr down ↦ greater (n * 256 + x) (m * 256 + y) (omega (arith, down, small, other)) ∙ sym (ap (λ (r : Ordering). ordering_then r (nat_cmp x y)) (greater n m down))
      ]
    ]

abbrev pub AreBytes : List ℕ → Type 0
AreBytes xs = (i : ℕ) → slice_index xs i < 256

-- as many bytes behind two numbers
pub spelled : (xs ys : List ℕ) (n m : ℕ) → length xs ≡ length ys → AreBytes xs → AreBytes ys → nat_cmp (big n xs) (big m ys) ≡ ordering_then (nat_cmp n m) (path_cmp xs ys)
spelled [] [] n m same bx by_ = then_equal (nat_cmp n m)
spelled [] (y ∷ ys) n m same bx by_ = absurd cc
spelled (x ∷ xs) [] n m same bx by_ = absurd cc
spelled (x ∷ xs) (y ∷ ys) n m same bx by_ =
    spelled xs ys (n * 256 + x) (m * 256 + y) (omega (arith, same)) (λ i. bx (suc i)) (λ i. by_ (suc i))
    ∙ ap (λ (r : Ordering). ordering_then r (path_cmp xs ys)) (digit n m x y (bx 0) (by_ 0))
    ∙ then_then (nat_cmp n m) (nat_cmp x y) (path_cmp xs ys)

-- prefixes of one length decide first
pub prefixes : (xs ys rs ss : List ℕ) → length xs ≡ length ys → path_cmp (xs ++ rs) (ys ++ ss) ≡ ordering_then (path_cmp xs ys) (path_cmp rs ss)
prefixes [] [] rs ss same = refl
prefixes [] (y ∷ ys) rs ss same = absurd cc
prefixes (x ∷ xs) [] rs ss same = absurd cc
prefixes (x ∷ xs) (y ∷ ys) rs ss same =
    ap (ordering_then (nat_cmp x y)) (prefixes xs ys rs ss (omega (arith, same))) ∙ sym (then_then (nat_cmp x y) (path_cmp xs ys) (path_cmp rs ss))

drop_bytes : (n : ℕ) (xs : List ℕ) → AreBytes xs → AreBytes (drop n xs)
drop_bytes n xs b i = subst (λ (x : ℕ). x < 256) (sym (get_or-drop n xs i 0)) (b (n + i))

take_bytes : (n : ℕ) (xs : List ℕ) → AreBytes xs → AreBytes (take n xs)
take_bytes zero xs b i = omega arith
take_bytes (suc n) [] b i = b i
take_bytes (suc n) (x ∷ xs) b zero = b 0
take_bytes (suc n) (x ∷ xs) b (suc i) = take_bytes n xs (λ k. b (suc k)) i

range_bytes : (n m : ℕ) (xs : List ℕ) → AreBytes xs → AreBytes (slice_range xs n m)
range_bytes n m xs b = take_bytes (m - n) (drop n xs) (drop_bytes n xs b)

range_count : (xs : List ℕ) (i : ℕ) → length xs ≡ 512 → i < 64 → length (slice_range xs (8 * i) (8 * i + 8)) ≡ 8
range_count xs i count below =
    length-take-le (8 * i + 8 - 8 * i) (drop (8 * i) xs) (omega (arith, length-drop (8 * i) xs, count, below)) ∙ omega arith

-- eight bytes at a place decide, and then those behind them
pub eight_first : (a b : List ℕ) (i : ℕ) → length a ≡ 512 → length b ≡ 512 → i < 64 → AreBytes a → AreBytes b
    → path_cmp (drop (8 * i) a) (drop (8 * i) b)
    ≡ ordering_then (nat_cmp (big 0 (slice_range a (8 * i) (8 * i + 8))) (big 0 (slice_range b (8 * i) (8 * i + 8))))
    (path_cmp (drop (8 * (i + 1)) a) (drop (8 * (i + 1)) b))
eight_first a b i la lb below ba bb =
    let prefix = slice_range a (8 * i) (8 * i + 8) in
    let other = slice_range b (8 * i) (8 * i + 8) in
    let next : 8 * i + 8 ≡ 8 * (i + 1) = omega arith in
    let split_a : drop (8 * i) a ≡ prefix ++ drop (8 * (i + 1)) a = drop_split a (8 * i) (8 * i + 8) (omega arith) ∙ ap (λ (n : ℕ). prefix ++ drop n a) next in
    let split_b : drop (8 * i) b ≡ other ++ drop (8 * (i + 1)) b = drop_split b (8 * i) (8 * i + 8) (omega arith) ∙ ap (λ (n : ℕ). other ++ drop n b) next in
    let same : length prefix ≡ length other = range_count a i la below ∙ sym (range_count b i lb below) in
    ap₂ path_cmp split_a split_b
    ∙ prefixes prefix other (drop (8 * (i + 1)) a) (drop (8 * (i + 1)) b) same
    ∙ ap (λ (r : Ordering). ordering_then r (path_cmp (drop (8 * (i + 1)) a) (drop (8 * (i + 1)) b)))
    (sym (spelled prefix other 0 0 same (range_bytes (8 * i) (8 * i + 8) a ba) (range_bytes (8 * i) (8 * i + 8) b bb)))

-- two words that are one go on
pub goes_on : (a b : List ℕ) (i x y : ℕ) → length a ≡ 512 → length b ≡ 512 → i < 64 → AreBytes a → AreBytes b
    → x ≡ big 0 (slice_range a (8 * i) (8 * i + 8)) → y ≡ big 0 (slice_range b (8 * i) (8 * i + 8)) → x ≡ y
    → path_cmp (drop (8 * i) a) (drop (8 * i) b) ≡ path_cmp (drop (8 * (i + 1)) a) (drop (8 * (i + 1)) b)
goes_on a b i x y la lb below ba bb isx isy same =
    eight_first a b i la lb below ba bb ∙ ap (λ (r : Ordering). ordering_then r (path_cmp (drop (8 * (i + 1)) a) (drop (8 * (i + 1)) b))) (equal _ _ (sym isx ∙ same ∙ isy))

stays : (r s : Ordering) → r ≢ Equal → ordering_then r s ≡ r
stays Less s other = refl
stays Equal s other = absurd (other refl)
stays Greater s other = refl

differs : (x y : ℕ) → x ≢ y → nat_cmp x y ≢ Equal
differs x y other = elim (cases_order x y) [
  | inl e ↦ absurd (other e)
  | inr d ↦ elim d [ inl up ↦ (λ e. absurd (cc (less x y up, e))) | inr down ↦ (λ e. absurd (cc (greater x y down, e))) ]
]

-- and two that differ decide
pub decides : (a b : List ℕ) (i x y : ℕ) → length a ≡ 512 → length b ≡ 512 → i < 64 → AreBytes a → AreBytes b
    → x ≡ big 0 (slice_range a (8 * i) (8 * i + 8)) → y ≡ big 0 (slice_range b (8 * i) (8 * i + 8)) → x ≢ y
    → nat_cmp x y ≡ path_cmp (drop (8 * i) a) (drop (8 * i) b)
decides a b i x y la lb below ba bb isx isy other =
    sym (eight_first a b i la lb below ba bb
    ∙ ap (λ (r : Ordering). ordering_then r (path_cmp (drop (8 * (i + 1)) a) (drop (8 * (i + 1)) b))) (sym (ap₂ nat_cmp isx isy))
    ∙ stays (nat_cmp x y) _ (differs x y other))

-- Zeros behind bytes that have none change no order.

abbrev pub HasNoZero : List ℕ → Type 0
HasNoZero [] = ⊤
HasNoZero (x ∷ xs) = (0 < x) × HasNoZero xs

zeros_equal : (m : ℕ) → path_cmp (replicate m 0) (replicate m 0) ≡ Equal
zeros_equal zero = refl
zeros_equal (suc m) = zeros_equal m

pub padded_order : (xs ys : List ℕ) (m n : ℕ) → length xs + m ≡ length ys + n → HasNoZero xs → HasNoZero ys → path_cmp (xs ++ replicate m 0) (ys ++ replicate n 0) ≡ path_cmp xs ys
padded_order [] [] m n count hx hy = ap (λ (k : ℕ). path_cmp (replicate m 0) (replicate k 0)) (let same : n ≡ m = omega (arith, count) in same) ∙ zeros_equal m
padded_order [] (y ∷ ys) zero n count hx hy = absurd (omega (arith, count))
padded_order [] (y ∷ ys) (suc m) n count hx hy = ap (λ (r : Ordering). ordering_then r (path_cmp (replicate m 0) (ys ++ replicate n 0))) (less 0 y hy.0)
padded_order (x ∷ xs) [] m zero count hx hy = absurd (omega (arith, count))
padded_order (x ∷ xs) [] m (suc n) count hx hy = ap (λ (r : Ordering). ordering_then r (path_cmp (xs ++ replicate m 0) (replicate n 0))) (greater x 0 hx.0)
padded_order (x ∷ xs) (y ∷ ys) m n count hx hy = ap (ordering_then (nat_cmp x y)) (padded_order xs ys m n (omega (arith, count)) hx.1 hy.1)
