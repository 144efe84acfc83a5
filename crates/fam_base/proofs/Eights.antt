-- Bytes that are looked at some at a time.
use Rattle.std.proofs.Common.{◌≡◌, ℕ, ◌+◌, ◌-◌, ◌<◌, ◌≤◌, Bool, true, false, ◌&&◌, List, [], ◌∷◌, length, get_or, take, drop, zero, suc, refl, sym, ap, ◌∙◌, arith, length-take, length-drop}
use Rattle.std.specs.List.{list_all}
use Rattle.std.proofs.lemmas.Bool.{false≢true}
use Rattle.std.proofs.lemmas.List.{take-append-drop, take_all, get_or-drop, get_or-take}
use Rattle.std.proofs.lemmas.List.Folds.{list_all-append}

-- a place of a part of `n` that begins at `from`
pub at_part : (xs : List ℕ) (from n k : ℕ) → from ≤ k → k < from + n → get_or (take n (drop from xs)) (k - from) 0 ≡ get_or xs k 0
at_part xs from n k behind before =
    let place : from + (k - from) ≡ k = omega arith in
    get_or-take n (drop from xs) (k - from) 0 (omega arith) ∙ get_or-drop from xs (k - from) 0 ∙ ap (λ (m : ℕ). get_or xs m 0) place

-- each element passes where each place has one that does
all_of_each : (p : ℕ → Bool) (xs : List ℕ) → ((k : ℕ) → k < length xs → p (get_or xs k 0) ≡ true) → list_all p xs ≡ true
all_of_each p [] each = refl
all_of_each p (x ∷ xs) each =
    ap (λ (b : Bool). b && list_all p xs) (each 0 (omega arith)) ∙ all_of_each p xs (λ k below. each (suc k) (omega (arith, below)))

-- all pass where the first ones do and those behind them
pub all_behind : (p : ℕ → Bool) (xs : List ℕ) (n : ℕ) → ((k : ℕ) → k < n → p (get_or xs k 0) ≡ true) → list_all p (take (length xs - n) (drop n xs)) ≡ list_all p xs
all_behind p xs n each =
    let first : list_all p (take n xs) ≡ true =
    all_of_each p (take n xs) (λ k below.
    let few : k < n = omega (arith, length-take n xs, below) in
    ap p (get_or-take n xs k 0 few) ∙ each k few) in
    ap (list_all p) (take_all (length xs - n) (drop n xs) (omega (arith, length-drop n xs)))
    ∙ sym (ap (λ (b : Bool). b && list_all p (drop n xs)) first)
    ∙ sym (list_all-append p (take n xs) (drop n xs))
    ∙ ap (list_all p) (take-append-drop n xs)

left_of : (a b : Bool) → (a && b) ≡ true → a ≡ true
left_of true b h = refl
left_of false b h = h

right_of : (a b : Bool) → (a && b) ≡ true → b ≡ true
right_of true b h = h
right_of false b h = absurd (false≢true h)

-- what is so of each number below eight
below_eight : (Q : ℕ → Type 0) → Q 0 → Q 1 → Q 2 → Q 3 → Q 4 → Q 5 → Q 6 → Q 7 → (k : ℕ) → k < 8 → Q k
below_eight Q a b c d e f g h zero below = a
below_eight Q a b c d e f g h (suc zero) below = b
below_eight Q a b c d e f g h (suc (suc zero)) below = c
below_eight Q a b c d e f g h (suc (suc (suc zero))) below = d
below_eight Q a b c d e f g h (suc (suc (suc (suc zero)))) below = e
below_eight Q a b c d e f g h (suc (suc (suc (suc (suc zero))))) below = f
below_eight Q a b c d e f g h (suc (suc (suc (suc (suc (suc zero)))))) below = g
below_eight Q a b c d e f g h (suc (suc (suc (suc (suc (suc (suc zero))))))) below = h
below_eight Q a b c d e f g h (suc (suc (suc (suc (suc (suc (suc (suc k)))))))) below = absurd (omega (arith, below))

-- each of the first eight passes, where their tests are all passed
pub each_of_eight : (p : ℕ → Bool) (xs : List ℕ) (a b c d e f g h : Bool) → a ≡ p (get_or xs 0 0) → b ≡ p (get_or xs 1 0) → c ≡ p (get_or xs 2 0) → d ≡ p (get_or xs 3 0) →
    e ≡ p (get_or xs 4 0) → f ≡ p (get_or xs 5 0) → g ≡ p (get_or xs 6 0) → h ≡ p (get_or xs 7 0) → (a && b && c && d && e && f && g && h) ≡ true →
    (k : ℕ) → k < 8 → p (get_or xs k 0) ≡ true
each_of_eight p xs a b c d e f g h is_a is_b is_c is_d is_e is_f is_g is_h all =
    let to_g = left_of _ _ all in
    let to_f = left_of _ _ to_g in
    let to_e = left_of _ _ to_f in
    let to_d = left_of _ _ to_e in
    let to_c = left_of _ _ to_d in
    let to_b = left_of _ _ to_c in
    below_eight (λ (k : ℕ). p (get_or xs k 0) ≡ true) (sym is_a ∙ left_of _ _ to_b) (sym is_b ∙ right_of _ _ to_b) (sym is_c ∙ right_of _ _ to_c)
    (sym is_d ∙ right_of _ _ to_d) (sym is_e ∙ right_of _ _ to_e) (sym is_f ∙ right_of _ _ to_f) (sym is_g ∙ right_of _ _ to_g)
    (sym is_h ∙ right_of _ _ all)
