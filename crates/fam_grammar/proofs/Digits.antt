-- Reading digits one by one.
use Rattle.std.proofs.Common.{◌≡◌, ◌∙◌, ℕ, ◌+◌, ◌-◌, ◌*◌, ◌<◌, ◌≤◌, ◌^◌, List, [], ◌∷◌, Option, Some, None, if◌then◌else◌, true, false, inl, inr, suc, length, drop, get_or, drop-cons, add-one, refl, sym, ap, arith}
use Rattle.std.proofs.Math.ListN.{drop_of_length-le}
use Rattle.std.specs.Prelude.{nat_lt}
use Rattle.std.specs.Char.{is_ascii_digit, digit_value}
use Rattle.std.specs.Str.{all_ascii_digits}
use Rattle.std.specs.Str.Parse.{digits_value_after}
use Rattle.std.proofs.lemmas.Bool.{cases_Bool, le-leb, ltb-true, ltb-false}
use Rattle.std.proofs.lemmas.Bool.Decides.{nat_tests}
use Rattle.fam_grammar.specs.Numbers.{fitting, digit_behind, number_of_text}

-- one more digit, if the ones before it made a number
abbrev pub then_digit : Option ℕ → ℕ → Option ℕ
then_digit None byte = None
then_digit (Some n) byte = digit_behind n byte

-- the number that further digits make
abbrev pub read_on : Option ℕ → List ℕ → Option ℕ
read_on so_far [] = so_far
read_on so_far (b ∷ bytes) = read_on (then_digit so_far b) bytes

-- what the digits spell behind a number
abbrev pub spelled_behind : ℕ → List ℕ → Option ℕ
spelled_behind n text = if all_ascii_digits text then fitting (digits_value_after 10 n text) else None

pub read_none : (text : List ℕ) → read_on None text ≡ None
read_none [] = refl
read_none (b ∷ bytes) = read_none bytes

grows : (n : ℕ) (text : List ℕ) → n ≤ digits_value_after 10 n text
grows n [] = omega arith
grows n (b ∷ bytes) = omega (arith, grows (n * 10 + digit_value b) bytes)

fits : (n : ℕ) → n < 2 ^ 64 → fitting n ≡ Some n
fits n small = grind (arith, nat_tests)

too_large : (n : ℕ) → 2 ^ 64 ≤ n → fitting n ≡ None
too_large n large = grind (arith, nat_tests)

value_of_digit : (b : ℕ) → is_ascii_digit b ≡ true → digit_value b ≡ b - 48
value_of_digit b is = grind (arith, nat_tests)

-- by the digit, and by whether the number with it still fits
reads_digit : (n b : ℕ) (bytes : List ℕ) → is_ascii_digit b ≡ true
    → spelled_behind (n * 10 + (b - 48)) bytes ≡ spelled_behind n (b ∷ bytes)
reads_digit n b bytes is = rw (is, value_of_digit b is) refl

reads_none : (n b : ℕ) (bytes : List ℕ) → is_ascii_digit b ≡ false → spelled_behind n (b ∷ bytes) ≡ None
reads_none n b bytes is = rw is refl

spelled_too_large : (n : ℕ) (text : List ℕ) → 2 ^ 64 ≤ n → spelled_behind n text ≡ None
spelled_too_large n text large =
    elim (cases_Bool (all_ascii_digits text)) [
      | inl is ↦ rw is (too_large (digits_value_after 10 n text) (omega (arith, grows n text)))
      | inr not ↦ rw not refl
    ]

reads_large : (n b : ℕ) (bytes : List ℕ) → is_ascii_digit b ≡ true → 2 ^ 64 ≤ n * 10 + (b - 48) → spelled_behind n (b ∷ bytes) ≡ None
reads_large n b bytes is large = rw (is, value_of_digit b is) (spelled_too_large (n * 10 + (b - 48)) bytes large)

digit_fits : (n b : ℕ) → is_ascii_digit b ≡ true → nat_lt (n * 10 + (b - 48)) (2 ^ 64) ≡ true → digit_behind n b ≡ Some (n * 10 + (b - 48))
digit_fits n b is fit = rw (is, fit) refl

digit_too_large : (n b : ℕ) → is_ascii_digit b ≡ true → nat_lt (n * 10 + (b - 48)) (2 ^ 64) ≡ false → digit_behind n b ≡ None
digit_too_large n b is large = rw (is, large) refl

no_digit : (n b : ℕ) → is_ascii_digit b ≡ false → digit_behind n b ≡ None
no_digit n b not = rw not refl

-- what comes of the digit
reads_some : (n m b : ℕ) (bytes : List ℕ) → digit_behind n b ≡ Some m → read_on (Some n) (b ∷ bytes) ≡ read_on (Some m) bytes
reads_some n m b bytes is = ap (λ (o : Option ℕ). read_on o bytes) is

reads_no_more : (n b : ℕ) (bytes : List ℕ) → digit_behind n b ≡ None → read_on (Some n) (b ∷ bytes) ≡ None
reads_no_more n b bytes is = ap (λ (o : Option ℕ). read_on o bytes) is ∙ read_none bytes

pub reads : (n : ℕ) (text : List ℕ) → n < 2 ^ 64 → read_on (Some n) text ≡ spelled_behind n text
reads n [] small = sym (fits n small)
reads n (b ∷ bytes) small =
    let m = n * 10 + (b - 48) in
    elim (cases_Bool (is_ascii_digit b)) [
      | inl is ↦ elim (cases_Bool (nat_lt m (2 ^ 64))) [
        | inl fit ↦ reads_some n m b bytes (digit_fits n b is fit) ∙ reads m bytes (ltb-true _ _ fit) ∙ reads_digit n b bytes is
        | inr large ↦ reads_no_more n b bytes (digit_too_large n b is large) ∙ sym (reads_large n b bytes is (ltb-false _ _ large))
      ]
      | inr not ↦ reads_no_more n b bytes (no_digit n b not) ∙ sym (reads_none n b bytes not)
    ]

-- a loop over the bytes, at the byte i
pub reads_byte : (n m i : ℕ) (text : List ℕ) (want : Option ℕ) → i < length text → digit_behind n (get_or text i 0) ≡ Some m
    → read_on (Some n) (drop i text) ≡ want → read_on (Some m) (drop (i + 1) text) ≡ want
reads_byte n m i text want within digit so_far =
    rw add-one (sym (reads_some n m (get_or text i 0) (drop (suc i) text) digit) ∙ (rw (drop-cons text i 0) at so_far))

pub ends_at_byte : (n i : ℕ) (text : List ℕ) (want : Option ℕ) → i < length text → digit_behind n (get_or text i 0) ≡ None
    → read_on (Some n) (drop i text) ≡ want → None ≡ want
ends_at_byte n i text want within digit so_far =
    sym (reads_no_more n (get_or text i 0) (drop (suc i) text) digit) ∙ (rw (drop-cons text i 0) at so_far)

-- and behind the last
pub reads_all : (n i : ℕ) (text : List ℕ) (want : Option ℕ) → length text ≤ i → read_on (Some n) (drop i text) ≡ want → Some n ≡ want
reads_all n i text want past so_far = rw (drop_of_length-le text past) at so_far

-- what the digits of a text spell, where there are neither too few nor too many
pub number_is : (text : List ℕ) → 1 ≤ length text → length text ≤ 20 → read_on (Some 0) text ≡ number_of_text text
unfolding number_of_text
number_is text some most = reads 0 text (omega arith) ∙ sym (rw (le-leb 1 _ some, le-leb _ 20 most) refl)
