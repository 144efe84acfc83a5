-- A size and a stripe that are printed are read as they were.
use Rattle.std.proofs.Common.{◌≡◌, ℕ, suc, ◌+◌, ◌-◌, ◌^◌, ◌<◌, ◌≤◌, true, false, eqb, ltb, List, [], ◌∷◌, ◌++◌, Option, Some, None, length, take, drop, get_or, codes, refl, ap, ◌∙◌, arith, add-one, decimal}
use Rattle.std.specs.Prelude.{option_map, position, ◌==◌}
use Rattle.std.specs.List.{position_or_len}
use Rattle.std.specs.Str.{all_ascii_digits}
use Rattle.std.proofs.lemmas.Bool.Decides.{nat_tests}
use Rattle.std.proofs.lemmas.Fmt.{decimal_nonempty, digits_decimal}
use Rattle.std.proofs.lemmas.List.{append_assoc, length-append, take_at}
use Rattle.std.proofs.lemmas.Str.Parse.{digit_at}
use Rattle.fam_base.specs.declared.cmd.Stripe.{Stripe}
use Rattle.fam_grammar.specs.Numbers.{multiplier_of, size_of_text}
use Rattle.fam_grammar.specs.Spellings.{at_comma, stripe_of}
use Rattle.fam_grammar.proofs.Joined.{HasNoBlank, no_blank-append}
use Rattle.fam_grammar.proofs.Respelled.{decimal_no_blank, number-decimal, own}

no_multiplier : (byte : ℕ) → 48 ≤ byte → byte ≤ 57 → multiplier_of byte ≡ None
no_multiplier byte low high = grind (arith, nat_tests)

pub size-decimal : (n : ℕ) → n < 2 ^ 64 → size_of_text (decimal n) ≡ Some n
unfolding size_of_text
size-decimal n small =
    let some = decimal_nonempty n small in
    let last = digit_at (decimal n) (length (decimal n) - 1) (own.to (decimal n) (digits_decimal own n small)) (omega (arith, some)) in
    rw (no_multiplier (get_or (decimal n) (length (decimal n) - 1) 0) last.0 last.1) (number-decimal n small)

-- no byte is a comma
HasNoComma : List ℕ → Type 0
HasNoComma [] = Unit {0}
HasNoComma (byte ∷ bytes) = (eqb byte 44 ≡ false) × HasNoComma bytes

digits_no_comma : (bytes : List ℕ) → all_ascii_digits bytes ≡ true → HasNoComma bytes
unfolding HasNoComma
digits_no_comma [] are = tt
digits_no_comma (byte ∷ bytes) are =
    let here : eqb byte 44 ≡ false = grind (arith, nat_tests) in
    let rest : all_ascii_digits bytes ≡ true = grind (arith, nat_tests) in
    (here, digits_no_comma bytes rest)

comma_place : (bytes rest : List ℕ) → HasNoComma bytes → position_or_len (λ byte. byte == 44) (bytes ++ 44 ∷ rest) ≡ length bytes
unfolding HasNoComma
comma_place [] rest none = refl
comma_place (byte ∷ bytes) rest none = rw none.0 (ap (λ (n : ℕ). 1 + n) (comma_place bytes rest none.1) ∙ omega arith)

comma_found : (bytes rest : List ℕ) → HasNoComma bytes → position (λ byte. byte == 44) (bytes ++ 44 ∷ rest) ≡ Some (length bytes)
comma_found bytes rest none =
    let within : ltb (length bytes) (length (bytes ++ 44 ∷ rest)) ≡ true = grind (arith, nat_tests, length-append bytes (44 ∷ rest)) in
    rw (comma_place bytes rest none, within) refl

drop_behind : (bytes rest : List ℕ) → drop (suc (length bytes)) (bytes ++ 44 ∷ rest) ≡ rest
drop_behind [] rest = refl
drop_behind (byte ∷ bytes) rest = drop_behind bytes rest

cut : (bytes rest : List ℕ) → HasNoComma bytes → let parts : List ℕ × List ℕ = (bytes, rest) in at_comma (bytes ++ 44 ∷ rest) ≡ Some parts
cut bytes rest none =
    let pair : List ℕ → List ℕ → Option (List ℕ × List ℕ) = λ l m. Some (l, m) in
    ap (option_map (λ i. (take i (bytes ++ 44 ∷ rest), drop (i + 1) (bytes ++ 44 ∷ rest)))) (comma_found bytes rest none)
    ∙ ap (λ (l : List ℕ). pair l (drop (length bytes + 1) (bytes ++ 44 ∷ rest))) (take_at bytes (44 ∷ rest) (length bytes) refl)
    ∙ ap (λ (l : List ℕ). pair bytes l) (ap (λ (n : ℕ). drop n (bytes ++ 44 ∷ rest)) (add-one (length bytes)) ∙ drop_behind bytes rest)

-- the value of `stripe=`
abbrev pub stripe_value : Stripe → List ℕ
stripe_value s = decimal s.nstrips ++ codes "," ++ decimal s.nbuckets ++ codes "," ++ decimal s.chunk

to_right : (a b c : List ℕ) → a ++ 44 ∷ [] ++ b ++ 44 ∷ [] ++ c ≡ a ++ 44 ∷ (b ++ 44 ∷ c)
to_right a b c = simp append_assoc refl

pub stripe_back : (s : Stripe) → s.nstrips < 2 ^ 64 → s.nbuckets < 2 ^ 64 → s.chunk < 2 ^ 64 → stripe_of (stripe_value s) ≡ Some s
unfolding stripe_of
stripe_back s first second third =
    rw (
      to_right (decimal s.nstrips) (decimal s.nbuckets) (decimal s.chunk),
      cut (decimal s.nstrips) (decimal s.nbuckets ++ 44 ∷ decimal s.chunk)
          (digits_no_comma _ (digits_decimal own s.nstrips first)),
      cut (decimal s.nbuckets) (decimal s.chunk)
          (digits_no_comma _ (digits_decimal own s.nbuckets second)),
      number-decimal s.nstrips first,
      number-decimal s.nbuckets second,
      size-decimal s.chunk third,
    ) refl

pub stripe_no_blank : (s : Stripe) → s.nstrips < 2 ^ 64 → s.nbuckets < 2 ^ 64 → s.chunk < 2 ^ 64 → HasNoBlank (stripe_value s)
stripe_no_blank s first second third =
    no_blank-append _ _ (no_blank-append _ _
    (no_blank-append _ _ (no_blank-append _ _ (decimal_no_blank s.nstrips first) (refl, tt)) (decimal_no_blank s.nbuckets second)) (refl, tt))
    (decimal_no_blank s.chunk third)
