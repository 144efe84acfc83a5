-- What is printed of a value is a word that spells it.
use Rattle.std.proofs.Common.{◌≡◌, ℕ, ◌/◌, ◌%◌, ◌^◌, ◌<◌, ◌≤◌, true, false, cond, leb, List, [], ◌∷◌, ◌++◌, Option, Some, length, refl, ap, ◌∙◌, arith, decimal}
use Rattle.std.specs.List.{flat_map}
use Rattle.std.specs.Str.{all_ascii_digits}
use Rattle.std.specs.Str.Parse.{digits_value}
use Rattle.std.proofs.lemmas.Bool.Decides.{nat_tests}
use Rattle.std.proofs.lemmas.Fmt.{decimal_nonempty, digits_decimal, digits_value-decimal, length-decimal-le}
use Rattle.std.proofs.lemmas.Str.Parse.{IsNumeralModel, numerals_by_value, tells_all_ascii_digits}
use Rattle.uuid.specs.Text.{hex_digit_value}
use Rattle.fam_base.specs.Escapes.{is_plain, hex_digit, escaped_byte, escaped}
use Rattle.fam_base.specs.Paths.{has_no_nul, is_path}
use Rattle.fam_tree.specs.Lines.{mode_text, octal_digit}
use Rattle.fam_grammar.specs.Numbers.{number_of_text, fitting, below}
use Rattle.fam_grammar.specs.Spellings.{byte_of, in_prefix, in_prefix_of, is_octal, mode_of, path_of, unescaped}
use Rattle.fam_grammar.specs.Words.{is_blank}
use Rattle.fam_grammar.proofs.Joined.{HasNoBlank, IsOneWord, no_blank-append}

-- Names with escapes.

-- numbers that are bytes
abbrev pub AreSmall : List ℕ → Type 0
AreSmall [] = Unit {0}
AreSmall (byte ∷ bytes) = (byte < 256) × AreSmall bytes

small_of : (bytes : List ℕ) → has_no_nul bytes ≡ true → AreSmall bytes
small_of [] is = tt
small_of (byte ∷ bytes) is =
    let here : byte < 256 = grind (arith, nat_tests) in
    let rest : has_no_nul bytes ≡ true = grind (arith, nat_tests) in
    (here, small_of bytes rest)

-- the bytes of a path
pub path_bytes : (path : List ℕ) → is_path path ≡ true → AreSmall path
unfolding is_path
path_bytes path is = small_of path (grind (arith, nat_tests))

-- a path isn't empty
pub path_some : (path : List ℕ) → is_path path ≡ true → 0 < length path
unfolding is_path
path_some path is = grind (arith, nat_tests)

-- a visible byte in front
plain_prefix : (byte : ℕ) (text : List ℕ) → is_plain byte ≡ true → unescaped (byte ∷ text) ≡ in_prefix byte (unescaped text)
plain_prefix byte [] is = rw is refl
plain_prefix byte (a ∷ []) is = rw is refl
plain_prefix byte (a ∷ b ∷ []) is = rw is refl
plain_prefix byte (a ∷ b ∷ c ∷ rest) is = rw is refl

-- a digit's value
digit_back : (n : ℕ) → n < 16 → hex_digit_value (hex_digit n) ≡ Some n
digit_back n small = grind (arith, nat_tests)

-- two digits
byte_back : (byte : ℕ) → byte < 256 → byte_of (hex_digit (byte / 16)) (hex_digit (byte % 16)) ≡ Some byte
byte_back byte small =
    rw (digit_back (byte / 16) (omega arith), digit_back (byte % 16) (omega arith)) (ap (λ (n : ℕ). Some n) (omega arith))

-- an escape in front
coded_prefix : (byte : ℕ) (text : List ℕ) → byte < 256
    → unescaped (0x5c ∷ 0x78 ∷ hex_digit (byte / 16) ∷ hex_digit (byte % 16) ∷ text) ≡ in_prefix byte (unescaped text)
coded_prefix byte text small = ap (λ (o : Option ℕ). in_prefix_of o (unescaped text)) (byte_back byte small)

one_back : (byte : ℕ) (text : List ℕ) → byte < 256 → unescaped (escaped_byte byte ++ text) ≡ in_prefix byte (unescaped text)
one_back byte text small =
    elim (is_plain byte) as (λ t. is_plain byte ≡ t → unescaped (cond t (byte ∷ []) (0x5c ∷ 0x78 ∷ hex_digit (byte / 16) ∷ hex_digit (byte % 16) ∷ []) ++ text) ≡ in_prefix byte (unescaped text)) [
      | true ↦ λ is. plain_prefix byte text is
      | false ↦ λ is. coded_prefix byte text small
    ] refl

-- all bytes come back
pub unescaped-escaped : (bytes : List ℕ) → AreSmall bytes → unescaped (escaped bytes) ≡ Some bytes
unfolding escaped
unescaped-escaped [] small = refl
unescaped-escaped (byte ∷ bytes) small =
    one_back byte (flat_map escaped_byte bytes) small.0
    ∙ ap (in_prefix byte) (unescaped-escaped bytes small.1)

-- escapes have no blank, and a name isn't empty
escape_no_blank : (byte : ℕ) → byte < 256 → HasNoBlank (escaped_byte byte)
escape_no_blank byte small =
    elim (is_plain byte) as (λ t. is_plain byte ≡ t → HasNoBlank (cond t (byte ∷ []) (0x5c ∷ 0x78 ∷ hex_digit (byte / 16) ∷ hex_digit (byte % 16) ∷ []))) [
      | true ↦ λ is. let plain : is_blank byte ≡ false = grind (arith, nat_tests) in (plain, tt)
      | false ↦ λ is. (refl, (refl, (digit_no_blank (byte / 16) (omega arith), (digit_no_blank (byte % 16) (omega arith), tt))))
    ] refl
  where
    digit_no_blank : (n : ℕ) → n < 16 → is_blank (hex_digit n) ≡ false
    digit_no_blank n below = grind (arith, nat_tests)

pub escaped_no_blank : (bytes : List ℕ) → AreSmall bytes → HasNoBlank (escaped bytes)
unfolding escaped
escaped_no_blank [] small = tt
escaped_no_blank (byte ∷ bytes) small = no_blank-append (escaped_byte byte) (flat_map escaped_byte bytes) (escape_no_blank byte small.0) (escaped_no_blank bytes small.1)

-- Numbers.

pub own : IsNumeralModel (λ ds. all_ascii_digits ds ≡ true) (digits_value 10)
own = numerals_by_value _ tells_all_ascii_digits

fits : (n : ℕ) → n < 2 ^ 64 → fitting n ≡ Some n
fits n small = grind (arith, nat_tests)

pub number-decimal : (n : ℕ) → n < 2 ^ 64 → number_of_text (decimal n) ≡ Some n
unfolding number_of_text
number-decimal n small =
    let some : leb 1 (length (decimal n)) ≡ true = grind (arith, nat_tests, decimal_nonempty n small) in
    let few : leb (length (decimal n)) 20 ≡ true = grind (arith, nat_tests, length-decimal-le 20 n (omega arith) (omega (arith, small)) small) in
    rw (some, few, digits_decimal own n small, digits_value-decimal own n small) (fits n small)

digits_no_blank : (bytes : List ℕ) → all_ascii_digits bytes ≡ true → HasNoBlank bytes
digits_no_blank [] are = tt
digits_no_blank (byte ∷ bytes) are =
    let here : is_blank byte ≡ false = grind (arith, nat_tests) in
    let rest : all_ascii_digits bytes ≡ true = grind (arith, nat_tests) in
    (here, digits_no_blank bytes rest)

pub decimal_no_blank : (n : ℕ) → n < 2 ^ 64 → HasNoBlank (decimal n)
decimal_no_blank n small = digits_no_blank (decimal n) (digits_decimal own n small)

one_word : (text : List ℕ) → 0 < length text → HasNoBlank text → IsOneWord text
one_word [] some are = absurd (omega arith)
one_word (byte ∷ bytes) some are = are

pub decimal_word : (n : ℕ) → n < 2 ^ 64 → IsOneWord (decimal n)
decimal_word n small = one_word (decimal n) (decimal_nonempty n small) (decimal_no_blank n small)

-- a limit above it
pub below-some : (limit n : ℕ) → n < limit → below limit (Some n) ≡ Some n
below-some limit n small = grind (arith, nat_tests)

-- Modes.

octal_is : (n : ℕ) → is_octal (octal_digit n) ≡ true
octal_is n = grind (arith, nat_tests)

pub mode-mode_text : (mode : ℕ) → mode ≤ 4095 → mode_of (mode_text mode) ≡ Some mode
unfolding mode_of
mode-mode_text mode small =
    rw (octal_is (mode / 512), octal_is (mode / 64), octal_is (mode / 8), octal_is mode) (ap (λ (n : ℕ). Some n) (omega arith))

pub mode_no_blank : (mode : ℕ) → HasNoBlank (mode_text mode)
mode_no_blank mode = (one (mode / 512), (one (mode / 64), (one (mode / 8), (one mode, tt))))
  where
    one : (n : ℕ) → is_blank (octal_digit n) ≡ false
    one n = grind (arith, nat_tests)

-- Paths.

escaped_some : (bytes : List ℕ) → 0 < length bytes → 0 < length (escaped bytes)
unfolding escaped
escaped_some [] some = absurd (omega arith)
escaped_some (byte ∷ bytes) some =
    elim (is_plain byte) as (λ t. 0 < length (cond t (byte ∷ []) (0x5c ∷ 0x78 ∷ hex_digit (byte / 16) ∷ hex_digit (byte % 16) ∷ []) ++ flat_map escaped_byte bytes)) [
      | true ↦ omega arith
      | false ↦ omega arith
    ]

pub path_word : (path : List ℕ) → is_path path ≡ true → IsOneWord (escaped path)
path_word path is = one_word (escaped path) (escaped_some path (path_some path is)) (escaped_no_blank path (path_bytes path is))

pub path-escaped : (path : List ℕ) → is_path path ≡ true → path_of (escaped path) ≡ Some path
unfolding path_of
path-escaped path is = rw (unescaped-escaped path (path_bytes path is), is) refl
