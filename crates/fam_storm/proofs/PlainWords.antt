-- Words of letters and digits.
use Rattle.std.proofs.Common.{◌≡◌, ℕ, ◌^◌, ◌<◌, ◌≤◌, ◌/◌, ◌%◌, Bool, true, false, cond, List, [], ◌∷◌, ◌++◌, Some, length, refl, ap, ap₂, sym, ◌∙◌, arith}
use Rattle.std.specs.Prelude.{◌&&◌, ◌||◌, ◌==◌, not, nat_le, nat_lt, All}
use Rattle.std.specs.Fmt.{decimal}
use Rattle.std.specs.List.{list_all}
use Rattle.std.specs.Str.{all_ascii_digits}
use Rattle.std.proofs.lemmas.Bool.{and_from, le-leb}
use Rattle.std.proofs.lemmas.Bool.Decides.{nat_tests}
use Rattle.std.proofs.lemmas.Fmt.{digits_decimal, length-decimal-le}
use Rattle.std.proofs.lemmas.List.Elements.{All-cons, All-nil}
use Rattle.std.proofs.lemmas.List.Splits.{slice_split_none}
use Rattle.fam_base.specs.Escapes.{escaped, is_plain, hex_digit}
use Rattle.fam_base.specs.Paths.{has_no_nul, is_name, is_path, is_slash, names}
use Rattle.fam_grammar.specs.Spellings.{path_of}
use Rattle.fam_grammar.proofs.Respelled.{own, path-escaped}

-- a letter or a digit
abbrev pub is_alnum : ℕ → Bool
is_alnum b = (nat_le 48 b && nat_le b 57) || (nat_le 97 b && nat_le b 122)

-- only such bytes
abbrev pub Alnum : List ℕ → Type 0
Alnum [] = Unit {0}
Alnum (b ∷ bytes) = (is_alnum b ≡ true) × Alnum bytes

digits_are : (bytes : List ℕ) → all_ascii_digits bytes ≡ true → Alnum bytes
digits_are [] are = tt
digits_are (b ∷ bytes) are =
    let here : is_alnum b ≡ true = grind (arith, nat_tests) in
    let rest : all_ascii_digits bytes ≡ true = grind (arith, nat_tests) in
    (here, digits_are bytes rest)

pub decimal_alnum : (n : ℕ) → n < 2 ^ 64 → Alnum (decimal n)
decimal_alnum n small = digits_are (decimal n) (digits_decimal own n small)

alnum_plain : (b : ℕ) → is_alnum b ≡ true → is_plain b ≡ true
alnum_plain b is = grind (arith, nat_tests)

alnum_slash : (b : ℕ) → is_alnum b ≡ true → is_slash b ≡ false
alnum_slash b is = grind (arith, nat_tests)

alnum_byte : (b : ℕ) → is_alnum b ≡ true → (nat_lt 0 b && nat_lt b 256) ≡ true
alnum_byte b is = grind (arith, nat_tests)

alnum_dot : (b : ℕ) → is_alnum b ≡ true → (b == 46) ≡ false
alnum_dot b is = grind (arith, nat_tests)

pub escaped-alnum : (bytes : List ℕ) → Alnum bytes → escaped bytes ≡ bytes
unfolding escaped
escaped-alnum [] are = refl
escaped-alnum (b ∷ bytes) are =
    ap₂ (λ (p : Bool) (l : List ℕ). cond p (b ∷ []) (0x5c ∷ 0x78 ∷ hex_digit (b / 16) ∷ hex_digit (b % 16) ∷ []) ++ l) (alnum_plain b are.0) (escaped-alnum bytes are.1)

no_slash : (bytes : List ℕ) → Alnum bytes → All (λ b. is_slash b ≡ false) bytes
no_slash [] are = All-nil (λ b. is_slash b ≡ false)
no_slash (b ∷ bytes) are = All-cons (λ b. is_slash b ≡ false) b bytes (alnum_slash b are.0) (no_slash bytes are.1)

no_nul : (bytes : List ℕ) → Alnum bytes → has_no_nul bytes ≡ true
no_nul [] are = refl
no_nul (b ∷ bytes) are = and_from _ _ (alnum_byte b are.0) (no_nul bytes are.1)

one_name : (b : ℕ) (bytes : List ℕ) → is_alnum b ≡ true → is_name (b ∷ bytes) ≡ true
one_name b [] is = ap not (alnum_dot b is)
one_name b (c ∷ []) is = ap (λ (t : Bool). not (t && (c == 46))) (alnum_dot b is)
one_name b (c ∷ e ∷ rest) is = refl

-- a short word of letters and digits is a path
pub alnum_path : (b : ℕ) (bytes : List ℕ) → Alnum (b ∷ bytes) → length (b ∷ bytes) ≤ 512 → is_path (b ∷ bytes) ≡ true
unfolding is_path
alnum_path b bytes are short =
    let split : names (b ∷ bytes) ≡ (b ∷ bytes) ∷ [] = slice_split_none is_slash (b ∷ bytes) (no_slash (b ∷ bytes) are) in
    let some : (length (b ∷ bytes) == 0) ≡ false = grind (arith, nat_tests) in
    let name : list_all is_name (names (b ∷ bytes)) ≡ true = ap (list_all is_name) split ∙ and_from _ _ (one_name b bytes are.0) refl in
    rw (some, le-leb (length (b ∷ bytes)) 512 short, no_nul (b ∷ bytes) are) name

module _ (b n : ℕ) (letter : is_alnum b ≡ true) (small : n < 2 ^ 64) where
  -- a letter and a number are the path that they spell
  pub path_read : path_of (b ∷ decimal n) ≡ Some (b ∷ decimal n)
  path_read =
      let short : length (decimal n) ≤ 20 = length-decimal-le 20 n (omega arith) (omega (arith, small)) small in
      let are : Alnum (b ∷ decimal n) = (letter, decimal_alnum n small) in
      let is : is_path (b ∷ decimal n) ≡ true = alnum_path b (decimal n) are (omega (arith, short)) in
      sym (ap path_of (escaped-alnum (b ∷ decimal n) are)) ∙ path-escaped (b ∷ decimal n) is
