-- Words with escapes, byte by byte; and texts that aren't spelled so.
use Rattle.std.proofs.Common.{◌≡◌, ◌<◌, ◌≤◌, ℕ, Bool, true, false, cond, eqb, leb, length, List, [], ◌∷◌, ◌++◌, Option, Some, None, refl, sym, ap, ◌∙◌, arith, append-nil}
use Rattle.std.specs.Prelude.{option_map, option_and_then, IsTrue, ◌&&◌, not}
use Rattle.std.proofs.lemmas.List.{append_assoc}
use Rattle.std.proofs.lemmas.Bool.Decides.{nat_tests}
use Rattle.std.proofs.lemmas.List.{length-append}
use Rattle.std.specs.Str.{is_utf8, IsUtf8}
use Rattle.std.proofs.lemmas.Str.{IsUtf8-from_is_utf8}
use Rattle.fam_base.specs.Paths.{is_path}
use Rattle.fam_grammar.specs.Spellings.{unescaped, in_prefix, passing, path_of, file_of, is_file_name}

-- an option that has no value is none
pub none_of : {A : Type 0} → (o : Option A) → (((x : A) × (o ≡ Some x)) → ⊥) → None ≡ o
none_of None empty = refl
none_of (Some x) empty = absurd (empty (x, refl))

-- bytes in front of bytes that may be there
abbrev pub behind : List ℕ → Option (List ℕ) → Option (List ℕ)
behind prefix bytes = option_map (λ (rest : List ℕ). prefix ++ rest) bytes

-- one more byte
pub behind-in_prefix : (prefix : List ℕ) (byte : ℕ) (bytes : Option (List ℕ)) → behind prefix (in_prefix byte bytes) ≡ behind (prefix ++ byte ∷ []) bytes
behind-in_prefix prefix byte None = refl
behind-in_prefix prefix byte (Some bytes) = ap (λ (l : List ℕ). Some l) (sym (append_assoc prefix (byte ∷ []) bytes))

-- bytes that pass a test, or don't
passes : (test : List ℕ → Bool) (bytes : List ℕ) → test bytes ≡ true → Some bytes ≡ passing test bytes
passes test bytes is = ap (λ (t : Bool). cond t (Some bytes) None) (sym is)

fails : (test : List ℕ → Bool) (bytes : List ℕ) → test bytes ≡ false → None ≡ passing test bytes
fails test bytes is = ap (λ (t : Bool). cond t (Some bytes) None) (sym is)

-- a longer one is no path
long_is_none : (bytes : List ℕ) → 512 < length bytes → is_path bytes ≡ false
unfolding is_path
long_is_none bytes long =
    let some : eqb (length bytes) 0 ≡ false = grind (arith, nat_tests) in
    let over : leb (length bytes) 512 ≡ false = grind (arith, nat_tests) in
    rw (some, over) refl

module _ (word : List ℕ) where
  -- what a word that isn't spelled so is
  pub no_path : unescaped word ≡ None → None ≡ path_of word
  unfolding path_of
  no_path is = ap (option_and_then (passing is_path)) (sym is)

  pub no_file : unescaped word ≡ None → None ≡ file_of word
  unfolding file_of
  no_file is = ap (option_and_then (passing is_file_name)) (sym is)

  -- bytes that are a path, or none
  pub is_the_path : (bytes : List ℕ) → unescaped word ≡ Some bytes → is_path bytes ≡ true → Some bytes ≡ path_of word
  unfolding path_of
  is_the_path bytes is path = passes is_path bytes path ∙ ap (option_and_then (passing is_path)) (sym is)

  pub is_no_path : (bytes : List ℕ) → unescaped word ≡ Some bytes → is_path bytes ≡ false → None ≡ path_of word
  unfolding path_of
  is_no_path bytes is path = fails is_path bytes path ∙ ap (option_and_then (passing is_path)) (sym is)

  pub is_the_file : (bytes : List ℕ) → unescaped word ≡ Some bytes → is_file_name bytes ≡ true → Some bytes ≡ file_of word
  unfolding file_of
  is_the_file bytes is file = passes is_file_name bytes file ∙ ap (option_and_then (passing is_file_name)) (sym is)

  pub is_no_file : (bytes : List ℕ) → unescaped word ≡ Some bytes → is_file_name bytes ≡ false → None ≡ file_of word
  unfolding file_of
  is_no_file bytes is file = fails is_file_name bytes file ∙ ap (option_and_then (passing is_file_name)) (sym is)

  -- bytes that are too many for a path
  pub too_long : (prefix : List ℕ) (byte : ℕ) (rest : Option (List ℕ)) → 512 ≤ length prefix → unescaped word ≡ behind prefix (in_prefix byte rest) → None ≡ path_of word
  too_long prefix byte None long is = no_path is
  too_long prefix byte (Some rest) long is =
      is_no_path (prefix ++ byte ∷ rest) is (long_is_none _ (omega (arith, long, length-append prefix (byte ∷ rest))))

-- one more byte of a word is read
pub read_on : (word prefix : List ℕ) (byte : ℕ) (rest more : Option (List ℕ)) → unescaped word ≡ behind prefix rest → rest ≡ in_prefix byte more → unescaped word ≡ behind (prefix ++ byte ∷ []) more
read_on word prefix byte rest more was first = was ∙ ap (behind prefix) first ∙ behind-in_prefix prefix byte more

-- all of a word is read
pub read_all : (word prefix rest : List ℕ) → unescaped word ≡ behind prefix (unescaped rest) → length rest ≡ 0 → unescaped word ≡ Some prefix
read_all word prefix [] was none = was ∙ ap (λ (l : List ℕ). Some l) (append-nil prefix)
read_all word prefix (b ∷ rest) was none = absurd (omega arith)

-- what is left of a word isn't spelled so
pub read_none : (word prefix : List ℕ) (rest : Option (List ℕ)) → unescaped word ≡ behind prefix rest → rest ≡ None → unescaped word ≡ None
read_none word prefix rest was none = was ∙ ap (behind prefix) none

-- tests

pub false_of : (b : Bool) → (IsTrue b → ⊥) → b ≡ false
false_of true other = absurd (other refl)
false_of false other = refl

pub not_utf8 : (bytes : List ℕ) → (IsUtf8 bytes → ⊥) → is_utf8 bytes ≡ false
not_utf8 bytes other = false_of (is_utf8 bytes) (λ is. other (IsUtf8-from_is_utf8 bytes is))

-- bytes that name a file
pub no_name_of_nothing : (bytes : List ℕ) → length bytes ≡ 0 → is_file_name bytes ≡ false
no_name_of_nothing bytes none = rw none refl

pub name_of_utf8 : (bytes : List ℕ) → eqb (length bytes) 0 ≡ false → is_utf8 bytes ≡ true → is_file_name bytes ≡ true
name_of_utf8 bytes some is = rw (some, is) refl

pub no_name_of_others : (bytes : List ℕ) → is_utf8 bytes ≡ false → is_file_name bytes ≡ false
no_name_of_others bytes is = elim (not (eqb (length bytes) 0)) as (λ t. (t && is_utf8 bytes) ≡ false) [ true ↦ is | false ↦ refl ]

-- two parts
pub pair_of : (a b x y : List ℕ) → a ≡ x → b ≡ y → let left : List ℕ × List ℕ = (a, b) in let right : List ℕ × List ℕ = (x, y) in Some left ≡ Some right
pair_of a b x y prefix back =
    let pair : List ℕ → List ℕ → Option (List ℕ × List ℕ) = λ l m. Some (l, m) in
    ap (λ (l : List ℕ). pair l b) prefix ∙ ap (λ (l : List ℕ). pair x l) back
