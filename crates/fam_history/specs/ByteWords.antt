-- Bytes as words spell them: each by two digits of sixteen; no bytes are `-`.
use Rattle.std.specs.Prelude.{ℕ, if◌then◌else◌, List, [], ◌∷◌, codes, Option, Some, None}
use Rattle.std.specs.Str.{bytes_eq}
use Rattle.fam_grammar.specs.Spellings.{byte_of, in_prefix_of}

-- one byte
abbrev pub one_byte : List ℕ → Option ℕ
one_byte [] = None
one_byte (a ∷ []) = None
one_byte (a ∷ b ∷ []) = byte_of a b
one_byte (a ∷ b ∷ c ∷ rest) = None

-- the bytes of a word with two digits for each
abbrev pub paired : List ℕ → Option (List ℕ)
paired [] = Some []
paired (a ∷ []) = None
paired (a ∷ b ∷ rest) = in_prefix_of (byte_of a b) (paired rest)

-- the bytes of a word
unfoldable pub bytes_of_word : List ℕ → Option (List ℕ)
bytes_of_word word = if bytes_eq word (codes "-") then Some [] else paired word
