-- The words of a line. docs/MANUAL.md, "Scripts".
use Rattle.std.specs.Prelude.{ℕ, ◌+◌, ◌-◌, ◌==◌, ◌||◌, Bool, if◌then◌else◌, List, [], ◌∷◌, length, take, slice_index}

-- a word, and the column of its first byte, counted from 1
pub record Word : Type 0 where
  pub column : ℕ
  pub text : List ℕ

-- a space or a tab
abbrev pub is_blank : ℕ → Bool
is_blank byte = (byte == 32) || (byte == 9)

-- a word of one byte
abbrev pub short_word : ℕ → ℕ → Word
short_word column byte = record { column = column; text = byte ∷ [] }

-- a byte in front of words, at a column: it begins the word that stands right behind it, or it is a word of its own
abbrev pub with_byte : ℕ → ℕ → List Word → List Word
with_byte column byte [] = short_word column byte ∷ []
with_byte column byte (word ∷ words) =
    if word.column == column + 1 then record { column = column; text = byte ∷ word.text } ∷ words
    else short_word column byte ∷ word ∷ words

-- the words of bytes of which the first has this column: what stands between blanks
abbrev pub words_from : ℕ → List ℕ → List Word
words_from column [] = []
words_from column (byte ∷ bytes) =
    if is_blank byte then words_from (column + 1) bytes else with_byte column byte (words_from (column + 1) bytes)

-- a line without the carriage return at its end; a second one belongs to a word
abbrev pub without_return : List ℕ → List ℕ
without_return line = if slice_index line (length line - 1) == 13 then take (length line - 1) line else line
