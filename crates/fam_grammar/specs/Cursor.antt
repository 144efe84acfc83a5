-- What reading from the left gives of a line's words.
use Rattle.std.specs.Prelude.{ℕ, ◌≡◌, ⊤, ◌+◌, ◌^◌, ◌<◌, false, if◌then◌else◌, List, [], ◌∷◌, length, Option, Some, None, Result, Ok, Err, suc}
use Rattle.fam_grammar.specs.declared.fault.LineFault.{LineFault}
use Rattle.fam_grammar.specs.declared.fault.LineFault.TheVariants.{BadLine, OutOfMemory}
use Rattle.fam_grammar.specs.declared.words.Line.{Line}
use Rattle.fam_grammar.specs.declared.words.Word.{Word as CursorWord}
use Rattle.fam_grammar.specs.declared.words.Words.{Words}
use Rattle.fam_grammar.specs.Reading.{Reading, Reads, Misfit}
use Rattle.fam_grammar.specs.Words.{Word, is_blank, words_from}

-- the words that are left
abbrev pub words_left : Words → List Word
words_left w = words_from w.column w.bytes.now

-- columns don't wrap
abbrev pub IsShort : Words → Type 0
IsShort w = w.column + length w.bytes.now < 2 ^ 64

-- a word as the grammar has it
abbrev pub seen : CursorWord → Word
seen w = record { column = w.column; text = w.text.now }

-- the word that was taken, or that there is none
abbrev pub IsNext : List Word → List Word → Option CursorWord → Type 0
IsNext old new None = (old ≡ []) × (new ≡ [])
IsNext old new (Some word) = old ≡ seen word ∷ new

-- the same where one has to be there
abbrev pub IsExpected : Line → List Word → List Word → Result CursorWord LineFault → Type 0
IsExpected line old new (Ok word) = old ≡ seen word ∷ new
IsExpected line old new (Err (BadLine number column)) = (number ≡ line.number) × (column ≡ line.end) × (old ≡ [])
IsExpected line old new (Err OutOfMemory) = ⊤

-- a call gives what the grammar says, and leaves the words behind; or it names the column of the first word that doesn't fit
abbrev pub Tells : {A : Type 0} → Line → List Word → Result A LineFault → Reading A → Type 0
Tells line rest (Ok value) said = said ≡ Reads value rest
Tells line rest (Err (BadLine number column)) said = (number ≡ line.number) × (said ≡ Misfit column)
Tells line rest (Err OutOfMemory) said = ⊤

-- how many bytes stand in front of the first blank
abbrev pub prefix_length : List ℕ → ℕ
prefix_length [] = 0
prefix_length (byte ∷ bytes) = if is_blank byte then 0 else suc (prefix_length bytes)

-- the first byte is there, and no blank
abbrev pub BeginsWithWord : List ℕ → Type 0
BeginsWithWord [] = ⊥
BeginsWithWord (byte ∷ bytes) = is_blank byte ≡ false
