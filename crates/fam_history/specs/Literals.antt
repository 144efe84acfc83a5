-- Words of a line that are fixed, and numbers at its end.
use Rattle.std.specs.Prelude.{ℕ, Bool, false, if◌then◌else◌, List, [], ◌∷◌, Option, Some, None}
use Rattle.std.specs.Str.{bytes_eq}
use Rattle.fam_grammar.specs.Numbers.{number_of_text}
use Rattle.fam_grammar.specs.Reading.{Reading, ends_with, then_reads, word_of}
use Rattle.fam_grammar.specs.Words.{Word}

-- a word is this one
abbrev pub the_word : List ℕ → List ℕ → Option (Unit {0})
the_word wanted word = if bytes_eq word wanted then Some tt else None

-- what the first of these keywords that a word is means
abbrev pub meaning_by : {K T : Type 0} → List K → (K → List ℕ) → (K → T) → List ℕ → Option T
meaning_by [] text means word = None
meaning_by (keyword ∷ more) text means word = if bytes_eq word (text keyword) then Some (means keyword) else meaning_by more text means word

-- the first word is this one
abbrev pub begins_with : List ℕ → List Word → Bool
begins_with wanted [] = false
begins_with wanted (word ∷ words) = bytes_eq word.text wanted

-- the words behind the first one
abbrev pub behind_first : List Word → List Word
behind_first [] = []
behind_first (word ∷ words) = words

-- a number, and no word behind it
abbrev pub last_number : ℕ → List Word → Reading ℕ
last_number end words = then_reads (word_of number_of_text end words) ends_with

-- two numbers, and no word behind them
abbrev pub last_two : ℕ → List Word → Reading (ℕ × ℕ)
last_two end words =
    then_reads (word_of number_of_text end words) (λ first rest.
    then_reads (word_of number_of_text end rest) (λ second rest.
    ends_with (first, second) rest))
