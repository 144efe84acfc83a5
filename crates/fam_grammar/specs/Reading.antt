-- What stands in a line from one of its words on.
use Rattle.std.specs.Prelude.{ℕ, List, [], ◌∷◌, Option, Some, None}
use Rattle.fam_grammar.specs.Words.{Word}

-- a value, with the words behind it; or the column of the first word that doesn't fit, of the line's end where one is missing
pub data Reading (A : Type 0) : Type 0 where
  Reads : (value : A) (rest : List Word) → Reading A
  Misfit : (column : ℕ) → Reading A

-- a word that is spelled so, or isn't
abbrev pub fitting_word : {A : Type 0} → Option A → ℕ → List Word → Reading A
fitting_word None column rest = Misfit column
fitting_word (Some value) column rest = Reads value rest

-- a word of this spelling stands next; `end` is the column behind the line
abbrev pub word_of : {A : Type 0} → (List ℕ → Option A) → ℕ → List Word → Reading A
word_of spelling end [] = Misfit end
word_of spelling end (word ∷ words) = fitting_word (spelling word.text) word.column words

-- one thing behind another
abbrev pub then_reads : {A B : Type 0} → Reading A → (A → List Word → Reading B) → Reading B
then_reads (Reads value rest) next = next value rest
then_reads (Misfit column) next = Misfit column

-- no word stands behind
abbrev pub ends_with : {A : Type 0} → A → List Word → Reading A
ends_with value [] = Reads value []
ends_with value (word ∷ words) = Misfit word.column
