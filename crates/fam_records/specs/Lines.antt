-- The lines of a text that are neither blank nor a comment, with their numbers. Lines are cut into words as those of every script.
use Rattle.std.specs.Prelude.{ℕ, ◌+◌, Bool, true, if◌then◌else◌, List, [], ◌∷◌}
use Rattle.fam_grammar.specs.declared.words.Line.{Line}
use Rattle.fam_grammar.specs.Scripts.{end_of_line, is_comment, words_in}
use Rattle.fam_grammar.specs.Words.{Word}

-- the lines that are left of a text, and the number of the first
pub record Left : Type 0 where
  pub number : ℕ
  pub lines : List (List ℕ)

-- the next line that tells something, its words, and the lines behind it; or none, and the number of the line behind the last one
pub data NextLine : Type 0 where
  NoLine : (number : ℕ) → NextLine
  ALine : (line : Line) (words : List Word) (left : Left) → NextLine

-- a line is passed over: it has no words, or the first begins with `#`
abbrev pub is_passed : List Word → Bool
is_passed [] = true
is_passed (word ∷ words) = is_comment word

-- a line, with its number
abbrev pub numbered_line : ℕ → List ℕ → Line
numbered_line number line = record { number = number; end = end_of_line line }

-- the next line of lines of which the first has this number
abbrev pub next_from : ℕ → List (List ℕ) → NextLine
next_from number [] = NoLine number
next_from number (line ∷ lines) =
    if is_passed (words_in line) then next_from (number + 1) lines
    else ALine (numbered_line number line) (words_in line) (record { number = number + 1; lines = lines })

-- the next line of those that are left
abbrev pub next_line : Left → NextLine
next_line left = next_from left.number left.lines
