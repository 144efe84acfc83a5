-- What is read of lines, one behind another.
use Rattle.std.specs.Prelude.{ℕ, ◌≡◌, ⊤, List, Result, Ok, Err}
use Rattle.fam_grammar.specs.declared.fault.LineFault.{LineFault}
use Rattle.fam_grammar.specs.declared.fault.LineFault.TheVariants.{BadLine, OutOfMemory}
use Rattle.fam_grammar.specs.declared.words.Line.{Line}
use Rattle.fam_grammar.specs.Reading.{Reading, Reads, Misfit}
use Rattle.fam_grammar.specs.Words.{Word}
use Rattle.fam_records.specs.Lines.{ALine, Left, NextLine, NoLine, next_line}

-- a value, and the lines behind it; or the number and column of a bad line
pub data TakenLines (A : Type 0) : Type 0 where
  Takes : (value : A) (left : Left) → TakenLines A
  Bad : (number column : ℕ) → TakenLines A

-- one thing behind another
abbrev pub then_takes : {A B : Type 0} → TakenLines A → (A → Left → TakenLines B) → TakenLines B
then_takes (Takes value left) next = next value left
then_takes (Bad number column) next = Bad number column

-- two things, one behind the other
abbrev pub both_of : {A B : Type 0} → (Left → TakenLines A) → (Left → TakenLines B) → Left → TakenLines (A × B)
both_of first second left =
    then_takes (first left) (λ a rest.
    then_takes (second rest) (λ b behind. Takes (a, b) behind))

-- what the words of a line read as
abbrev pub taken_as : {A : Type 0} → Line → Left → Reading A → TakenLines A
taken_as line left (Reads value rest) = Takes value left
taken_as line left (Misfit column) = Bad line.number column

-- the next line as a grammar reads its words; where a text ends too early, the line behind its last one is bad in its first column
abbrev pub line_by : {A : Type 0} → (ℕ → List Word → Reading A) → NextLine → TakenLines A
line_by grammar (NoLine number) = Bad number 1
line_by grammar (ALine line words left) = taken_as line left (grammar line.end words)

-- so of the lines that are left
abbrev pub line_taken : {A : Type 0} → (ℕ → List Word → Reading A) → Left → TakenLines A
line_taken grammar left = line_by grammar (next_line left)

-- a call gives what is read, seen so, and leaves the lines behind it; or it names the bad line; no memory says nothing of the lines
abbrev pub Gives : {A B : Type 0} → (A → B) → Left → Result A LineFault → TakenLines B → Type 0
Gives view left (Ok value) said = said ≡ Takes (view value) left
Gives view left (Err (BadLine number column)) said = said ≡ Bad number column
Gives view left (Err OutOfMemory) said = ⊤
