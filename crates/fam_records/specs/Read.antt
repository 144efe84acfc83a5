-- What reading the next line gives of the lines that are left.
use Rattle.std.specs.Prelude.{◌≡◌, ⊤, [], Option, Some, None, Result, Ok, Err}
use Rattle.fam_grammar.specs.declared.fault.LineFault.{LineFault}
use Rattle.fam_grammar.specs.declared.fault.LineFault.TheVariants.{BadLine, OutOfMemory}
use Rattle.fam_grammar.specs.declared.words.Line.{Line}
use Rattle.fam_grammar.specs.declared.words.Words.{Words}
use Rattle.fam_grammar.specs.Cursor.{words_left}
use Rattle.fam_records.specs.Lines.{ALine, Left, NoLine, next_line}

-- the next line, and those behind it; or none is left
abbrev pub IsNextLine : Left → Left → Option (Words × Line) → Type 0
IsNextLine old new None = (next_line old ≡ NoLine new.number) × (new.lines ≡ [])
IsNextLine old new (Some found) = next_line old ≡ ALine found.1 (words_left found.0) new

-- the same where one has to be there
abbrev pub IsExpectedLine : Left → Left → Result (Words × Line) LineFault → Type 0
IsExpectedLine old new (Ok found) = next_line old ≡ ALine found.1 (words_left found.0) new
IsExpectedLine old new (Err (BadLine number column)) = (next_line old ≡ NoLine number) × (column ≡ 1)
IsExpectedLine old new (Err OutOfMemory) = ⊤
