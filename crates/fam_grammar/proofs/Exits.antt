-- A line ends at its first word that doesn't fit.
use Rattle.std.proofs.Common.{◌≡◌, ℕ, [], Err}
use Rattle.fam_grammar.specs.declared.fault.LineFault.{LineFault}
use Rattle.fam_grammar.specs.declared.fault.LineFault.TheVariants.{BadLine, OutOfMemory}
use Rattle.fam_grammar.specs.declared.words.Line.{Line}
use Rattle.fam_grammar.specs.Cursor.{Tells}
use Rattle.fam_grammar.specs.Reading.{Reading, Misfit}

-- what a part of it tells is told of the whole
pub stopped : {A B : Type 0} (line : Line) (fault : LineFault) (said : Reading A) (whole : Reading B)
    → ((column : ℕ) → said ≡ Misfit column → whole ≡ Misfit column) → Tells line [] (Err fault) said → Tells line [] (Err fault) whole
stopped line (BadLine number column) said whole ends told = (told.0, ends column told.1)
stopped line OutOfMemory said whole ends told = tt
