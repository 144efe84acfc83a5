-- A word that has to be there, and what it is read as.
use Rattle.std.proofs.Common.{◌≡◌, ℕ, List, ◌∷◌, Option, Result, Err, refl}
use Rattle.fam_grammar.specs.declared.fault.LineFault.{LineFault}
use Rattle.fam_grammar.specs.declared.fault.LineFault.TheVariants.{BadLine, OutOfMemory}
use Rattle.fam_grammar.specs.declared.words.Line.{Line}
use Rattle.fam_grammar.specs.declared.words.Word.{Word as CursorWord}
use Rattle.fam_grammar.specs.Cursor.{IsExpected, Tells, seen}
use Rattle.fam_grammar.specs.Reading.{fitting_word, word_of}
use Rattle.fam_grammar.specs.Words.{Word}

pub word_fits : {A : Type 0} (spelling : List ℕ → Option A) (line : Line) (old new : List Word) (word : CursorWord) (given : Option A) (result : Result A LineFault)
    → old ≡ seen word ∷ new → given ≡ spelling word.text.now → Tells line new result (fitting_word given word.column new)
    → Tells line new result (word_of spelling line.end old)
word_fits spelling line old new word given result here is told = rw (here, ← is) told

pub none_stands : {A : Type 0} (spelling : List ℕ → Option A) (line : Line) (old new : List Word) (fault : LineFault)
    → IsExpected line old new (Err fault) → Tells {A = A} line new (Err fault) (word_of spelling line.end old)
none_stands spelling line old new (BadLine number column) missing = (missing.0, rw (missing.2, missing.1) refl)
none_stands spelling line old new OutOfMemory missing = tt
