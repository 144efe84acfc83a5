-- A line that has an event, or none.
use Rattle.std.proofs.Common.{◌≡◌, ℕ, Bool, List, [], ◌∷◌, None, Ok, Err, refl, ap, sym, ◌∙◌}
use Rattle.std.specs.Prelude.{if◌then◌else◌}
use Rattle.fam_journal.specs.declared.event.Event.{Event}
use Rattle.fam_grammar.specs.declared.fault.LineFault.{LineFault}
use Rattle.fam_grammar.specs.declared.fault.LineFault.TheVariants.{BadLine, OutOfMemory}
use Rattle.fam_grammar.specs.declared.words.Line.{Line}
use Rattle.fam_grammar.specs.Cursor.{Tells}
use Rattle.fam_grammar.specs.Lines.{event_line}
use Rattle.fam_grammar.specs.Reading.{Reading}
use Rattle.fam_grammar.specs.Scripts.{AreEvent, AreNoEvent, IsBadLine, LineReading, end_of_line, event_or_column, line_of_words, line_reads, words_in}
use Rattle.fam_grammar.specs.Words.{Word}

-- a comment has no event
abbrev unless : LineReading Event → Bool → LineReading Event
unless read comment = if comment then Ok None else read

none_in : (end : ℕ) (words : List Word) → AreNoEvent words → line_of_words event_line end words ≡ Ok None
none_in end [] none = refl
none_in end (word ∷ words) none = ap (unless (event_or_column (event_line end (word ∷ words)))) none

one_in : (end : ℕ) (words : List Word) → AreEvent words → line_of_words event_line end words ≡ event_or_column (event_line end words)
one_in end [] one = absurd one
one_in end (word ∷ words) one = ap (unless (event_or_column (event_line end (word ∷ words)))) one

pub no_event : (bytes : List ℕ) → AreNoEvent (words_in bytes) → line_reads bytes ≡ Ok None
unfolding line_reads
no_event bytes none = none_in (end_of_line bytes) (words_in bytes) none

module _ (bytes : List ℕ) (words : List Word) (number : ℕ) (line : Line) (one : AreEvent (words_in bytes)) (same : words ≡ words_in bytes)
    (is : line ≡ record { number = number; end = end_of_line bytes }) where
  pub one_event : line_reads bytes ≡ event_or_column (event_line line.end words)
  unfolding line_reads
  one_event =
      one_in (end_of_line bytes) (words_in bytes) one
      ∙ ap (λ (ws : List Word). event_or_column (event_line (end_of_line bytes) ws)) (sym same)
      ∙ ap (λ (l : Line). event_or_column (event_line l.end words)) (sym is)

  pub bad_event : (fault : LineFault) → Tells line [] (Err fault) (event_line line.end words) → IsBadLine number (line_reads bytes) fault
  bad_event (BadLine at column) told = (told.0 ∙ ap (λ (l : Line). l.number) is, one_event ∙ ap (λ (r : Reading Event). event_or_column r) told.1)
  bad_event OutOfMemory told = tt
