-- A storm's line in parts, and that it is the line of a journal.
use Rattle.std.proofs.Common.{◌≡◌, ℕ, List, ◌++◌, codes, length, refl, ap, ap₂, ◌∙◌}
use Rattle.std.proofs.lemmas.List.{append_assoc}
use Rattle.fam_crc.specs.Crc.{crc32}
use Rattle.fam_journal.specs.declared.event.Event.{Event}
use Rattle.fam_journal.specs.Ends.{counted}
use Rattle.fam_journal.specs.Notes.{Note}
use Rattle.fam_outcomes.specs.Programs.{storm_line}
use Rattle.fam_outcomes.specs.Texts.{line, number, render}
use Rattle.fam_script.specs.declared.counts.Counts.{Counts}
use Rattle.fam_script.specs.StormLines.{storm_counts_text, front_text, storm_text}

-- five texts behind one another
pub five : (a b c d e : List ℕ) → a ++ (b ++ (c ++ (d ++ e))) ≡ a ++ b ++ c ++ d ++ e
five a b c d e = simp append_assoc refl

-- eight of them
pub eight : (a b c d e f g h : List ℕ) → a ++ (b ++ (c ++ (d ++ (e ++ (f ++ (g ++ h)))))) ≡ a ++ b ++ c ++ d ++ e ++ f ++ g ++ h
eight a b c d e f g h = simp append_assoc refl

-- eight of them behind a text
behind : (front a b c d e f g h : List ℕ) → front ++ (a ++ b ++ c ++ d ++ e ++ f ++ g ++ h) ≡ front ++ a ++ b ++ c ++ d ++ e ++ f ++ g ++ h
behind front a b c d e f g h = simp append_assoc refl

-- the two parts are the whole
pub whole : (seed size events : ℕ) (counts : Counts) (crc : ℕ) → front_text seed size events ++ storm_counts_text counts crc ≡ storm_text seed size events counts crc
whole seed size events counts crc =
    behind (front_text seed size events) (codes " answers") (number counts.answers) (codes " refused") (number counts.refused) (codes " settled") (number counts.settled) (codes " crc") (number crc)

-- the line of a journal, by its own numbers
pub storm_line_is : (seed size : ℕ) (events : List Event) (journal : List Note) (counts : Counts) (crc : ℕ)
    → counts.answers ≡ (counted journal).answers → counts.refused ≡ (counted journal).refused → counts.settled ≡ (counted journal).settled
    → crc ≡ crc32 (render journal) → line (storm_text seed size (length events) counts crc) ≡ storm_line seed size events journal
storm_line_is seed size events journal counts crc answers refused settled checksum =
    ap₂ (λ (n m : ℕ). line (storm_text seed size (length events) (record { answers = n; refused = m; settled = counts.settled }) crc)) answers refused
    ∙ ap₂ (λ (n c : ℕ). line (storm_text seed size (length events) (record { answers = (counted journal).answers; refused = (counted journal).refused; settled = n }) c)) settled checksum
