-- The line of a storm, by its numbers. docs/MANUAL.md.
use Rattle.std.specs.Prelude.{ℕ, List, ◌++◌, codes}
use Rattle.fam_outcomes.specs.Texts.{number}
use Rattle.fam_script.specs.declared.counts.Counts.{Counts}

-- a seed, a size, and how many events there are
abbrev pub front_text : ℕ → ℕ → ℕ → List ℕ
front_text seed size events = codes "storm" ++ number seed ++ number size ++ codes " events" ++ number events

-- what is counted of notes, and the CRC-32 of their text
abbrev pub storm_counts_text : Counts → ℕ → List ℕ
storm_counts_text counts crc =
    codes " answers" ++ number counts.answers ++ codes " refused" ++ number counts.refused ++ codes " settled" ++ number counts.settled ++ codes " crc" ++ number crc

-- the words of fam_journal's `storm_line`, for a script of so many events and a journal with these counts whose text has
-- this CRC-32
abbrev pub storm_text : ℕ → ℕ → ℕ → Counts → ℕ → List ℕ
storm_text seed size events counts crc =
    codes "storm" ++ number seed ++ number size ++ codes " events" ++ number events ++ codes " answers" ++ number counts.answers ++ codes " refused" ++ number counts.refused ++ codes " settled" ++ number counts.settled ++ codes " crc" ++ number crc
