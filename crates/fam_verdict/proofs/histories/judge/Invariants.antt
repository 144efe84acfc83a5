use Rattle.std.proofs.Common.{length}
use Rattle.fam_records.specs.Histories.{HasLineNumbers, history_in, history_left, lines_left}
use Rattle.fam_verdict.specs.Judged.{IsKept}
use Rattle.fam_verdict.proofs.Looping.{JudgedOf, SoFar}
use Rattle.fam_verdict.proofs.histories.judge.Given as goal

-- the states judge the notes that were read
abbrev pub invariant-notes : goal.invariant-notes
invariant-notes l = record {
  kept : IsKept l.judged;
  room : HasLineNumbers l.records;
  far : SoFar (history_in l.history) (history_left (lines_left l.records)) (JudgedOf l.lines l.given l.fn.settled l.judged);
}

-- fewer notes are left
abbrev pub decreases-notes : goal.decreases-notes
decreases-notes l = length (history_left (lines_left l.records)).records
