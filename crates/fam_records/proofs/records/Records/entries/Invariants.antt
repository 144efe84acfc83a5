use Rattle.fam_records.specs.Histories.{HasLineNumbers, lines_left}
use Rattle.fam_records.proofs.EntriesTaken.{HasTaken}
use Rattle.fam_records.proofs.records.Records.entries.Given as goal

abbrev pub invariant-loop-left : goal.invariant-loop-left
invariant-loop-left l = record {
  taken : HasTaken l.count (lines_left l.initial.self) l.entries.items l.left (lines_left l.self);
  room : HasLineNumbers l.self;
}

abbrev pub decreases-loop-left : goal.decreases-loop-left
decreases-loop-left l = l.left
