use Rattle.std.proofs.Common.{◌≡◌, length}
use Rattle.fam_records.specs.Histories.{HasLineNumbers, lines_left}
use Rattle.fam_records.specs.Lines.{next_line}
use Rattle.fam_records.proofs.records.Records.next_line.Given as goal

abbrev pub invariant-loop-number : goal.invariant-loop-number
invariant-loop-number l = record {
  same : next_line (lines_left l.initial.self) ≡ next_line (lines_left l.self);
  room : HasLineNumbers l.self;
}

abbrev pub decreases-loop-number : goal.decreases-loop-number
decreases-loop-number l = length l.self.rest.now
