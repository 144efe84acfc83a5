use Rattle.std.proofs.Common.{◌≡◌, length}
use Rattle.fam_records.specs.Histories.{HasLineNumbers, history_in, history_left, lines_left}
use Rattle.fam_verdict.specs.Blank.{first_device}
use Rattle.fam_verdict.proofs.blank.first_device.Given as goal

-- no file system was made before what is left
abbrev pub invariant-records : goal.invariant-records
invariant-records l = record {
  same : first_device (history_left (lines_left l.records)).records ≡ first_device (history_in l.history).records;
  room : HasLineNumbers l.records;
}

-- fewer notes are left
abbrev pub decreases-records : goal.decreases-records
decreases-records l = length (history_left (lines_left l.records)).records
