use Rattle.std.proofs.Common.{◌≡◌, ◌-◌, ◌≤◌, length}
use Rattle.std.specs.Prelude.{vec_len}
use Rattle.fam_files.specs.declared.file_media.TheConstants.{PAGE_BYTES}
use Rattle.fam_files.proofs.file_media.FileMediaMedia.read_run.Given as goal

-- so many lines were read
abbrev pub invariant-loop-from : goal.invariant-loop-from
invariant-loop-from l = record {
  few : l.from ≤ length l.lines;
  len : length l.lines ≡ length l.fn.lines;
  page : PAGE_BYTES ≤ vec_len l.self.page;
  size : l.self.lines ≡ l.fn.self.lines;
  later : l.fn.self.faults ≤ l.self.faults;
}

abbrev pub decreases-loop-from : goal.decreases-loop-from
decreases-loop-from l = length l.initial.lines - l.from
