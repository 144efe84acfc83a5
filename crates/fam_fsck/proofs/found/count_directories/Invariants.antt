use Rattle.std.proofs.Common.{◌≡◌, ◌+◌, ◌≤◌, count_by, drop}
use Rattle.fam_rules.specs.Reports.{is_directory}
use Rattle.fam_fsck.specs.Found.{found_entries}
use Rattle.fam_fsck.proofs.found.count_directories.Given as goal

abbrev pub invariant-loop-place : goal.invariant-loop-place
invariant-loop-place l = record {
  counted : l.count + count_by (λ e. is_directory e.kind) (found_entries (drop l.place l.found)) ≡ count_by (λ e. is_directory e.kind) (found_entries l.found);
  few : l.count ≤ l.place;
}
