use Rattle.std.proofs.Common.{◌≡◌, ◌≤◌, count_by, take}
use Rattle.fam_rules.specs.Reports.{is_file}
use Rattle.fam_settled.proofs.reports.files_in.Given as goal

abbrev pub invariant-loop-i : goal.invariant-loop-i
invariant-loop-i l = record {
  counted : l.files ≡ count_by (λ e. is_file e.kind) (take l.i l.plan.entries);
  few : l.files ≤ l.i;
}
