use Rattle.std.proofs.Common.{◌≡◌, ℕ, length, take}
use Rattle.fam_format.specs.Layout.{device_units}
use Rattle.fam_format.specs.Units.{is_used}
use Rattle.fam_alloc.specs.Taken.{is_taken}
use Rattle.fam_settled.proofs.reports.used_in.Given as goal

abbrev pub invariant-loop-i : goal.invariant-loop-i
invariant-loop-i l = record {
  units : length l.used ≡ device_units l.plan.params;
  used : (u : ℕ) → is_taken l.used u ≡ is_used l.plan.params (take l.i l.plan.entries) u;
}
