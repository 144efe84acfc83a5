use Rattle.std.proofs.Common.{◌≡◌}
use Rattle.fam_format.specs.Layout.{geometry}
use Rattle.fam_tests.proofs.tests.random.reported.Given as goal

abbrev pub invariant-loop-i : goal.invariant-loop-i
invariant-loop-i l = record {
  added : l.fsck.added ≡ l.i;
  slots : l.fsck.params.slots ≡ l.i-end;
  words : (geometry l.fsck.params).words ≡ 64;
}
