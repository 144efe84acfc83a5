use Rattle.std.proofs.Common.{◌≡◌, ◌+◌, ◌^◌, ◌<◌, length}
use Rattle.fam_fsck.specs.Merge.{left, passed}
use Rattle.fam_fsck.proofs.merge.pass.Given as goal

abbrev pub invariant-loop-rest : goal.invariant-loop-rest
invariant-loop-rest l = record {
  counted : passed l.path l.checked l.rest ≡ passed l.path l.initial.checked l.initial.rest;
  rest : left l.path l.rest ≡ left l.path l.initial.rest;
  room : l.checked.extra + length l.rest < 2 ^ 64;
}

abbrev pub decreases-loop-rest : goal.decreases-loop-rest
decreases-loop-rest l = length l.rest
