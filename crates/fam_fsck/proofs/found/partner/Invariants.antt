use Rattle.std.proofs.Common.{◌≡◌, drop}
use Rattle.std.specs.Prelude.{find}
use Rattle.fam_rules.specs.Reports.{overlaps}
use Rattle.fam_fsck.specs.Found.{pair_of}
use Rattle.fam_fsck.proofs.found.partner.Given as goal

abbrev pub invariant-loop-place : goal.invariant-loop-place
invariant-loop-place l =
    find (λ f. overlaps l.unit (pair_of f, (l.number, l.last))) (drop l.place l.found) ≡ find (λ f. overlaps l.unit (pair_of f, (l.number, l.last))) l.found
