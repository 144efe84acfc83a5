use Rattle.std.proofs.Common.{◌≡◌, take, drop, option_map, find}
use Rattle.fam_rules.specs.Reports.{overlap_of, overlaps, pairs_after}
use Rattle.fam_plain.proofs.overlaps.least_overlap.Given as goal

-- no pair that was looked at overlaps
abbrev pub invariant-loop-last : goal.invariant-loop-last
invariant-loop-last l = option_map (λ pair. (pair.0.0, pair.1.0)) (find (overlaps l.unit) (pairs_after (take l.last l.found) (drop l.last l.found))) ≡ overlap_of l.unit l.found
