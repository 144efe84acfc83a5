use Rattle.std.proofs.Common.{◌≡◌, map, find, drop}
use Rattle.fam_rules.specs.Reports.{overlaps}
use Rattle.fam_plain.proofs.overlaps.partner.Given as goal

abbrev pub invariant-loop-first : goal.invariant-loop-first
invariant-loop-first l = find (overlaps l.unit) (map (λ a. (a, l.last)) (drop l.first-index l.found)) ≡ find (overlaps l.unit) (map (λ a. (a, l.last)) l.found)
