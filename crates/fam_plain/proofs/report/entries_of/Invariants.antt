use Rattle.std.proofs.Common.{◌≡◌, ◌++◌, map, drop}
use Rattle.fam_plain.proofs.report.entries_of.Given as goal

abbrev pub invariant-loop-f : goal.invariant-loop-f
invariant-loop-f l = l.entries.items ++ map (λ f. f.1) (drop l.f-index l.found) ≡ map (λ f. f.1) l.found
