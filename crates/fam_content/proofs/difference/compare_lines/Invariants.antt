use Rattle.fam_content.specs.Difference.{HaveNone}
use Rattle.fam_content.proofs.difference.compare_lines.Given as goal

-- the lines so far have the bytes that are wanted
abbrev pub invariant-lines : goal.invariant-lines
invariant-lines l = HaveNone l.found l.wanted l.start l.size l.k
