use Rattle.fam_content.specs.Stream.{StreamStandsFor}
use Rattle.famfs_cases.proofs.leaves.content_line.Given as goal

-- the stream stands behind the lines so far
abbrev pub invariant-lines : goal.invariant-lines
invariant-lines l = StreamStandsFor l.stream l.content l._given
