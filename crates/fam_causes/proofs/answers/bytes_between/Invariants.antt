use Rattle.fam_content.specs.Stream.{StreamStandsFor}
use Rattle.fam_causes.proofs.answers.bytes_between.Given as goal

abbrev pub invariant-lines : goal.invariant-lines
invariant-lines l = StreamStandsFor l.stream l.content l.j
