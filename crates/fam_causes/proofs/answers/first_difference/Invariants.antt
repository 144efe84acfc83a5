use Rattle.fam_content.specs.Stream.{StreamStandsFor}
use Rattle.fam_causes.proofs.answers.first_difference.Given as goal

abbrev pub invariant-lines : goal.invariant-lines
invariant-lines l = record {
  first : StreamStandsFor l.first l.a l.j;
  second : StreamStandsFor l.second l.b l.j;
}
