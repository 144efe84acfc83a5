use Rattle.std.proofs.Common.{◌≡◌, ℕ, ◌*◌, ◌<◌}
use Rattle.fam_rules.specs.Content.{content_byte}
use Rattle.fam_content.specs.Stream.{StreamStandsFor}
use Rattle.fam_settled.proofs.contents.have_same.Given as goal

abbrev pub invariant-lines : goal.invariant-lines
invariant-lines l = record {
  first : StreamStandsFor l.first l.a l.j;
  second : StreamStandsFor l.second l.b l.j;
  same : (i : ℕ) → i < 64 * l.j → i < l.end → content_byte l.a i ≡ content_byte l.b i;
}
