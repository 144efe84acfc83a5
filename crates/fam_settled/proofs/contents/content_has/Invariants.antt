use Rattle.std.proofs.Common.{◌≡◌, ℕ, ◌+◌, ◌*◌, ◌<◌, length, get_or}
use Rattle.fam_rules.specs.Content.{content_byte}
use Rattle.fam_content.specs.Stream.{StreamStandsFor}
use Rattle.fam_settled.proofs.contents.content_has.Given as goal

abbrev pub invariant-lines : goal.invariant-lines
invariant-lines l = record {
  stands : StreamStandsFor l.stream l.content l.j;
  same : (i : ℕ) → i < length l.given → l.offset + i < 64 * l.j → content_byte l.content (l.offset + i) ≡ get_or l.given i 0;
}
