use Rattle.std.proofs.Common.{◌≡◌, ◌<◌, drop}
use Rattle.std.specs.Prelude.{fold}
use Rattle.fam_grammar.specs.Spellings.{with_octal}
use Rattle.fam_grammar.proofs.spellings.octal_value.Given as goal

abbrev pub invariant-loop-digit : goal.invariant-loop-digit
invariant-loop-digit l =
    (fold with_octal l.value (drop l.digit-index l.digits) ≡ fold with_octal 0 l.digits)
    × (l.digit-index ≡ 0 → l.value < 1) × (l.digit-index ≡ 1 → l.value < 8) × (l.digit-index ≡ 2 → l.value < 64) × (l.digit-index ≡ 3 → l.value < 512) × (l.digit-index ≡ 4 → l.value < 4096)
