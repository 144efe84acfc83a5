-- What was settled at a mark.
use Rattle.std.proofs.Common.{ℕ, ◌≡◌, ◌≤◌, Option, None, Some, arith}
use Rattle.std.specs.Prelude.{⊤}
use Rattle.fam_protocol.specs.Lines.{IsAtLeast}

pub at_least_more : (floor : Option ℕ) (few many : ℕ) → few ≤ many → IsAtLeast floor few → IsAtLeast floor many
at_least_more None few many le low = low
at_least_more (Some floor) few many le low = omega (arith, le, low)

-- so many entries were settled at the mark, where it is made
abbrev pub IsMarkOf : ℕ → Option ℕ → Type 0
IsMarkOf count None = ⊤
IsMarkOf count (Some floor) = floor ≡ count

pub mark_low : (floor : Option ℕ) (settled count : ℕ) → IsMarkOf settled floor → IsAtLeast floor count → settled ≤ count
mark_low None settled count marked low = absurd low
mark_low (Some floor) settled count marked low = omega (arith, marked, low)
