-- Lines that a fence sends, as members of a list, and what a failure leaves behind them.
use Rattle.std.specs.Prelude.{ℕ, ◌≡◌, ◌⊎◌, ◌<◌, List, [], ◌∷◌, length}
use Rattle.fam_machine.specs.Operations.{Failure, Machine, send_lines}
use Rattle.fam_machine.specs.TearsLine.{TearsLineAt}

-- the line is one of these
abbrev pub IsAmong : ℕ → List ℕ → Type 0
IsAmong line [] = ⊥
IsAmong line (l ∷ lines) = (line ≡ l) ⊎ IsAmong line lines

-- What a media fault leaves: some lines were sent whole before, none but in a fence; then one line drifted, to what the
-- host's copy of it sent, while the cache stayed.
pub record Breaks (m : Machine) (failure : Failure) : Type 0 where
  pub sent : List ℕ
  pub inside : (line : ℕ) → IsAmong line sent → line < length m.image
  pub cache : failure.left.cache ≡ (send_lines sent m).cache
  pub tears : TearsLineAt failure.line.0 (send_lines sent m).image failure.left.image (send_lines sent m).cache
