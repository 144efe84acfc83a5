-- Lines of a file that were read ahead of their reads: those from `next` to `end`, each of which may be given once.
use Rattle.std.specs.Prelude.{ℕ, ◌≡◌, ◌+◌, ◌<◌, ◌≤◌}
use Rattle.fam_format.specs.declared.layout.TheConstants.{GATE_LINE}

-- a line isn't ahead
abbrev pub IsPast : ℕ → ℕ → ℕ → Type 0
IsPast next end line = next ≤ line → end ≤ line

-- none of the lines before this one is
abbrev pub IsPastUpTo : ℕ → ℕ → ℕ → Type 0
IsPastUpTo next end line = next < line → end ≤ next

-- nothing is ahead that wasn't
pub record HasNoMore (old_next old_end next end : ℕ) : Type 0 where
  pub first : old_next ≤ next
  pub last : end ≤ old_end

-- behind a read of a line: neither it nor one before it is ahead any more, and behind the gate's none is
pub record IsBehindRead (next end line : ℕ) : Type 0 where
  pub past : IsPastUpTo next end (line + 1)
  pub gate : line ≡ GATE_LINE → end ≤ next

-- behind a write of a line: nothing is ahead that wasn't, and that line isn't
pub record IsBehindWrite (old_next old_end next end line : ℕ) : Type 0 where
  pub within : HasNoMore old_next old_end next end
  pub past : IsPast next end line

-- behind a write of the lines from `first` to `last`
pub record AreBehindWrites (old_next old_end next end first last : ℕ) : Type 0 where
  pub within : HasNoMore old_next old_end next end
  pub past : (line : ℕ) → first ≤ line → line < last → IsPast next end line
