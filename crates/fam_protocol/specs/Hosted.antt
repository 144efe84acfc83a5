-- One host's machine as a part of memory and of all caches.
use Rattle.std.specs.Prelude.{ℕ, ◌≡◌, ◌≢◌}
use Rattle.fam_base.specs.Image.{line_at}
use Rattle.fam_machine.specs.Caches.{cell_at}
use Rattle.fam_machine.specs.Operations.{Machine}
use Rattle.fam_protocol.specs.SharedState.{SharedState}

-- memory is the machine's, and so is the host's cache
pub record IsMachineOf (host : ℕ) (m : Machine) (s : SharedState) : Type 0 where
  pub memory : (l : ℕ) → s.memory l ≡ line_at m.image l
  pub copies : (l : ℕ) → s.copy host l ≡ cell_at m.cache l

-- one host's machine became another one, and no other host's cache changed
pub record ActsAs (host : ℕ) (m m' : Machine) (old new : SharedState) : Type 0 where
  pub before : IsMachineOf host m old
  pub after : IsMachineOf host m' new
  pub others : (h l : ℕ) → h ≢ host → new.copy h l ≡ old.copy h l
