-- What is settled, over a memory that changes: of a damaged image memory's lines stay what they are.
use Rattle.std.proofs.Common.{◌≡◌, ℕ, List, sym, subst}
use Rattle.std.proofs.Math.Path.{fun_ext}
use Rattle.fam_base.specs.declared.entry.Params.{Params}
use Rattle.fam_format.specs.Reading.{Lines}
use Rattle.fam_rules.specs.Asks.{File}
use Rattle.fam_protocol.specs.SharedState.{SharedState}
use Rattle.fam_protocol.specs.Invariant.{Hosts, Invariant, InvariantBy, Known}
use Rattle.fam_journal.specs.Kept.{IfHalted, IsCleared, settled_bad, settled_of}
use Rattle.fam_journal.specs.Past as past
use Rattle.fam_journal.specs.Past.{Damage, FewLines, Given, Halted, State, Bad, Sound}

module _ (now : Lines) (lines : ℕ) (hosts : Hosts) (shared : SharedState) where
  -- memory is the lines of a damaged image
  memory_at : (d : Damage) → InvariantBy (settled_bad now d) lines hosts shared → (l : ℕ) → shared.memory l ≡ now l
  memory_at (FewLines few) stage = stage.memory
  memory_at (past.NoSuperblock fault) stage = stage.still.memory
  memory_at (past.BadHeader fault) stage = stage.still.memory
  memory_at (past.BadSlot i reason) stage = stage.still.memory

  same_memory : (d : Damage) → InvariantBy (settled_bad now d) lines hosts shared → now ≡ shared.memory
  same_memory d stage = sym (fun_ext (memory_at d stage))

  -- so what holds over its lines holds over memory's
  pub over_memory : (s : State) → Invariant (settled_of s now) lines hosts shared → Invariant (settled_of s shared.memory) lines hosts shared
  over_memory (Sound p history pending) holds = holds
  over_memory (Bad (Given image) damage gate) holds = holds
  over_memory (Bad Halted damage gate) holds = subst (λ (w : Lines). Invariant (settled_bad w damage) lines hosts shared) (same_memory damage holds.stage) holds

  -- and there is no superblock still
  pub still_cleared : (s : State) → Invariant (settled_of s now) lines hosts shared → IfHalted s now → IfHalted s shared.memory
  still_cleared (Sound p history pending) holds is = tt
  still_cleared (Bad (Given image) damage gate) holds is = tt
  still_cleared (Bad Halted damage gate) holds is = subst (λ (w : Lines). IsCleared damage w) (same_memory damage holds.stage) is

-- of a sound file system nothing is asked of memory
bad_known : (now : Lines) (d : Damage) (p : Params) (all : List File) (settled : ℕ) → settled_bad now d ≡ Known p all settled → ⊥
bad_known now (FewLines few) p all settled is = cc
bad_known now e p all settled is = cc

pub known_free : (s : State) (now : Lines) (p : Params) (all : List File) (settled : ℕ) → settled_of s now ≡ Known p all settled → IfHalted s now
known_free (Sound q history pending) now p all settled is = tt
known_free (Bad (Given image) damage gate) now p all settled is = tt
known_free (Bad Halted damage gate) now p all settled is = absurd (bad_known now damage p all settled is)
