-- What an operation gave its task, in terms of memory and caches after it.
use Rattle.std.specs.Prelude.{ℕ, ◌≡◌, ◌+◌, ◌<◌, ◌≤◌, List, slice_index, Some, Option}
use Rattle.fam_format.specs.Layout.{gate_line, slot_line}
use Rattle.fam_machine.specs.declared.cell.Cell.TheVariants.{Absent}
use Rattle.fam_commands.specs.declared.phase.Phase.{Phase}
use Rattle.fam_commands.specs.declared.phase.Phase.TheVariants as at
use Rattle.fam_commands.specs.Task.{Task, data_words, line_of, part_line}
use Rattle.fam_rules.specs.Asks.{File}
use Rattle.fam_rules.specs.Written.{slot_part}
use Rattle.fam_protocol.specs.SharedState.{SharedState}
use Rattle.fam_protocol.specs.Lines.{Asked, IsHandedOver, Finished, gate_of, IsAtLeast}
use Rattle.fam_protocol.specs.Core.{System}
use Rattle.fam_protocol.specs.Tasks.{MayPublish, IsStable, StoresData, StoresSlot, HasPublished, AtPhase}

-- the word of a load of the gate
pub record GivesGate (sys : System) (host : ℕ) (floor : Option ℕ) (word : ℕ) (s : SharedState) : Type 0 where
  pub low : IsAtLeast floor word
  pub high : word ≤ gate_of (s.memory gate_line)
  pub masters : sys.master ≡ Some host → word ≡ gate_of (s.memory gate_line)

-- what is known after the operation of a task at a place, and before its turn
abbrev pub Given : Phase → System → ℕ → Option ℕ → ℕ → Task → SharedState → List File → ℕ → Type 0
Given at.DropMagic sys host floor word t s all settled =
    AtPhase at.DropMagic sys host floor t s all settled × (s.copy host 0 ≡ Absent)
Given at.Magic sys host floor word t s all settled =
    AtPhase at.Magic sys host floor t s all settled × (word ≡ slice_index (s.memory 0) 0)
Given (at.Drop part j) sys host floor word t s all settled =
    AtPhase (at.Drop part j) sys host floor t s all settled × (s.copy host (part_line t part j) ≡ Absent)
Given (at.Word part j k) sys host floor word t s all settled =
    AtPhase (at.Word part j k) sys host floor t s all settled × (IsStable t part → word ≡ slice_index (s.memory (part_line t part j)) k)
Given at.DropGate sys host floor word t s all settled =
    AtPhase at.DropGate sys host floor t s all settled × (s.copy host gate_line ≡ Absent)
Given at.Gate sys host floor word t s all settled = AtPhase at.Gate sys host floor t s all settled × GivesGate sys host floor word s
Given (at.Check i) sys host floor word t s all settled = AtPhase (at.Check i) sys host floor t s all settled
Given at.Decide sys host floor word t s all settled = AtPhase at.Decide sys host floor t s all settled
Given (at.StoreData j k) sys host floor word t s all settled = (k < 8) × StoresData j (k + 1) sys host t s all settled
Given (at.SendData j) sys host floor word t s all settled =
    StoresData j 8 sys host t s all settled × Finished (data_words t j) (s.memory (line_of t.entry j)) (s.copy host (line_of t.entry j))
Given (at.StoreSlot j k) sys host floor word t s all settled = (k < 8) × StoresSlot j (k + 1) sys host t s all settled
Given (at.SendSlot j) sys host floor word t s all settled =
    StoresSlot j 8 sys host t s all settled × Asked (slot_part t.words j) (s.memory (slot_line t.params t.gate j)) (s.copy host (slot_line t.params t.gate j))
Given at.FenceSlot sys host floor word t s all settled = MayPublish sys host t s all settled
Given at.StoreGate sys host floor word t s all settled = HasPublished sys host t s all
Given at.SendGate sys host floor word t s all settled = HasPublished sys host t s all × IsHandedOver (s.copy host gate_line)
Given at.FenceGate sys host floor word t s all settled =
    HasPublished sys host t s all × (gate_of (s.memory gate_line) ≡ t.gate + 1)
