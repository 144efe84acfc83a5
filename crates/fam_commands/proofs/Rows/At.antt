-- The table has the operation of each phase that a task can be in, and the note of that phase.
use Rattle.std.proofs.Common.{ℕ, ◌<◌, ◌+◌, List, ◌++◌}
use Rattle.fam_commands.specs.declared.phase.Part.{Part}
use Rattle.fam_commands.specs.declared.phase.Part.TheVariants.{Superblock, Header, Slot, File}
use Rattle.fam_commands.specs.declared.phase.Phase.{Phase}
use Rattle.fam_commands.specs.declared.phase.Phase.TheVariants as at
use Rattle.fam_commands.specs.Task.{Task, op_at}
use Rattle.fam_commands.specs.Table.{Quiet}
use Rattle.fam_commands.proofs.Rows.Head.{Here, drop_magic_row, magic_row, super_drop_row, super_word_row, header_drop_row, header_word_row, drop_gate_row, gate_row}
use Rattle.fam_commands.proofs.Rows.Slots.{slot_drop_row, slot_word_row, check_row, decide_row}
use Rattle.fam_commands.proofs.Rows.Append.{store_data_row, send_data_row, store_slot_row, send_slot_row, fence_slot_row, store_gate_row, send_gate_row, fence_gate_row}
use Rattle.fam_commands.proofs.Rows.FileLines.{file_drop_row, file_word_row}
use Rattle.fam_commands.proofs.Steps.Ties.{InPart, TieAt, note_at}

drop_row : (part : Part) (t : Task) (words more : List ℕ) (j made : ℕ) → InPart part t words j 0 0 made → Here t words more made (op_at t (at.Drop part j)) Quiet
drop_row Superblock t words more j made h = super_drop_row t words more j made h.within h.made_is
drop_row Header t words more j made h = header_drop_row t words more j made h.within h.made_is
drop_row (Slot i) t words more j made h = slot_drop_row t words more i j made h.known.0 h.known.1 h.within h.made_is
drop_row File t words more j made h = file_drop_row t words more h.known.0 j h.known.1 h.within made h.made_is

word_row : (part : Part) (t : Task) (words more : List ℕ) (j k made : ℕ) → InPart part t words j k (1 + k) made → k < 8
    → Here t words more made (op_at t (at.Word part j k)) (note_at (at.Word part j k) t (words ++ more))
word_row Superblock t words more j k made h small = super_word_row t words more j k made h.within small h.made_is
word_row Header t words more j k made h small = header_word_row t words more j k made h.known.0 h.within small h.made_is
word_row (Slot i) t words more j k made h small = slot_word_row t words more i j k made h.known.0 h.known.1 h.within small h.made_is
word_row File t words more j k made h small = file_word_row t words more h.known.0 j h.known.1 h.within k made small h.made_is

-- also where more words follow
pub row_at : (phase : Phase) (t : Task) (words more : List ℕ) (made : ℕ) → TieAt phase t words made → Here t words more made (op_at t phase) (note_at phase t (words ++ more))
row_at at.DropMagic t words more made h = drop_magic_row t words more made h.1
row_at at.Magic t words more made h = magic_row t words more made h.1
row_at (at.Drop part j) t words more made h = drop_row part t words more j made h
row_at (at.Word part j k) t words more made h = word_row part t words more j k made h.0 h.1
row_at at.DropGate t words more made h = drop_gate_row t words more made h.2
row_at at.Gate t words more made h = gate_row t words more made h.0 h.2
row_at (at.Check i) t words more made h = check_row t words more i made h.0 h.1 h.4
row_at at.Decide t words more made h = decide_row t words more made h.0 h.2
row_at (at.StoreData j k) t words more made h = store_data_row t words more h.0 j k made h.1 h.2 h.3
row_at (at.SendData j) t words more made h = send_data_row t words more h.0 j made h.1 h.2
row_at (at.StoreSlot j k) t words more made h = store_slot_row t words more h.0 j k made h.1 h.2 h.3
row_at (at.SendSlot j) t words more made h = send_slot_row t words more h.0 j made h.1 h.2
row_at at.StoreGate t words more made h = store_gate_row t words more h.0 made h.1
row_at at.FenceSlot t words more made h = fence_slot_row t words more h.0 made h.1
row_at at.SendGate t words more made h = send_gate_row t words more h.0 made h.1
row_at at.FenceGate t words more made h = fence_gate_row t words more h.0 made h.1
