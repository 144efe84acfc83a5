-- How the parts of a task hang together, that a contract doesn't see.
use Rattle.std.specs.Prelude.{ℕ, ◌≡◌, ◌+◌, ◌-◌, ⊤, true, false, length, None}
use Rattle.fam_base.specs.declared.cmd.Cmd.{Cmd}
use Rattle.fam_base.specs.declared.cmd.Cmd.TheVariants.{Read}
use Rattle.fam_commands.specs.declared.phase.Part.{Part}
use Rattle.fam_commands.specs.declared.phase.Part.TheVariants.{Superblock, Header, Slot, File}
use Rattle.fam_commands.specs.declared.phase.Phase.{Phase}
use Rattle.fam_commands.specs.declared.phase.Phase.TheVariants as at
use Rattle.fam_commands.specs.Task.{content_of, size_of, wanted_end}
use Rattle.fam_replay.specs.Replay.{entries_in, IsReplayOf}
use Rattle.fam_rules.specs.Content.{content_line}
use Rattle.fam_tasks.specs.declared.task.Task.TheInside.{Inside}
use Rattle.fam_tasks.specs.Commands.{is_logplay, slots_told}
use Rattle.fam_tasks.specs.History.{HistoryState, IsAtHand}
use Rattle.fam_tasks.specs.Model.{task_of}
use Rattle.fam_tasks.specs.Survey.{added_in, IsScanFor}
use Rattle.fam_tasks.specs.Sound.{IsSound}
use Rattle.fam_commands.specs.Classes.{Class, class_of, Replays, Appends, Compares, Reads, Surveys, is_fsck}

-- no slot was looked at
pub record IsUnread (t : Inside) : Type 0 where
  pub replay : t.history.replay ≡ None
  pub scan : t.scan ≡ None

-- i slots were looked at: replay and check are the file system's, and were told of as many
pub record HasLooked (i : ℕ) (t : Inside) : Type 0 where
  pub replay : IsReplayOf t.params t.gate t.history.replay
  pub scan : IsScanFor t.params t.gate t.scan
  pub entries : is_fsck t.cmd ≡ false → length (entries_in t.history.replay) ≡ i
  pub slots : is_fsck t.cmd ≡ true → added_in t.scan ≡ i

-- a logplay whose slots were all read has a tree to answer with
abbrev pub MayPlay : Cmd → HistoryState → Type 0
MayPlay cmd history = is_logplay cmd ≡ true → IsAtHand history

-- line j of the file comes next: the content is at that line, or there is room for the bytes; by the class of the command
abbrev pub HoldsFileIn : Class → ℕ → Inside → Type 0
HoldsFileIn (Compares path against) j t = (t.contents.content ≡ against) × (t.contents.taken ≡ j)
HoldsFileIn (Reads path offset count) j t = length t.room.items ≡ wanted_end (Read path offset count) (size_of t.entry) - offset
HoldsFileIn Replays j t = ⊤
HoldsFileIn Appends j t = ⊤
HoldsFileIn Surveys j t = ⊤

-- so of a command, by its class
abbrev pub HoldsFile : Cmd → ℕ → Inside → Type 0
HoldsFile cmd j t = HoldsFileIn (class_of cmd) j t

-- line j of the new file is at hand
pub record HoldsLine (j : ℕ) (t : Inside) : Type 0 where
  pub content : t.contents.content ≡ content_of t.cmd
  pub taken : t.contents.taken ≡ j + 1
  pub line : t.contents.line ≡ content_line (content_of t.cmd) (size_of t.entry) j

-- when line j of a part is read
abbrev pub HoldsPart : Part → ℕ → Inside → Type 0
HoldsPart Superblock j t = IsUnread t
HoldsPart Header j t = IsUnread t
HoldsPart (Slot i) j t = HasLooked i t
HoldsPart File j t = HoldsFile t.cmd j t

-- in a phase
abbrev pub IsInvariantAt : Phase → Inside → Type 0
IsInvariantAt at.DropMagic t = IsUnread t
IsInvariantAt at.Magic t = IsUnread t
IsInvariantAt (at.Drop part j) t = HoldsPart part j t
IsInvariantAt (at.Word part j k) t = HoldsPart part j t
IsInvariantAt at.DropGate t = IsUnread t
IsInvariantAt at.Gate t = IsUnread t
IsInvariantAt (at.Check i) t = HasLooked i t
IsInvariantAt at.Decide t = HasLooked (slots_told t.cmd t.params t.gate) t × MayPlay t.cmd t.history
IsInvariantAt (at.StoreData j k) t = HoldsLine j t
IsInvariantAt (at.SendData j) t = HoldsLine j t
IsInvariantAt (at.StoreSlot j k) t = ⊤
IsInvariantAt (at.SendSlot j) t = ⊤
IsInvariantAt at.StoreGate t = ⊤
IsInvariantAt at.FenceSlot t = ⊤
IsInvariantAt at.SendGate t = ⊤
IsInvariantAt at.FenceGate t = ⊤

-- every task is sound, and its parts hang together
pub record IsTask (t : Inside) : Type 0 where
  pub sound : IsSound (task_of t)
  pub held : IsInvariantAt t.phase t
