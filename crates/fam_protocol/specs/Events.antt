-- What an event that is no operation of a task changes: the declared hosts, their tasks and their caches.
-- docs/MODEL.md, "The protocol".
use Rattle.std.specs.Prelude.{ℕ, ◌≡◌, ◌≢◌, ◌⊎◌, ◌*◌, ◌<◌, ◌≤◌, List, Some, None, slice_index, slice_range}
use Rattle.fam_base.specs.declared.cmd.Cmd.{Cmd}
use Rattle.fam_base.specs.declared.entry.Params.{Params}
use Rattle.fam_format.specs.Layout.{gate_line, log_line}
use Rattle.fam_format.specs.Log.{log_words}
use Rattle.fam_format.specs.Params.{SoundParams}
use Rattle.fam_format.specs.Super.{magic_line, super_words}
use Rattle.fam_machine.specs.declared.cell.Cell.TheVariants.{Absent}
use Rattle.fam_machine.specs.OneLine.{IsDirty}
use Rattle.fam_commands.specs.Task.{mounted}
use Rattle.fam_rules.specs.Place.{line_bytes}
use Rattle.fam_rules.specs.Written.{zero_line}
use Rattle.fam_protocol.specs.SharedState.{SharedState}
use Rattle.fam_protocol.specs.Core.{IsHeadLine}
use Rattle.fam_protocol.specs.Tasks.{IsCommand}
use Rattle.fam_protocol.specs.Invariant.{Hosts}
use Rattle.fam_format.specs.Line.{line_words}

-- a host is declared, with a UUID that no other declared host has. Its cache is empty, as that of each host that
-- isn't declared
pub record Declares (host : ℕ) (id : List ℕ) (old new : Hosts) : Type 0 where
  pub fresh : old.uuid host ≡ None
  pub solo : (h : ℕ) → old.uuid h ≢ Some id
  pub is : new.uuid host ≡ Some id
  pub uuids : (h : ℕ) → h ≢ host → new.uuid h ≡ old.uuid h
  pub runs : (h : ℕ) → new.run h ≡ old.run h
  pub kept : (h : ℕ) → new.kept h ≡ old.kept h

-- a declared host begins a command on an image of so many lines, and has no mark and has named nothing
pub record Starts (host : ℕ) (cmd : Cmd) (lines : ℕ) (old new : Hosts) : Type 0 where
  pub me : List ℕ
  pub declared : old.uuid host ≡ Some me
  pub command : IsCommand cmd
  pub is : new.run host ≡ Some (record { task = mounted (old.kept host) cmd me lines; floor = None; named = None })
  pub uuids : (h : ℕ) → new.uuid h ≡ old.uuid h
  pub runs : (h : ℕ) → h ≢ host → new.run h ≡ old.run h
  pub kept : (h : ℕ) → new.kept h ≡ old.kept h

-- a host's task is dropped, wherever it stands, if it has one. It keeps what it kept, or nothing any more
pub record Stops (host : ℕ) (old new : Hosts) : Type 0 where
  pub is : new.run host ≡ None
  pub uuids : (h : ℕ) → new.uuid h ≡ old.uuid h
  pub runs : (h : ℕ) → h ≢ host → new.run h ≡ old.run h
  pub mine : (new.kept host ≡ old.kept host) ⊎ (new.kept host ≡ None)
  pub kept : (h : ℕ) → h ≢ host → new.kept h ≡ old.kept h

-- what making a file system leaves of memory and of the maker's cache: the lines of superblock, header and gate, of
-- which the maker has no copy, and nothing to send that there wasn't before. Any other line of memory and of the
-- maker's cache may be otherwise than before
pub record Formats (maker : ℕ) (p : Params) (old new : SharedState) : Type 0 where
  pub magic : new.memory 0 ≡ magic_line
  pub first : new.memory 1 ≡ slice_range (super_words p) 0 line_words
  pub second : new.memory 2 ≡ slice_range (super_words p) line_words (2 * line_words)
  pub header : new.memory log_line ≡ log_words p
  pub gate : new.memory gate_line ≡ zero_line
  pub head : (l : ℕ) → IsHeadLine l → new.copy maker l ≡ Absent
  pub dropped : new.copy maker gate_line ≡ Absent
  pub dirty : (l : ℕ) → IsDirty (new.copy maker l) → IsDirty (old.copy maker l)
  pub hosts : (h l : ℕ) → h ≢ maker → new.copy h l ≡ old.copy h l

-- what a maker leaves that halted behind its first send: word 0 of line 0 is zero, so there is no superblock; the maker has no
-- copy of any line, and other hosts have theirs. Any other word of memory may be otherwise than before
pub record Clears (maker : ℕ) (old new : SharedState) : Type 0 where
  pub magic : slice_index (new.memory 0) 0 ≡ 0
  pub lost : (l : ℕ) → new.copy maker l ≡ Absent
  pub hosts : (h l : ℕ) → h ≢ maker → new.copy h l ≡ old.copy h l

-- a declared host may make a file system of these parameters on an image of so many lines: no host has a task or
-- keeps anything, and no other than the maker's cache has anything to send
pub record MayFormat (maker : ℕ) (p : Params) (lines : ℕ) (hosts : Hosts) (s : SharedState) : Type 0 where
  pub sound : SoundParams p
  pub device : p.device ≤ line_bytes * lines
  pub maker_is : hosts.uuid maker ≡ Some p.master
  pub idle : (h : ℕ) → hosts.run h ≡ None
  pub bare : (h : ℕ) → hosts.kept h ≡ None
  pub clean : (h l : ℕ) → h ≢ maker → IsDirty (s.copy h l) → ⊥
  pub inside : (l : ℕ) → IsDirty (s.copy maker l) → l < lines
