-- Tests that a reader makes.
use Rattle.std.specs.Prelude.{ℕ, ◌≡◌, ◌-◌, ◌^◌, ◌<◌, ◌≤◌, Bool, IsTrue, length, Option, Some, None, Result, Ok, Err, List, slice_index, take}
use Rattle.fam_base.specs.Paths.{IsPathField}
use Rattle.fam_base.specs.declared.entry.Entry.{Entry}
use Rattle.fam_base.specs.declared.entry.Params.{Params}
use Rattle.fam_format.specs.Layout.{geometry}
use Rattle.fam_format.specs.Slot.{attribute_fault, crc_fault, fields_of, kind_fault, path_of, seq_fault}
use Rattle.fam_format.specs.declared.faults.Reason.{Reason}

-- a test passes where there is no fault, and otherwise names the fault
abbrev pub NamesFault : {T E : Type 0} → Result T E → Option E → Type 0
NamesFault (Ok x) fault = fault ≡ None
NamesFault (Err reason) fault = fault ≡ Some reason

-- a field holds the path that a slot's words tell
pub record HasPath (words bytes : List ℕ) : Type 0 where
  pub field : IsPathField bytes (slice_index words 6)
  pub path : take (slice_index words 6) bytes ≡ path_of words

-- and the other words are within the ranges of their fields
pub record HasFields (words bytes : List ℕ) : Type 0 where
  pub path : HasPath words bytes
  pub mode : slice_index words 3 < 2 ^ 32
  pub uid : slice_index words 4 < 2 ^ 32
  pub gid : slice_index words 5 < 2 ^ 32
  pub few : slice_index words 9 ≤ 16

-- which of a slot's words are 0: those from place 7 to the path, where there is a gap, and those from an end on up to the
-- checksum
pub record HasZeros (words : List ℕ) (has_gap : Bool) (end : ℕ) : Type 0 where
  pub gap : IsTrue has_gap → (k : ℕ) → 7 ≤ k → k < 42 → slice_index words k ≡ 0
  pub behind : (k : ℕ) → end ≤ k → k < length words - 1 → slice_index words k ≡ 0

-- a slot's words pass the tests before that of the path
pub record PassFront (p : Params) (words : List ℕ) (seq : ℕ) : Type 0 where
  pub crc : crc_fault (geometry p) words ≡ None
  pub number : seq_fault words seq ≡ None
  pub kind : kind_fault words ≡ None
  pub attributes : attribute_fault words ≡ None
  pub mode : slice_index words 3 < 2 ^ 32
  pub uid : slice_index words 4 < 2 ^ 32
  pub gid : slice_index words 5 < 2 ^ 32

-- the entry that a slot's words tell where a test of them passes, and otherwise the reason against them
abbrev pub read_as : List ℕ → Result (Unit {0}) Reason → Result Entry Reason
read_as words (Ok u) = Ok (fields_of words)
read_as words (Err reason) = Err reason
