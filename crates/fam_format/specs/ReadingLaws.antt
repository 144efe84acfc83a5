-- Units, joining, and a whole reading in plain words.
use Rattle.std.specs.Prelude.{ℕ, ◌≡◌, ◌≢◌, ◌^◌, ◌<◌, ◌≤◌, ◌⊎◌, ⊤, Bool, true, false, List, length, take, slice_get, slice_index, Option, Some, None, Ok, Err}
use Rattle.std.specs.FinMap as map
use Rattle.fam_base.specs.declared.entry.Params.{Params}
use Rattle.fam_base.specs.declared.entry.Entry.{Entry}
use Rattle.fam_base.specs.declared.entry.Kind.TheVariants.{Directory}
use Rattle.fam_base.specs.Paths.{parent_of}
use Rattle.fam_format.specs.declared.faults.Reason.{Reason}
use Rattle.fam_format.specs.Layout.{geometry, log_line}
use Rattle.fam_format.specs.Log.{log_fault}
use Rattle.fam_format.specs.Slot.{Proper, spelling}
use Rattle.fam_format.specs.Units.{units_in, is_used}
use Rattle.fam_format.specs.Tree.{Tree, replay, join_fault}
use Rattle.fam_format.specs.Reading.{Lines, super_in, gate_in, slot_in, slot_words}

-- none of these units is used, and none stands twice
pub record AreFree (used : ℕ → Bool) (units : List ℕ) : Type 0 where
  pub free : (k : ℕ) → k < length units → used (slice_index units k) ≡ false
  pub once : (i j : ℕ) → i < j → j < length units → slice_index units i ≢ slice_index units j

-- unit u is used, or stands before place k
abbrev pub IsTaken : (ℕ → Bool) → List ℕ → ℕ → ℕ → Type 0
IsTaken used units k u = (used u ≡ true) ⊎ ((i : ℕ) × (i < k) × (slice_index units i ≡ u))

-- unit u stands at place k, is used or stands before it, and the units before it are free
pub record IsFirstOverlap (used : ℕ → Bool) (units : List ℕ) (u : ℕ) : Type 0 where
  pub place : ℕ
  pub below : place < length units
  pub is : slice_index units place ≡ u
  pub taken : IsTaken used units place u
  pub before : AreFree used (take place units)

-- the parent is the root, or a directory of the tree
abbrev pub HasParent : Tree → Option (List ℕ) → Type 0
HasParent tree None = ⊤
HasParent tree (Some parent) = (directory : Entry) × (map.get tree parent ≡ Some directory) × (directory.kind ≡ Directory)

-- an entry joins a list: its path is new, its parent stands, and its units are free
pub record Joins (p : Params) (list : List Entry) (e : Entry) : Type 0 where
  pub absent : map.get (replay list) e.path ≡ None
  pub parent : HasParent (replay list) (parent_of e.path)
  pub units : AreFree (is_used p list) (units_in p.unit e.extents)

-- lines of words of 64 bits
abbrev pub HasWords : Lines → Type 0
HasWords line = (l w : ℕ) → slice_index (line l) w < 2 ^ 64

-- slot i is the spelling of this entry, which is proper and joins the ones before
pub record IsSlot (line : Lines) (p : Params) (before : List Entry) (i : ℕ) (e : Entry) : Type 0 where
  pub proper : Proper p e
  pub words : slot_words line p i ≡ spelling (geometry p) e i
  pub joins : Joins p before e

-- the first slots are these entries, in order
abbrev pub AreSlots : Lines → Params → List Entry → Type 0
AreSlots line p list = (i : ℕ) (e : Entry) → slice_get list i ≡ Some e → IsSlot line p (take i list) i e

-- superblock and header read as these parameters, and the gate counts no more entries than there are slots
pub record HasHead (line : Lines) (have : ℕ) (p : Params) : Type 0 where
  pub super : super_in line have ≡ Ok p
  pub header : log_fault (line log_line) p ≡ None
  pub gate : gate_in line ≤ p.slots

-- the image holds these entries, one a slot below the gate
pub record Holds (line : Lines) (have : ℕ) (p : Params) (entries : List Entry) : Type 0 where
  pub head : HasHead line have p
  pub count : length entries ≡ gate_in line
  pub slots : AreSlots line p entries

-- the reason against slot i: its words don't read, or its entry doesn't join the ones before
abbrev pub IsAgainst : Lines → Params → List Entry → ℕ → Reason → Type 0
IsAgainst line p before i reason =
    (slot_in line p i ≡ Err reason) ⊎ ((e : Entry) × (slot_in line p i ≡ Ok e) × (join_fault p before e ≡ Some reason))

-- slot i is the least one below the gate that is no spelling of a proper entry which joins the ones before
pub record IsBadSlot (line : Lines) (have : ℕ) (i : ℕ) (reason : Reason) : Type 0 where
  pub params : Params
  pub head : HasHead line have params
  pub below : i < gate_in line
  pub before : List Entry
  pub count : length before ≡ i
  pub slots : AreSlots line params before
  pub against : IsAgainst line params before i reason
