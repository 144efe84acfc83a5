-- What a host keeps of the log that it has replayed, and what a command uses of it. docs/MODEL.md, "What a host keeps".
use Rattle.std.specs.Prelude.{ℕ, ⊤, ◌≡◌, ◌==◌, ◌&&◌, nat_le, Bool, if◌then◌else◌, List, [], length, take, slice_get, Option, Some, None}
use Rattle.fam_base.specs.declared.cmd.Cmd.{Cmd}
use Rattle.fam_base.specs.declared.entry.Params.{Params}
use Rattle.fam_base.specs.declared.entry.Entry.{Entry}
use Rattle.fam_base.specs.PathOrder.{path_eq}
use Rattle.fam_format.specs.Tree.{join_fault}
use Rattle.fam_commands.specs.Classes.{Class, class_of, Replays, Appends, Compares, Reads, Surveys}

-- the file system that was replayed, and its first entries
pub record Kept : Type 0 where
  pub params : Params
  pub entries : List Entry

-- each entry of a list joins those before it
abbrev pub AllJoin : Params → List Entry → Type 0
AllJoin p list = (i : ℕ) (e : Entry) → slice_get list i ≡ Some e → join_fault p (take i list) e ≡ None

-- nothing is kept, or a history
abbrev pub IsKept : Option Kept → Type 0
IsKept None = ⊤
IsKept (Some k) = AllJoin k.params k.entries

-- the same file system, by every number and both UUIDs
abbrev pub is_same_params : Params → Params → Bool
is_same_params p q =
    p.format == q.format && (p.log_length == q.log_length && (p.slots == q.slots && (p.unit == q.unit && (p.device == q.device && (path_eq p.fs q.fs && path_eq p.master q.master)))))

-- the kept entries, where the superblock says the same as before and the gate counts no fewer
unfoldable pub used_by : Option Kept → Params → ℕ → List Entry
used_by None p gate = []
used_by (Some k) p gate = if is_same_params k.params p && nat_le (length k.entries) gate then k.entries else []

-- the entries that a command begins with, once it has read superblock and gate: a check of the whole file system
-- looks at every slot; by the class of the command
unfoldable pub class_used : Option Kept → Class → Params → ℕ → List Entry
class_used kept Surveys p gate = []
class_used kept Replays p gate = used_by kept p gate
class_used kept Appends p gate = used_by kept p gate
class_used kept (Compares path against) p gate = used_by kept p gate
class_used kept (Reads path offset count) p gate = used_by kept p gate

-- so of a command, by its class
abbrev pub used : Option Kept → Cmd → Params → ℕ → List Entry
used kept cmd p gate = class_used kept (class_of cmd) p gate

-- how many of them there are: the first slot that is read
abbrev pub first_slot : Option Kept → Cmd → Params → ℕ → ℕ
first_slot kept cmd p gate = length (used kept cmd p gate)
