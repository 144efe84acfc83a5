-- The machine of all hosts with a mailbox: one memory and, for each host, a cache and at most one task; and what operations of a
-- task do on it, by the table of tasks and the machine of a cache. docs/MODEL.md, "The mailbox".
use Rattle.std.specs.Prelude.{ℕ, ◌≡◌, ◌⊎◌, ◌++◌, ◌∷◌, Bool, false, is_some, List, [], slice_get, Option, Some, None, unwrap_or}
use Prim.Native.Nat.{suc}
use Rattle.fam_base.specs.Image.{Image}
use Rattle.fam_base.specs.declared.entry.Entry.{Entry}
use Rattle.fam_base.specs.declared.line.LineNo.{LineNo}
use Rattle.fam_machine.specs.declared.op.Op.{Op}
use Rattle.fam_machine.specs.Caches.{Cache}
use Rattle.fam_machine.specs.Cuts.{Fails}
use Rattle.fam_machine.specs.Operations.{Machine, given, machine, operated}
use Rattle.fam_rules.specs.Written.{file_line}
use Rattle.fam_mail.specs.declared.note.MailNote.{MailNote}
use Rattle.fam_mail.specs.declared.note.MailNote.TheVariants as note
use Rattle.fam_mail.specs.Calls.{kept_task, notes_of_turn}
use Rattle.fam_mail.specs.Tasks.{MailTask, task_op, next_task, mail_turn}
use Rattle.fam_mail.specs.World.{MailHost, changed_member}

-- memory, and the declared hosts in their order
pub record MailMachines : Type 0 where
  pub memory : Image
  pub hosts : List MailHost

-- before the first event
abbrev pub unused_machines : Image → MailMachines
unused_machines image = record { memory = image; hosts = [] }

-- memory and the cache of one host
abbrev pub host_machine : MailMachines → MailHost → Machine
host_machine m host = machine m.memory host.cache

-- another host in a host's place, over this memory
abbrev pub with_host_at : ℕ → MailHost → Image → MailMachines → MailMachines
with_host_at at host memory m = record { memory = memory; hosts = changed_member at (λ h. host) m.hosts }

-- a host has a task
abbrev pub has_own_task : Option MailHost → Bool
has_own_task None = false
has_own_task (Some host) = is_some host.task

-- so has the one of this number
abbrev pub has_task_at : ℕ → MailMachines → Bool
has_task_at at m = has_own_task (slice_get m.hosts at)

-- One operation.

-- the word that comes of it: a load's, and 0 of any other
abbrev pub word_given : Op → Machine → ℕ
word_given op m = unwrap_or (given op m) 0

-- a host behind an operation that left this cache: its task takes its turn with the word
abbrev pub host_behind : MailHost → MailTask → ℕ → Cache → MailHost
host_behind host t word cache = record host { cache = cache; task = kept_task (mail_turn word t) (next_task word t) }

-- the media serves the operation that the task's table has next: the notes are those of the task's turn
pub record IsTaskServed (entry : Entry) (name : List ℕ) (at : ℕ) (host : MailHost) (t : MailTask) (old : MailMachines) (notes : List MailNote) (new : MailMachines) : Type 0 where
  pub notes_are : notes ≡ notes_of_turn name (mail_turn (word_given (task_op (file_line entry) t) (host_machine old host)) t)
  pub left : new ≡ with_host_at at (host_behind host t (word_given (task_op (file_line entry) t) (host_machine old host)) (operated (task_op (file_line entry) t) (host_machine old host)).cache)
      (operated (task_op (file_line entry) t) (host_machine old host)).image old

-- the media fails in it, and leaves a machine that it may leave: the task is gone
pub record IsTaskCut (entry : Entry) (name : List ℕ) (at : ℕ) (host : MailHost) (t : MailTask) (old : MailMachines) (notes : List MailNote) (new : MailMachines) : Type 0 where
  pub line : LineNo
  pub rest : Machine
  pub fails : Fails (task_op (file_line entry) t) (host_machine old host) line rest
  pub notes_are : notes ≡ note.MediaFault name line ∷ []
  pub left : new ≡ with_host_at at (record host { cache = rest.cache; task = None }) rest.image old

-- one operation of the task of a host, by its number: one or the other. The notes have this name
pub record MailOperation (entry : Entry) (name : List ℕ) (at : ℕ) (old : MailMachines) (notes : List MailNote) (new : MailMachines) : Type 0 where
  pub host : MailHost
  pub host_is : slice_get old.hosts at ≡ Some host
  pub task : MailTask
  pub task_is : host.task ≡ Some task
  pub how : IsTaskServed entry name at host task old notes new ⊎ IsTaskCut entry name at host task old notes new

-- so many of them, one behind another
pub data MailOperations (entry : Entry) (name : List ℕ) (at : ℕ) (old : MailMachines) : ℕ → List MailNote → MailMachines → Type 0 where
  none : MailOperations entry name at old 0 [] old
  more : {count : ℕ} {notes last : List MailNote} {mid new : MailMachines} → MailOperations entry name at old count notes mid
      → MailOperation entry name at mid last new → MailOperations entry name at old (suc count) (notes ++ last) new
