-- A world of hosts with a mailbox, as contracts see it.
use Prim.Native.Nat.{zero, suc}
use Rattle.std.specs.Prelude.{ℕ, ◌+◌, ◌++◌, ◌∷◌, Bool, if◌then◌else◌, List, [], map, Option, Some, None}
use Rattle.std.specs.FinMap as finmap
use Rattle.fam_base.specs.declared.entry.Entry.{Entry}
use Rattle.fam_base.specs.PathOrder.{path_eq}
use Rattle.fam_machine.specs.Caches.{Cache}
use Rattle.fam_mail.specs.declared.hosts.Host.{Host}
use Rattle.fam_mail.specs.declared.note.MailNote.{MailNote}
use Rattle.fam_mail.specs.Tasks.{MailTask}

-- a host: its name, whether it may post, its cache, and the task that it runs
pub record MailHost : Type 0 where
  pub name : List ℕ
  pub writer : Bool
  pub cache : Cache
  pub task : Option MailTask

-- the file's entry, the hosts, and the notes
pub record MailView : Type 0 where
  pub entry : Entry
  pub hosts : List MailHost
  pub journal : List MailNote

-- a host as its fields
abbrev pub mail_host : Host → MailHost
mail_host h = record { name = h.name; writer = h.writer; cache = h.cache.lines; task = h.task }

-- all of them
abbrev pub mail_hosts : List Host → List MailHost
mail_hosts hosts = map mail_host hosts

-- a world as its fields
abbrev pub mail_view : Entry → List Host → List MailNote → MailView
mail_view entry hosts journal = record { entry = entry; hosts = mail_hosts hosts; journal = journal }

-- Members of lists by their places.

-- the list with another member at this place
abbrev pub changed_member : {A : Type 0} → ℕ → (A → A) → List A → List A
changed_member i change [] = []
changed_member zero change (x ∷ xs) = change x ∷ xs
changed_member (suc i) change (x ∷ xs) = x ∷ changed_member i change xs

-- the place of the first member that passes, where the first one has number i
abbrev pub member_place_from : {A : Type 0} → ℕ → (A → Bool) → List A → Option ℕ
member_place_from i test [] = None
member_place_from i test (x ∷ xs) = if test x then Some i else member_place_from (i + 1) test xs

-- the place of the first member that passes
abbrev pub member_place : {A : Type 0} → (A → Bool) → List A → Option ℕ
member_place test xs = member_place_from 0 test xs

-- a host has this name
abbrev pub is_named : List ℕ → MailHost → Bool
is_named name host = path_eq host.name name

-- a host may post
abbrev pub is_writer : MailHost → Bool
is_writer host = host.writer

-- a host that is declared: its cache is empty, and it has no task
abbrev pub new_mail_host : List ℕ → Bool → MailHost
new_mail_host name writer = record { name = name; writer = writer; cache = finmap.empty; task = None }

-- the world with one note more
abbrev pub mail_noted : MailNote → MailView → MailView
mail_noted note v = record v { journal = v.journal ++ note ∷ [] }
