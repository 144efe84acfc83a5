-- A world's own hosts and notes, as contracts see them. docs/MODEL.md, "The journal".
use Rattle.std.specs.Prelude.{ℕ, ◌==◌, ◌&&◌, not, nat_lt, Bool, List, length, map, slice_get, Option, Some, None, option_map}
use Rattle.fam_commands.specs.Kept.{Kept}
use Rattle.fam_commands.specs.Task.{Task}
use Rattle.fam_machine.specs.Caches.{dirty_count}
use Rattle.fam_journal.specs.ByWorld.{number_in, shown_host}
use Rattle.fam_journal.specs.Machines.{HostState}
use Rattle.fam_journal.specs.View.{HostView, WorldView}
use Rattle.fam_notes.specs.declared.note.Note.{Note as Noted}
pub use Rattle.fam_notes.specs.Notes.{note_view, notes_view}
use Rattle.fam_world.specs.declared.hosts.Host.{Host}

-- what a host keeps of the log: its task has it, where it runs one
abbrev pub kept_in : Option Task → Option Kept → Option Kept
kept_in None kept = kept
kept_in (Some task) kept = task.kept

-- a host: its task is the one that it runs
abbrev pub host_view : Host → HostView
host_view h = record { name = h.name; uuid = h.uuid; cache = h.cache.lines; task = h.task; kept = kept_in h.task h.kept }

-- how many entries are kept
abbrev pub count_kept : Option Kept → Option ℕ
count_kept kept = option_map (λ (k : Kept). length k.entries) kept

-- how many entries a host keeps, if there is one
abbrev pub kept_entries : Option HostView → Option ℕ
kept_entries None = None
kept_entries (Some view) = count_kept view.kept

-- how many entries the host of this number keeps
abbrev pub count_at : Option ℕ → List HostView → Option ℕ
count_at None hosts = None
count_at (Some at) hosts = kept_entries (slice_get hosts at)

-- how many entries the host of this name keeps, if it is declared and keeps anything
abbrev pub count_named : List ℕ → WorldView → Option ℕ
count_named name world = count_at (number_in name world) world.hosts

-- all hosts
abbrev pub views : List Host → List HostView
views hosts = map host_view hosts

-- what tells refusals of them: names, UUIDs, caches, and who has a task
abbrev pub shown_hosts : List Host → List HostState
shown_hosts hosts = map shown_host (views hosts)

-- a host that isn't the maker holds a line that memory may lack
abbrev pub is_dirty_other : ℕ → ℕ → HostState → Bool
is_dirty_other maker at host = not (at == maker) && nat_lt 0 (dirty_count host.cache)

-- a world: its hosts, and the notes that it keeps as those of a journal
abbrev pub world_view : List Host → List Noted → WorldView
world_view hosts journal = record { hosts = views hosts; journal = notes_view journal }
