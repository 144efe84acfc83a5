-- Lines that give way: a host's start may be moved up over them, and its answer down. They are of other hosts, and make no file
-- system.
use Rattle.std.specs.Prelude.{ℕ, ⊤, ◌≡◌, ◌≢◌, ◌⊎◌, ◌<◌, ◌≤◌, true, List, [], ◌∷◌, length, slice_get, Some, Option}
use Rattle.fam_journal.specs.declared.refusal.Refusal.{Refusal}
use Rattle.fam_journal.specs.declared.refusal.Refusal.TheVariants as why
use Rattle.fam_journal.specs.Calls.{number_of}
use Rattle.fam_journal.specs.Notes.{Note, Host, Made, Cut, Start, Mark, Found, Writes, Answered, Stop, Halt, Umount, Refused}
use Rattle.fam_journal.specs.Shapes.{HostShape, runs_shape, shapes_after, shown_shapes}

-- Refusals. `hosts` is what the lines before tell, and `name` the host that was asked.

-- the number of the host of a name, where one is declared
abbrev pub number_named : List ℕ → List HostShape → Option ℕ
number_named name hosts = number_of name (shown_shapes 0 hosts)

-- the name is not host h's
abbrev pub NamesOther : ℕ → List HostShape → List ℕ → Type 0
NamesOther h hosts name = number_named name hosts ≢ Some h

-- this host is the one that was asked, and runs a command
abbrev pub IsBusyItself : ℕ → List HostShape → List ℕ → Type 0
IsBusyItself busy hosts name = (number_named name hosts ≡ Some busy) × (runs_shape (slice_get hosts busy) ≡ true)

-- a mkfs names the first host that is busy, whoever is asked to make it. So where host h begins earlier, or ends later, the
-- host that is named stays the first one unless h is declared before it. A command and an umount name the host itself
abbrev pub BusyGivesWay : ℕ → List HostShape → List ℕ → ℕ → Type 0
BusyGivesWay h hosts name busy = (busy ≤ h) ⊎ IsBusyItself busy hosts name

-- by the cause: another host was asked, or none that is declared, or one was to be declared. Of a mkfs, what its numbers, a busy
-- host or the media refuse (a media fault stands as that of a cache's move): before a dirty line, and before a superblock that
-- stands, it is refused for a host that is busy, as h then is
abbrev pub RefusalGivesWay : ℕ → List HostShape → List ℕ → Refusal → Type 0
RefusalGivesWay h hosts name why.NoHost = ⊤
RefusalGivesWay h hosts name (why.SameHost host) = ⊤
RefusalGivesWay h hosts name why.TooManyHosts = ⊤
RefusalGivesWay h hosts name (why.BadGeometry unit log) = NamesOther h hosts name
RefusalGivesWay h hosts name (why.TooSmall need have) = NamesOther h hosts name
RefusalGivesWay h hosts name (why.ImageSmall lines) = NamesOther h hosts name
RefusalGivesWay h hosts name (why.Busy host) = NamesOther h hosts name × BusyGivesWay h hosts name host.0
RefusalGivesWay h hosts name (why.Dirty host) = ⊥
RefusalGivesWay h hosts name (why.HasSuper uuid) = ⊥
RefusalGivesWay h hosts name why.Idle = NamesOther h hosts name
RefusalGivesWay h hosts name why.Mounted = NamesOther h hosts name
RefusalGivesWay h hosts name why.NotMounted = NamesOther h hosts name
RefusalGivesWay h hosts name (why.NoLine at lines) = NamesOther h hosts name
RefusalGivesWay h hosts name (why.NoFile source) = NamesOther h hosts name
RefusalGivesWay h hosts name (why.CopyLimit sum) = NamesOther h hosts name
RefusalGivesWay h hosts name (why.BadListing at) = NamesOther h hosts name
RefusalGivesWay h hosts name (why.MediaFault at) = NamesOther h hosts name

-- Lines.

-- the line is of another host than h: a line that declares a host is of another one where h is declared already. It makes no
-- file system, and is no refusal of one that h's command would change
abbrev pub GivesWay : ℕ → List HostShape → Note → Type 0
GivesWay h hosts (Host name uuid) = h < length hosts
GivesWay h hosts (Made host p) = ⊥
GivesWay h hosts (Cut host k) = ⊥
GivesWay h hosts (Start host cmd) = host ≢ h
GivesWay h hosts (Mark host) = host ≢ h
GivesWay h hosts (Found host n) = host ≢ h
GivesWay h hosts (Writes host seq entry) = host ≢ h
GivesWay h hosts (Answered host answer) = host ≢ h
GivesWay h hosts (Stop host) = host ≢ h
GivesWay h hosts (Halt host) = host ≢ h
GivesWay h hosts (Umount host) = host ≢ h
GivesWay h hosts (Refused name cause) = RefusalGivesWay h hosts name cause

-- so does each of these lines, behind those before it
abbrev pub GiveWay : ℕ → List HostShape → List Note → Type 0
GiveWay h hosts [] = ⊤
GiveWay h hosts (line ∷ lines) = GivesWay h hosts line × GiveWay h (shapes_after hosts line) lines
