-- Which note may stand next, as a table over the note alone: by the host's own command, or by what is seen of the hosts, but of no
-- event. It holds where some event adds a note that tells the same.
use Rattle.std.specs.Prelude.{ℕ, ⊤, ◌≡◌, ◌≢◌, ◌⊎◌, ◌+◌, ◌-◌, ◌*◌, ◌^◌, ◌<◌, ◌≤◌, ◌&&◌, ◌||◌, IsTrue, Bool, true, false, List, [], ◌∷◌, length, map, slice_get, is_some, Option, Some, None}
use Rattle.std.specs.List.{list_any}
use Rattle.fam_base.specs.Commands.{IsListing, read_limit}
use Rattle.fam_base.specs.declared.cmd.Cmd.{Cmd}
use Rattle.fam_base.specs.declared.cmd.Cmd.TheVariants.{Logplay, Mount, Mkdir, Creat, Cp, Verify, Read, Check, Fsck}
use Rattle.fam_base.specs.declared.cmd.Content.TheVariants as content
use Rattle.fam_base.specs.declared.entry.Entry.{Entry}
use Rattle.fam_base.specs.declared.entry.Params.{Params}
use Rattle.fam_base.specs.PathOrder.{path_eq}
use Rattle.fam_base.specs.Paths.{is_path}
use Rattle.fam_base.specs.Units.{least_unit}
use Rattle.fam_commands.specs.Classes.{is_mount}
use Rattle.fam_format.specs.Layout.{least_lines, log_offset, slots_of}
use Rattle.fam_format.specs.Params.{IsUuid, is_format, is_log_length, need}
use Rattle.fam_history.specs.declared.command.ToldCommand.{ToldCommand}
use Rattle.fam_history.specs.declared.command.ToldCommand.TheVariants as told
use Rattle.fam_history.specs.Told.{told_of_command}
use Rattle.fam_machine.specs.Mkfs.{is_geometry}
use Rattle.fam_rules.specs.Content.{HoldsBytes}
use Rattle.fam_rules.specs.DecideLaws.{IsAttr, IsStripeOfWords}
use Rattle.fam_rules.specs.Place.{line_bytes}
use Rattle.fam_journal.specs.declared.refusal.Refusal.{Refusal}
use Rattle.fam_journal.specs.declared.refusal.Refusal.TheVariants as why
use Rattle.fam_journal.specs.Calls.{host_limit}
use Rattle.fam_journal.specs.Members.{index_of}
use Rattle.fam_journal.specs.Notes.{Note, Host, Made, Cut, Start, Mark, Found, Writes, Answered, Stop, Halt, Umount, Refused}
use Rattle.fam_journal.specs.Shapes.{HostShape, OfRunning, TaskNote, shapes_after}
use Rattle.fam_judge.specs.Alike.{told_note}
use Rattle.fam_judge.specs.Formed.{HasPlace, IsFormedNote}

-- What is seen of hosts.

-- a host's name and UUID, whether it runs a command, and whether it keeps something of the log
pub record Face : Type 0 where
  pub name : List ℕ
  pub uuid : List ℕ
  pub runs : Bool
  pub keeps : Bool

-- as it is seen
abbrev pub face : HostShape → Face
face host = record { name = host.name; uuid = host.uuid; runs = is_some host.task; keeps = host.keeps }

-- so of all hosts
abbrev pub faces : List HostShape → List Face
faces hosts = map face hosts

-- the number of the host of a name
abbrev pub host_number_in : List ℕ → List Face → Option ℕ
host_number_in name all = index_of (λ f. path_eq f.name name) all

-- the first host that has the name or the UUID
abbrev pub same_in : List ℕ → List ℕ → List Face → Option ℕ
same_in name uuid all = index_of (λ f. path_eq f.name name || path_eq f.uuid uuid) all

-- the first host that runs a command or keeps something of the log
abbrev pub engaged_in : List Face → Option ℕ
engaged_in all = index_of (λ f. f.runs || f.keeps) all

-- the host is declared, and this holds of it
abbrev pub OfFace : Option Face → (Face → Type 0) → Type 0
OfFace None P = ⊥
OfFace (Some f) P = P f

-- so it is of the host of this number
abbrev pub AtFace : Option ℕ → List Face → (ℕ → Face → Type 0) → Type 0
AtFace None all P = ⊥
AtFace (Some k) all P = OfFace (slice_get all k) (P k)

-- so it is of the host of this name
abbrev pub AtNamed : List ℕ → List Face → (ℕ → Face → Type 0) → Type 0
AtNamed name all P = AtFace (host_number_in name all) all P

-- a host of this name is declared
abbrev pub IsDeclaredName : List ℕ → List Face → Type 0
IsDeclaredName name all = AtNamed name all (λ k f. ⊤)

-- hosts as calls declare them: their UUIDs are such, no two have the same name or UUID, and there are no more than may be
pub record AreDistinctHosts (all : List Face) : Type 0 where
  pub uuids : (k : ℕ) (f : Face) → slice_get all k ≡ Some f → IsUuid f.uuid
  pub names : (k l : ℕ) (f g : Face) → slice_get all k ≡ Some f → slice_get all l ≡ Some g → f.name ≡ g.name → k ≡ l
  pub apart : (k l : ℕ) (f g : Face) → slice_get all k ≡ Some f → slice_get all l ≡ Some g → f.uuid ≡ g.uuid → k ≡ l
  pub few : length all ≤ host_limit

-- File systems.

-- some file system fits a media of so many lines: one of the smallest unit, whose log has one unit, does
abbrev pub HasSystemRoom : ℕ → Type 0
HasSystemRoom lines = need least_unit least_unit ≤ line_bytes * lines

-- none is busy where one is made
abbrev pub MayMake : ℕ → List Face → Type 0
MayMake lines all = HasSystemRoom lines × (engaged_in all ≡ None)

-- parameters of a file system that a host of this UUID made on a media of so many lines
pub record IsMadeBy (me : List ℕ) (lines : ℕ) (p : Params) : Type 0 where
  pub format : IsTrue (is_format p.format)
  pub geometry : IsTrue (is_geometry p.unit p.log_length)
  pub slots : p.slots ≡ slots_of p.format p.log_length
  pub need : need p.log_length p.unit ≤ p.device
  pub device : p.device ≡ line_bytes * lines
  pub fs : IsUuid p.fs
  pub master : p.master ≡ me

-- all units
abbrev pub units : List ℕ
units = 4096 ∷ 8192 ∷ 16384 ∷ 32768 ∷ 65536 ∷ 131072 ∷ 262144 ∷ 524288 ∷ 1048576 ∷ 2097152 ∷ []

-- what is left of so many bytes for a log of this unit is the length of one
abbrev pub leaves_log : ℕ → ℕ → Bool
leaves_log bytes unit = is_log_length unit (bytes - (log_offset + unit))

-- some unit and log need so many bytes
abbrev pub is_need : ℕ → Bool
is_need bytes = list_any (leaves_log bytes) units

-- Commands, by what is told of them.

-- some entries in the order of their paths are so many. They are of any number, as a law says of those below 2 ^ 64
abbrev pub MayList : ℕ → Type 0
MayList count = (listing : List Entry) × IsListing listing × (length listing ≡ count)

-- the limits of a command: of a verify there are none, and of a read that of its count
abbrev pub IsSoundPlain : Cmd → Type 0
IsSoundPlain Logplay = ⊤
IsSoundPlain Mount = ⊤
IsSoundPlain (Mkdir path attr) = IsTrue (is_path path) × IsAttr attr
IsSoundPlain (Creat path size attr stripe fill) = IsTrue (is_path path) × (size < 2 ^ 64) × IsAttr attr × IsStripeOfWords stripe × HoldsBytes fill
IsSoundPlain (Cp path attr stripe bytes) = IsTrue (is_path path) × (length bytes < 2 ^ 64) × IsAttr attr × IsStripeOfWords stripe × HoldsBytes (content.Bytes bytes)
IsSoundPlain (Verify path against) = ⊤
IsSoundPlain (Read path offset count) = count ≤ read_limit
IsSoundPlain (Check listing) = IsListing listing
IsSoundPlain Fsck = ⊤

-- some sound command tells this
abbrev pub SoundTold : ToldCommand → Type 0
SoundTold (told.Plain cmd) = IsSoundPlain cmd
SoundTold (told.Cp path size attr stripe) = IsTrue (is_path path) × (size < 2 ^ 64) × IsAttr attr × IsStripeOfWords stripe
SoundTold (told.VerifySource path count) = ⊤
SoundTold (told.Check count) = MayList count

-- a mount
abbrev pub is_told_mount : ToldCommand → Bool
is_told_mount (told.Plain cmd) = is_mount cmd
is_told_mount (told.Cp path size attr stripe) = false
is_told_mount (told.VerifySource path count) = false
is_told_mount (told.Check count) = false

-- Notes that an event adds.

-- a host of this name and UUID is declared
abbrev pub MayDeclare : List Face → List ℕ → List ℕ → Type 0
MayDeclare all name uuid = IsUuid uuid × (same_in name uuid all ≡ None) × (length all < host_limit)

-- host h begins a command that tells this: the image has a gate, the host runs none, and where it mounts keeps nothing; and the command is sound
abbrev pub MayStart : ℕ → List Face → ℕ → ToldCommand → Type 0
MayStart lines all h cmd =
    (least_lines ≤ lines) × OfFace (slice_get all h) (λ f. (f.runs ≡ false) × ((is_told_mount cmd && f.keeps) ≡ false)) × SoundTold cmd

-- a command but a mount may begin on the host of this name: so its source is asked for
abbrev pub MayAsk : ℕ → List Face → List ℕ → Type 0
MayAsk lines all name = (least_lines ≤ lines) × AtNamed name all (λ k f. f.runs ≡ false)

-- the name is of no host before host h
abbrev pub IsNotBefore : ℕ → Option ℕ → Type 0
IsNotBefore h None = ⊤
IsNotBefore h (Some k) = h ≤ k

-- a call for the host of this name is refused for this cause
abbrev pub MayRefuseCall : ℕ → List Face → List ℕ → Refusal → Type 0
MayRefuseCall lines all name why.NoHost = host_number_in name all ≡ None
MayRefuseCall lines all name (why.SameHost host) = (host.0 < length all) × IsNotBefore host.0 (host_number_in name all)
MayRefuseCall lines all name why.TooManyHosts = (host_number_in name all ≡ None) × (host_limit ≤ length all)
MayRefuseCall lines all name (why.BadGeometry unit log) = IsDeclaredName name all × (is_geometry unit log ≡ false)
MayRefuseCall lines all name (why.TooSmall bytes have) = IsDeclaredName name all × IsTrue (is_need bytes) × (have ≡ line_bytes * lines) × (have < bytes)
MayRefuseCall lines all name (why.ImageSmall count) = IsDeclaredName name all × (count ≡ lines) × (lines < least_lines)
MayRefuseCall lines all name (why.Busy host) =
    AtNamed name all (λ k f. (k ≡ host.0) × (f.runs ≡ true)) ⊎ (IsDeclaredName name all × HasSystemRoom lines × (engaged_in all ≡ Some host.0))
MayRefuseCall lines all name (why.Dirty host) = MayMake lines all × (host.0 < length all) × AtNamed name all (λ k f. host.0 ≢ k)
MayRefuseCall lines all name (why.HasSuper uuid) = MayMake lines all × IsDeclaredName name all
MayRefuseCall lines all name why.Idle = AtNamed name all (λ k f. f.runs ≡ false)
MayRefuseCall lines all name why.Mounted = (least_lines ≤ lines) × AtNamed name all (λ k f. (f.runs ≡ false) × (f.keeps ≡ true))
MayRefuseCall lines all name why.NotMounted = AtNamed name all (λ k f. (f.runs ≡ false) × (f.keeps ≡ false))
MayRefuseCall lines all name (why.NoLine line count) = IsDeclaredName name all × (count ≡ lines) × (lines ≤ line)
MayRefuseCall lines all name (why.NoFile source) = MayAsk lines all name
MayRefuseCall lines all name (why.CopyLimit sum) = MayAsk lines all name
MayRefuseCall lines all name (why.BadListing line) = MayAsk lines all name
MayRefuseCall lines all name (why.MediaFault line) = IsDeclaredName name all × (line.0 < lines)

-- Notes.

-- the note may stand next, on a media of so many lines, by what the notes before tell of the hosts
abbrev pub MayStand : ℕ → List HostShape → Note → Type 0
MayStand lines hosts (Host name uuid) = MayDeclare (faces hosts) name uuid
MayStand lines hosts (Made h p) = (engaged_in (faces hosts) ≡ None) × OfFace (slice_get (faces hosts) h) (λ f. IsMadeBy f.uuid lines p)
MayStand lines hosts (Cut h k) = MayMake lines (faces hosts) × OfFace (slice_get (faces hosts) h) (λ f. ⊤)
MayStand lines hosts (Start h cmd) = MayStart lines (faces hosts) h (told_of_command cmd)
MayStand lines hosts (Mark h) = OfRunning (slice_get hosts h) (λ me t. TaskNote h me t (Mark h))
MayStand lines hosts (Found h n) = OfRunning (slice_get hosts h) (λ me t. TaskNote h me t (Found h n))
MayStand lines hosts (Writes h seq entry) = OfRunning (slice_get hosts h) (λ me t. TaskNote h me t (Writes h seq entry))
MayStand lines hosts (Answered h answer) = OfRunning (slice_get hosts h) (λ me t. TaskNote h me t (Answered h answer)) × HasPlace hosts (Answered h answer)
MayStand lines hosts (Stop h) = OfFace (slice_get (faces hosts) h) (λ f. f.runs ≡ true)
MayStand lines hosts (Halt h) = OfFace (slice_get (faces hosts) h) (λ f. ⊤)
MayStand lines hosts (Umount h) = OfFace (slice_get (faces hosts) h) (λ f. (f.runs ≡ false) × (f.keeps ≡ true))
MayStand lines hosts (Refused name cause) = MayRefuseCall lines (faces hosts) name cause

-- so does each of these notes, behind those before it
abbrev pub AreStanding : ℕ → List HostShape → List Note → Type 0
AreStanding lines hosts [] = ⊤
AreStanding lines hosts (note ∷ notes) = MayStand lines hosts note × AreStanding lines (shapes_after hosts note) notes

-- a note that tells the same has the form of the tables
pub record IsFormedAs (lines : ℕ) (hosts : List HostShape) (note : Note) : Type 0 where
  pub chosen : Note
  pub alike : told_note chosen ≡ told_note note
  pub formed : IsFormedNote lines hosts chosen

-- a note of a running command
abbrev pub is_own : Note → Bool
is_own (Host name uuid) = false
is_own (Made h p) = false
is_own (Cut h k) = false
is_own (Start h cmd) = false
is_own (Mark h) = true
is_own (Found h n) = true
is_own (Writes h seq entry) = true
is_own (Answered h answer) = true
is_own (Stop h) = false
is_own (Halt h) = false
is_own (Umount h) = false
is_own (Refused name cause) = false
