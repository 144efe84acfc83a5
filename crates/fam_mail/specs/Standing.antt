-- How a world with a mailbox stands: what the protocol keeps holds of its image, its hosts and their tasks. docs/MODEL.md, "The mailbox".
use Rattle.std.specs.Prelude.{ℕ, ⊤, Bool, ◌⊎◌, ◌++◌, true, false, ◌≡◌, ◌==◌, if◌then◌else◌, List, length, slice_get, Option, Some, None, option_map}
use Rattle.std.proofs.Common.{inl, inr}
use Rattle.fam_base.specs.Image.{Image, line_at}
use Rattle.fam_machine.specs.Caches.{cell_at}
use Rattle.fam_machine.specs.declared.cell.Cell.{Cell}
use Rattle.fam_machine.specs.declared.cell.Cell.TheVariants.{Absent}
use Rattle.fam_protocol.specs.SharedState.{SharedState}
use Rattle.fam_rules.specs.Written.{file_line}
use Rattle.fam_mail.specs.declared.ask.Ask.{Ask}
use Rattle.fam_mail.specs.declared.turn.Turn.{Turn}
use Rattle.fam_base.specs.declared.entry.Entry.{Entry}
use Rattle.fam_media.specs.States.{MediaChange, MediaState}
use Rattle.fam_mail.specs.declared.note.MailNote.{MailNote}
use Rattle.fam_mail.specs.Calls.{TaskBreaks, Finishes, HostRuns, MailOperates, TaskServes, Stays, MailWorldFits, capacity_in, goes_on, rests}
use Rattle.fam_mail.specs.Mail.{Mail, TaskMaySay, TaskRun, floor_behind_turn, settles}
use Rattle.fam_mail.specs.Protocol.{Box, BoxInvariant, TaskRuns}
use Rattle.fam_mail.specs.Tasks.{MailTask, mail_turn}
use Rattle.fam_mail.specs.World.{MailHost, MailView, changed_member, member_place, is_writer}

-- a host's copy of a line, absent where there is no host
abbrev pub held_by : Option MailHost → ℕ → Cell
held_by None l = Absent
held_by (Some h) l = cell_at h.cache l

-- memory and all caches
abbrev pub shared : Image → List MailHost → SharedState
shared image hosts = record { memory = line_at image; copy = λ h l. held_by (slice_get hosts h) l }

-- a host's task, with what was settled at its mark
abbrev pub run_by : Option MailHost → Option ℕ → Option TaskRun
run_by None floor = None
run_by (Some h) floor = option_map (λ (t : MailTask). record { task = t; floor = floor }) h.task

-- all of them
abbrev pub runs_of_hosts : List MailHost → (ℕ → Option ℕ) → TaskRuns
runs_of_hosts hosts floors h = run_by (slice_get hosts h) (floors h)

-- the box of a world, and what the other lines of the image held at first
abbrev pub box_in : MailView → (ℕ → List ℕ) → Box
box_in v rest = record { place = file_line v.entry; capacity = capacity_in v; writer = member_place is_writer v.hosts; rest = rest }

-- what the journal has settled so far, and what was settled at the mark of each host's task
pub record MailPast : Type 0 where
  pub mail : Mail
  pub floors : ℕ → Option ℕ

-- at most one host may post
abbrev pub IsOneWriter : List MailHost → Type 0
IsOneWriter hosts = (n : ℕ) (h : MailHost) → slice_get hosts n ≡ Some h → h.writer ≡ true → member_place is_writer hosts ≡ Some n

-- what laws ask of a world before a call, besides that it stands: at most one host may post, and all fits a media of so many lines
pub record IsMailReady (lines : ℕ) (v : MailView) : Type 0 where
  pub one : IsOneWriter v.hosts
  pub fits : MailWorldFits lines v

-- a world stands over an image
abbrev pub MailStands : (ℕ → List ℕ) → MailView → MailPast → Image → Type 0
MailStands rest v past image = BoxInvariant (box_in v rest) (runs_of_hosts v.hosts past.floors) (shared image v.hosts) past.mail

-- the past behind a turn of the task of a host that is asked this
abbrev pub mail_past_after : ℕ → Turn → Ask → MailPast → MailPast
mail_past_after at turn ask past =
    record { mail = settles turn ask past.mail; floors = λ h. if h == at then floor_behind_turn turn (length past.mail.list) (past.floors at) else past.floors h }

-- a host's task said this of its operation, which it may, and the world stands again
pub record SaysSo (rest : ℕ → List ℕ) (at word : ℕ) (t : MailTask) (past : MailPast) (now : Option Image) (new : MailView) : Type 0 where
  pub says : TaskMaySay (mail_turn word t) t.ask (past.floors at) past.mail (capacity_in new)
  pub image : Image
  pub told : now ≡ Some image
  pub stands : MailStands rest new (mail_past_after at (mail_turn word t) t.ask past) image

-- the media failed, nothing was said, and the world stands again
pub record StandsStill (rest : ℕ → List ℕ) (past : MailPast) (now : Option Image) (new : MailView) : Type 0 where
  pub image : Image
  pub told : now ≡ Some image
  pub stands : MailStands rest new past image

-- what is known behind an operation of a task, which the media served or failed in
abbrev pub StandsBehind : (rest : ℕ → List ℕ) (past : MailPast) (at : ℕ) (entry : Entry) (name : List ℕ) (host : MailHost) (t : MailTask) (told : MediaChange) (over : Bool) (next : MailHost) (notes : List MailNote) (new : MailView)
    → TaskServes entry name host t told over next notes ⊎ TaskBreaks entry name host t told over next notes → Type 0
StandsBehind rest past at entry name host t told over next notes new (inl serves) = SaysSo rest at serves.word t past told.new.image new
StandsBehind rest past at entry name host t told over next notes new (inr breaks) = StandsStill rest past told.new.image new

-- behind the operation that a call does
abbrev pub StandsAfter : (rest : ℕ → List ℕ) (past : MailPast) (name : List ℕ) (told : MediaChange) (over : Bool) (old new : MailView) → MailOperates name told over old new → Type 0
StandsAfter rest past name told over old new call =
    StandsBehind rest past call.at old.entry name call.host call.does.task told over call.next call.notes new call.does.how

-- Operations of a host's task one behind another, as a call that finishes it does them.

-- the past behind an operation of a task, which the media served or failed in
abbrev pub mail_past_behind : (past : MailPast) (at : ℕ) (entry : Entry) (name : List ℕ) (host : MailHost) (t : MailTask) (told : MediaChange) (over : Bool) (next : MailHost) (notes : List MailNote)
    → TaskServes entry name host t told over next notes ⊎ TaskBreaks entry name host t told over next notes → MailPast
mail_past_behind past at entry name host t told over next notes (inl serves) = mail_past_after at (mail_turn serves.word t) t.ask past
mail_past_behind past at entry name host t told over next notes (inr breaks) = past

-- behind some of them
abbrev pub mail_past_along : (past : MailPast) (at lines : ℕ) (entry : Entry) (name : List ℕ) (host : MailHost) (told : MediaState) (count : ℕ) (next : MailHost) (later : MediaState) (notes : List MailNote)
    → HostRuns lines entry name host told count next later notes → MailPast
mail_past_along past at lines entry name host told _ _ _ _ rests = past
mail_past_along past at lines entry name host told _ next later _ (goes_on {count = count} {mid = mid} {now = now} {notes = notes} {more = more} runs is_told operates) =
    mail_past_behind (mail_past_along past at lines entry name host told count mid now notes runs) at entry name mid operates.task (record { old = now; new = later }) false next more operates.how

-- the world with another host in a host's place, and with more notes
abbrev pub with_host_noted : MailView → ℕ → MailHost → List MailNote → MailView
with_host_noted v at next notes = record { entry = v.entry; hosts = changed_member at (λ h. next) v.hosts; journal = v.journal ++ notes }

-- each of them says what it may, and the world stands behind it
abbrev pub StandsAlong : (rest : ℕ → List ℕ) (past : MailPast) (at lines : ℕ) (v : MailView) (name : List ℕ) (host : MailHost) (told : MediaState) (count : ℕ) (next : MailHost) (later : MediaState) (notes : List MailNote)
    → HostRuns lines v.entry name host told count next later notes → Type 0
StandsAlong rest past at lines v name host told _ _ _ _ rests = ⊤
StandsAlong rest past at lines v name host told _ next later _ (goes_on {count = count} {mid = mid} {now = now} {notes = notes} {more = more} runs is_told operates) =
    StandsAlong rest past at lines v name host told count mid now notes runs
    × StandsBehind rest (mail_past_along past at lines v.entry name host told count mid now notes runs) at v.entry name mid operates.task (record { old = now; new = later }) false next more (with_host_noted v at next (notes ++ more)) operates.how

-- so it is with a task that is finished, and with the operation that ended it
abbrev pub StandsFinished : (rest : ℕ → List ℕ) (past : MailPast) (lines : ℕ) (name : List ℕ) (told : MediaChange) (old new : MailView) → Finishes lines name told old new → Type 0
StandsFinished rest past lines name told old new call =
    StandsAlong rest past call.at lines old name call.host told.old call.does.count call.does.mid call.does.now call.does.first call.does.runs
    × StandsBehind rest (mail_past_along past call.at lines old.entry name call.host told.old call.does.count call.does.mid call.does.now call.does.first call.does.runs) call.at old.entry name call.does.mid call.does.ends.task
    (record { old = call.does.now; new = told.new }) true call.next call.does.last new call.does.ends.how

-- and with one that memory ran out for: the world stands then too
abbrev pub StandsUnfinished : (rest : ℕ → List ℕ) (past : MailPast) (lines : ℕ) (name : List ℕ) (told : MediaChange) (old new : MailView) → Stays lines name told old new → Type 0
StandsUnfinished rest past lines name told old new call =
    StandsAlong rest past call.at lines old name call.host told.old call.does.count call.next told.new call.notes call.does.runs
    × StandsStill rest (mail_past_along past call.at lines old.entry name call.host told.old call.does.count call.next told.new call.notes call.does.runs) told.new.image new
