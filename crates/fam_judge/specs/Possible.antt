-- States that stand for all in which hosts may be behind the lines of a history, whatever notes it leaves out. A mark that is left out stands best right
-- behind its command's start, where the least is settled; what a command that appends found and writes stands best where a later line
-- tells of it.
use Rattle.std.specs.Prelude.{ℕ, ⊤, ◌≡◌, ◌≢◌, ◌+◌, false, List, [], ◌∷◌, ◌++◌, map, length, slice_get, Option, Some, None}
use Rattle.fam_base.specs.declared.entry.Entry.{Entry}
use Rattle.fam_base.specs.Image.{Image}
use Rattle.fam_commands.specs.Appends.{HasWish}
use Rattle.fam_commands.specs.ReplyClasses.{Appending, Declining, Faulty, ReplyClass, Reporting, Showing, reply_class}
use Rattle.fam_journal.specs.Legal.{FoundAllowed}
use Rattle.fam_journal.specs.Members.{changed_at}
use Rattle.fam_journal.specs.Notes.{Answer, Replied, MediaFault, Note, Host, Made, Cut, Start, Mark, Found, Writes, Answered, Stop, Halt, Umount, Refused}
use Rattle.fam_journal.specs.Past.{HostPast, Past, State, Bad, Sound, first_state, new_host, reported_count, settled_length, state_after}
use Rattle.fam_journal.specs.Shapes.{Begun, CommandStage, HostShape, IsHead, Marked, Met, Named, OfRunning, TaskNote, keeps_behind, with_stage}
use Rattle.fam_judge.specs.Fitting.{FitsNext}
use Rattle.fam_judge.specs.Standing.{MayStand}

-- A state, and what follows it.

-- a host: what is known of its last command, and how far its running one has come
pub record Progress : Type 0 where
  pub told : HostPast
  pub shape : HostShape

-- what is settled, and the hosts
pub record Possible : Type 0 where
  pub state : State
  pub hosts : List Progress

-- before the first line
abbrev pub first_possible : Image → Possible
first_possible start = record { state = first_state start; hosts = [] }

-- what the notes before tell, as the fold of a journal has it
abbrev pub past_in : Image → Possible → Past
past_in start x = record { start = start; state = x.state; hosts = map (λ (p : Progress). p.told) x.hosts }

-- and of the hosts alone
abbrev pub shapes_in : Possible → List HostShape
shapes_in x = map (λ (p : Progress). p.shape) x.hosts

-- a host that is declared
abbrev pub new_progress : List ℕ → List ℕ → Progress
new_progress name uuid = record { told = new_host name uuid; shape = record { name = name; uuid = uuid; task = None; keeps = false } }

-- the hosts after a note; so much is settled before it
abbrev pub progress_after : ℕ → List Progress → Note → List Progress
progress_after settled hosts (Host name uuid) = hosts ++ new_progress name uuid ∷ []
progress_after settled hosts (Made h p) = hosts
progress_after settled hosts (Cut h k) = hosts
progress_after settled hosts (Start h cmd) =
    changed_at h (λ p. record { told = record p.told { cmd = Some cmd; floor = None; wrote = None }; shape = record p.shape { task = Some (record { cmd = cmd; stage = Begun }) } }) hosts
progress_after settled hosts (Mark h) =
    changed_at h (λ p. record { told = record p.told { floor = Some settled }; shape = with_stage Marked p.shape }) hosts
progress_after settled hosts (Found h n) = changed_at h (λ p. record p { shape = with_stage (Met n) p.shape }) hosts
progress_after settled hosts (Writes h seq e) =
    changed_at h (λ p. record { told = record p.told { wrote = Some (record { seq = seq; entry = e }) }; shape = with_stage (Named seq) p.shape }) hosts
progress_after settled hosts (Answered h answer) =
    changed_at h (λ p. record p { shape = record p.shape { task = None; keeps = keeps_behind answer p.shape.keeps } }) hosts
progress_after settled hosts (Stop h) = changed_at h (λ p. record p { shape = record p.shape { task = None } }) hosts
progress_after settled hosts (Halt h) = changed_at h (λ p. record p { shape = record p.shape { task = None; keeps = false } }) hosts
progress_after settled hosts (Umount h) = changed_at h (λ p. record p { shape = record p.shape { keeps = false } }) hosts
progress_after settled hosts (Refused name cause) = hosts

-- after a note, as it stands in a journal
abbrev pub after_note : Image → Possible → Note → Possible
after_note start x note = record { state = state_after (past_in start x) note; hosts = progress_after (settled_length x.state) x.hosts note }

-- after a line of a history. Where a command begins, what is settled then is kept as for its mark
abbrev pub after_line : Image → Possible → Note → Possible
after_line start x (Start h cmd) =
    record (after_note start x (Start h cmd)) { hosts = changed_at h (λ p. record p { told = record p.told { floor = Some (settled_length x.state) } }) (after_note start x (Start h cmd)).hosts }
after_line start x (Host name uuid) = after_note start x (Host name uuid)
after_line start x (Made h p) = after_note start x (Made h p)
after_line start x (Cut h k) = after_note start x (Cut h k)
after_line start x (Mark h) = after_note start x (Mark h)
after_line start x (Found h n) = after_note start x (Found h n)
after_line start x (Writes h seq e) = after_note start x (Writes h seq e)
after_line start x (Answered h answer) = after_note start x (Answered h answer)
after_line start x (Stop h) = after_note start x (Stop h)
after_line start x (Halt h) = after_note start x (Halt h)
after_line start x (Umount h) = after_note start x (Umount h)
after_line start x (Refused name cause) = after_note start x (Refused name cause)

-- Notes that a history leaves out.

-- host h runs a command that has come to such a stage
abbrev pub StageIs : (CommandStage → Type 0) → ℕ → Possible → Type 0
StageIs P h x = OfRunning (slice_get (shapes_in x) h) (λ me t. P t.stage)

-- it runs a command that wants to append
abbrev pub WantsToAppend : ℕ → Possible → Type 0
WantsToAppend h x = OfRunning (slice_get (shapes_in x) h) (λ me t. HasWish t.cmd)

-- the state where the mark of host h's command, which wasn't told, hasn't come
abbrev pub without_mark : ℕ → Possible → Possible
without_mark h x = record x { hosts = changed_at h (λ p. record p { told = record p.told { floor = None } }) x.hosts }

-- the state where it came right behind the command's start
abbrev pub after_mark : ℕ → Possible → Possible
after_mark h x = record x { hosts = changed_at h (λ p. record p { shape = with_stage Marked p.shape }) x.hosts }

-- host h's command has found entries by now
pub data MeetsEntries (start : Image) (h : ℕ) (x met : Possible) : Type 0 where
  shown_met : (n : ℕ) → StageIs (λ stage. stage ≡ Met n) h x → met ≡ x → MeetsEntries start h x met
  left_out_met : (n : ℕ) → StageIs IsHead h x → WantsToAppend h x → FoundAllowed n x.state → met ≡ after_note start x (Found h n) → MeetsEntries start h x met

-- it has named an entry by now
pub record Wrote (start : Image) (h : ℕ) (x wrote : Possible) : Type 0 where
  pub met : Possible
  pub meets : MeetsEntries start h x met
  pub seq : ℕ
  pub entry : Entry
  pub may : OfRunning (slice_get (shapes_in met) h) (λ me t. TaskNote h me t (Writes h seq entry))
  pub fits : FitsNext (past_in start met) (Writes h seq entry)
  pub is : wrote ≡ after_note start met (Writes h seq entry)

-- how far host h's command may have come
pub data Reaches (start : Image) (h : ℕ) (x now : Possible) : Type 0 where
  unmarked : StageIs (λ stage. stage ≡ Begun) h x → now ≡ without_mark h x → Reaches start h x now
  marked : StageIs (λ stage. stage ≡ Begun) h x → now ≡ after_mark h x → Reaches start h x now
  stands : now ≡ x → (StageIs (λ stage. stage ≡ Begun) h x → ⊥) → Reaches start h x now
  meets : MeetsEntries start h x now → Reaches start h x now
  wrote : Wrote start h x now → Reaches start h x now

-- Lines.

-- the host whose command gives the note, where that depends on how far it has come
abbrev pub giver_by : ℕ → Answer → Option ℕ
giver_by h (Replied given) = Some h
giver_by h (MediaFault line) = None

-- so of a note
abbrev pub giver : Note → Option ℕ
giver (Host name uuid) = None
giver (Made h p) = None
giver (Cut h k) = None
giver (Start h cmd) = None
giver (Mark h) = Some h
giver (Found h n) = Some h
giver (Writes h seq e) = Some h
giver (Answered h answer) = giver_by h answer
giver (Stop h) = None
giver (Halt h) = None
giver (Umount h) = None
giver (Refused name cause) = None

-- how far the command of the line's host may have come before it
abbrev pub ReachesFor : Image → Option ℕ → Possible → Possible → Type 0
ReachesFor start None x now = now ≡ x
ReachesFor start (Some h) x now = Reaches start h x now

-- nothing pends
abbrev pub NonePends : State → Type 0
NonePends (Bad origin damage gate) = ⊤
NonePends (Sound p history pending) = pending ≡ None

-- the state, or one in which a host has named an entry by now
pub data MayHaveNamed (start : Image) (x now : Possible) : Type 0 where
  as_is : now ≡ x → MayHaveNamed start x now
  written : (k : ℕ) → Wrote start k x now → MayHaveNamed start x now

-- a line leads from a state to another one, with its command as far as it may have come
pub record StepsTo (start : Image) (x : Possible) (line : Note) (y : Possible) : Type 0 where
  pub now : Possible
  pub reaches : ReachesFor start (giver line) x now
  pub may : MayStand (length start) (shapes_in now) line
  pub fits : FitsNext (past_in start now) line
  pub is : y ≡ after_line start now line

-- so it does where some host may have named an entry before
pub record MayLead (start : Image) (x : Possible) (line : Note) (y : Possible) : Type 0 where
  pub first : Possible
  pub before : MayHaveNamed start x first
  pub steps : StepsTo start first line y

-- the lines lead from a state to another one
abbrev pub LeadsTo : Image → Possible → List Note → Possible → Type 0
LeadsTo start x [] y = y ≡ x
LeadsTo start x (line ∷ lines) y = (mid : Possible) × MayLead start x line mid × LeadsTo start mid lines y

-- a state that stands for some in which hosts may be behind these lines
abbrev pub IsPossible : Image → List Note → Possible → Type 0
IsPossible start lines x = LeadsTo start (first_possible start) lines x

-- Lines behind an entry that was named.

-- up to how many entries a reply settles, by its class: one that appended settles its own
abbrev pub reply_settles : ReplyClass → Option ℕ
reply_settles (Appending seq) = Some (seq + 1)
reply_settles (Declining why) = None
reply_settles (Showing m) = Some m
reply_settles (Reporting report) = reported_count report.log
reply_settles Faulty = None

-- so of an answer
abbrev pub answer_settles : Answer → Option ℕ
answer_settles (Replied given) = reply_settles (reply_class given)
answer_settles (MediaFault line) = None

-- a line that tells nothing of entry seq, which host k has named. It tells of it where it ends k's command, is another one of it, or shows or
-- counts the entry; a file system that is made, an umount of k and another entry that is named can't stand there
abbrev pub Elsewhere : ℕ → ℕ → Note → Type 0
Elsewhere k seq (Host name uuid) = ⊤
Elsewhere k seq (Made h p) = ⊤
Elsewhere k seq (Cut h n) = ⊤
Elsewhere k seq (Start h cmd) = h ≢ k
Elsewhere k seq (Mark h) = h ≢ k
Elsewhere k seq (Found h n) = (h ≢ k) × (n ≢ seq + 1)
Elsewhere k seq (Writes h n e) = ⊤
Elsewhere k seq (Answered h answer) = (h ≢ k) × (answer_settles answer ≢ Some (seq + 1))
Elsewhere k seq (Stop h) = h ≢ k
Elsewhere k seq (Halt h) = h ≢ k
Elsewhere k seq (Umount h) = ⊤
Elsewhere k seq (Refused name cause) = ⊤
