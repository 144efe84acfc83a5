-- What each event of a mailbox's script does on the machine of all hosts, with its notes; and what a list of events does.
-- docs/MODEL.md, "The mailbox".
use Rattle.std.specs.Prelude.{ℕ, ⊤, ◌≡◌, ◌⊎◌, ◌<◌, ◌≤◌, ◌++◌, ◌∷◌, Bool, true, false, List, [], slice_get, Option, Some, None}
use Rattle.std.specs.FinMap as finmap
use Rattle.fam_base.specs.Image.{Image}
use Rattle.fam_base.specs.declared.entry.Entry.{Entry}
use Rattle.fam_machine.specs.HostMoves.{Move, Evict, Leak, Fetch, move_failed, moved}
use Rattle.fam_machine.specs.Operations.{line_no}
use Rattle.fam_rules.specs.Written.{file_line}
use Rattle.fam_mail.specs.declared.ask.Ask.{Ask}
use Rattle.fam_mail.specs.declared.ask.Ask.TheVariants.{Post}
use Rattle.fam_mail.specs.declared.event.MailEvent.{MailEvent}
use Rattle.fam_mail.specs.declared.event.MailEvent.TheVariants as event
use Rattle.fam_mail.specs.declared.note.MailNote.{MailNote}
use Rattle.fam_mail.specs.declared.note.MailNote.TheVariants as note
use Rattle.fam_mail.specs.declared.note.MailRefusal.{MailRefusal}
use Rattle.fam_mail.specs.declared.note.MailRefusal.TheVariants as why
use Rattle.fam_mail.specs.Boxes.{capacity_of}
use Rattle.fam_mail.specs.Calls.{begin_refusal, declare_refusal, declared_note, no_task_refusal, file_line_refusal, no_refusal, refusal_named}
use Rattle.fam_mail.specs.Machines.{MailMachines, MailOperations, has_task_at, host_machine, with_host_at}
use Rattle.fam_mail.specs.Records.{IsRecord}
use Rattle.fam_mail.specs.Tasks.{new_task}
use Rattle.fam_mail.specs.World.{MailHost, MailView, member_place, is_named, new_mail_host}

-- Refusals. They are told by the hosts and the file alone.

-- the hosts as those of a world, whose journal no refusal looks at
abbrev pub world_of : Entry → MailMachines → MailView
world_of entry m = record { entry = entry; hosts = m.hosts; journal = [] }

-- an event with a first refusal leaves its note, and nothing else; one with none acts
abbrev pub MailByRefusal : List ℕ → Option MailRefusal → MailMachines → List MailNote → MailMachines → Type 0 → Type 0
MailByRefusal name (Some cause) old notes new acts = (notes ≡ note.Refused name cause ∷ []) × (new ≡ old)
MailByRefusal name None old notes new acts = acts

-- What an event does that isn't refused.

-- it is done of the host of this name, by its number
pub record OfNamedHost (name : List ℕ) (old : MailMachines) (P : ℕ → MailHost → Type 0) : Type 0 where
  pub at : ℕ
  pub host : MailHost
  pub number : member_place (is_named name) old.hosts ≡ Some at
  pub host_is : slice_get old.hosts at ≡ Some host
  pub does : P at host

-- a host is declared: its cache is empty, and it has no task
pub record IsDeclared (name : List ℕ) (writer : Bool) (old : MailMachines) (notes : List MailNote) (new : MailMachines) : Type 0 where
  pub notes_are : notes ≡ declared_note name writer ∷ []
  pub left : new ≡ record old { hosts = old.hosts ++ new_mail_host name writer ∷ [] }

-- a host's task becomes another one, or is gone, with one note
pub record IsHostGiven (made : MailNote) (at : ℕ) (next : MailHost) (old : MailMachines) (notes : List MailNote) (new : MailMachines) : Type 0 where
  pub notes_are : notes ≡ made ∷ []
  pub left : new ≡ with_host_at at next old.memory old

-- a task begins
abbrev pub IsTaskBegun : Entry → List ℕ → Ask → MailMachines → List MailNote → MailMachines → Type 0
IsTaskBegun entry name ask old notes new =
    OfNamedHost name old (λ at host. IsHostGiven (note.Start name ask) at (record host { task = Some (new_task ask (capacity_of entry.size)) }) old notes new)

-- a task does operations up to the one that ends it
pub record CompletesTask (entry : Entry) (name : List ℕ) (at : ℕ) (old : MailMachines) (notes : List MailNote) (new : MailMachines) : Type 0 where
  pub count : ℕ
  pub does : MailOperations entry name at old count notes new
  pub over : has_task_at at new ≡ false

-- it does so many operations, or fewer where one ends it
pub record DoesSteps (entry : Entry) (name : List ℕ) (at limit : ℕ) (old : MailMachines) (notes : List MailNote) (new : MailMachines) : Type 0 where
  pub count : ℕ
  pub does : MailOperations entry name at old count notes new
  pub within : count ≤ limit
  pub whole : (count ≡ limit) ⊎ (has_task_at at new ≡ false)

-- it begins, and then some operations follow
pub record BeginsAndDoes (P : ℕ → MailMachines → List MailNote → MailMachines → Type 0) (entry : Entry) (name : List ℕ) (ask : Ask) (old : MailMachines) (notes : List MailNote) (new : MailMachines) : Type 0 where
  pub mid : MailMachines
  pub first : List MailNote
  pub rest : List MailNote
  pub begun : IsTaskBegun entry name ask old first mid
  pub does : P begun.at mid rest new
  pub joined : notes ≡ first ++ rest

-- a cache moves by itself at a line of the file
pub record IsMoved (entry : Entry) (at : ℕ) (host : MailHost) (line : ℕ) (move : Move) (old : MailMachines) (notes : List MailNote) (new : MailMachines) : Type 0 where
  pub notes_are : notes ≡ []
  pub left : new ≡ with_host_at at (record host { cache = (moved move (file_line entry line) (host_machine old host)).cache }) (moved move (file_line entry line) (host_machine old host)).image old

-- or the media fails in that, and memory may have words of the copy, by a mask: the refusal names the line of the image
pub record IsMoveCut (entry : Entry) (name : List ℕ) (host : MailHost) (line : ℕ) (move : Move) (old : MailMachines) (notes : List MailNote) (new : MailMachines) : Type 0 where
  pub through : ℕ
  pub fits : through < 256
  pub image : Image
  pub fails : move_failed move (file_line entry line) through (host_machine old host) ≡ Some image
  pub notes_are : notes ≡ note.Refused name (why.MediaFault (line_no (file_line entry line))) ∷ []
  pub left : new ≡ record old { memory = image }

-- a move of a cache, on the line that the file has
abbrev pub Moves : Entry → List ℕ → ℕ → Move → MailMachines → List MailNote → MailMachines → Type 0
Moves entry name line move old notes new =
    MailByRefusal name (refusal_named name (file_line_refusal line (capacity_of entry.size)) (world_of entry old)) old notes new
    (OfNamedHost name old (λ at host. IsMoved entry at host line move old notes new ⊎ IsMoveCut entry name host line move old notes new))

-- what an event does, with these notes
abbrev pub MailDoes : Entry → MailEvent → MailMachines → List MailNote → MailMachines → Type 0
MailDoes entry (event.Writer name) old notes new =
    MailByRefusal name (declare_refusal name true (world_of entry old)) old notes new (IsDeclared name true old notes new)
MailDoes entry (event.Reader name) old notes new =
    MailByRefusal name (declare_refusal name false (world_of entry old)) old notes new (IsDeclared name false old notes new)
MailDoes entry (event.Begin name ask) old notes new =
    MailByRefusal name (refusal_named name (begin_refusal ask) (world_of entry old)) old notes new (IsTaskBegun entry name ask old notes new)
MailDoes entry (event.Run name ask) old notes new =
    MailByRefusal name (refusal_named name (begin_refusal ask) (world_of entry old)) old notes new
    (BeginsAndDoes (CompletesTask entry name) entry name ask old notes new)
MailDoes entry (event.Step name count) old notes new =
    MailByRefusal name (refusal_named name no_task_refusal (world_of entry old)) old notes new
    (OfNamedHost name old (λ at host. DoesSteps entry name at count old notes new))
MailDoes entry (event.Finish name) old notes new =
    MailByRefusal name (refusal_named name no_task_refusal (world_of entry old)) old notes new (OfNamedHost name old (λ at host. CompletesTask entry name at old notes new))
MailDoes entry (event.Stop name) old notes new =
    MailByRefusal name (refusal_named name no_task_refusal (world_of entry old)) old notes new
    (OfNamedHost name old (λ at host. IsHostGiven (note.Stop name) at (record host { task = None }) old notes new))
MailDoes entry (event.Halt name) old notes new =
    MailByRefusal name (refusal_named name no_refusal (world_of entry old)) old notes new
    (OfNamedHost name old (λ at host. IsHostGiven (note.Halt name) at (record host { cache = finmap.empty; task = None }) old notes new))
MailDoes entry (event.Evict name line) old notes new = Moves entry name line Evict old notes new
MailDoes entry (event.Leak name line mask) old notes new = Moves entry name line (Leak mask.0) old notes new
MailDoes entry (event.Fetch name line mask) old notes new = Moves entry name line (Fetch mask.0) old notes new

-- The record of an event is one.

-- what is posted is 1 to 7 numbers
abbrev pub IsSoundMailAsk : Ask → Type 0
IsSoundMailAsk ask = (numbers : List ℕ) → ask ≡ Post numbers → IsRecord numbers

-- so it is of an event
abbrev pub IsSoundMailEvent : MailEvent → Type 0
IsSoundMailEvent (event.Writer name) = ⊤
IsSoundMailEvent (event.Reader name) = ⊤
IsSoundMailEvent (event.Begin name ask) = IsSoundMailAsk ask
IsSoundMailEvent (event.Run name ask) = IsSoundMailAsk ask
IsSoundMailEvent (event.Step name count) = ⊤
IsSoundMailEvent (event.Finish name) = ⊤
IsSoundMailEvent (event.Stop name) = ⊤
IsSoundMailEvent (event.Halt name) = ⊤
IsSoundMailEvent (event.Evict name line) = ⊤
IsSoundMailEvent (event.Leak name line mask) = ⊤
IsSoundMailEvent (event.Fetch name line mask) = ⊤

-- and of all of them
abbrev pub AreSoundMailEvents : List MailEvent → Type 0
AreSoundMailEvents [] = ⊤
AreSoundMailEvents (e ∷ events) = IsSoundMailEvent e × AreSoundMailEvents events

-- Where no memory was left in an event.

-- some operations of a task, fewer than so many where they are limited, and it goes on
pub record IsUnfinished (limit : Option ℕ) (entry : Entry) (name : List ℕ) (at : ℕ) (old : MailMachines) (notes : List MailNote) (new : MailMachines) : Type 0 where
  pub count : ℕ
  pub does : MailOperations entry name at old count notes new
  pub within : (most : ℕ) → limit ≡ Some most → count < most
  pub runs : has_task_at at new ≡ true

-- a task that may begin has begun, and some of its operations are done
abbrev pub BeginsPart : Entry → List ℕ → Ask → MailMachines → List MailNote → MailMachines → Type 0
BeginsPart entry name ask old notes new =
    (refusal_named name (begin_refusal ask) (world_of entry old) ≡ None) × BeginsAndDoes (IsUnfinished None entry name) entry name ask old notes new

-- nothing is done
abbrev pub IsNothing : MailMachines → List MailNote → MailMachines → Type 0
IsNothing old notes new = (notes ≡ []) × (new ≡ old)

-- a part of an event is done: of its operations the first ones. Other events are done whole or not at all
abbrev pub MailDoesPart : Entry → MailEvent → MailMachines → List MailNote → MailMachines → Type 0
MailDoesPart entry (event.Writer name) old notes new = IsNothing old notes new
MailDoesPart entry (event.Reader name) old notes new = IsNothing old notes new
MailDoesPart entry (event.Begin name ask) old notes new = IsNothing old notes new
MailDoesPart entry (event.Run name ask) old notes new = IsNothing old notes new ⊎ BeginsPart entry name ask old notes new
MailDoesPart entry (event.Step name count) old notes new =
    IsNothing old notes new ⊎ OfNamedHost name old (λ at host. IsUnfinished (Some count) entry name at old notes new)
MailDoesPart entry (event.Finish name) old notes new = IsNothing old notes new ⊎ OfNamedHost name old (λ at host. IsUnfinished None entry name at old notes new)
MailDoesPart entry (event.Stop name) old notes new = IsNothing old notes new
MailDoesPart entry (event.Halt name) old notes new = IsNothing old notes new
MailDoesPart entry (event.Evict name line) old notes new = IsNothing old notes new
MailDoesPart entry (event.Leak name line mask) old notes new = IsNothing old notes new
MailDoesPart entry (event.Fetch name line mask) old notes new = IsNothing old notes new

-- Events one behind another.

-- these events lead from one state to another, with just these notes
abbrev pub MailFollows : Entry → List MailEvent → MailMachines → List MailNote → MailMachines → Type 0
MailFollows entry [] old journal new = (journal ≡ []) × (new ≡ old)
MailFollows entry (e ∷ events) old journal new =
    (mid : MailMachines) × (first : List MailNote) × (rest : List MailNote) × MailDoes entry e old first mid × MailFollows entry events mid rest new × (journal ≡ first ++ rest)

-- these events, and then a part of one
pub record MailFollowsCut (entry : Entry) (events : List MailEvent) (e : MailEvent) (old : MailMachines) (journal : List MailNote) (new : MailMachines) : Type 0 where
  pub mid : MailMachines
  pub whole : List MailNote
  pub part : List MailNote
  pub follows : MailFollows entry events old whole mid
  pub does : MailDoesPart entry e mid part new
  pub joined : journal ≡ whole ++ part
