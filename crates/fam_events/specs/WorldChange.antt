-- The world, the media, the shelf, and how many bytes of sources were read, before and behind an event.
use Rattle.std.specs.Prelude.{ℕ, ◌≡◌, ◌≤◌, ◌++◌, List, length, Option, Some}
use Rattle.fam_base.specs.Image.{Image}
use Rattle.fam_media.specs.Files.{Files}
use Rattle.fam_media.specs.States.{change, MediaState, MediaChange}
use Rattle.fam_journal.specs.CallRecords.{FitsMedia}
use Rattle.fam_journal.specs.Ends.{HasCounted}
use Rattle.fam_journal.specs.Events.{Session}
use Rattle.fam_journal.specs.Shapes.{HostShape, IsShaped, shapes_of}
use Rattle.fam_journal.specs.Kept.{Held}
use Rattle.fam_journal.specs.Legal.{Legal}
use Rattle.fam_journal.specs.Machines.{Machines}
use Rattle.fam_journal.specs.Names.{AreNamed}
use Rattle.fam_journal.specs.Notes.{Note}
use Rattle.fam_journal.specs.Past.{State, past_of}
use Rattle.fam_journal.specs.View.{WorldView}

-- the media's image and the shelf's files are told where they are modelled; the media's number of lines and its count of
-- faults always
pub record WorldChange : Type 0 where
  pub lines : ℕ
  pub media : MediaChange
  pub old : WorldView
  pub new : WorldView
  pub files : Option Files
  pub copied : ℕ
  pub copied_now : ℕ

-- the world may change, and bytes of sources may be read
abbrev pub asking : ℕ → WorldView → WorldView → Option Image → ℕ → Option Files → ℕ → ℕ → WorldChange
asking lines old new told faults files copied copied_now = record {
  lines = lines;
  media = record { old = record { image = told; faults = faults }; new = record { image = told; faults = faults } };
  old = old;
  new = new;
  files = files;
  copied = copied;
  copied_now = copied_now;
}

-- nothing but the world may change
abbrev pub still : ℕ → WorldView → WorldView → Option Image → ℕ → Option Files → ℕ → WorldChange
still lines old new told faults files copied = asking lines old new told faults files copied copied

-- a media and a world, from one state to another, by what the media tells of each
abbrev pub world_change : {M : Type 0} → (M → ℕ) → (M → MediaState) → M → M → WorldView → WorldView → Option Files → ℕ → ℕ → WorldChange
world_change size state media media_now old new files copied copied_now = record {
  lines = size media;
  media = change state media media_now;
  old = old;
  new = new;
  files = files;
  copied = copied;
  copied_now = copied_now;
}

-- On every media and shelf: notes of a shape are added, which name hosts that were declared; the media's count rose by as many
-- faults as they tell; tasks and cached lines are those of the media; and hosts are what the journal tells.
pub record AddsShape (P : ℕ → List HostShape → List Note → Type 0) (a : WorldChange) : Type 0 where
  pub notes : List Note
  pub joined : a.new.journal ≡ a.old.journal ++ notes
  pub named : AreNamed (length a.old.hosts) notes
  pub counted : HasCounted a.media.old.faults a.media.new.faults notes
  pub later : a.media.old.faults ≤ a.media.new.faults
  pub fits : FitsMedia a.lines a.new.hosts
  pub shaped : IsShaped a.new
  pub shape : P a.lines (shapes_of a.old.journal) notes

-- Where image and files are modelled: on a state at which the world was held a relation of sessions holds, with the notes that
-- are added, and the media has its last image.

-- the machine of all hosts, and how many bytes of sources were read
abbrev pub session : Machines → ℕ → Session
session machines copied = record { machines = machines; copied = copied }

-- what an event does on a modelled image, from a state for which the world is held
pub record Comes (P : Session → List Note → Session → Type 0) (a : WorldChange) (state : Machines) : Type 0 where
  pub last : Session
  pub notes : List Note
  pub does : P (session state a.copied) notes last
  pub told_is : a.media.new.image ≡ Some last.machines.memory
  pub joined : a.new.journal ≡ a.old.journal ++ notes

-- and the world is held again, at the last state
pub record ComesHeld (P : Session → List Note → Session → Type 0) (start : Image) (a : WorldChange) (state : Machines) : Type 0 where
  pub comes : Comes P a state
  pub held : Held start comes.last.machines a.new comes.last.machines.memory

-- or the journal is legal and no more is held, but what the image reads as, by the session before and what its journal settles
pub record ComesBroken (P : Session → List Note → Session → Type 0) (R : Session → State → Image → Type 0) (start : Image) (a : WorldChange) (state : Machines) : Type 0 where
  pub comes : Comes P a state
  pub legal : Legal start a.new.journal
  pub reads : R (session state a.copied) (past_of start a.old.journal).state comes.last.machines.memory

-- from every state that the image tells, with the shelf's files
abbrev pub Told : (Files → Image → WorldChange → Machines → Type 0) → WorldChange → Type 0
Told Q a =
    (start : Image) (files : Files) (state : Machines) → a.files ≡ Some files → a.media.old.image ≡ Some state.memory → Held start state a.old state.memory
    → Q files start a state
