-- How far a run has come: its first events are done, on every media and shelf, and where their contents are modelled.
use Rattle.std.specs.Prelude.{ℕ, ⊤, ◌≡◌, ◌≤◌, List, [], ◌∷◌, take, Option, Some}
use Rattle.fam_base.specs.Image.{Image}
use Rattle.fam_media.specs.Files.{Files}
use Rattle.fam_media.specs.Outside.{IfModelled}
use Rattle.fam_media.specs.States.{MediaState, ShelfState}
use Rattle.fam_journal.specs.declared.event.Event.{Event}
use Rattle.fam_journal.specs.CallRecords.{FitsMedia}
use Rattle.fam_journal.specs.Ends.{HasCounted}
use Rattle.fam_journal.specs.EventShapes.{FollowsShape}
use Rattle.fam_journal.specs.Events.{Session, first_session}
use Rattle.fam_journal.specs.Follows.{Follows}
use Rattle.fam_journal.specs.Shapes.{IsShaped}
use Rattle.fam_journal.specs.Kept.{Held}
use Rattle.fam_journal.specs.Names.{NameDeclared}
use Rattle.fam_journal.specs.View.{WorldView}
use Rattle.fam_grammar.specs.Sound.{IsSoundEvent}

-- each event is within its limits
abbrev pub AreSoundEvents : List Event → Type 0
AreSoundEvents [] = ⊤
AreSoundEvents (event ∷ events) = IsSoundEvent event × AreSoundEvents events

-- what a run begins with: its events, the media's number of lines, and the image and the files, where they are modelled
pub record Base : Type 0 where
  pub events : List Event
  pub lines : ℕ
  pub media : MediaState
  pub files : Option Files

-- a run of these events, by what media and shelf tell before it
abbrev pub base_of : List Event → ℕ → MediaState → ShelfState → Base
base_of events lines media shelf = record { events = events; lines = lines; media = media; files = shelf.files }

-- what it has come to: the world, and what the media tells by now; so many bytes of sources were read
pub record Now : Type 0 where
  pub world : WorldView
  pub media : MediaState
  pub copied : ℕ

-- what it has come to, by what the media tells then
abbrev pub now_of : WorldView → MediaState → ℕ → Now
now_of world media copied = record { world = world; media = media; copied = copied }

-- where image and files are modelled: from the first session the journal's rules lead to one with this image, at which the
-- world is held
pub record FarOn (files : Files) (events : List Event) (start : Image) (n : Now) : Type 0 where
  pub last : Session
  pub follows : Follows files events (first_session start) n.world.journal last
  pub left : n.media.image ≡ Some last.machines.memory
  pub held : Held start last.machines n.world last.machines.memory
  pub copied : last.copied ≡ n.copied

-- the first `count` events are done: notes name hosts that were declared, in the shape of these events; the media's count rose by
-- as many faults as they tell; tasks and cached lines are the media's, and hosts are what the journal tells
pub record Far (b : Base) (count : ℕ) (n : Now) : Type 0 where
  pub named : NameDeclared 0 n.world.journal
  pub counted : HasCounted b.media.faults n.media.faults n.world.journal
  pub later : b.media.faults ≤ n.media.faults
  pub fits : FitsMedia b.lines n.world.hosts
  pub shaped : IsShaped n.world
  pub shape : FollowsShape b.lines (take count b.events) [] n.world.journal
  pub on : IfModelled b.media.image (λ start. IfModelled b.files (λ files. FarOn files (take count b.events) start n))
