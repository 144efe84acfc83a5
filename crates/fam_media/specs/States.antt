-- What the outside tells, and how a call changes it.
use Rattle.std.specs.Prelude.{ℕ, List, Option}
use Rattle.fam_base.specs.Image.{Image}
use Rattle.fam_media.specs.Files.{Files}

-- of a media: the image, where it is modelled, and how often a call failed. How many lines there are no call changes
pub record MediaState : Type 0 where
  pub image : Option Image
  pub faults : ℕ

-- of a shelf: the bytes of each name, where they are modelled, how often a call failed, and how often a read gave no byte where
-- the file's size promised one
pub record ShelfState : Type 0 where
  pub files : Option Files
  pub faults : ℕ
  pub shorts : ℕ

-- of a sink: the bytes put so far, where they are modelled, and how often a put failed
pub record SinkState : Type 0 where
  pub bytes : Option (List ℕ)
  pub faults : ℕ

-- what stands before and behind one call or several
pub record Change (T : Type 0) : Type 0 where
  pub old : T
  pub new : T

-- of an object, of which this tells the state
abbrev pub change : {S T : Type 0} → (S → T) → S → S → Change T
change state before behind = record { old = state before; new = state behind }

-- of what a media tells
abbrev pub MediaChange : Type 0
MediaChange = Change MediaState

-- by the image and the count of faults before and behind
abbrev pub media_change : Option Image → ℕ → Option Image → ℕ → MediaChange
media_change before faults behind faults_now = record { old = record { image = before; faults = faults }; new = record { image = behind; faults = faults_now } }

-- of what a shelf tells
abbrev pub ShelfChange : Type 0
ShelfChange = Change ShelfState

-- of what a sink tells
abbrev pub SinkChange : Type 0
SinkChange = Change SinkState
