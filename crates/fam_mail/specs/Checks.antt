-- Why a box is not taken: it is none, or the media failed.
use Rattle.std.specs.Prelude.{ℕ, ⊤, ◌≡◌, ◌⊎◌, ◌+◌, ◌-◌, ◌<◌, ◌≤◌, Bool, true, Option, None}
use Rattle.fam_base.specs.Image.{Image, line_at}
use Rattle.fam_base.specs.declared.line.LineNo.{LineNo}
use Rattle.fam_media.specs.Outside.{IfModelled}
use Rattle.fam_media.specs.Plans.{one_more}
use Rattle.fam_media.specs.States.{MediaState}
use Rattle.fam_mail.specs.Boxes.{first_wrong, box_gate, record_at}
use Rattle.fam_mail.specs.declared.check.BoxFault.{BoxFault}
use Rattle.fam_mail.specs.declared.check.BoxFault.TheVariants.{Wrong, MediaFault}
use Rattle.fam_mail.specs.declared.check.WrongBox.{WrongBox}

-- where it is none, P holds of what makes it so
abbrev pub IfWrong : BoxFault → (WrongBox → Type 0) → Type 0
IfWrong (Wrong wrong) P = P wrong
IfWrong (MediaFault line) P = ⊤

-- where the media failed, P holds of the line that is named
abbrev pub IfFailed : BoxFault → (LineNo → Type 0) → Type 0
IfFailed (Wrong wrong) P = ⊤
IfFailed (MediaFault line) P = P line

-- a media that counts exactly has counted one fault where the media failed, and none where the box is none
abbrev pub IsBoxCounted : ℕ → ℕ → BoxFault → Type 0
IsBoxCounted before now (Wrong wrong) = now ≡ before
IsBoxCounted before now (MediaFault line) = now ≡ one_more before

-- a line of the image is that of a record below a gate that the box has room for. Where the image is told the gate is its own,
-- and the records before this one are records
pub record IsRecordRead (place : ℕ → ℕ) (capacity : ℕ) (told : Option Image) (line : ℕ) : Type 0 where
  pub number : ℕ
  pub gate : ℕ
  pub below : number < gate
  pub room : gate ≤ capacity
  pub line_is : line ≡ place (1 + number)
  pub gate_is : IfModelled told (λ image. gate ≡ box_gate place (line_at image))
  pub front : IfModelled told (λ image. first_wrong (record_at place (line_at image)) 0 number ≡ None)

-- a test of a box reads this line: the gate's, or that of a record
abbrev pub IsReadLine : (ℕ → ℕ) → ℕ → Option Image → ℕ → Type 0
IsReadLine place capacity told line = (line ≡ place 0) ⊎ IsRecordRead place capacity told line

-- the gate was read, and the records before record i are records, so that the first that is none is the first from i on; the media is as it was but for its
-- faults, and one that counts exactly has counted none
pub record IsCheckedTo {M : Type 0} (size : M → ℕ) (state : M → MediaState) (exact : Bool) (place : ℕ → ℕ) (capacity gate i : ℕ) (old now : M) : Type 0 where
  pub size_is : size now ≡ size old
  pub same : (state now).image ≡ (state old).image
  pub later : (state old).faults ≤ (state now).faults
  pub quiet : exact ≡ true → (state now).faults ≡ (state old).faults
  pub room : gate ≤ capacity
  pub gate_is : IfModelled (state old).image (λ image. gate ≡ box_gate place (line_at image))
  pub right : IfModelled (state old).image (λ image. first_wrong (record_at place (line_at image)) 0 i ≡ None)
  pub front : IfModelled (state old).image (λ image. first_wrong (record_at place (line_at image)) 0 gate ≡ first_wrong (record_at place (line_at image)) i (gate - i))
