-- What a call leaves of memory, and what it takes from there, where the image may be modelled or not.
use Rattle.std.specs.Prelude.{ℕ, ◌≡◌, ◌<◌, List, Option, Some}
use Rattle.fam_base.specs.Image.{Image, eight, line_at, with_line}
use Rattle.fam_media.specs.Outside.{IfModelled, masks}

-- P holds of some eight words, which are memory's words of the line where an image is modelled
pub record FromMemory (modelled : Option Image) (line : ℕ) (P : List ℕ → Type 0) : Type 0 where
  pub memory : List ℕ
  pub whole : eight memory ≡ memory
  pub modelled_is : IfModelled modelled (λ image. memory ≡ line_at image line)
  pub is : P memory

-- the line is left as the machine says that a media fault may leave it, for some mask of words that came
-- through, and the other lines are as before
pub record FailsTo (line : ℕ) (failing : ℕ → List ℕ → Option (List ℕ)) (image : Image) (new : Option Image) : Type 0 where
  pub through : ℕ
  pub fits : through < masks
  pub words : List ℕ
  pub left : failing through (line_at image line) ≡ Some words
  pub written : new ≡ Some (with_line line words image)
