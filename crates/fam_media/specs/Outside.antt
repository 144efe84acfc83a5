-- What the calls of a media and of a sink do to their content.
use Rattle.std.specs.Prelude.{ℕ, ◌≡◌, ◌<◌, ◌≤◌, ◌++◌, List, length, take, Option, Some}
use Rattle.std.specs.Option.{option_map}
use Rattle.fam_base.specs.Image.{Image, with_masked}

-- where a content is modelled, it has this property
abbrev pub IfModelled : {T : Type 0} → Option T → (T → Type 0) → Type 0
IfModelled {T} modelled P = (content : T) → modelled ≡ Some content → P content

-- how many masks there are: one for each choice among a line's eight words
abbrev pub masks : ℕ
masks = 256

-- after a write that failed each word of the line is the old or the new one, and other lines are as before
pub record IsTorn (old new : Option Image) (line : ℕ) (words : List ℕ) : Type 0 where
  pub mask : ℕ
  pub fits : mask < masks
  pub written : new ≡ option_map (with_masked line words mask) old

-- the bytes with a piece behind them
abbrev pub with_piece : List ℕ → List ℕ → List ℕ
with_piece piece bytes = bytes ++ piece

-- after a put that failed a prefix of the piece stands behind the bytes
pub record IsPartlyPut (old new : Option (List ℕ)) (piece : List ℕ) : Type 0 where
  pub kept : ℕ
  pub fits : kept ≤ length piece
  pub put : new ≡ option_map (with_piece (take kept piece)) old
