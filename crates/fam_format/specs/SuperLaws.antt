-- What ties the definitions of superblock and header together.
use Rattle.std.specs.Prelude.{ℕ, ◌≡◌, ◌≤◌, List}
use Rattle.std.specs.Int.{IsPowerOfTwo}
use Rattle.fam_base.specs.declared.entry.Params.{Params}
pub use Rattle.fam_base.specs.Units.{least_unit}
use Rattle.fam_format.specs.Params.{SoundParams}
pub use Rattle.fam_format.specs.Words.{IsWords}
use Rattle.fam_format.specs.Super.{magic, super_words}

-- word 0 of line 0 and the sixteen words of lines 1 and 2 are a superblock of these parameters, on an image of
-- so many bytes
pub record IsSuper (word : ℕ) (w : List ℕ) (have : ℕ) (p : Params) : Type 0 where
  pub first : word ≡ magic
  pub words : w ≡ super_words p
  pub sound : SoundParams p
  pub device : p.device ≤ have

-- the most bytes of a unit: 2 MiB
abbrev pub most_unit : ℕ
most_unit = 2097152

-- a power of two in this range
pub record IsUnit (u : ℕ) : Type 0 where
  pub power : IsPowerOfTwo u
  pub least : least_unit ≤ u
  pub most : u ≤ most_unit
