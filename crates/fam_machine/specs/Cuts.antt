-- Operations on a host's machine, of which one fails, and what a media shows of the machine that is left.
use Rattle.std.specs.Prelude.{◌≡◌, ◌<◌, List, ◌∷◌, ◌++◌, Option, Some}
use Rattle.fam_base.specs.Image.{Image}
use Rattle.fam_base.specs.declared.line.LineNo.{LineNo}
use Rattle.fam_machine.specs.declared.op.Op.{Op}
use Rattle.fam_machine.specs.Caches.{Cache}
use Rattle.fam_machine.specs.Operations.{Breaking, Machine, failed, operated_all}

-- a modelled image and a cache are this machine's
pub record IsMachine (m : Machine) (shown : Option Image) (held : Cache) : Type 0 where
  pub image : shown ≡ Some m.image
  pub cache : held ≡ m.cache

-- the media failed in the operation on this machine, at this line: of the words that it sends, where it sends, a mask of a
-- line's eight words says which came through, and of a fence how many lines were sent before. This machine is left
pub record Fails (op : Op) (m : Machine) (line : LineNo) (left : Machine) : Type 0 where
  pub through : Breaking
  pub fits : through.mask < 256
  pub is : failed through op m ≡ Some (record { line = line; left = left })

-- of the operations the first ones were done, and the next one failed at this line. This machine is left
pub record Cuts (ops : List Op) (m : Machine) (line : LineNo) (left : Machine) : Type 0 where
  pub done : List Op
  pub op : Op
  pub rest : List Op
  pub split : ops ≡ done ++ op ∷ rest
  pub fails : Fails op (operated_all done m) line left

-- the operation failed at this line, and a modelled image and a cache are what is left
pub record HasFailed (op : Op) (m : Machine) (line : LineNo) (shown : Option Image) (held : Cache) : Type 0 where
  pub left : Machine
  pub fails : Fails op m line left
  pub is : IsMachine left shown held

-- so did one of these operations
pub record HasCut (ops : List Op) (m : Machine) (line : LineNo) (shown : Option Image) (held : Cache) : Type 0 where
  pub left : Machine
  pub cuts : Cuts ops m line left
  pub is : IsMachine left shown held
