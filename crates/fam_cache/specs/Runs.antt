-- Operations one after another through a host's cache, over any media, whose image may be modelled or not.
use Rattle.std.specs.Prelude.{List, Option}
use Rattle.fam_base.specs.Image.{Image}
use Rattle.fam_base.specs.declared.line.LineNo.{LineNo}
use Rattle.fam_machine.specs.declared.op.Op.{Op}
use Rattle.fam_machine.specs.Caches.{Cache}
use Rattle.fam_machine.specs.Cuts.{HasCut, IsMachine}
use Rattle.fam_machine.specs.Operations.{machine, operated_all}
use Rattle.fam_media.specs.Outside.{IfModelled}

-- a media's image, where it is modelled, and a cache over it
pub record CacheOver : Type 0 where
  pub image : Option Image
  pub lines : Cache

-- this image and this cache
abbrev pub over : Option Image → Cache → CacheOver
over image lines = record { image = image; lines = lines }

-- the operations were done, one after another: where the image is modelled, it and the cache are what they leave
pub record AreDone (ops : List Op) (before now : CacheOver) : Type 0 where
  pub is : IfModelled before.image (λ image. IsMachine (operated_all ops (machine image before.lines)) now.image now.lines)

-- one of them failed at this line: where the image is modelled, it and the cache are what is left
pub record AreCut (ops : List Op) (line : LineNo) (before now : CacheOver) : Type 0 where
  pub is : IfModelled before.image (λ image. HasCut ops (machine image before.lines) line now.image now.lines)
