use Rattle.std.proofs.Common.{◌≡◌, length}
use Rattle.fam_media.specs.MemoryMedia.{IsRead, modelled_image}
use Rattle.fam_media.specs.Outside.{IfModelled}
use Rattle.fam_media.specs.Runs.{AreDone, AreRead, read_of}
use Rattle.fam_media.proofs.memory_media.MemMediaMedia.read_run.Given as goal

-- the lines so far were read
abbrev pub invariant-loop-k : goal.invariant-loop-k
invariant-loop-k l = record {
  read : IfModelled (modelled_image l.fn.self) (λ image. AreRead image l.first.0 l.lines l.k);
  count : length l.lines ≡ length l.fn.lines;
  same : modelled_image l.self ≡ modelled_image l.fn.self;
  size : length l.self.image ≡ length l.fn.self.image;
  calls : AreDone (read_of IsRead l.first.0) l.k l.fn.self l.self;
  counted : l.self.faults ≡ l.fn.self.faults;
}
