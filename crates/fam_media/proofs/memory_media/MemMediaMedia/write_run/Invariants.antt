use Rattle.std.proofs.Common.{◌≡◌, length}
use Rattle.fam_media.specs.MemoryMedia.{IsWritten, modelled_image}
use Rattle.fam_media.specs.Runs.{AreDone, run_written, write_of}
use Rattle.fam_media.proofs.memory_media.MemMediaMedia.write_run.Given as goal

-- the lines so far were written
abbrev pub invariant-loop-k : goal.invariant-loop-k
invariant-loop-k l = record {
  image : modelled_image l.self ≡ run_written l.first.0 l.lines l.k (modelled_image l.fn.self);
  size : length l.self.image ≡ length l.fn.self.image;
  calls : AreDone (write_of IsWritten l.first.0 l.lines) l.k l.fn.self l.self;
  counted : l.self.faults ≡ l.fn.self.faults;
}
