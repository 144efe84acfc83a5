use Rattle.std.proofs.Common.{◌≡◌, ◌+◌, ◌<◌, ◌≤◌, length}
use Rattle.fam_files.specs.Ahead.{IsPastUpTo}
use Rattle.fam_files.proofs.file_media.FileMedia.read_each.Given as goal

abbrev pub invariant-loop-k : goal.invariant-loop-k
invariant-loop-k l = record {
  len : length l.lines ≡ length l.fn.lines;
  size : l.self.lines ≡ l.fn.self.lines;
  past : 0 < l.k → IsPastUpTo l.self.next l.self.end (l.first + l.k);
  later : l.fn.self.faults ≤ l.self.faults;
}
