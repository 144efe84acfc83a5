use Rattle.std.proofs.Common.{ℕ, ◌≡◌, ◌+◌, ◌<◌, ◌≤◌}
use Rattle.fam_files.specs.Ahead.{IsPast, HasNoMore}
use Rattle.fam_files.proofs.file_media.FileMedia.write_each.Given as goal

abbrev pub invariant-loop-k : goal.invariant-loop-k
invariant-loop-k l = record {
  size : l.self.lines ≡ l.fn.self.lines;
  within : HasNoMore l.fn.self.next l.fn.self.end l.self.next l.self.end;
  past : (line : ℕ) → l.first ≤ line → line < l.first + l.k → IsPast l.self.next l.self.end line;
  later : l.fn.self.faults ≤ l.self.faults;
}
