use Rattle.std.proofs.Common.{◌≡◌, ◌≤◌, ℕ, true, List, length, take}
use Rattle.fam_base.specs.Escapes.{escaped}
use Rattle.fam_base.specs.Paths.{is_path}
use Rattle.fam_tree.proofs.WordsRead.{BytesSoFar}
use Rattle.fam_tree.proofs.line_words.path_of.Given as goal

abbrev pub invariant-loop-rest : goal.invariant-loop-rest
invariant-loop-rest l = record {
  read : (p : List ℕ) → is_path p ≡ true → l.word ≡ escaped p → BytesSoFar p (take l.count l.field) l.rest;
  within : l.count ≤ length l.field;
  room : length l.field ≡ 512;
}

abbrev pub decreases-loop-rest : goal.decreases-loop-rest
decreases-loop-rest l = length l.rest
