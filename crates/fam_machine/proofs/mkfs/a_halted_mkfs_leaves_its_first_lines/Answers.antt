use Rattle.fam_machine.proofs.HaltedMkfs.{cleared_word, halted_left, halted_none, none_put}
use Rattle.fam_machine.proofs.mkfs.a_halted_mkfs_leaves_its_first_lines.Goals as goal

pub returns : goal.returns
returns c = record {
  leaves = halted_left;
  before = none_put;
  cleared = cleared_word;
  none = halted_none;
}
