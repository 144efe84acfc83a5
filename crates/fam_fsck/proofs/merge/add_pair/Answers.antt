use Rattle.fam_fsck.proofs.MergeRoom.{pair_other, pair_same}
use Rattle.fam_fsck.proofs.merge.add_pair.Goals as goal

pub returns-then-not-is_same : goal.returns-then-not-is_same
returns-then-not-is_same c =
    pair_other c.args.checked.now c.args.entry.now c.args.listed.now c.is_same.result c.is_same.ensures c.if-not-is_same.true c.keep_first.new.first c.keep_first.ensures

pub returns-else-not-is_same : goal.returns-else-not-is_same
returns-else-not-is_same c =
    pair_same c.args.checked.now c.args.entry.now c.args.listed.now c.is_same.result c.is_same.ensures c.if-not-is_same.false
