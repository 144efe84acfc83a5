use Rattle.fam_history.proofs.CutSteps.{all_back, all_front, found_back, found_front, none_read, one_more}
use Rattle.fam_history.proofs.entries.cut.Goals as goal

pub loop-i-init : goal.loop-i-init
loop-i-init c = none_read c.args.mark c.args.bytes.now

pub loop-i-preserved : goal.loop-i-preserved
loop-i-preserved c = one_more c.args.mark c.args.bytes.now c.loop-i.i c.loop-i.invariant c.loop-i-test.true c.if-byte-mark.false

pub returns-then-byte-mark : goal.returns-then-byte-mark
returns-then-byte-mark c = record {
  front = found_front c.args.mark c.args.bytes.now c.loop-i.i c.loop-i.invariant c.loop-i-test.true c.if-byte-mark.true;
  back = found_back c.args.mark c.args.bytes.now c.loop-i.i c.loop-i.invariant c.loop-i-test.true c.if-byte-mark.true;
}

pub returns : goal.returns
returns c = record {
  front = all_front c.args.mark c.args.bytes.now c.loop-i.i c.loop-i.invariant c.loop-i.auto.i-end c.loop-i-test.false;
  back = all_back c.args.mark c.args.bytes.now c.loop-i.i c.loop-i.invariant c.loop-i.auto.i-end c.loop-i-test.false;
}
