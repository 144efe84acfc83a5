use Rattle.std.proofs.Common.{arith}
use Rattle.fam_entry.proofs.ExtentsRead.{all_extents, push_more}
use Rattle.fam_entry.proofs.fields.extents_of.Goals as goal

pub loop-i-preserved : goal.loop-i-preserved
loop-i-preserved c =
    push_more c.args.words.now c.loop-i.i c.loop-i.extents c.push-room.new.self c.push-room.result (omega arith) c.loop-i.invariant c.push-room.ensures.room.1 c.push-room.ensures.added

pub returns : goal.returns
returns c = all_extents c.args.words.now c.args.count c.loop-i.i c.loop-i.extents (omega arith) c.loop-i.invariant
