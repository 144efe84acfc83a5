use Rattle.fam_judging.proofs.Leaves.{slot_leaves, ok_is}
use Rattle.fam_judging.proofs.replies_damage.with_bad_slot.Goals as goal

pub returns : goal.returns
returns c =
    ok_is c.kept.result _ _ c.kept.ensures (slot_leaves c.args.given.now c.args.seen.now c.args.cmd.now c.args.settled.now c.args.track.now c.args.i c.args.reason.now
    c.fails_slot-stands.result c.fails_slot-stands.ensures)
