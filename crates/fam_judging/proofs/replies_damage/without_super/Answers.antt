use Rattle.fam_judging.proofs.Leaves.{super_leaves, ok_is}
use Rattle.fam_judging.proofs.replies_damage.without_super.Goals as goal

pub returns : goal.returns
returns c =
    ok_is c.kept.result _ _ c.kept.ensures (super_leaves c.args.given.now c.args.seen.now c.args.cmd.now c.args.settled.now c.args.track.now c.args.fault.now
    c.fails_super-stands.result c.fails_super-stands.ensures)
