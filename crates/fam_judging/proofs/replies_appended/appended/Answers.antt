use Rattle.std.proofs.Common.{refl, ap, ◌∙◌}
use Rattle.fam_journal.specs.Shapes.{Met, Named}
use Rattle.fam_rules.specs.Reply as reply
use Rattle.fam_judging.specs.Candidates.{stage_shape}
use Rattle.fam_judging.proofs.Appended.{acknowledged_leaves, found_leaves, met_leaves, one_leaves}
use Rattle.fam_judging.proofs.FoundLefts.{head_of}
use Rattle.fam_judging.proofs.Leaves.{ok_map}
use Rattle.fam_judging.proofs.replies_appended.appended.Goals as goal

pub returns-in-Begun : goal.returns-in-Begun
returns-in-Begun c =
    ok_map c.found_named.result _ _ c.found_named.ensures (λ lefts is.
    one_leaves c.args.given.now c.args.seen.now c.args.cmd.now c.args.track.now (reply.Appended c.args.seq) c.args.settled.now c.in-Log.log c.in-Log.is
    lefts.first lefts refl is.1
    (found_leaves c.args.given.now c.args.seen.now c.args.cmd.now c.args.track.now c.args.seq c.in-Log.log (head_of c.args.track.now.stage c.in-Begun.is) lefts.first is.0))

pub returns-else-n-seq : goal.returns-else-n-seq
returns-else-n-seq c =
    ok_map c.met_named.result _ _ c.met_named.ensures (λ lefts is.
    one_leaves c.args.given.now c.args.seen.now c.args.cmd.now c.args.track.now (reply.Appended c.args.seq) c.args.settled.now c.in-Log.log c.in-Log.is
    lefts.first lefts refl is.1
    (met_leaves c.args.given.now c.args.seen.now c.args.cmd.now c.args.track.now c.args.seq c.in-Log.log (ap stage_shape c.in-Met.is ∙ ap Met c.if-n-seq.false) lefts.first is.0))

pub returns-else-n-seq-2 : goal.returns-else-n-seq-2
returns-else-n-seq-2 c =
    ok_map c.acknowledged.result _ _ c.acknowledged.ensures (λ lefts is.
    one_leaves c.args.given.now c.args.seen.now c.args.cmd.now c.args.track.now (reply.Appended c.args.seq) c.args.settled.now c.in-Log.log c.in-Log.is
    lefts.first lefts refl is.1
    (acknowledged_leaves c.args.given.now c.args.seen.now c.args.cmd.now c.args.track.now c.args.seq c.in-Log.log (ap stage_shape c.in-Named.is ∙ ap Named c.if-n-seq-2.false) lefts.first is.0))
