use Rattle.std.proofs.Common.{refl, ap, sym, subst}
use Rattle.fam_rules.specs.Reply as reply
use Rattle.fam_judging.specs.Candidates.{stage_shape}
use Rattle.fam_judging.specs.declared.candidate.Settled.{Settled}
use Rattle.fam_judging.specs.declared.candidate.Settled.TheVariants as settled
use Rattle.fam_judging.specs.FoundLefts.{host_of}
use Rattle.fam_judging.specs.Lefts.{LeavesEndings, only}
use Rattle.fam_judging.proofs.FoundLefts.{found_leaves, head_of, met_leaves, ok_both}
use Rattle.fam_judging.proofs.Leaves.{ok_is}
use Rattle.fam_judging.proofs.replies_decided.refused_met.Goals as goal

pub returns-in-Begun : goal.returns-in-Begun
returns-in-Begun c =
    ok_both c.finding.result _ _ _ c.finding.ensures.first c.finding.ensures.second (λ lefts one two ruled.
    subst (λ (s : Settled). LeavesEndings c.args.given.now c.args.seen.now c.args.cmd.now s c.args.track.now (reply.NotAppended c.args.why.now) lefts) (sym c.in-Log.is)
    (found_leaves c.args.given.now c.args.seen.now c.args.cmd.now c.args.track.now c.args.why.now ruled c.in-Log.log lefts (head_of c.args.track.now.stage c.in-Begun.is) one two))

pub returns-in-Met : goal.returns-in-Met
returns-in-Met c =
    ok_is c.kept.result _ _ c.kept.ensures (λ ruled.
    subst (λ (s : Settled). LeavesEndings c.args.given.now c.args.seen.now c.args.cmd.now s c.args.track.now (reply.NotAppended c.args.why.now) (only c.declines-stands.result s
    c.args.track.now)) (sym c.in-Log.is)
    (met_leaves c.args.given.now c.args.seen.now c.args.cmd.now c.args.track.now c.args.why.now ruled (settled.Log c.in-Log.log) c.in-Met.field-0 (ap stage_shape c.in-Met.is)
    c.declines-stands.result (λ start. c.declines-stands.ensures (host_of c.args.seen.now c.args.cmd.now c.args.track.now) refl refl)))
