use Rattle.std.proofs.Common.{◌↔◌, IsTrue, Option, subst}
use Rattle.fam_base.specs.declared.entry.Params.{Params}
use Rattle.fam_lines.specs.Lines.{untold_of}
use Rattle.fam_judging.specs.Candidates.{stage_shape}
use Rattle.fam_judging.specs.ReplyKinds.{DeclinesEarly}
use Rattle.fam_judging.proofs.Leaves.{early_leaves, ok_is}
use Rattle.fam_judging.proofs.replies_refused.refused_early.Goals as goal

pub returns : goal.returns
returns c =
    ok_is c.kept.result _ _ c.kept.ensures (λ early. early_leaves c.args.given.now c.args.seen.now c.args.cmd.now c.args.settled.now c.args.track.now c.args.why.now
    c.declines_early-stands.result (subst (λ (p : Option Params). IsTrue c.declines_early-stands.result ↔ DeclinesEarly p c.args.seen.now.uuid (untold_of c.args.cmd.now) (stage_shape
    c.args.track.now.stage) c.args.why.now)
    c.params_in-params.ensures c.declines_early-stands.ensures) early)
