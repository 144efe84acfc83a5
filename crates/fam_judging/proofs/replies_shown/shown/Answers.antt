use Rattle.std.proofs.Common.{sym, subst}
use Rattle.fam_judging.specs.declared.candidate.Settled.{Settled}
use Rattle.fam_judging.specs.Lefts.{LeavesEndings}
use Rattle.fam_judging.proofs.Leaves.{ok_map}
use Rattle.fam_judging.proofs.Showing.{shown_leaves}
use Rattle.fam_judging.proofs.replies_shown.shown.Goals as goal

pub returns : goal.returns
returns c =
    ok_map c.shown_log.result _ _ c.shown_log.ensures (λ lefts is reply class by told.
    subst (λ (s : Settled). LeavesEndings c.args.given.now c.args.seen.now c.args.cmd.now s c.args.track.now reply lefts) (sym c.in-Log.is)
    (shown_leaves c.args.given.now c.args.seen.now c.args.cmd.now c.args.track.now c.args.m reply class c.args.answer.now c.args.listed.now by told c.in-Log.log
    (c.may_mark.ensures.0 c.if-not-may_mark.false) (c.in_ok-shows_fits.ensures.0 c.if-not-branch.false) lefts is))
