use Rattle.fam_judging.proofs.Appended.{found_of}
use Rattle.fam_judging.proofs.Leaves.{ok_map}
use Rattle.fam_judging.proofs.replies_appended.found_named.Goals as goal

pub returns : goal.returns
returns c =
    ok_map c.named.result _ _ c.named.ensures (λ lefts is. (
      found_of c.args.log.now _ c.args.seq c.args.seen.now c.args.cmd.now c.args.track.now c.in_ok-log.ensures
          (c.found_fits.ensures.0 c.if-not-found_fits.false) lefts.first is.0,
      is.1,
    ))
