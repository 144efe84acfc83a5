use Rattle.std.proofs.Common.{refl}
use Rattle.fam_judging.specs.FoundLefts.{host_of}
use Rattle.fam_judging.proofs.Leaves.{ok_map}
use Rattle.fam_judging.proofs.replies_reported.log_reports.Goals as goal

pub returns : goal.returns
returns c =
    ok_map c.log_allows.result _ _ c.log_allows.ensures (λ b is seen. (
      λ t. (c.may_mark.ensures.0 c.if-not-may_mark.false, c.is_fsck.ensures.0 c.if-not-is_fsck.false, (is (host_of seen c.args.cmd.now c.args.track.now) refl).0 t),
      λ all. (is (host_of seen c.args.cmd.now c.args.track.now) refl).1 all.2,
    ))
