use Rattle.std.proofs.Common.{refl, sym, subst}
use Rattle.fam_judging.specs.FoundLefts.{host_of}
use Rattle.fam_judging.specs.NamedLefts.{NamedLeft}
use Rattle.fam_judging.proofs.Leaves.{ok_map}
use Rattle.fam_judging.proofs.NamedLefts.{named_none, named_some}
use Rattle.fam_judging.proofs.replies_appended.named.Goals as goal

pub returns-in-None : goal.returns-in-None
returns-in-None c = (
  subst (NamedLeft c.args.log c.args.seq c.args.seen.now c.args.cmd.now c.args.track.now) (sym c.none.ensures.first)
      (named_none c.args.log c.args.seq c.args.seen.now c.args.cmd.now c.args.track.now _
      (c.in-None.ensures (host_of c.args.seen.now c.args.cmd.now c.args.track.now) refl refl)),
  c.none.ensures.second,
)

pub returns-in-Some : goal.returns-in-Some
returns-in-Some c =
    ok_map c.left_acknowledged.result _ _ c.left_acknowledged.ensures (λ lefts done. (
      subst (NamedLeft c.args.log c.args.seq c.args.seen.now c.args.cmd.now c.args.track.now) (sym done.0.1)
          (named_some c.args.log c.args.seq c.args.seen.now c.args.cmd.now c.args.track.now _ c.in-Some.entry done.0.0
          (c.in-Some.ensures (host_of c.args.seen.now c.args.cmd.now c.args.track.now) refl refl) done.0.2),
      done.1,
    ))
