use Rattle.std.proofs.Common.{arith, refl, below_more}
use Rattle.fam_judging.specs.Below.{IsHostBelow}
use Rattle.fam_judging.proofs.below.are_hosts_below.Goals as goal

pub hosts-preserved : goal.hosts-preserved
hosts-preserved c =
    below_more (IsHostBelow c.args.seen.now.items c.args.a.now.tracks.items c.args.b.now.tracks.items) _ c.hosts.invariant
    (c.if-not-is_host_below.ensures refl)

pub returns : goal.returns
returns c = λ _. record {
  long = omega (arith, c.len.ensures, c.len-2.ensures, c.if-len.false);
  each = λ k less. c.hosts.invariant k (omega (arith, less, c.hosts-test.false, c.len-at-end.ensures));
}
