use Rattle.std.proofs.Common.{sym, ◌∙◌}
use Rattle.std.proofs.lemmas.Bool.{true≢false}
use Rattle.fam_judging.proofs.Leaves.{gate_leaves, header_leaves, ok_is}
use Rattle.fam_judging.proofs.replies_damage.with_bad_header.Goals as goal

pub returns-then-is_of_gate : goal.returns-then-is_of_gate
returns-then-is_of_gate c =
    ok_is c.kept.result _ _ c.kept.ensures (gate_leaves c.args.given.now c.args.seen.now c.args.cmd.now c.args.settled.now c.args.track.now c.args.fault.now
    c.fails_gate-stands.result c.fails_gate-stands.ensures (c.is_of_gate.ensures.gate.0 c.if-is_of_gate.true))

pub returns : goal.returns
returns c =
    ok_is c.kept-2.result _ _ c.kept-2.ensures (header_leaves c.args.given.now c.args.seen.now c.args.cmd.now c.args.settled.now c.args.track.now c.args.fault.now
    c.fails_header-stands.result c.fails_header-stands.ensures (λ place. true≢false (sym (c.is_of_gate.ensures.gate.1 place) ∙ c.if-is_of_gate.false)))
