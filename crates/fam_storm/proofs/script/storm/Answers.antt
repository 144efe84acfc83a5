use Rattle.std.proofs.Common.{sym, ◌∙◌}
use Rattle.fam_rules.proofs.Streams.{stream_state_start}
use Rattle.fam_storm.specs.Storm.{storm}
use Rattle.fam_storm.proofs.Texts.{begins, round_put}
use Rattle.fam_storm.proofs.script.storm.Goals as goal

pub loop-i-init : goal.loop-i-init
loop-i-init c =
    begins c.args.seed c.args.size c.put_front.new.into.items c.seed_from_u64-generator.result c.new-script.result.items c.new-script.ensures.items c.in_ok-put_front.ensures
    (c.seed_from_u64-generator.ensures ∙ sym (stream_state_start c.args.seed))

pub loop-i-preserved : goal.loop-i-preserved
loop-i-preserved c =
    round_put c.loop-i.i c.args.size c.loop-i.generator c.put_round.new.generator c.loop-i.script.items c.put_round.new.into.items (storm c.args.seed c.args.size)
    c.loop-i-test.true c.in_ok-put_round.ensures.lines c.put_round.ensures.state c.loop-i.invariant
