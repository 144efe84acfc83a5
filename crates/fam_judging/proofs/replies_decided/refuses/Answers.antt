use Rattle.std.proofs.Common.{Some, ap, sym, ◌∙◌}
use Rattle.fam_rules.specs.Asks.{entries_of}
use Rattle.fam_settled.specs.Settled.{settled_files}
use Rattle.fam_judging.proofs.FoundLefts.{refusal_is, told_decide}
use Rattle.fam_judging.proofs.replies_decided.refuses.Goals as goal

pub returns-in-Some-Err : goal.returns-in-Some-Err
returns-in-Some-Err c =
    refusal_is _ c.in-Some-Err.own c.args.why.now c.is_same.result
    (sym (told_decide c.args.log.now.params c.args.me (entries_of (settled_files c.args.log.now)) c.args.cmd.now) ∙ sym c.in-Some-Err.ensures.value ∙ ap Some c.in-Some-Err.field-0-is)
    c.is_same.ensures
