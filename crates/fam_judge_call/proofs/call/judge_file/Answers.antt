use Rattle.std.proofs.Common.{ℕ, List, subst}
use Rattle.fam_media.specs.States.{change}
use Rattle.fam_outcomes.specs.declared.status.Status.{Status}
use Rattle.fam_verdict.specs.Blank.{blank_image, lines_enough}
use Rattle.fam_verdict.specs.Verdicts.{Says}
use Rattle.fam_judge_call.specs.Endings.{PutsMade, judged, unread}
use Rattle.fam_judge_call.specs.Texts.{unread_text, verdict_text}
use Rattle.fam_judge_call.proofs.call.judge_file.Goals as goal

pub returns-in-Err-clause-ends : goal.returns-in-Err-clause-ends
returns-in-Err-clause-ends g c =
    unread c.in-Err.fault c.in-Err.ensures.fault
    (subst (λ (own : Status). PutsMade own (unread_text c.args.name.now c.in-Err.fault) (change g.K.Sink.state c.args.out.now c.put_made.new.out) c.put_made.result)
    c.unread_status.ensures (c.put_made.ensures.put (unread_text c.args.name.now c.in-Err.fault) c.unread_text.ensures))

pub returns-in-Ok-judge_on_blank-clause-ends : goal.returns-in-Ok-judge_on_blank-clause-ends
returns-in-Ok-judge_on_blank-clause-ends g c =
    let verdict = c.in-Ok-judge_on_blank.verdict in
    let out = change g.K.Sink.state c.args.out.now c.put_made-in-Ok-judge_on_blank.new.out in
    judged c.in-Ok.history.items verdict c.in-Ok.ensures.bytes
    (subst (λ (text : List ℕ). Says (blank_image (lines_enough text)) text verdict) c.as_slice.ensures.value c.in-Ok-judge_on_blank.ensures)
    (subst (λ (own : Status). PutsMade own (verdict_text verdict) out c.put_made-in-Ok-judge_on_blank.result) c.verdict_status.ensures
    (c.put_made-in-Ok-judge_on_blank.ensures.put (verdict_text verdict) c.verdict_text.ensures))
