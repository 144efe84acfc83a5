use Rattle.std.proofs.Common.{ℕ, List, subst}
use Rattle.fam_media.specs.Outside.{IfModelled}
use Rattle.fam_media.specs.States.{change}
use Rattle.fam_outcomes.specs.declared.status.Status.{Status}
use Rattle.fam_verdict.specs.Verdicts.{Says}
use Rattle.fam_judge_call.specs.Endings.{PutsMade, judged_on, media_fault, unread_on}
use Rattle.fam_judge_call.specs.Texts.{media_text, unread_text, verdict_text}
use Rattle.fam_judge_call.proofs.Ends.{media_caused}
use Rattle.fam_judge_call.proofs.call.judge_file_on.Goals as goal

pub returns-in-Err-clause-ends : goal.returns-in-Err-clause-ends
returns-in-Err-clause-ends g c =
    unread_on c.in-Err.fault c.in-Err.ensures.fault
    (subst (λ (own : Status). PutsMade own (unread_text c.args.name.now c.in-Err.fault) (change g.K.Sink.state c.args.out.now c.put_made.new.out) c.put_made.result)
    c.unread_status.ensures (c.put_made.ensures.put (unread_text c.args.name.now c.in-Err.fault) c.unread_text.ensures))

pub returns-in-Ok-judge_on-clause-ends : goal.returns-in-Ok-judge_on-clause-ends
returns-in-Ok-judge_on-clause-ends g c =
    let verdict = c.in-Ok-judge_on.verdict in
    let out = change g.K.Sink.state c.args.out.now c.put_made-in-Ok-judge_on.new.out in
    judged_on c.in-Ok.history.items verdict c.in-Ok.ensures.bytes
    (subst (λ (text : List ℕ). IfModelled (g.M.Media.state c.args.media.now).image (λ image. Says image text verdict)) c.as_slice.ensures.value c.in-Ok-judge_on.ensures.verdict)
    (subst (λ (own : Status). PutsMade own (verdict_text verdict) out c.put_made-in-Ok-judge_on.result) c.verdict_status.ensures
    (c.put_made-in-Ok-judge_on.ensures.put (verdict_text verdict) c.verdict_text.ensures))

pub returns-in-Err-MediaFault-clause-ends : goal.returns-in-Err-MediaFault-clause-ends
returns-in-Err-MediaFault-clause-ends g c =
    let line = c.in-Err-MediaFault.line in
    let caused = media_caused (g.M.Media.size c.args.media.now) (g.M.Media.state c.args.media.now).faults (g.M.Media.state c.judge_on.new.media).faults line
    c.in-Err-MediaFault.field-0 c.in-Err-MediaFault.field-0-is c.in-Err-MediaFault.ensures.cause in
    media_fault line caused.0 caused.1 (c.put_made-in-Err-MediaFault.ensures.put (media_text line) c.media_text.ensures)
