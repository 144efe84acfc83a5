use Rattle.std.proofs.Common.{List, Option, ap, subst, ◌∙◌}
use Rattle.std.specs.Prelude.{IfSome}
use Rattle.fam_causes.specs.declared.kinds.Cause.{Cause}
use Rattle.fam_verdict.specs.Judged.{Stops}
use Rattle.fam_verdict.specs.Verdicts.{IsBecause}
use Rattle.fam_records.specs.Histories.{History, history_in, history_left, lines_left, record_seen}
use Rattle.fam_records.specs.Records.{Recorded}
use Rattle.fam_verdict.proofs.Fills.{first_filled}
use Rattle.fam_verdict.proofs.Looping.{JudgedOf, begins_bad, begins_none, begins_some, far_all, far_first, far_next, illegal_at, judged_legal}
use Rattle.fam_verdict.proofs.histories.judge.Goals as goal

pub notes-init : goal.notes-init
notes-init c = record {
  kept = c.in_ok-judged.ensures.kept;
  room = c.new-records.ensures.room;
  far = far_first (history_in c.args.history.now) (history_left (lines_left c.new-records.result))
      (JudgedOf c.args.lines c.args.given.now c.args.settled c.in_ok-judged.judged) c.new-records.ensures.left
      (λ start long has state. c.in_ok-judged.ensures.judged start c.args.given.now has state);
}

pub read-requires-clause-filled : goal.read-requires-clause-filled
read-requires-clause-filled c =
    first_filled (lines_left c.notes.records) (record_seen c.in-Ok-Some.next) (history_left (lines_left c.next_record.new.self)) (begins_some (history_left (lines_left c.notes.records)) (history_left (lines_left c.next_record.new.self)) c.in-Ok-Some.field-0 c.in-Ok-Some.next c.in-Ok-Some.field-0-is c.in-Ok-Some.ensures.value)

pub returns-in-Some : goal.returns-in-Some
returns-in-Some c start long has state =
    let far = c.notes.invariant.far in
    let judged = far.holds start long has state in
    let r = record_seen c.in-Ok-Some.next in
    let stopped : Stops start far.before r × IsBecause start far.before r c.in-Some.cause =
    subst (λ (why : Option Cause). IfSome why (λ cause. Stops start far.before r × IsBecause start far.before r cause)) c.in-Some.is
    (c.in_ok-cause-in-Ok-Some.ensures.stops start far.before long judged) in
    illegal_at (history_in c.args.history.now) (history_left (lines_left c.notes.records)) (history_left (lines_left c.next_record.new.self)) (record_seen c.in-Ok-Some.next)
    (begins_some (history_left (lines_left c.notes.records)) (history_left (lines_left c.next_record.new.self)) c.in-Ok-Some.field-0 c.in-Ok-Some.next c.in-Ok-Some.field-0-is c.in-Ok-Some.ensures.value) start (JudgedOf c.args.lines c.args.given.now c.args.settled c.notes.judged) far
    (judged_legal start c.args.given.now far.before c.notes.judged c.notes.invariant.kept judged)
    stopped.0 c.in-Some.cause stopped.1

pub notes-preserved : goal.notes-preserved
notes-preserved c = record {
  kept = c.in_ok-cause-in-Ok-Some.ensures.kept c.in_default.is;
  room = c.next_record.ensures.room;
  far = far_next (history_in c.args.history.now) (history_left (lines_left c.notes.records)) (history_left (lines_left c.next_record.new.self)) (record_seen c.in-Ok-Some.next)
      (begins_some (history_left (lines_left c.notes.records)) (history_left (lines_left c.next_record.new.self)) c.in-Ok-Some.field-0 c.in-Ok-Some.next c.in-Ok-Some.field-0-is c.in-Ok-Some.ensures.value) (JudgedOf c.args.lines c.args.given.now c.args.settled c.notes.judged)
      (JudgedOf c.args.lines c.args.given.now c.args.settled c.read.new.self) c.notes.invariant.far
      (λ start long has state. c.in_ok-cause-in-Ok-Some.ensures.goes start c.notes.invariant.far.before long (c.notes.invariant.far.holds start long has state) c.in_default.is);
}

pub returns-in-Ok-None : goal.returns-in-Ok-None
returns-in-Ok-None c start long has state =
    let far = c.notes.invariant.far in
    let P : List Recorded → Type 0 = JudgedOf c.args.lines c.args.given.now c.args.settled c.notes.judged in
    let whole = history_in c.args.history.now in
    let judged = far_all whole (history_left (lines_left c.notes.records)) P far (ap (λ (h : History). h.records) (begins_none (history_left (lines_left c.notes.records)) (history_left (lines_left c.next_record.new.self)) c.in-Ok-None.field-0 c.in-Ok-None.field-0-is c.in-Ok-None.ensures.value)) start long has state in
    record {
      whole = far.bad ∙ ap (λ (h : History). h.bad) (begins_none (history_left (lines_left c.notes.records)) (history_left (lines_left c.next_record.new.self)) c.in-Ok-None.field-0 c.in-Ok-None.field-0-is c.in-Ok-None.ensures.value);
      legal = judged_legal start c.args.given.now whole.records c.notes.judged c.notes.invariant.kept judged;
      behind = c.known.ensures.is start c.args.given.now whole.records judged;
      lines = c.known.ensures.lines ∙ c.line_count.ensures;
    }

pub returns-in-Err-BadLine : goal.returns-in-Err-BadLine
returns-in-Err-BadLine c start long has state =
    let far = c.notes.invariant.far in
    let P : List Recorded → Type 0 = JudgedOf c.args.lines c.args.given.now c.args.settled c.notes.judged in
    let whole = history_in c.args.history.now in
    let judged = far_all whole (history_left (lines_left c.notes.records)) P far (ap (λ (h : History). h.records) (begins_bad (history_left (lines_left c.notes.records)) (history_left (lines_left c.next_record.new.self)) c.in-Err-BadLine.field-0 _ _ c.in-Err-BadLine.field-0-is c.in-Err-BadLine.ensures.value)) start long has state in
    record {
      bad = let e = far.bad ∙ ap (λ (h : History). h.bad) (begins_bad (history_left (lines_left c.notes.records)) (history_left (lines_left c.next_record.new.self)) c.in-Err-BadLine.field-0 _ _ c.in-Err-BadLine.field-0-is c.in-Err-BadLine.ensures.value) in let at = c.in-Err-BadLine.line-is in let column = c.in-Err-BadLine.column-is in cc;
      legal = judged_legal start c.args.given.now whole.records c.notes.judged c.notes.invariant.kept judged;
    }
