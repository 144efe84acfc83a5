use Rattle.std.proofs.Common.{ℕ, ◌∙◌, ap, ap₂, sym, arith}
use Rattle.fam_base.specs.Image.{line_at}
use Rattle.fam_base.specs.declared.entry.Params.{Params}
use Rattle.fam_format.specs.Reading.{slot_words}
use Rattle.fam_rules.specs.Reports.{Survey, no_survey, report_by}
use Rattle.fam_opening.proofs.Surveys.{slot_more, slots_all, survey_is}
use Rattle.fam_opening.proofs.slots.report_slots.Goals as goal

pub loop-slot-preserved : goal.loop-slot-preserved
loop-slot-preserved g c =
    let v = c.loop-slot.invariant in
    let e = c.in_ok-show_slot.ensures in
    let p = c.args.params.now in
    let i = c.loop-slot.slot in
    record {
      shown = λ image told.
          slot_more (line_at image) p c.args.gate p.slots i no_survey c.loop-slot.fsck.survey c.show_slot.new.fsck.survey c.loop-slot-test.true (v.shown image told)
          (survey_is c.loop-slot.fsck c.show_slot.new.fsck p c.args.gate i (slot_words (line_at image) p i) v.params v.gate v.added (e.shown image (v.same ∙ told)));
      params = e.params;
      gate = e.gate ∙ v.gate;
      added = e.added;
      same = e.same ∙ v.same;
      steady = record { size = e.steady.size ∙ v.steady.size; later = omega (arith, e.steady.later, v.steady.later) };
    }

pub returns-clause-report : goal.returns-clause-report
returns-clause-report g c = λ image told.
    let v = c.loop-slot.invariant in
    let p = c.args.params.now in
    c.report.ensures
    ∙ ap₂ (λ (q : Params) (n : ℕ). report_by q n c.loop-slot.fsck.survey) v.params v.gate
    ∙ ap (λ (s : Survey). report_by p c.args.gate s)
    (sym (slots_all (line_at image) p c.args.gate p.slots c.loop-slot.slot no_survey c.loop-slot.fsck.survey c.loop-slot-test.false (v.shown image told)))
