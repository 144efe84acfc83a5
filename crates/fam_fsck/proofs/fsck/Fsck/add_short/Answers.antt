use Rattle.std.proofs.Common.{◌≡◌, Bool, ◌<◌, ◌≤◌, Ok, Err, sym, ap, subst, ◌∙◌}
use Rattle.std.specs.Result.{OnOk}
use Rattle.fam_base.specs.declared.entry.Params.{Params}
use Rattle.fam_format.specs.Layout.{geometry}
use Rattle.fam_format.specs.Slot.{entry_of}
use Rattle.fam_rules.specs.Reports.{Survey}
use Rattle.fam_fsck.specs.Scan.{Scan, past_by, with_survey}
use Rattle.fam_fsck.proofs.Slots.{slot_below, slot_past_by, told_as}
use Rattle.fam_fsck.proofs.fsck.Fsck.add_short.Goals as goal

pub read_short-read-requires-clause-count : goal.read_short-read-requires-clause-count
read_short-read-requires-clause-count c =
    c.requires.count ∙ sym (ap (λ (p : Params). (geometry p).words) (c.params.ensures.value ∙ ap (λ (s : Scan). s.params) c.self.view_is))

pub returns-then-self-clause-slot : goal.returns-then-self-clause-slot
returns-then-self-clause-slot c =
    let words = c.args.words.now in
    let now = c.args.self.now in
    c.add_past.ensures
    ∙ ap (λ (b : Bool). with_survey now (past_by now.survey b)) c.is_ok.ensures.value
    ∙ ap (with_survey now)
    (slot_past_by now words c.read_short-read.result (subst (λ (s : Scan). s.gate ≤ s.added) c.self.view_is c.if-self.true)
    (told_as c.read_short-read.result _ c.read_short-read.ensures.value
    ∙ ap (λ (p : Params). entry_of p words c.self.inside.added) c.params.ensures.value ∙ ap (λ (s : Scan). entry_of s.params words s.added) c.self.view_is))

pub returns-in-Ok-clause-slot : goal.returns-in-Ok-clause-slot
returns-in-Ok-clause-slot c =
    let words = c.args.words.now in
    let now = c.args.self.now in
    subst (λ (v : Survey). OnOk c.add_found.result (c.add_found.new.self ≡ with_survey now v))
    (slot_below now words (Ok c.in-Ok.entry) (subst (λ (s : Scan). s.added < s.gate) c.self.view_is c.if-self.false)
    (sym c.in-Ok.ensures.value
    ∙ ap (λ (p : Params). entry_of p words c.self.inside.added) c.params.ensures.value ∙ ap (λ (s : Scan). entry_of s.params words s.added) c.self.view_is))
    c.add_found.ensures.slot

pub returns-in-Err-clause-slot : goal.returns-in-Err-clause-slot
returns-in-Err-clause-slot c =
    let words = c.args.words.now in
    let now = c.args.self.now in
    c.add_bad.ensures
    ∙ ap (with_survey now)
    (slot_below now words (Err c.in-Err.reason) (subst (λ (s : Scan). s.added < s.gate) c.self.view_is c.if-self.false)
    (sym c.in-Err.ensures.value
    ∙ ap (λ (p : Params). entry_of p words c.self.inside.added) c.params.ensures.value ∙ ap (λ (s : Scan). entry_of s.params words s.added) c.self.view_is))
