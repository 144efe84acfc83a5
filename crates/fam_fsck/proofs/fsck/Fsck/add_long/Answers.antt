use Rattle.std.proofs.Common.{◌≡◌, Bool, ◌<◌, ◌≤◌, Result, sym, ap, subst, ◌∙◌, arith}
use Rattle.std.specs.Result.{IsOk, OnErr, OnOk}
use Rattle.fam_base.specs.declared.entry.Entry.{Entry}
use Rattle.fam_base.specs.declared.entry.Params.{Params}
use Rattle.fam_format.specs.Layout.{geometry}
use Rattle.fam_format.specs.Slot.{entry_of}
use Rattle.fam_format.proofs.Formats.{slot_long}
use Rattle.fam_format.specs.declared.faults.Reason.{Reason}
use Rattle.fam_rules.specs.Reports.{Survey}
use Rattle.fam_entry.specs.Tests.{read_as}
use Rattle.fam_entry.proofs.PathField.{zero_at}
use Rattle.fam_fsck.specs.Scan.{Scan, past_by, with_survey}
use Rattle.fam_fsck.proofs.Slots.{passes, slot_below, slot_past_by}
use Rattle.fam_fsck.proofs.fsck.Fsck.add_long.Goals as goal

pub check_entry-read-requires-clause-empty : goal.check_entry-read-requires-clause-empty
check_entry-read-requires-clause-empty c = λ k. zero_at 512 k

pub check_entry-read-requires-clause-count : goal.check_entry-read-requires-clause-count
check_entry-read-requires-clause-count c =
    c.requires.count ∙ sym (ap (λ (p : Params). (geometry p).words) (c.params.ensures.value ∙ ap (λ (s : Scan). s.params) c.self.view_is))

pub add_below-requires-clause-long : goal.add_below-requires-clause-long
add_below-requires-clause-long c = omega (arith, slot_long c.args.self.now.params, c.requires.count)

pub returns-then-self-clause-slot : goal.returns-then-self-clause-slot
returns-then-self-clause-slot c =
    let words = c.args.words.now in
    subst (λ (v : Survey). OnOk c.add_below.result (c.add_below.new.self ≡ with_survey c.args.self.now v))
    (slot_below c.args.self.now words (read_as words c.check_entry-read.result) (subst (λ (s : Scan). s.added < s.gate) c.self.view_is c.if-self.true)
    (c.check_entry-read.ensures.value ∙ ap (λ (p : Params). entry_of p words c.self.inside.added) c.params.ensures.value ∙ ap (λ (s : Scan). entry_of s.params words s.added) c.self.view_is))
    c.add_below.ensures.slot

pub returns-then-self-clause-entry : goal.returns-then-self-clause-entry
returns-then-self-clause-entry c =
    let words = c.args.words.now in
    subst (λ (r : Result Entry Reason). OnErr c.add_below.result (IsOk r))
    (c.check_entry-read.ensures.value ∙ ap (λ (p : Params). entry_of p words c.self.inside.added) c.params.ensures.value ∙ ap (λ (s : Scan). entry_of s.params words s.added) c.self.view_is)
    c.add_below.ensures.want

pub returns-clause-slot : goal.returns-clause-slot
returns-clause-slot c =
    let words = c.args.words.now in
    c.add_past.ensures
    ∙ ap (λ (b : Bool). with_survey c.args.self.now (past_by c.args.self.now.survey b)) (c.is_ok.ensures.value ∙ passes words c.check_entry-read.result)
    ∙ ap (with_survey c.args.self.now)
    (slot_past_by c.args.self.now words (read_as words c.check_entry-read.result) (subst (λ (s : Scan). s.gate ≤ s.added) c.self.view_is c.if-self.false)
    (c.check_entry-read.ensures.value ∙ ap (λ (p : Params). entry_of p words c.self.inside.added) c.params.ensures.value ∙ ap (λ (s : Scan). entry_of s.params words s.added) c.self.view_is))
