use Rattle.std.proofs.Common.{ℕ, ◌+◌, ◌-◌, ◌∙◌, ap, ap₂, arith, length}
use Rattle.std.proofs.lemmas.Result.{err_from_is_err_and}
use Rattle.fam_base.specs.declared.entry.Params.{Params}
use Rattle.fam_base.specs.Image.{line_at}
use Rattle.fam_format.specs.Reading.{read_slots}
use Rattle.fam_replay.specs.Sources.{IsOfSlot, IsOfSlots}
use Rattle.fam_replay.proofs.Sources.{fails_among, slot_reached, slots_left, slots_next, tells_as}
use Rattle.fam_replay.proofs.source.read_slots.Goals as goal

pub returns-in_err-read_slot-clause-fault : goal.returns-in_err-read_slot-clause-fault
returns-in_err-read_slot-clause-fault g c =
    let v = c.loop-slot.invariant in
    let p = err_from_is_err_and c.from_residual.result c.from_residual.ensures.1 in
    rw (p.1, p.2) (λ image told.
    tells_as c.in_err-read_slot.field-0.0 _ _
    (slots_left (line_at image) c.args.plan.now.params c.loop-slot.plan.params c.args.count c.loop-slot.slot c.loop-slot.plan.entries v.params v.count c.loop-slot-test.true (v.told image told))
    (c.in_err-read_slot.ensures.fault image (v.same ∙ told) (c.args.count - (c.loop-slot.slot + 1))))

pub returns-in_err-read_slot-clause-asked : goal.returns-in_err-read_slot-clause-asked
returns-in_err-read_slot-clause-asked g c =
    let v = c.loop-slot.invariant in
    let p = err_from_is_err_and c.from_residual.result c.from_residual.ensures.1 in
    rw (p.1, p.2) (λ image told.
    fails_among (IsOfSlot c.loop-slot.plan.params (length c.loop-slot.plan.entries)) (IsOfSlots (line_at image) c.args.plan.now.params c.args.count)
    (λ at line. slot_reached (line_at image) c.args.plan.now.params c.loop-slot.slot c.loop-slot.plan.entries
    (v.each image told) c.loop-slot.plan.params c.args.count at v.params v.count c.loop-slot-test.true line)
    c.in_err-read_slot.field-0.0 c.in_err-read_slot.ensures.asked)

pub loop-slot-preserved : goal.loop-slot-preserved
loop-slot-preserved g c =
    let v = c.loop-slot.invariant in
    let e = c.in_ok-read_slot.ensures in
    let more : ℕ = c.args.count - (c.loop-slot.slot + 1) in
    let new = c.read_slot.new.plan.entries in
    record {
      told = λ image told.
          slots_left (line_at image) c.args.plan.now.params c.loop-slot.plan.params c.args.count c.loop-slot.slot c.loop-slot.plan.entries v.params v.count c.loop-slot-test.true (v.told image told)
          ∙ e.told image (v.same ∙ told) more
          ∙ ap₂ (λ (q : Params) (n : ℕ). read_slots (line_at image) q n more new) v.params (e.count ∙ ap (λ (n : ℕ). n + 1) v.count);
      each = λ image told more.
          slots_next (line_at image) c.args.plan.now.params c.loop-slot.slot c.loop-slot.plan.entries (v.each image told) c.loop-slot.plan.params more v.params v.count
          ∙ e.told image (v.same ∙ told) more
          ∙ ap₂ (λ (q : Params) (n : ℕ). read_slots (line_at image) q n more new) v.params (e.count ∙ ap (λ (n : ℕ). n + 1) v.count);
      count = e.count ∙ ap (λ (n : ℕ). n + 1) v.count;
      params = e.params ∙ v.params;
      same = e.same ∙ v.same;
      quiet = λ exact. e.quiet exact ∙ v.quiet exact;
      steady = record { size = e.steady.size ∙ v.steady.size; later = omega (arith, e.steady.later, v.steady.later) };
    }
