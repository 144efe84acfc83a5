use Rattle.std.proofs.Common.{◌≡◌, ℕ, ◌<◌, ◌||◌, Bool, List, length, take, sym, ap, subst, ◌∙◌, arith}
use Rattle.std.proofs.Math.Seq.{take-length}
use Rattle.fam_base.specs.declared.entry.Entry.{Entry}
use Rattle.fam_base.specs.declared.entry.Params.{Params}
use Rattle.fam_format.specs.Units.{is_used, units_in}
use Rattle.fam_alloc.specs.Taken.{LieWithin, holds}
use Rattle.fam_plan.proofs.FirstEntries.{lies_in_device}
use Rattle.fam_plan.proofs.Histories.{used_more}
use Rattle.fam_plan.proofs.Prefixes.{first_more}
use Rattle.fam_fsck.proofs.Surveys.{used_counted}
use Rattle.fam_settled.proofs.reports.used_in.Goals as goal

pub cover-requires-clause-within : goal.cover-requires-clause-within
cover-requires-clause-within c =
    let p = c.args.plan.now.params in
    let e = c.entry_in.result in
    subst (λ (q : Params). LieWithin q.unit (length c.loop-i.used) e.extents) (sym c.params-params.ensures)
    (subst (λ (n : ℕ). LieWithin p.unit n e.extents) (sym c.loop-i.invariant.units) (lies_in_device p e c.entry_in.ensures.proper))

pub loop-i-preserved : goal.loop-i-preserved
loop-i-preserved c =
    let p = c.args.plan.now.params in
    let list = c.args.plan.now.entries in
    let e = c.entry_in.result in
    let i = c.loop-i.i in
    let below : i < length list = omega (arith, c.loop-i-test.true, c.count-i-end.ensures.count) in
    record {
      units = c.cover.ensures.units ∙ c.loop-i.invariant.units;
      used = λ u.
          c.cover.ensures.value u
          ∙ ap (λ (b : Bool). b || holds (units_in c.params-params.result.now.unit e.extents) u) (c.loop-i.invariant.used u)
          ∙ ap (λ (q : Params). is_used p (take i list) u || holds (units_in q.unit e.extents) u) c.params-params.ensures
          ∙ sym (used_more p (take i list) e u)
          ∙ ap (λ (l : List Entry). is_used p l u) (sym (first_more list i e below c.entry_in.ensures.value));
    }

pub returns : goal.returns
returns c =
    let p = c.args.plan.now.params in
    let list = c.args.plan.now.entries in
    let end : c.loop-i.i ≡ length list = omega (arith, c.loop-i-test.false, c.loop-i.auto.i-end, c.count-i-end.ensures.count) in
    let all : take c.loop-i.i list ≡ list = ap (λ (n : ℕ). take n list) end ∙ take-length list in
    c.count.ensures.count
    ∙ used_counted p list c.loop-i.used c.loop-i.invariant.units (λ u. c.loop-i.invariant.used u ∙ ap (λ (l : List Entry). is_used p l u) all)
