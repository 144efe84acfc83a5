use Rattle.std.proofs.Common.{◌∙◌, List, [], ◌∷◌, ◌++◌, length, sym, ap, subst, arith}
use Rattle.std.proofs.lemmas.List.{length-take-le}
use Rattle.fam_base.specs.declared.entry.Entry.{Entry}
use Rattle.fam_base.specs.declared.entry.Params.{Params}
use Rattle.fam_format.specs.Slot.{Proper}
use Rattle.fam_plan.proofs.Prefixes.{first_more}
use Rattle.fam_plan.proofs.plan.Plan.first.Goals as goal

pub add-requires-clause-proper : goal.add-requires-clause-proper
add-requires-clause-proper c =
    subst (λ (p : Params). Proper p c.entry.result) (sym c.loop-i.invariant.params) c.entry.ensures.proper

pub add-requires-clause-left : goal.add-requires-clause-left
add-requires-clause-left c =
    omega (
      arith,
      ap (λ (l : List Entry). length l) c.loop-i.invariant.first,
      length-take-le c.loop-i.i c.args.self.now.entries (omega arith),
      c.each_entry_joins.ensures.few,
      ap (λ (p : Params). p.slots) c.loop-i.invariant.params,
    )

pub loop-i-preserved : goal.loop-i-preserved
loop-i-preserved c = record {
  first =
      c.in-Ok.ensures.added ∙ ap (λ (l : List Entry). l ++ c.entry.result ∷ []) c.loop-i.invariant.first
      ∙ sym (first_more c.args.self.now.entries c.loop-i.i c.entry.result (omega arith) c.entry.ensures.value);
  params = c.add.ensures.params ∙ c.loop-i.invariant.params;
}
