use Rattle.std.proofs.Common.{◌≤◌, ◌+◌, ◌-◌, inl, inr, arith, ap, sym, ◌∙◌, length, drop, length-take, length-drop}
use Rattle.std.proofs.lemmas.Bool.{cases_lt}
use Rattle.fam_base.specs.Escapes.{is_plain}
use Rattle.fam_base.proofs.Eights.{at_part}
use Rattle.fam_base.proofs.escapes.count_plain.Goals as goal

pub loop-count-preserved : goal.loop-count-preserved
loop-count-preserved c =
    let within : c.loop-count.count + 8 ≤ length c.args.bytes.now =
    omega (
      arith,
      c.loop-count.invariant.within,
      c.loop-count-test.ensures.long,
      length-take (length c.args.bytes.now - c.loop-count.count)
          (drop c.loop-count.count c.args.bytes.now),
      length-drop c.loop-count.count c.args.bytes.now,
    ) in
    record {
      within = within;
      plain = λ k below.
          elim (cases_lt k c.loop-count.count) [
            | inl before ↦ c.loop-count.invariant.plain k before
            | inr at ↦ ap is_plain (sym (at_part c.args.bytes.now c.loop-count.count (length c.args.bytes.now - c.loop-count.count) k at
                (omega (arith, within)))) ∙ c.loop-count-test.ensures.plain (k - c.loop-count.count) (omega arith)
          ];
    }
