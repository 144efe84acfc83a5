use Rattle.std.proofs.Common.{length, ◌-◌, inl, inr, arith, ap, sym, ◌∙◌}
use Rattle.std.specs.Option.{option_map}
use Rattle.std.proofs.lemmas.Bool.{cases_eq, cases_lt}
use Rattle.fam_format.specs.declared.faults.Reason.TheVariants.{Rest}
use Rattle.fam_format.specs.Slot.{is_stray, extents_word}
use Rattle.fam_format.proofs.Stops.{find_none}
use Rattle.fam_entry.proofs.Ranges.{find_first}
use Rattle.fam_entry.proofs.Strays.{zero_is_none, zero_within}
use Rattle.fam_entry.proofs.reading.find_stray.Goals as goal

pub returns-then-is_stray : goal.returns-then-is_stray
returns-then-is_stray c = λ g is.
    ap (option_map Rest) (find_first (is_stray c.args.words.now) (g.words - 1 - extents_word) extents_word c.loop-i.i c.loop-i.invariant.from
    (omega (arith, c.loop-i-test.true, is)) (sym c.is_stray.ensures ∙ c.if-is_stray.true) c.loop-i.invariant.none)

pub loop-i-preserved : goal.loop-i-preserved
loop-i-preserved c = record {
  from = omega (arith, c.loop-i.invariant.from);
  none = λ k low below.
      elim (cases_eq k c.loop-i.i) [
        | inl same ↦ ap (is_stray c.args.words.now) same ∙ sym c.is_stray.ensures ∙ c.if-is_stray.false
        | inr other ↦ c.loop-i.invariant.none k low (omega arith)
      ];
}

pub loop-i-preserved-then-begin_with_sixteen : goal.loop-i-preserved-then-begin_with_sixteen
loop-i-preserved-then-begin_with_sixteen c = record {
  from = omega (arith, c.loop-i.invariant.from);
  none = λ k low below.
      elim (cases_lt k c.loop-i.i) [
        | inl before ↦ c.loop-i.invariant.none k low before
        | inr at ↦ zero_is_none c.args.words.now k
            (zero_within c.args.words.now c.loop-i.i (length c.args.words.now - 1 - c.loop-i.i) 16 k at below c.if-begin_with_sixteen.ensures.long
            c.if-begin_with_sixteen.ensures.zeros)
      ];
}

pub loop-i-preserved-then-begin_with_zeros : goal.loop-i-preserved-then-begin_with_zeros
loop-i-preserved-then-begin_with_zeros c = record {
  from = omega (arith, c.loop-i.invariant.from);
  none = λ k low below.
      elim (cases_lt k c.loop-i.i) [
        | inl before ↦ c.loop-i.invariant.none k low before
        | inr at ↦ zero_is_none c.args.words.now k
            (zero_within c.args.words.now c.loop-i.i (length c.args.words.now - 1 - c.loop-i.i) 8 k at below c.if-begin_with_zeros.ensures.long
            c.if-begin_with_zeros.ensures.zeros)
      ];
}

pub returns : goal.returns
returns c = λ g is. ap (option_map Rest)
    (find_none (is_stray c.args.words.now) extents_word (g.words - 1 - extents_word)
    (λ k low below. c.loop-i.invariant.none k low (omega (arith, c.loop-i-test.false, is))))
