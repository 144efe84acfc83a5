use Rattle.std.proofs.Common.{arith, below_more, sym, ◌∙◌}
use Rattle.fam_format.specs.Slot.{is_stray_byte}
use Rattle.fam_format.proofs.Stops.{any_false}
use Rattle.fam_entry.proofs.Ranges.{any_first}
use Rattle.fam_entry.proofs.Strays.{outside, inside}
use Rattle.fam_entry.proofs.reading.has_stray_byte.Goals as goal

pub returns-then-len-from : goal.returns-then-len-from
returns-then-len-from c =
    sym (any_false (is_stray_byte c.args.words.now c.args.i) 0 8 (λ k low below. inside c.args.words.now c.args.i k (omega (arith, c.if-len-from.true)) below))

pub returns-then-words-i-eq0 : goal.returns-then-words-i-eq0
returns-then-words-i-eq0 c =
    sym (any_false (is_stray_byte c.args.words.now c.args.i) 0 8 (λ k low below. outside c.args.words.now c.args.i c.saturating_sub-used.result k c.saturating_sub-used.ensures c.if-words-i-eq0.true))

pub returns-then-is_stray_byte : goal.returns-then-is_stray_byte
returns-then-is_stray_byte c =
    sym (any_first (is_stray_byte c.args.words.now c.args.i) 8 0 c.loop-b.b (omega arith) (omega arith)
    (sym c.is_stray_byte.ensures ∙ c.if-is_stray_byte.true) (λ k low below. c.loop-b.invariant k below))

pub loop-b-preserved : goal.loop-b-preserved
loop-b-preserved c = below_more _ _ c.loop-b.invariant (sym c.is_stray_byte.ensures ∙ c.if-is_stray_byte.false)

pub returns : goal.returns
returns c = sym (any_false (is_stray_byte c.args.words.now c.args.i) 0 8 (λ k low below. c.loop-b.invariant k (omega arith)))
