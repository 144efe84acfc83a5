use Rattle.std.proofs.Common.{ℕ, ◌≡◌, ◌+◌, ◌-◌, ◌*◌, arith, ap, ◌∙◌}
use Rattle.fam_format.specs.Layout.{geometry}
use Rattle.fam_format.proofs.Formats.{all_words}
use Rattle.fam_commands.proofs.Rows.Append.{length-append_ops}
use Rattle.fam_commands.proofs.Rows.Slots.{length-slot_ops}
use Rattle.fam_commands.proofs.counts.each_shape_takes_these_counts.Goals as goal

pub returns-clause-slot_ops : goal.returns-clause-slot_ops
returns-clause-slot_ops c = λ p i. length-slot_ops p i

pub returns-clause-append_ops : goal.returns-clause-append_ops
returns-clause-append_ops c = λ p seq e fill. length-append_ops p seq e fill

pub returns-clause-replay : goal.returns-clause-replay
returns-clause-replay c = λ g k n. omega arith

pub returns-clause-appended : goal.returns-clause-appended
returns-clause-appended c = λ g k n d seq. omega arith

pub returns-clause-survey : goal.returns-clause-survey
returns-clause-survey c = λ g entries slots.
    let same : (9 * g.lines + 1) * (slots - 0) ≡ (9 * g.lines + 1) * slots = ap (λ (n : ℕ). (9 * g.lines + 1) * n) (omega arith) in omega (arith, same)

pub returns-clause-words : goal.returns-clause-words
returns-clause-words c = λ p n.
    ap (λ (m : ℕ). 26 + (geometry p).words * m) (let z : n - 0 ≡ n = omega arith in z) ∙ omega (arith, all_words p n)
