use Rattle.std.proofs.Common.{◌≡◌, ◌+◌, ◌-◌, ◌*◌, arith, ap, ◌∙◌}
use Rattle.fam_format.specs.Layout.{Geometry, first_format}
use Rattle.fam_format.proofs.Formats.{first}
use Rattle.fam_rules.specs.Written.{lines_of}
use Rattle.fam_commands.specs.Counts.{append_steps, slot_steps}
use Rattle.fam_commands.specs.Table.{head_words}
use Rattle.fam_commands.proofs.Rows.Append.{length-append_ops}
use Rattle.fam_commands.proofs.Rows.Slots.{length-slot_ops}
use Rattle.fam_commands.proofs.counts.the_first_format_takes_these_counts.Goals as goal

pub returns-clause-slot_ops : goal.returns-clause-slot_ops
returns-clause-slot_ops c = λ p i is. length-slot_ops p i ∙ ap slot_steps (first p is)

pub returns-clause-append_ops : goal.returns-clause-append_ops
returns-clause-append_ops c = λ p seq e fill is.
    length-append_ops p seq e fill ∙ ap (λ (g : Geometry). append_steps g (lines_of e.size)) (first p is)

pub returns-clause-words : goal.returns-clause-words
returns-clause-words c = λ p n is.
    ap (λ (g : Geometry). head_words + g.words * (n - 0)) (first p is) ∙ (let z : head_words + first_format.words * (n - 0) ≡ 26 + 64 * n = omega arith in z)
