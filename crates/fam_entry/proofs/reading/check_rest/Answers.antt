use Rattle.std.proofs.Common.{◌-◌, ap, arith}
use Rattle.std.specs.Option.{option_map}
use Rattle.fam_format.specs.declared.faults.Reason.TheVariants.{Rest}
use Rattle.fam_format.specs.Slot.{is_stray, extents_word}
use Rattle.fam_format.proofs.Stops.{find_none}
use Rattle.fam_entry.proofs.reading.check_rest.Goals as goal

pub returns-then-saw_rest : goal.returns-then-saw_rest
returns-then-saw_rest c = λ g is.
    ap (option_map Rest) (find_none (is_stray c.args.words.now) extents_word (g.words - 1 - extents_word)
    (λ k low below. c.if-saw_rest.ensures k low (omega (arith, is, c.requires.long))))
