use Rattle.std.proofs.Common.{◌-◌, length, sym, ◌∙◌, arith}
use Rattle.std.proofs.lemmas.List.{get_or-take}
use Rattle.fam_entry.proofs.slot.sum_before.Goals as goal

pub returns-clause-zeros : goal.returns-clause-zeros
returns-clause-zeros c =
    let words = c.args.words.now in
    record {
      gap = λ has k from below. sym (get_or-take (length words - 1) words k 0 (omega (arith, c.requires))) ∙ c.sum_words.ensures.gap has k from below;
      behind = λ k from below. sym (get_or-take (length words - 1) words k 0 below) ∙ c.sum_words.ensures.end k from;
    }
