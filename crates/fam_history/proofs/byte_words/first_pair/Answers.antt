use Rattle.std.proofs.Common.{Some, None, sym, ◌∙◌}
use Rattle.fam_history.proofs.ByteSpellings.{half_left, pair_first}
use Rattle.fam_history.proofs.byte_words.first_pair.Goals as goal

pub returns-in_default : goal.returns-in_default
returns-in_default c = record { cases = half_left c.args.word.now c.requires c.in_default.len_below; shorter = tt }

pub returns-in_ok-byte_of-in-len2-up-clause-cases : goal.returns-in_ok-byte_of-in-len2-up-clause-cases
returns-in_ok-byte_of-in-len2-up-clause-cases c =
    pair_first c.args.word.now (Some c.in_ok-byte_of-in-len2-up.field-0) c.in-len2-up.len_at_least c.in_ok-byte_of-in-len2-up.ensures

pub returns-in_err-byte_of-in-len2-up-clause-cases : goal.returns-in_err-byte_of-in-len2-up-clause-cases
returns-in_err-byte_of-in-len2-up-clause-cases c =
    rw c.from_residual.ensures (pair_first c.args.word.now None c.in-len2-up.len_at_least c.in_err-byte_of-in-len2-up.ensures)
