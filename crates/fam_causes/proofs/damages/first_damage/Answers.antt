use Rattle.std.proofs.Common.{vec_len, arith, sym, ◌∙◌}
use Rattle.fam_causes.proofs.Loops.{first_read, some_is}
use Rattle.fam_causes.proofs.damages.first_damage.Goals as goal

pub returns : goal.returns
returns c =
    let d = c.index.result.now in
    let first = first_read c.args.candidates.now.items d (vec_len c.args.candidates.now) (omega arith) (sym c.if-is_empty.ensures) c.index.ensures in
    some_is c.damage_told.result (λ told is. (d, first, sym c.damage_told.ensures ∙ is))
