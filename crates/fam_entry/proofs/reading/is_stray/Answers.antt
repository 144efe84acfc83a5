use Rattle.std.proofs.Common.{◌≡◌, slice_index, rules, sym}
use Rattle.fam_entry.proofs.Strays.{zero_is_none}
use Rattle.fam_entry.proofs.reading.is_stray.Goals as goal

pub returns-then-word-eq0 : goal.returns-then-word-eq0
returns-then-word-eq0 c =
    let none : slice_index c.args.words.now c.args.i ≡ 0 = search rules in
    sym (zero_is_none c.args.words.now c.args.i none)
