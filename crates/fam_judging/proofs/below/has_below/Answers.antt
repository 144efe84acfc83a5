use Rattle.std.proofs.Common.{length, arith, refl}
use Rattle.std.proofs.lemmas.Option.{slice_get_read}
use Rattle.fam_judging.specs.After.{possible_in}
use Rattle.fam_judging.proofs.Adding.{below_at}
use Rattle.fam_judging.proofs.below.has_below.Goals as goal

pub returns-then-is_below : goal.returns-then-is_below
returns-then-is_below c start cmds is =
    let xs = c.args.others.now.items in
    let x = c.index.result.now in
    let at_is = slice_get_read xs (length xs) c.others.at x refl (omega (arith, c.others-test.true, c.len-at-end.ensures)) c.index.ensures in
    below_at (possible_in start c.args.seen.now.items cmds) xs c.others.at x _ at_is (c.if-is_below.ensures start cmds refl)
