use Rattle.std.proofs.Common.{◌+◌, length, refl, sym, ap, subst, ◌∙◌, arith}
use Rattle.std.proofs.lemmas.Option.{slice_get_read}
use Rattle.fam_causes.specs.Bounds.{MostOfFirst, greater}
use Rattle.fam_causes.proofs.Firsts.{most_all, most_more}
use Rattle.fam_causes.proofs.bounds.most.Goals as goal

pub candidates-preserved : goal.candidates-preserved
candidates-preserved c =
    let cs = c.args.candidates.now.items in
    let d = c.index.result.now in
    let is = slice_get_read cs (length cs) c.candidates.i d refl (omega (arith, c.candidates-test.true, c.len-i-end.ensures)) c.index.ensures in
    subst (MostOfFirst cs (c.candidates.i + 1)) (sym (c.greater-most.ensures ∙ ap (greater c.candidates.most) c.most_in.ensures))
    (most_more cs c.candidates.i d c.candidates.most is c.candidates.invariant)

pub returns : goal.returns
returns c = most_all c.args.candidates.now.items c.candidates.i (length c.args.candidates.now.items) c.candidates.most
    (omega (arith, c.candidates-test.false, c.candidates.auto.i-end, c.len-i-end.ensures)) c.candidates.invariant
