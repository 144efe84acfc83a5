use Rattle.std.proofs.Common.{ℕ, ◌+◌, length, refl, sym, subst, ◌∙◌, arith}
use Rattle.std.proofs.lemmas.Option.{slice_get_read}
use Rattle.fam_causes.specs.Bounds.{IsLeastFloor}
use Rattle.fam_causes.proofs.Firsts.{least_all, least_more}
use Rattle.fam_causes.proofs.bounds.least_floor.Goals as goal

pub candidates-preserved : goal.candidates-preserved
candidates-preserved c =
    let cs = c.args.candidates.now.items in
    let d = c.index.result.now in
    let is = slice_get_read cs (length cs) c.candidates.i d refl (omega (arith, c.candidates-test.true, c.len-i-end.ensures)) c.index.ensures in
    subst (λ (n : ℕ). IsLeastFloor c.args.at cs (c.candidates.i + 1) n) (sym c.lesser.ensures)
    (least_more c.args.at cs c.candidates.i d c.in_ok-floor.floor c.candidates.least is (sym c.floor_at.ensures ∙ c.in_ok-floor.was) c.candidates.invariant)

pub returns : goal.returns
returns c = least_all c.args.at c.args.candidates.now.items c.candidates.i (length c.args.candidates.now.items) c.candidates.least
    (omega (arith, c.candidates-test.false, c.candidates.auto.i-end, c.len-i-end.ensures)) c.candidates.invariant
