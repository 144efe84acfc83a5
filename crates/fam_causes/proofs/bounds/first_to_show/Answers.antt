use Rattle.std.proofs.Common.{length, refl, sym, arith}
use Rattle.std.proofs.lemmas.Option.{slice_get_read}
use Rattle.fam_causes.specs.Bounds.{MayShow}
use Rattle.fam_causes.proofs.Loops.{first_more, found_then, none_then}
use Rattle.fam_causes.proofs.bounds.first_to_show.Goals as goal

pub returns-then-is_some : goal.returns-then-is_some
returns-then-is_some c =
    let cs = c.args.candidates.now.items in
    let d = c.index.result.now in
    let is = slice_get_read cs (length cs) c.candidates.i d refl (omega (arith, c.candidates-test.true, c.len-i-end.ensures)) c.index.ensures in
    found_then c.may_show-shows.result _ c.may_show-shows.ensures (λ log shows. record {
      place = c.candidates.i;
      one = d;
      is = is;
      may = shows.0;
      settled_is = shows.1;
      before = c.candidates.invariant;
    })

pub candidates-preserved : goal.candidates-preserved
candidates-preserved c =
    let cs = c.args.candidates.now.items in
    let d = c.index.result.now in
    let is = slice_get_read cs (length cs) c.candidates.i d refl (omega (arith, c.candidates-test.true, c.len-i-end.ensures)) c.index.ensures in
    first_more (λ x. MayShow c.args.at c.args.m x → ⊥) cs c.candidates.i d is (none_then c.may_show-shows.result _ (sym c.if-is_some.ensures) c.may_show-shows.ensures)
    c.candidates.invariant
