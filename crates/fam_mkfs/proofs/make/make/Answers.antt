use Rattle.std.proofs.Common.{refl}
use Rattle.fam_mkfs.proofs.Ending.{all_ended, cut_early, cut_late, is_found}
use Rattle.fam_mkfs.proofs.make.make.Goals as goal

pub returns-in-Err-clause-ends : goal.returns-in-Err-clause-ends
returns-in-Err-clause-ends g c =
    cut_early c.args.params.now c.args.force c.args.halt _ _ _ _ _ _ c.in-Err.ensures.within c.in-Err.ensures.rose c.in-Err.ensures.cut

pub returns-in-Some-clause-ends : goal.returns-in-Some-clause-ends
returns-in-Some-clause-ends g c =
    is_found c.args.params.now c.args.force _ _ _ c.in-Ok.lines c.in-Ok.ensures.found c.in-Some.ensures.some c.in-Ok.ensures.done

pub returns-in-Ok-write_super-clause-ends : goal.returns-in-Ok-write_super-clause-ends
returns-in-Ok-write_super-clause-ends g c =
    all_ended c.args.params.now c.args.force c.args.halt _ _ _ _ _ c.in-Ok.lines _ _ _ c.end_of.ensures
    (c.writes.ensures c.args.params.now) c.in-Ok.ensures.found (c.in_default.ensures.none refl) c.in-Ok.ensures.done
    c.in-Ok-write_super.ensures.done

pub returns-in-Err-write_super-clause-ends : goal.returns-in-Err-write_super-clause-ends
returns-in-Err-write_super-clause-ends g c =
    cut_late c.args.params.now c.args.force c.args.halt _ _ _ _ _ _ c.in-Ok.lines _ _ _ _
    (c.writes.ensures c.args.params.now) c.in-Err-write_super.ensures.within c.in-Ok.ensures.steady.size c.in-Ok.ensures.steady.later
    c.in-Err-write_super.ensures.rose c.in-Ok.ensures.found (c.in_default.ensures.none refl) c.in-Ok.ensures.done c.in-Err-write_super.ensures.cut
