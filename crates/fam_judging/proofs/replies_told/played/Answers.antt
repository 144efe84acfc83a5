use Rattle.std.proofs.Common.{refl, sym}
use Rattle.fam_judging.proofs.Leaves.{ok_map}
use Rattle.fam_judging.proofs.ShownAnswers.{played_told}
use Rattle.fam_judging.proofs.replies_told.played.Goals as goal

pub returns : goal.returns
returns c =
    ok_map c.shown.result _ _ c.shown.ensures (λ lefts is. is _ refl (played_told c.args.m c.args.entries.now c.requires.rises) (sym c.requires.told.same))
