use Rattle.std.proofs.Common.{ℕ, sym, ap, ◌∙◌}
use Rattle.fam_commands.specs.ReplyClasses.{Showing}
use Rattle.fam_judging.proofs.Leaves.{ok_map}
use Rattle.fam_judging.proofs.ShownAnswers.{is_of, is_told}
use Rattle.fam_judging.proofs.replies_told.shown_lefts.Goals as goal

pub returns : goal.returns
returns c =
    ok_map c.shown.result _ _ c.shown.ensures (λ lefts is r same.
    is r (is_of c.args.answer.now c.requires.shown c.requires.answer r same ∙ ap (λ (m : ℕ). Showing m) (sym c.entries_in-m.ensures))
    (is_told c.args.answer.now c.requires.shown c.requires.answer r same c.in_ok-told.told c.in_ok-told.ensures) (sym c.requires.told.same))
