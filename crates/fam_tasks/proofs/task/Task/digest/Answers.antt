use Rattle.std.proofs.Common.{◌≡◌, None, sym, ap, ◌∙◌}
use Rattle.fam_commands.specs.Task.{Task}
use Rattle.fam_commands.specs.declared.phase.Phase.TheVariants as at
use Rattle.fam_tasks.proofs.Deciding.{leaves_nothing}
use Rattle.fam_tasks.proofs.Keeping.{done_so, keeps_same}
use Rattle.fam_tasks.proofs.task.Task.digest.Goals as goal

pub returns-in-Check-clause-kept : goal.returns-in-Check-clause-kept
returns-in-Check-clause-kept c =
    let phase : c.args.self.now.phase ≡ at.Check c.in-Check.slot = ap (λ (t : Task). t.phase) (sym c.self.view_is) ∙ c.in-Check.is in
    done_so c.digest_slot.result (c.digest_slot.ensures.kept ∙ sym (keeps_same c.args.self.now None
    (λ decides. let both : at.Check c.in-Check.slot ≡ at.Decide = sym phase ∙ decides in cc)))

pub returns-in-Check-clause-turn : goal.returns-in-Check-clause-turn
returns-in-Check-clause-turn c = c.digest_slot.ensures.turn

pub returns-in-Check-clause-own : goal.returns-in-Check-clause-own
returns-in-Check-clause-own c = c.digest_slot.ensures.own

pub returns-in-Check-clause-err : goal.returns-in-Check-clause-err
returns-in-Check-clause-err c = c.digest_slot.ensures.err

pub returns-in-Check-clause-want : goal.returns-in-Check-clause-want
returns-in-Check-clause-want c = c.digest_slot.ensures.want

pub returns-in-Decide-clause-turn : goal.returns-in-Decide-clause-turn
returns-in-Decide-clause-turn c = c.decide.ensures.turn

pub returns-in-Decide-clause-kept : goal.returns-in-Decide-clause-kept
returns-in-Decide-clause-kept c = c.decide.ensures.kept

pub returns-in-Decide-clause-err : goal.returns-in-Decide-clause-err
returns-in-Decide-clause-err c = c.decide.ensures.err

pub returns-in-Decide-clause-want : goal.returns-in-Decide-clause-want
returns-in-Decide-clause-want c = c.decide.ensures.want

pub returns-in-Check-clause-left : goal.returns-in-Check-clause-left
returns-in-Check-clause-left c =
    let phase : c.args.self.now.phase ≡ at.Check c.in-Check.slot = ap (λ (t : Task). t.phase) (sym c.self.view_is) ∙ c.in-Check.is in
    leaves_nothing c.digest_slot.result c.args.self.now c.digest_slot.new.self
    (λ decides. let both : at.Check c.in-Check.slot ≡ at.Decide = sym phase ∙ decides in cc)

pub returns-in-Decide-clause-left : goal.returns-in-Decide-clause-left
returns-in-Decide-clause-left c = c.decide.ensures.left
