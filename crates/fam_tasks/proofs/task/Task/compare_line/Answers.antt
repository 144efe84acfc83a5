use Rattle.std.proofs.Common.{◌≡◌, ◌++◌, ◌∷◌, [], ℕ, List, length, sym, ap, subst, ◌∙◌, arith, length-append}
use Rattle.std.proofs.lemmas.List.{take_all}
use Rattle.fam_commands.specs.declared.phase.Part.TheVariants.{File}
use Rattle.fam_commands.specs.declared.phase.Phase.{Phase}
use Rattle.fam_commands.specs.declared.phase.Phase.TheVariants as at
use Rattle.fam_commands.specs.Task.{Task}
use Rattle.fam_commands.specs.Turns.{file_turn}
use Rattle.fam_commands.specs.Classes.{IsVerify}
use Rattle.fam_tasks.specs.Model.{task_of}
use Rattle.fam_tasks.specs.Sound.{IsSoundAt}
use Rattle.fam_tasks.specs.Tells.{Tells}
use Rattle.fam_tasks.proofs.FileLines.{verify_kept}
use Rattle.fam_tasks.proofs.task.Task.compare_line.Goals as goal

pub returns-clause-turn : goal.returns-clause-turn
returns-clause-turn c =
    let t : Task = task_of c.self.inside in
    let phase : c.self.inside.phase ≡ at.Word File c.args.line 7 = ap (λ (u : Task). u.phase) c.self.view_is ∙ c.requires.phase in
    let stands : IsSoundAt (at.Word File c.args.line 7) t = subst (λ (p : Phase). IsSoundAt p t) phase c.self.invariant.sound.stands in
    let is : IsVerify c.self.inside.cmd = subst (λ (u : Task). IsVerify u.cmd) (sym c.self.view_is) c.requires.verify in
    let words : c.line-found.result ≡ t.words ++ c.args.word ∷ [] =
    c.line-found.ensures
    ∙ take_all 8 c.push.new.self (omega (arith, ap length c.push.ensures, length-append c.self.inside.buffer (c.args.word ∷ []), stands.2, verify_kept c.self.inside.cmd c.args.line is))
    ∙ c.push.ensures in
    rw (← c.self.view_is)
    (subst (λ (ws : List ℕ). Tells (file_turn t.cmd (record t { words = ws }) c.args.line) c.compare_found.new.turn c.compare_found.new.self) words (c.compare_found.ensures.turn c.self.inside.phase))
