use Rattle.std.proofs.Common.{◌≡◌, refl, sym, ap, ◌∙◌}
use Rattle.fam_base.specs.Image.{eight}
use Rattle.fam_commands.specs.declared.phase.Part.{Part}
use Rattle.fam_commands.specs.declared.phase.Part.TheVariants.{File}
use Rattle.fam_commands.specs.declared.phase.Phase.TheVariants as at
use Rattle.fam_commands.specs.Task.{Task}
use Rattle.fam_tasks.proofs.WholeLine.{line_compared}
use Rattle.fam_tasks.proofs.task.Task.compare_whole.Goals as goal

-- src/task/rest.rt:122:5
pub returns : goal.returns
returns c =
    let here : c.args.self.now.phase ≡ at.Drop c.in-Drop.part c.in-Drop.number = ap (λ (u : Task). u.phase) (sym c.self.view_is) ∙ c.in-Drop.is in
    let both : at.Drop File c.requires.compared.j ≡ at.Drop c.in-Drop.part c.in-Drop.number = sym c.requires.compared.phase ∙ here in
    let file : c.in-Drop.part ≡ File = cc in
    let phase : c.args.self.now.phase ≡ at.Drop File c.in-Drop.number = here ∙ ap (λ (p : Part). at.Drop p c.in-Drop.number) file in
    line_compared c.args.line (eight c.args.words.now) c.in-Drop.number c.args.self.now c.is_sound.ensures phase c.requires.compared _
    c.compare_found.new.self c.compare_found.new.turn refl c.compare_found.ensures.turn c.compare_found.ensures.kept
