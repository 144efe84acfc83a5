use Rattle.std.proofs.Common.{sym, ap, ◌∙◌}
use Rattle.fam_journal.specs.Calls.{Begins}
use Rattle.fam_journal.specs.ByWorld.{refusal_in}
use Rattle.fam_journal.specs.View.{WorldView}
use Rattle.fam_world.specs.View.{notes_view}
use Rattle.fam_world.proofs.world.World.may_begin.Goals as goal

pub returns-in-Ok : goal.returns-in-Ok
returns-in-Ok c = record {
  first = λ cmd mount. sym (ap (λ (w : WorldView). refusal_in (Begins c.args.name.now cmd) w c.args.lines) (sym c.self.view_is)
      ∙ (c.in-Ok.ensures.placed cmd (notes_view c.self.inside.journal.items) mount).free);
}

pub returns-in-Err : goal.returns-in-Err
returns-in-Err c = record {
  first = λ cmd mount. sym (ap (λ (w : WorldView). refusal_in (Begins c.args.name.now cmd) w c.args.lines) (sym c.self.view_is)
      ∙ (c.in-Err.ensures.placed cmd (notes_view c.self.inside.journal.items) mount).first);
}
