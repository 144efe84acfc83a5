use Rattle.std.proofs.Common.{List, ap₂, ◌∙◌}
use Rattle.fam_base.specs.declared.entry.Entry.{Entry}
use Rattle.fam_base.specs.declared.entry.Params.{Params}
use Rattle.fam_tasks.proofs.history.keep_found.Goals as goal

pub returns-in-Some : goal.returns-in-Some
returns-in-Some c = λ gate of.
    c.of.ensures
    ∙ ap₂ (λ (p : Params) (list : List Entry). record { params = p; entries = list }) (c.in-Some.ensures.params c.args.params.now gate of) c.in-Some.ensures.entries
