use Rattle.std.proofs.Common.{[], ◌∷◌, ◌++◌, ap, ap₂, ◌∙◌}
use Rattle.fam_settled.specs.Bytes.{file_with}
use Rattle.fam_settled.specs.Settled.{files_of, settled_files, SettledLog}
use Rattle.fam_settled.proofs.Files.{files_of-push}
use Rattle.fam_settled.proofs.log.Log.add.Goals as goal

pub returns-clause-added : goal.returns-clause-added
returns-clause-added c =
    let own = c.self.inside in
    let added = c.args.added in
    ap₂ files_of c.in_ok-add_shared.ensures.entries c.in_ok-add_shared.ensures.bytes
    ∙ files_of-push own.plan.entries own.bytes.value.items added.entry added.bytes c.self.invariant.counted
    ∙ ap (λ (s : SettledLog). settled_files s ++ file_with added.entry added.bytes ∷ []) c.self.view_is
