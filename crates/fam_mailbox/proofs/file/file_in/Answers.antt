use Rattle.std.proofs.Common.{ap, sym, ◌∙◌}
use Rattle.std.specs.FinMap as map
use Rattle.fam_format.specs.Tree.{Tree}
use Rattle.fam_mailbox.proofs.Found.{found_placed}
use Rattle.fam_mailbox.proofs.file.file_in.Goals as goal

pub returns-in-File-clause-placed : goal.returns-in-File-clause-placed
returns-in-File-clause-placed c =
    found_placed c.args.plan.now c.args.path.now c.in-Some.entry c.each_entry_joins.ensures (ap (λ (t : Tree). map.get t c.args.path.now) (sym c.tree.ensures) ∙ sym c.in-Some.ensures.value)
