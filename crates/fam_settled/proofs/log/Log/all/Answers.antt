use Rattle.std.proofs.Common.{sym, ◌∙◌, arith}
use Rattle.fam_settled.proofs.Files.{all_none, all_some}
use Rattle.fam_settled.proofs.log.Log.all.Goals as goal

pub returns-in-Some : goal.returns-in-Some
returns-in-Some c = omega (arith, all_some c.args.self.now c.in-Some.field-0 (sym c.pending.ensures ∙ c.in-Some.is), c.count-count.ensures)

pub returns-in-None : goal.returns-in-None
returns-in-None c = c.count-count.ensures ∙ sym (all_none c.args.self.now (sym c.pending.ensures ∙ c.in-None.is))
