use Rattle.std.proofs.Common.{rules, tests}
use Rattle.fam_base.proofs.ExtentLemmas.{extents_decides}
use Rattle.fam_base.proofs.entry.Entry.is_same.Goals as goal

pub returns : goal.returns
returns c = (λ same. search (rules, tests, extents_decides) depth 12, λ same. search (rules, tests, extents_decides) depth 12)
