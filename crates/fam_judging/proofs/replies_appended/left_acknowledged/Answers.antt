use Rattle.std.proofs.Common.{refl}
use borrow.Author.Rules.{rules}
use borrow.Author.Tests.{tests}
use Rattle.fam_judging.proofs.replies_appended.left_acknowledged.Goals as goal

pub returns : goal.returns
returns c = ((c.acknowledge.new.self, refl, search (tests, rules)), refl)
