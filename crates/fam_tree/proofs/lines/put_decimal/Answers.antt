use Rattle.fam_tree.proofs.Words.{decimal_small}
use Rattle.fam_tree.proofs.lines.put_decimal.Goals as goal

pub returns-then-n-lt10 : goal.returns-then-n-lt10
returns-then-n-lt10 c = rw (decimal_small c.args.n c.if-n-lt10.true) c.put_byte.ensures
