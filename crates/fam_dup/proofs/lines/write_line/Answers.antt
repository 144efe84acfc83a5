use Rattle.std.proofs.Common.{refl}
use Rattle.fam_dup.proofs.Passing.{cut_torn}
use Rattle.fam_dup.proofs.lines.write_line.Goals as goal

pub returns-in-Err-clause-cut : goal.returns-in-Err-clause-cut
returns-in-Err-clause-cut g c = cut_torn (c.args.line.0, c.args.words.now) _ _ refl c.in-Err.ensures.torn
