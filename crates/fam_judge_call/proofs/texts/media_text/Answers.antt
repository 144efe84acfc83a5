use Rattle.std.proofs.Common.{◌++◌, codes}
use Rattle.fam_outcomes.specs.Texts.{number}
use Rattle.fam_judge_call.proofs.texts.media_text.Goals as goal

pub returns : goal.returns
returns c = c.line_of.ensures (codes "media fault" ++ number c.args.line) c.format.ensures.ok
