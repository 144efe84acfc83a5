use Rattle.fam_base.proofs.EscapeLemmas.{escaped_once}
use Rattle.fam_base.proofs.escapes.names_differ_in_print.Goals as goal

pub returns : goal.returns
returns c = escaped_once
