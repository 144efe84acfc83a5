use Rattle.fam_base.proofs.EscapeLemmas.{escaped_visible}
use Rattle.fam_base.proofs.escapes.print_is_visible.Goals as goal

pub returns : goal.returns
returns c = escaped_visible
