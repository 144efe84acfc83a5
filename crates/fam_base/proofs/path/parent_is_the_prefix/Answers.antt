use Rattle.fam_base.proofs.PathLemmas.{parent_of_prefix, parent_of_name, parent_is_path}
use Rattle.fam_base.proofs.path.parent_is_the_prefix.Goals as goal

pub returns-clause-prefix : goal.returns-clause-prefix
returns-clause-prefix c = parent_of_prefix

pub returns-clause-root : goal.returns-clause-root
returns-clause-root c = parent_of_name

pub returns-clause-path : goal.returns-clause-path
returns-clause-path c = parent_is_path
