use Rattle.fam_commands.proofs.ReadTold.{kept_joins, kept_told}
use Rattle.fam_commands.proofs.table.the_words_tell_what_is_kept.Goals as goal

pub returns-clause-told : goal.returns-clause-told
returns-clause-told c = kept_told

pub returns-clause-joined : goal.returns-clause-joined
returns-clause-joined c = kept_joins
