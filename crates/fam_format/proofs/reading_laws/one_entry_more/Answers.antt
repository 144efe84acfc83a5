use Rattle.fam_format.proofs.JoinLaws.{replay_more}
use Rattle.fam_format.proofs.reading_laws.one_entry_more.Goals as goal

pub returns : goal.returns
returns c = replay_more
