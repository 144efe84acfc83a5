use Rattle.fam_journal.proofs.Settled.Prefixes.{prefixes, prefixes_back}
use Rattle.fam_journal.proofs.laws.the_history_only_grows.Goals as goal

pub returns : goal.returns
returns c = record { more = λ start two. prefixes start two; fewer = λ start two. prefixes_back start two }
