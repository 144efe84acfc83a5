use Rattle.fam_journal.proofs.Settled.Prefixes.{grows, writes_free}
use Rattle.fam_journal.proofs.laws.at_most_one_entry_is_pending.Goals as goal

pub returns : goal.returns
returns c = record {
  writes = λ start before rest host seq entry legal. writes_free start before rest host seq entry legal;
  grows = λ start before behind none. grows start before behind none;
}
