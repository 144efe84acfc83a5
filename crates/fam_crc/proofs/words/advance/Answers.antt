use Rattle.fam_crc.proofs.SeenZeros.{first_seen}
use Rattle.fam_crc.proofs.words.advance.Goals as goal

pub returns-in-len1-up-clause-seen : goal.returns-in-len1-up-clause-seen
returns-in-len1-up-clause-seen c = λ words s. first_seen words c.args.pass.tail.now c.args.pass.rest.now c.in-len1-up.len_at_least s
