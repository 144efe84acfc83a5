use Rattle.std.proofs.Common.{refl}
use Rattle.fam_crc.proofs.SeenZeros.{zero_seen, zeros_seen}
use Rattle.fam_crc.proofs.words.pass_zeros.Goals as goal

pub returns-in-Some-clause-seen : goal.returns-in-Some-clause-seen
returns-in-Some-clause-seen c = λ words s. zeros_seen words c.args.pass.tail.now c.args.pass.rest.now c.in-Some.rest.now s c.in-Some.ensures.zeros

pub returns-in-None-clause-seen : goal.returns-in-None-clause-seen
returns-in-None-clause-seen c = λ words s. zero_seen words c.args.pass.tail.now c.args.pass.rest.now c.args.more.now 0 s c.requires refl
