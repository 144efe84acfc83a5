use Rattle.std.proofs.Common.{ap}
use Rattle.fam_causes.specs.Differing.{damage_of}
use Rattle.fam_causes.proofs.answered.tells_damage.Goals as goal

pub returns-in-NoSuperblock-clause-damage : goal.returns-in-NoSuperblock-clause-damage
returns-in-NoSuperblock-clause-damage c is = (_, ap damage_of c.in-NoSuperblock.is)

pub returns-in-BadHeader-clause-damage : goal.returns-in-BadHeader-clause-damage
returns-in-BadHeader-clause-damage c is = (_, ap damage_of c.in-BadHeader.is)

pub returns-in-BadSlot-clause-damage : goal.returns-in-BadSlot-clause-damage
returns-in-BadSlot-clause-damage c is = (_, ap damage_of c.in-BadSlot.is)
