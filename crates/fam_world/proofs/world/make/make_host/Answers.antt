use Rattle.std.proofs.Common.{subst}
use Rattle.fam_machine.specs.Caches.{Cache, cell_at}
use Rattle.fam_machine.specs.OneLine.{IsHeld}
use Rattle.fam_world.proofs.Making.{held_behind}
use Rattle.fam_world.proofs.world.make.make_host.Goals as goal

pub returns-in-Ok-clause-ends : goal.returns-in-Ok-clause-ends
returns-in-Ok-clause-ends g c = record {
  ran = c.mkfs.new.cache.lines;
  ends = c.in-Ok.ensures.ends c.requires.free;
  left = c.lose_halted.ensures.lines;
}

pub returns-in-Ok-clause-others : goal.returns-in-Ok-clause-others
returns-in-Ok-clause-others g c line elsewhere held =
    held_behind c.in-Ok.end c.mkfs.new.cache.lines c.args.host.now.cache.lines line (c.in-Ok.ensures.others line elsewhere)
    (subst (λ (cache : Cache). IsHeld (cell_at cache line)) c.lose_halted.ensures.lines held)
