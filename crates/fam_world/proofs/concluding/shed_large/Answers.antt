use Rattle.fam_world.proofs.Forgotten.{forgets}
use Rattle.fam_world.proofs.concluding.shed_large.Goals as goal

pub returns-in-Invalidate : goal.returns-in-Invalidate
returns-in-Invalidate c = record {
  shows = λ shown was. forgets c.args.task.now c.next.result _ c.args.cache.now.lines c.forget.new.self.lines shown c.next.ensures.op c.in-Invalidate.is c.forget.ensures.shed was;
}
