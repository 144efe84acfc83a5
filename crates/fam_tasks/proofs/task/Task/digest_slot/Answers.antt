use Rattle.fam_tasks.proofs.Feeding.{checked_keeps}
use Rattle.fam_tasks.proofs.task.Task.digest_slot.Goals as goal

pub returns-in-Ok-None : goal.returns-in-Ok-None
returns-in-Ok-None c = record {
  turn = rw c.in-Ok-None.field-0-is at c.in-Ok-None.ensures.turn;
  kept = checked_keeps c.args.self.now c.check_slot.new.self c.args.slot c.requires c.check_slot.ensures.kept;
  own = λ line is. cc;
  err = tt;
  want = tt;
  shows = tt;
}

pub returns-in-Ok-Some : goal.returns-in-Ok-Some
returns-in-Ok-Some c = record {
  turn = rw c.in-Ok-Some.field-0-is at c.in-Ok-Some.ensures.turn;
  kept = checked_keeps c.args.self.now c.check_slot.new.self c.args.slot c.requires c.check_slot.ensures.kept;
  own = λ line is. cc;
  err = tt;
  want = tt;
  shows = tt;
}

pub returns-in-Err : goal.returns-in-Err
returns-in-Err c = record {
  turn = tt;
  kept = checked_keeps c.args.self.now c.check_slot.new.self c.args.slot c.requires c.check_slot.ensures.kept;
  own = λ line. tt;
  err = c.in-Err.ensures.err;
  want = c.in-Err.ensures.want;
  shows = c.in-Err.ensures.shows;
}
