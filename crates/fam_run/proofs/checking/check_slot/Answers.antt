use Rattle.std.proofs.Common.{Option, None, refl, sym, subst, inl}
use Rattle.fam_format.specs.declared.faults.Reason.{Reason}
use Rattle.fam_commands.specs.Turns.{turn_of}
use Rattle.fam_machine.specs.declared.op.Op.{Op}
use Rattle.fam_tasks.specs.declared.answer.Turn.{Turn}
use Rattle.fam_tasks.specs.Tells.{Tells, slot_turn_by}
use Rattle.fam_run.specs.Room.{LacksRoom}
use Rattle.fam_run.proofs.Checked.{checked, digest_next}
use Rattle.fam_run.proofs.checking.check_slot.Goals as goal

pub returns-in-Ok-None-clause-operated : goal.returns-in-Ok-None-clause-operated
returns-in-Ok-None-clause-operated c = λ cache lines media.
    let t = c.args.task.now in
    let goes = subst (λ (r : Option Reason). Tells (turn_of t None) (slot_turn_by c.args.slot r) c.check_slot.new.self) c.in-Ok-None.field-0-is c.in-Ok-None.ensures.turn in
    let told = subst (λ (o : Turn). Tells (turn_of t None) o c.check_slot.new.self) (sym c.requires.go) goes in
    checked t c.check_slot.new.self c.args.slot lines c.args.turn.now cache media c.requires.due c.is_sound.ensures told c.check_slot.ensures.kept

pub returns-in-Ok-Some-clause-operated : goal.returns-in-Ok-Some-clause-operated
returns-in-Ok-Some-clause-operated c = λ cache lines media.
    let t = c.args.task.now in
    let bad = subst (λ (r : Option Reason). Tells (turn_of t None) (slot_turn_by c.args.slot r) c.check_slot.new.self) c.in-Ok-Some.field-0-is c.in-Ok-Some.ensures.turn in
    let told = subst (λ (o : Turn). Tells (turn_of t None) o c.check_slot.new.self) (sym c.answer_bad.ensures) bad in
    checked t c.check_slot.new.self c.args.slot lines c.answer_bad.new.turn cache media c.requires.due c.is_sound.ensures told c.check_slot.ensures.kept

pub returns-in-Err-clause-operated : goal.returns-in-Err-clause-operated
returns-in-Err-clause-operated c = λ cache lines media. record { task = c.in-Err.ensures.err; cache = refl; media = refl }

pub returns-in-Err-clause-want : goal.returns-in-Err-clause-want
returns-in-Err-clause-want c = λ cache full.
    let t = c.args.task.now in
    inl (subst (λ (o : Op). LacksRoom o t cache) (sym (digest_next t c.args.slot c.requires.due)) c.in-Err.ensures.want)

pub returns-in-Err-clause-lacks : goal.returns-in-Err-clause-lacks
returns-in-Err-clause-lacks c = λ cache full.
    let t = c.args.task.now in
    subst (λ (o : Op). LacksRoom o t cache) (sym (digest_next t c.args.slot c.requires.due)) c.in-Err.ensures.want
