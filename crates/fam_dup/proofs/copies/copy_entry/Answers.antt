use Rattle.std.proofs.Common.{Ok, Err, ap}
use Rattle.fam_base.specs.declared.entry.Params.{Params}
use Rattle.fam_rules.specs.Decide.{wish_of}
use Rattle.fam_dup.proofs.Alike.{room_alone}
use Rattle.fam_dup.proofs.Copying.{decided}
use Rattle.fam_dup.proofs.copies.copy_entry.Goals as goal

pub refusal_of-requires : goal.refusal_of-requires
refusal_of-requires c =
    let plan = c.args.copies.now in
    room_alone plan.params plan.entries c.args.entry.now c.requires c.in-Err.refused
    (decided plan.params c.params.result.now.master plan.entries c.args.entry.now (wish_of c.command.result) (Err c.in-Err.refused)
    (ap (λ (p : Params). p.master) c.params.ensures) c.command.ensures.wish c.in-Err.ensures.value)

pub returns-in-Ok : goal.returns-in-Ok
returns-in-Ok c =
    let plan = c.args.copies.now in
    record {
      value = decided plan.params c.params.result.now.master plan.entries c.args.entry.now (wish_of c.command.result) (Ok c.in-Ok.copy)
          (ap (λ (p : Params). p.master) c.params.ensures) c.command.ensures.wish c.in-Ok.ensures.value;
      may = c.in-Ok.ensures.may c.command.ensures.sound;
    }
