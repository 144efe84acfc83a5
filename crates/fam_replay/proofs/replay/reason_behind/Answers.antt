use Rattle.std.proofs.Common.{arith, Ok, sym, ap, ◌∙◌}
use Rattle.fam_base.specs.declared.entry.Params.{Params}
use Rattle.fam_entry.proofs.PathField.{zero_at}
use Rattle.fam_format.specs.Slot.{entry_of}
use Rattle.fam_format.proofs.Formats.{slot_long}
use Rattle.fam_replay.proofs.Replicas.{against_by}
use Rattle.fam_replay.proofs.replay.reason_behind.Goals as goal

pub check_entry-requires-clause-empty : goal.check_entry-requires-clause-empty
check_entry-requires-clause-empty c = λ k. zero_at 512 k

pub returns-in-Ok-clause-against : goal.returns-in-Ok-clause-against
returns-in-Ok-clause-against c =
    against_by c.args.plan.now.params c.args.words.now c.args.plan.now.entries c.checked_entry.result c.fault_behind.result
    (ap (entry_of c.args.plan.now.params c.args.words.now) (sym c.count.ensures.count)
    ∙ ap (λ (p : Params). entry_of p c.args.words.now c.count.result) (sym c.params.ensures) ∙ sym c.in-Ok.ensures.value
    ∙ ap Ok (sym c.checked_entry.ensures))
    c.fault_behind.ensures.fault

pub checked_entry-requires-clause-long : goal.checked_entry-requires-clause-long
checked_entry-requires-clause-long c = omega (arith, slot_long c.args.plan.now.params, c.requires)
