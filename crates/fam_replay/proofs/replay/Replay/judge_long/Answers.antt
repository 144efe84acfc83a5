use Rattle.std.proofs.Common.{arith, sym, ap, ◌∙◌}
use Rattle.fam_entry.proofs.PathField.{zero_at}
use Rattle.fam_format.specs.Slot.{entry_of, fields_of}
use Rattle.fam_format.proofs.Formats.{slot_long}
use Rattle.fam_replay.proofs.Replicas.{reads_by}
use Rattle.fam_replay.proofs.replay.Replay.judge_long.Goals as goal

pub check_entry-requires-clause-empty : goal.check_entry-requires-clause-empty
check_entry-requires-clause-empty c = λ k. zero_at 512 k

pub returns-in-Ok-clause-reads : goal.returns-in-Ok-clause-reads
returns-in-Ok-clause-reads c =
    reads_by c.args.params.now c.args.words.now _ _ (fields_of c.args.words.now) c.join_checked.result
    (ap (entry_of c.args.params.now c.args.words.now) (sym c.count.ensures) ∙ sym c.in-Ok.ensures.value)
    c.join_checked.ensures.joins

pub join_checked-requires-clause-long : goal.join_checked-requires-clause-long
join_checked-requires-clause-long c = omega (arith, slot_long c.args.params.now, c.requires.count)
