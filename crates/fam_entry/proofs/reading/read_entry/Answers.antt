use Rattle.std.proofs.Common.{arith, Result, Ok, Err, sym, ap, ◌∙◌}
use Rattle.fam_base.specs.declared.entry.Entry.{Entry}
use Rattle.fam_format.specs.declared.faults.Reason.{Reason}
use Rattle.fam_format.proofs.Formats.{slot_long}
use Rattle.fam_entry.proofs.Found.{entry_found, entry_only}
use Rattle.fam_entry.proofs.PathField.{zero_at}
use Rattle.fam_entry.proofs.reading.read_entry.Goals as goal

pub check-requires-clause-empty : goal.check-requires-clause-empty
check-requires-clause-empty c = λ k. zero_at 512 k

pub returns-in-Ok-clause-found : goal.returns-in-Ok-clause-found
returns-in-Ok-clause-found c =
    let as_read : Entry → Result Entry Reason = λ e. Ok e in
    entry_found c.args.params.now c.args.words.now c.args.seq (Ok c.checked_entry.result) (ap as_read c.checked_entry.ensures ∙ sym c.in-Ok.ensures.value) c.in-Ok.ensures.words

pub returns-in-Ok-clause-only : goal.returns-in-Ok-clause-only
returns-in-Ok-clause-only c =
    let as_read : Entry → Result Entry Reason = λ e. Ok e in
    entry_only c.args.params.now c.args.words.now c.args.seq (Ok c.checked_entry.result) (ap as_read c.checked_entry.ensures ∙ sym c.in-Ok.ensures.value)

pub returns-in-Err-clause-only : goal.returns-in-Err-clause-only
returns-in-Err-clause-only c = entry_only c.args.params.now c.args.words.now c.args.seq (Err c.in-Err.reason) (sym c.in-Err.ensures.value)

pub checked_entry-requires-clause-long : goal.checked_entry-requires-clause-long
checked_entry-requires-clause-long c = omega (arith, slot_long c.args.params.now, c.requires.count)
