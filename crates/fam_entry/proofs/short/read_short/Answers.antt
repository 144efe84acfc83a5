use Rattle.std.proofs.Common.{Result, Ok, Err, sym, ap, ◌∙◌}
use Rattle.std.proofs.lemmas.Result.{err_from_is_err_and}
use Rattle.fam_base.specs.Paths.{is_path}
use Rattle.fam_base.specs.declared.entry.Entry.{Entry}
use Rattle.fam_format.specs.Layout.{geometry}
use Rattle.fam_format.specs.declared.faults.Reason.{Reason}
use Rattle.fam_format.specs.declared.faults.Reason.TheVariants.{BadPath}
use Rattle.fam_format.proofs.EntryLawsProofs.{read_proper}
use Rattle.fam_entry.proofs.Refusals.{by_path, by_rest}
use Rattle.fam_entry.proofs.ShortSlots.{no_map_fault, path_is_none, path_is_one, short_read}
use Rattle.fam_entry.proofs.short.read_short.Goals as goal

pub returns-in_err-seen-clause-value : goal.returns-in_err-seen-clause-value
returns-in_err-seen-clause-value c =
    let p = err_from_is_err_and c.from_residual.result c.from_residual.ensures.1 in
    rw (p.1, p.2) c.in_err-seen.ensures.fault

pub returns-then-not-are_path-clause-value : goal.returns-then-not-are_path-clause-value
returns-then-not-are_path-clause-value c =
    let front = c.in_ok-seen.ensures.passed in
    let words = c.args.words.now in
    let read = short_read words c.requires.short c.args.bytes.now c.told-bytes c.requires.bytes in
    by_path c.args.params.now words c.args.seq BadPath front.crc front.number front.kind front.attributes
    (path_is_none words c.requires.short c.args.params.now (ap is_path (sym read) ∙ sym c.if-not-are_path.ensures))

pub returns-in_err-check_rest-clause-value : goal.returns-in_err-check_rest-clause-value
returns-in_err-check_rest-clause-value c =
    let front = c.in_ok-seen.ensures.passed in
    let words = c.args.words.now in
    let read = short_read words c.requires.short c.args.bytes.now c.told-bytes c.requires.bytes in
    let p = err_from_is_err_and c.from_residual-in_err-check_rest.result c.from_residual-in_err-check_rest.ensures.1 in
    rw (p.1, p.2) (by_rest c.args.params.now words c.args.seq (Err c.in_err-check_rest.field-0.0) front.crc front.number front.kind front.attributes
    (path_is_one words c.requires.short c.args.params.now (ap is_path (sym read) ∙ sym c.if-not-are_path.ensures)) (no_map_fault words c.requires.short c.args.params.now)
    (c.in_err-check_rest.ensures (geometry c.args.params.now) c.requires.count))

pub short_entry-requires-clause-path : goal.short_entry-requires-clause-path
short_entry-requires-clause-path c =
    short_read c.args.words.now c.requires.short c.args.bytes.now c.told-bytes c.requires.bytes

pub returns-clause-value : goal.returns-clause-value
returns-clause-value c =
    let front = c.in_ok-seen.ensures.passed in
    let words = c.args.words.now in
    let as_read : Entry → Result Entry Reason = λ e. Ok e in
    let read = short_read words c.requires.short c.args.bytes.now c.told-bytes c.requires.bytes in
    by_rest c.args.params.now words c.args.seq (Ok (tt {0})) front.crc front.number front.kind front.attributes
    (path_is_one words c.requires.short c.args.params.now (ap is_path (sym read) ∙ sym c.if-not-are_path.ensures)) (no_map_fault words c.requires.short c.args.params.now)
    (c.in_ok-check_rest.ensures (geometry c.args.params.now) c.requires.count)
    ∙ ap as_read (sym c.short_entry.ensures)

pub returns-clause-proper : goal.returns-clause-proper
returns-clause-proper c =
    let front = c.in_ok-seen.ensures.passed in
    let words = c.args.words.now in
    let read = short_read words c.requires.short c.args.bytes.now c.told-bytes c.requires.bytes in
    let value = by_rest c.args.params.now words c.args.seq (Ok (tt {0})) front.crc front.number front.kind front.attributes
    (path_is_one words c.requires.short c.args.params.now (ap is_path (sym read) ∙ sym c.if-not-are_path.ensures)) (no_map_fault words c.requires.short c.args.params.now)
    (c.in_ok-check_rest.ensures (geometry c.args.params.now) c.requires.count) in
    rw c.short_entry.ensures (read_proper c.args.params.now words c.args.seq _ value)
