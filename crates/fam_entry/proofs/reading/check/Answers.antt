use Rattle.std.proofs.Common.{arith, sym}
use Rattle.std.proofs.lemmas.Result.{err_from_is_err_and}
use Rattle.fam_format.specs.Layout.{geometry}
use Rattle.fam_format.proofs.Formats.{shape, slot_long}
use Rattle.fam_entry.proofs.Refusals.{by_path}
use Rattle.fam_entry.proofs.reading.check.Goals as goal

pub check_path-requires-clause-few : goal.check_path-requires-clause-few
check_path-requires-clause-few c = omega (arith, c.shape_of.ensures.path, (shape c.args.params.now).limit)

pub check_path-requires-clause-room : goal.check_path-requires-clause-room
check_path-requires-clause-room c = omega (arith, c.shape_of.ensures.path, c.requires.count, (shape c.args.params.now).path)

pub are_map_words-requires : goal.are_map_words-requires
are_map_words-requires c = omega (arith, slot_long c.args.params.now, c.requires.count)

pub fits_map-requires-clause-long : goal.fits_map-requires-clause-long
fits_map-requires-clause-long c = omega (arith, slot_long c.args.params.now, c.requires.count)

pub check_rest-requires-clause-long : goal.check_rest-requires-clause-long
check_rest-requires-clause-long c = omega (arith, slot_long c.args.params.now, c.requires.count)

pub returns-in_err-seen-clause-value : goal.returns-in_err-seen-clause-value
returns-in_err-seen-clause-value c =
    let p = err_from_is_err_and c.from_residual.result c.from_residual.ensures.1 in
    rw (p.1, p.2) c.in_err-seen.ensures.fault

pub returns-in_err-check_path-clause-value : goal.returns-in_err-check_path-clause-value
returns-in_err-check_path-clause-value c =
    let p = err_from_is_err_and c.from_residual-in_err-check_path.result c.from_residual-in_err-check_path.ensures.1 in
    let front = c.in_ok-seen.ensures.passed in
    rw (p.1, p.2) (by_path c.args.params.now c.args.words.now c.args.seq c.in_err-check_path.field-0.0 front.crc front.number front.kind
    front.attributes (c.in_err-check_path.ensures.first (geometry c.args.params.now) (sym c.shape_of.ensures.path)))
