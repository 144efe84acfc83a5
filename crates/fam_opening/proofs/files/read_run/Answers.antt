use Rattle.std.proofs.Common.{length, arith}
use Rattle.fam_opening.proofs.FileBytes.{row_bytes, row_within}
use Rattle.fam_opening.proofs.files.read_run.Goals as goal

pub read_run-requires : goal.read_run-requires
read_run-requires g c = record {
  within = row_within c.args.entry.now c.args.j (length c.args.lines.now) c.file_line-first.result.0 (g.M.Media.size c.args.media.now) c.requires.file c.requires.row
      c.file_line-first.ensures.value c.requires.some;
}

pub overflow_add-result : goal.overflow_add-result
overflow_add-result g c =
    let within = row_within c.args.entry.now c.args.j (length c.args.lines.now) c.file_line-first.result.0 (g.M.Media.size c.args.media.now) c.requires.file c.requires.row
    c.file_line-first.ensures.value c.requires.some in
    omega (arith, within, c.in-Err.ensures.before, c.lines.ensures.count, c.lines.ensures.limit)

pub returns-in-Ok-clause-bytes : goal.returns-in-Ok-clause-bytes
returns-in-Ok-clause-bytes g c = λ image told.
    row_bytes c.args.entry.now c.args.j (length c.args.lines.now) c.file_line-first.result.0 (g.M.Media.size c.args.media.now) c.requires.file c.requires.row
    c.file_line-first.ensures.value image c.read_run.new.lines (c.in-Ok.ensures.words image told)

pub returns-in-Err-clause-cause : goal.returns-in-Err-clause-cause
returns-in-Err-clause-cause g c =
    let within = row_within c.args.entry.now c.args.j (length c.args.lines.now) c.file_line-first.result.0 (g.M.Media.size c.args.media.now) c.requires.file c.requires.row
    c.file_line-first.ensures.value c.requires.some in
    (omega (arith, within, c.in-Err.ensures.before), c.in-Err.ensures.cause.failed)
