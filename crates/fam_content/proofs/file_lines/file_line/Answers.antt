use Rattle.std.proofs.Common.{arith}
use Rattle.fam_content.proofs.Callers.{size_fits, line_follows}
use Rattle.fam_content.proofs.file_lines.file_line.Goals as goal

pub overflow_mul-j : goal.overflow_mul-j
overflow_mul-j c = omega (arith, size_fits c.args.entry.now c.requires.file)

pub returns-clause-bytes : goal.returns-clause-bytes
returns-clause-bytes c =
    line_follows c.args.entry.now c.args.j c.place.result c.place.ensures.value c.requires.file c.requires.below
