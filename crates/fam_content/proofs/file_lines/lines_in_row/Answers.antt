use Rattle.std.proofs.Common.{◌≡◌, ℕ, ◌+◌, ◌*◌, ◌/◌, ◌<◌, ap, ◌∙◌, arith}
use Rattle.fam_rules.specs.Place.{place}
use Rattle.fam_content.proofs.Callers.{size_fits}
use Rattle.fam_content.proofs.file_lines.lines_in_row.Goals as goal

pub overflow_mul-start : goal.overflow_mul-start
overflow_mul-start c = omega (arith, size_fits c.args.entry.now c.requires.file)

pub returns-clause-each : goal.returns-clause-each
returns-clause-each c = λ k below.
    let at : 64 * (c.args.j + k) ≡ 64 * c.args.j + 64 * k = omega arith in
    let in_bytes : 64 * k < c.min-bytes.result = (c.lines_of.ensures.each k).1 (omega arith) in
    let in_row : 64 * k < c.bytes_in_row.result = omega arith in
    ap (λ (o : ℕ). place c.args.entry.now o / 64) at ∙ omega (arith, c.bytes_in_row.ensures (64 * k) in_row)
