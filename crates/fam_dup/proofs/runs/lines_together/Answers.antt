use Rattle.std.proofs.Common.{inl, inr, arith}
use Rattle.std.proofs.lemmas.Bool.{cases_lt}
use Rattle.fam_content.proofs.Callers.{size_fits}
use Rattle.fam_dup.proofs.RunPuts.{lines_behind, one_line}
use Rattle.fam_dup.proofs.runs.lines_together.Goals as goal

pub overflow_mul-j : goal.overflow_mul-j
overflow_mul-j c = omega (arith, size_fits c.args.entry.now c.requires.file, c.requires.below)

pub returns-clause-together : goal.returns-clause-together
returns-clause-together c =
    elim (cases_lt 1 c.max.result) [
      | inl more ↦ lines_behind c.args.entry.now c.args.j c.max.result c.bytes_together-lines.result c.bytes_together-lines.ensures
          (λ i below. omega (arith, below, more, c.max.ensures, c.min.ensures))
      | inr few ↦ one_line c.args.entry.now c.args.j c.max.result few
    ]
