use Rattle.std.proofs.Common.{◌≡◌, ℕ, ◌+◌, ◌-◌, ◌∙◌, List, length, ap, subst, arith}
use Rattle.std.proofs.lemmas.Result.{err_from_is_err_and}
use Rattle.fam_base.specs.Image.{line_at}
use Rattle.fam_rules.specs.Written.{Put}
use Rattle.fam_rules.proofs.LinesApart.{file_within}
use Rattle.fam_dup.specs.Lines.{AreCutAt, ArePut, bytes_in}
use Rattle.fam_dup.specs.Runs.{part_puts, run_puts}
use Rattle.fam_dup.specs.Ends.{IsFileStep}
use Rattle.fam_dup.proofs.Naming.{file_step}
use Rattle.fam_dup.specs.Findings.{fault_class}
use Rattle.fam_dup.proofs.Asking.{to_kept}
use Rattle.fam_dup.proofs.RunPuts.{parts_before, run_parts}
use Rattle.fam_dup.proofs.files.copy_run.Goals as goal

pub returns-in_err-read_parts-clause-puts : goal.returns-in_err-read_parts-clause-puts
returns-in_err-read_parts-clause-puts g c = λ image told.
    let p = err_from_is_err_and c.from_residual.result c.from_residual.ensures.1 in
    rw (p.1, p.2) (parts_before {At = IsFileStep c.args.entry.now c.args.copy.now c.in_err-read_parts.field-0.0} c.args.copy.now
    (bytes_in (line_at image) c.args.entry.now) c.args.j (length c.args.lines.now) c.requires.some (g.N.Media.state c.args.to.now).image
    (file_step c.args.entry.now c.args.copy.now _ c.args.j (length c.args.lines.now) c.requires.below c.requires.few c.in_err-read_parts.field-0.0
    c.in_err-read_parts.ensures.failed c.in_err-read_parts.ensures.at))

pub file_line-requires-clause-below : goal.file_line-requires-clause-below
file_line-requires-clause-below g c = omega (arith, c.requires.below 0 c.requires.some, c.requires.size)

pub write_lines-requires : goal.write_lines-requires
write_lines-requires g c =
    let file = c.requires.place in
    let last = length c.args.lines.now - 1 in
    record {
      within = omega (
        arith,
        file_within file.params c.args.copy.now (c.args.j + last) (g.N.Media.size c.args.to.now) file.sound file.proper
            (omega (arith, c.requires.size, c.requires.below last (omega (arith, c.requires.some)))) file.device,
        c.requires.together_copy last (omega (arith, c.requires.some)),
        c.file_line.ensures.value,
        c.requires.some,
        c.in_ok-read_parts.ensures.count,
      );
    }

pub returns-in-Ok-clause-puts : goal.returns-in-Ok-clause-puts
returns-in-Ok-clause-puts g c = λ image told.
    let bytes : List ℕ = bytes_in (line_at image) c.args.entry.now in
    let count = c.in_ok-read_parts.ensures.count in
    let same : run_puts c.file_line.result.0 c.read_parts.new.lines ≡ part_puts c.args.copy.now bytes c.args.j (length c.args.lines.now) =
    run_parts c.args.copy.now bytes c.args.j c.file_line.result.0 c.read_parts.new.lines c.file_line.ensures.value
    (λ i below. c.requires.together_copy i (omega (arith, below, count))) (c.in_ok-read_parts.ensures.words image told)
    ∙ ap (λ (n : ℕ). part_puts c.args.copy.now bytes c.args.j n) count in
    subst (λ (l : List Put). ArePut l (g.N.Media.state c.args.to.now).image (g.N.Media.state c.write_lines.new.media).image) same c.in-Ok.ensures.put

pub returns-in-Err-clause-puts : goal.returns-in-Err-clause-puts
returns-in-Err-clause-puts g c = λ image told.
    let bytes : List ℕ = bytes_in (line_at image) c.args.entry.now in
    let count = c.in_ok-read_parts.ensures.count in
    let same : run_puts c.file_line.result.0 c.read_parts.new.lines ≡ part_puts c.args.copy.now bytes c.args.j (length c.args.lines.now) =
    run_parts c.args.copy.now bytes c.args.j c.file_line.result.0 c.read_parts.new.lines c.file_line.ensures.value
    (λ i below. c.requires.together_copy i (omega (arith, below, count))) (c.in_ok-read_parts.ensures.words image told)
    ∙ ap (λ (n : ℕ). part_puts c.args.copy.now bytes c.args.j n) count in
    subst (λ (l : List Put). AreCutAt (λ put. put.0 ≡ c.in-Err.failed.0.0) l (g.N.Media.state c.args.to.now).image (g.N.Media.state c.write_lines.new.media).image) same c.in-Err.ensures.cut

pub returns-in_err-read_parts-clause-counted_to : goal.returns-in_err-read_parts-clause-counted_to
returns-in_err-read_parts-clause-counted_to g c =
    let f = c.in_err-read_parts.field-0.0 in
    let e = c.in_err-read_parts.ensures in
    let q = err_from_is_err_and c.from_residual.result c.from_residual.ensures.1 in
    rw (q.1, q.2) (λ exact. to_kept _ (fault_class f) e.failed)
