use Rattle.std.proofs.Common.{◌≡◌, ℕ, ◌+◌, ◌-◌, ◌≤◌, ◌∙◌, List, subst, arith, rules}
use Rattle.std.proofs.lemmas.List.{length-take-le}
use Rattle.std.proofs.lemmas.Result.{err_from_is_err_and}
use Rattle.fam_base.specs.Image.{line_at}
use Rattle.fam_rules.specs.Content.{file_words}
use Rattle.fam_rules.specs.Written.{file_line, file_puts, lines_of}
use Rattle.fam_rules.proofs.Puts.{puts_from}
use Rattle.fam_dup.specs.Lines.{AreCutAt, ArePut, bytes_in}
use Rattle.fam_dup.specs.Runs.{part_puts}
use Rattle.fam_dup.specs.Passes.{ArePassed}
use Rattle.fam_dup.proofs.Passing.{pass_none}
use Rattle.fam_dup.specs.Ends.{IsFileStep}
use Rattle.fam_dup.proofs.RunPuts.{run_cut_short, run_part}
use Rattle.fam_dup.proofs.Rows.{row_end}
use Rattle.fam_dup.proofs.files.copy_file.Goals as goal

pub loop-j-init : goal.loop-j-init
loop-j-init g c =
    let copy = c.args.copy.now in
    record {
      passed = λ image told.
          let bytes : List ℕ = bytes_in (line_at image) c.args.entry.now in
          let old = (g.N.Media.state c.args.to.now).image in
          let end : lines_of copy.size ≡ c.lines_of-lines.result - 0 = omega (arith, c.lines_of-lines.ensures.value) in
          subst (λ (n : ℕ). ArePassed (file_puts copy bytes) (puts_from (file_line copy) (file_words bytes) 0 n) old old) end (pass_none (file_puts copy bytes) old);
      within = search rules;
      buffer = search rules;
      same = search rules;
      quiet_from = search rules;
      quiet_to = search rules;
      steady_from = search rules;
      steady_to = search rules;
    }

pub returns-in_err-copy_run-clause-puts : goal.returns-in_err-copy_run-clause-puts
returns-in_err-copy_run-clause-puts g c = λ image told.
    let v = c.loop-j.invariant in
    let copy = c.args.copy.now in
    let bytes : List ℕ = bytes_in (line_at image) c.args.entry.now in
    let p = err_from_is_err_and c.from_residual.result c.from_residual.ensures.1 in
    rw (p.1, p.2)
    (run_cut_short (file_line copy) (file_words bytes) (file_puts copy bytes) c.loop-j.j c.run_of-count.result c.lines_of-lines.result
    (g.N.Media.state c.args.to.now).image (g.N.Media.state c.loop-j.to).image (g.N.Media.state c.copy_run.new.to).image
    (omega (arith, c.run_of-count.ensures.most, c.min.ensures, v.within)) (v.passed image told)
    (subst (λ (n : ℕ). AreCutAt (IsFileStep c.args.entry.now copy c.in_err-copy_run.field-0.0) (part_puts copy bytes c.loop-j.j n)
    (g.N.Media.state c.loop-j.to).image (g.N.Media.state c.copy_run.new.to).image)
    (length-take-le c.run_of-count.result c.loop-j.buffer (omega (arith, c.run_of-count.ensures.most, c.min.ensures)))
    (c.in_err-copy_run.ensures.puts image (v.same ∙ told))))

pub loop-j-preserved : goal.loop-j-preserved
loop-j-preserved g c =
    let v = c.loop-j.invariant in
    let e = c.in_ok-copy_run.ensures in
    let copy = c.args.copy.now in
    let fits : c.loop-j.j + c.run_of-count.result ≤ c.lines_of-lines.result = omega (arith, c.run_of-count.ensures.most, c.min.ensures, v.within) in
    record {
      passed = λ image told.
          let bytes : List ℕ = bytes_in (line_at image) c.args.entry.now in
          run_part (file_line copy) (file_words bytes) (file_puts copy bytes) c.loop-j.j c.run_of-count.result c.lines_of-lines.result
          (g.N.Media.state c.args.to.now).image (g.N.Media.state c.loop-j.to).image (g.N.Media.state c.copy_run.new.to).image
          fits (v.passed image told)
          (subst (λ (n : ℕ). ArePut (part_puts copy bytes c.loop-j.j n) (g.N.Media.state c.loop-j.to).image (g.N.Media.state c.copy_run.new.to).image)
          (length-take-le c.run_of-count.result c.loop-j.buffer (omega (arith, c.run_of-count.ensures.most, c.min.ensures)))
          (e.puts image (v.same ∙ told)));
      within = fits;
      buffer = search rules;
      same = e.same ∙ v.same;
      quiet_from = λ exact. e.quiet_from exact ∙ v.quiet_from exact;
      quiet_to = λ exact. e.quiet_to exact ∙ v.quiet_to exact;
      steady_from = record { size = e.steady_from.size ∙ v.steady_from.size; later = omega (arith, e.steady_from.later, v.steady_from.later) };
      steady_to = record { size = e.steady_to.size ∙ v.steady_to.size; later = omega (arith, e.steady_to.later, v.steady_to.later) };
    }

pub returns-clause-puts : goal.returns-clause-puts
returns-clause-puts g c = λ image told.
    let copy = c.args.copy.now in
    let bytes : List ℕ = bytes_in (line_at image) c.args.entry.now in
    row_end (file_line copy) (file_words bytes) (file_puts copy bytes) c.loop-j.j c.lines_of-lines.result (g.N.Media.state c.args.to.now).image
    (g.N.Media.state c.loop-j.to).image (omega (arith, c.loop-j-test.false)) (c.loop-j.invariant.passed image told)
