use Rattle.std.proofs.Common.{◌-◌, take, ◌∙◌, refl, subst, arith, ℕ, ◌<◌}
use Rattle.std.specs.Prelude.{IfErr}
use Rattle.fam_format.specs.Layout.{log_line, gate_line}
use Rattle.fam_rules.specs.Written.{zero_line}
use Rattle.fam_machine.specs.Mkfs.{put_ops}
use Rattle.fam_cache.proofs.Runs.{cut_as, cut_first}
use Rattle.fam_mkfs.specs.Parts.{header_puts}
use Rattle.fam_mkfs.specs.declared.lines.FailedAt.{FailedAt}
use Rattle.fam_mkfs.proofs.SuperPuts.{header_front}
use Rattle.fam_mkfs.proofs.WholeLines.{cut_behind, cut_on, done_behind, none_done, rose_behind, rose_on, steady_both, within_on}
use Rattle.fam_mkfs.proofs.make.write_header.Goals as goal

pub returns-in_err-write_line-clause-done : goal.returns-in_err-write_line-clause-done
returns-in_err-write_line-clause-done g c = none_done _ c.from_residual.result c.from_residual.ensures.0

pub returns-in_err-write_line-clause-cut : goal.returns-in_err-write_line-clause-cut
returns-in_err-write_line-clause-cut g c =
    let header = c.args.header.now in
    let most = c.args.most in
    cut_on (take most (header_puts header)) _ _ c.in_err-write_line.field-0.0 c.from_residual.result c.from_residual.ensures
    (cut_as _ _ _ _ _ (header_front header most (most - 9) refl)
    (cut_first (take most (put_ops (gate_line, zero_line))) (take (most - 9) (put_ops (log_line, header))) _ _ _ c.in_err-write_line.ensures.cut))

pub returns-in_err-write_line-clause-others : goal.returns-in_err-write_line-clause-others
returns-in_err-write_line-clause-others g c line gate log = c.write_line.ensures.others line gate

pub returns-in_err-write_line-clause-within : goal.returns-in_err-write_line-clause-within
returns-in_err-write_line-clause-within g c = within_on _ c.in_err-write_line.field-0.0 c.from_residual.result c.from_residual.ensures c.in_err-write_line.ensures.within

pub returns-in_err-write_line-clause-rose : goal.returns-in_err-write_line-clause-rose
returns-in_err-write_line-clause-rose g c = rose_on _ _ c.from_residual.result c.in_err-write_line.ensures.rose

pub returns-in_err-write_line-clause-steady : goal.returns-in_err-write_line-clause-steady
returns-in_err-write_line-clause-steady g c = c.write_line.ensures.steady

pub returns-clause-done : goal.returns-clause-done
returns-clause-done g c =
    let header = c.args.header.now in
    done_behind (take c.args.most (put_ops (gate_line, zero_line))) (take c.saturating_sub-most.result (put_ops (log_line, header))) (take c.args.most (header_puts header)) _ _ _ c.write_line-2.result
    (header_front header c.args.most c.saturating_sub-most.result c.saturating_sub-most.ensures) c.in_ok-write_line.ensures.done c.write_line-2.ensures.done

pub returns-clause-cut : goal.returns-clause-cut
returns-clause-cut g c =
    let header = c.args.header.now in
    cut_behind (take c.args.most (put_ops (gate_line, zero_line))) (take c.saturating_sub-most.result (put_ops (log_line, header))) (take c.args.most (header_puts header)) _ _ _ c.write_line-2.result
    (header_front header c.args.most c.saturating_sub-most.result c.saturating_sub-most.ensures) c.in_ok-write_line.ensures.done c.write_line-2.ensures.cut

pub returns-clause-others : goal.returns-clause-others
returns-clause-others g c line gate log = c.write_line-2.ensures.others line log ∙ c.write_line.ensures.others line gate

pub returns-clause-within : goal.returns-clause-within
returns-clause-within g c =
    subst (λ (n : ℕ). IfErr c.write_line-2.result (λ (at : FailedAt). at.0.0 < n)) c.write_line.ensures.steady.size c.write_line-2.ensures.within

pub returns-clause-rose : goal.returns-clause-rose
returns-clause-rose g c = rose_behind _ _ _ c.write_line-2.result c.write_line.ensures.steady.later c.write_line-2.ensures.rose

pub returns-clause-steady : goal.returns-clause-steady
returns-clause-steady g c =
    steady_both g.M.Media.size g.M.Media.state _ _ _ c.write_line.ensures.steady c.write_line-2.ensures.steady

pub write_line-requires-2 : goal.write_line-requires-2
write_line-requires-2 g c = record {
  within = omega (arith, c.requires.within, c.write_line.ensures.steady.size);
  room = λ lacks. omega (arith, c.requires.room, c.write_line.ensures.spare);
}
