use Rattle.std.proofs.Common.{◌-◌, ◌++◌, take, ◌∙◌, refl, sym, subst, arith, ℕ, ◌<◌}
use Rattle.std.specs.Prelude.{IfErr}
use Rattle.fam_machine.specs.declared.cell.Cell.{Cell}
use Rattle.fam_machine.specs.Mkfs.{put_ops}
use Rattle.fam_machine.specs.OneLine.{IsHeld}
use Rattle.fam_cache.proofs.Runs.{cut_as, cut_first, cut_second}
use Rattle.fam_mkfs.specs.Parts.{word_puts}
use Rattle.fam_mkfs.specs.declared.lines.FailedAt.{FailedAt}
use Rattle.fam_mkfs.proofs.Ending.{rose_since}
use Rattle.fam_mkfs.proofs.SuperPuts.{words_front}
use Rattle.fam_mkfs.proofs.WholeLines.{cut_behind, cut_on, done_behind, none_done, rose_behind, rose_on, steady_both, within_on}
use Rattle.fam_mkfs.proofs.make.write_words.Goals as goal

pub returns-in_err-write_line-clause-done : goal.returns-in_err-write_line-clause-done
returns-in_err-write_line-clause-done g c = none_done _ c.from_residual.result c.from_residual.ensures.0

pub returns-in_err-write_line-clause-cut : goal.returns-in_err-write_line-clause-cut
returns-in_err-write_line-clause-cut g c =
    let a = c.args in
    let most = a.most in
    cut_on (take most (word_puts a.magic.now a.first.now a.second.now)) _ _ c.in_err-write_line.field-0.0 c.from_residual.result c.from_residual.ensures
    (cut_as _ _ _ _ _ (words_front a.magic.now a.first.now a.second.now most (most - 9) (most - 9 - 9) refl refl)
    (cut_first (take most (put_ops (1, a.first.now))) (take (most - 9) (put_ops (2, a.second.now)) ++ take (most - 9 - 9) (put_ops (0, a.magic.now))) _ _ _ c.in_err-write_line.ensures.cut))

pub returns-in_err-write_line-clause-others : goal.returns-in_err-write_line-clause-others
returns-in_err-write_line-clause-others g c line magic first second = c.write_line.ensures.others line first

pub returns-in_err-write_line-clause-within : goal.returns-in_err-write_line-clause-within
returns-in_err-write_line-clause-within g c = within_on _ c.in_err-write_line.field-0.0 c.from_residual.result c.from_residual.ensures c.in_err-write_line.ensures.within

pub returns-in_err-write_line-clause-rose : goal.returns-in_err-write_line-clause-rose
returns-in_err-write_line-clause-rose g c = rose_on _ _ c.from_residual.result c.in_err-write_line.ensures.rose

pub returns-in_err-write_line-clause-steady : goal.returns-in_err-write_line-clause-steady
returns-in_err-write_line-clause-steady g c = c.write_line.ensures.steady

pub returns-in_err-write_line-2-clause-done : goal.returns-in_err-write_line-2-clause-done
returns-in_err-write_line-2-clause-done g c = none_done _ c.from_residual-in_err-write_line-2.result c.from_residual-in_err-write_line-2.ensures.0

pub returns-in_err-write_line-2-clause-cut : goal.returns-in_err-write_line-2-clause-cut
returns-in_err-write_line-2-clause-cut g c =
    let a = c.args in
    let most = c.saturating_sub-most.result in
    let second = take most (put_ops (2, a.second.now)) in
    let magic = take (most - 9) (put_ops (0, a.magic.now)) in
    cut_on (take a.most (word_puts a.magic.now a.first.now a.second.now)) _ _ c.in_err-write_line-2.field-0.0 c.from_residual-in_err-write_line-2.result c.from_residual-in_err-write_line-2.ensures
    (cut_as _ _ _ _ _ (words_front a.magic.now a.first.now a.second.now a.most most (most - 9) c.saturating_sub-most.ensures refl)
    (cut_second (take a.most (put_ops (1, a.first.now))) (second ++ magic) _ _ _ _ c.in_ok-write_line.ensures.done (cut_first second magic _ _ _ c.in_err-write_line-2.ensures.cut)))

pub returns-in_err-write_line-2-clause-others : goal.returns-in_err-write_line-2-clause-others
returns-in_err-write_line-2-clause-others g c line magic first second = c.write_line-2.ensures.others line second ∙ c.write_line.ensures.others line first

pub returns-in_err-write_line-2-clause-within : goal.returns-in_err-write_line-2-clause-within
returns-in_err-write_line-2-clause-within g c =
    within_on _ c.in_err-write_line-2.field-0.0 c.from_residual-in_err-write_line-2.result c.from_residual-in_err-write_line-2.ensures
    (subst (λ (n : ℕ). c.in_err-write_line-2.field-0.0.0.0 < n) c.write_line.ensures.steady.size c.in_err-write_line-2.ensures.within)

pub returns-in_err-write_line-2-clause-rose : goal.returns-in_err-write_line-2-clause-rose
returns-in_err-write_line-2-clause-rose g c = rose_on _ _ c.from_residual-in_err-write_line-2.result (rose_since _ _ _ c.write_line.ensures.steady.later c.in_err-write_line-2.ensures.rose)

pub returns-in_err-write_line-2-clause-steady : goal.returns-in_err-write_line-2-clause-steady
returns-in_err-write_line-2-clause-steady g c =
    steady_both g.M.Media.size g.M.Media.state _ _ _ c.write_line.ensures.steady c.write_line-2.ensures.steady

pub returns-clause-done : goal.returns-clause-done
returns-clause-done g c =
    let a = c.args in
    let first = take a.most (put_ops (1, a.first.now)) in
    let second = take c.saturating_sub-most.result (put_ops (2, a.second.now)) in
    let magic = take c.saturating_sub-most-2.result (put_ops (0, a.magic.now)) in
    done_behind first (second ++ magic) (take a.most (word_puts a.magic.now a.first.now a.second.now)) _ _ _ c.write_line-3.result
    (words_front a.magic.now a.first.now a.second.now a.most c.saturating_sub-most.result c.saturating_sub-most-2.result c.saturating_sub-most.ensures
    c.saturating_sub-most-2.ensures) c.in_ok-write_line.ensures.done
    (done_behind second magic (second ++ magic) _ _ _ c.write_line-3.result refl c.in_ok-write_line-2.ensures.done c.write_line-3.ensures.done)

pub returns-clause-cut : goal.returns-clause-cut
returns-clause-cut g c =
    let a = c.args in
    let first = take a.most (put_ops (1, a.first.now)) in
    let second = take c.saturating_sub-most.result (put_ops (2, a.second.now)) in
    let magic = take c.saturating_sub-most-2.result (put_ops (0, a.magic.now)) in
    cut_behind first (second ++ magic) (take a.most (word_puts a.magic.now a.first.now a.second.now)) _ _ _ c.write_line-3.result
    (words_front a.magic.now a.first.now a.second.now a.most c.saturating_sub-most.result c.saturating_sub-most-2.result c.saturating_sub-most.ensures
    c.saturating_sub-most-2.ensures) c.in_ok-write_line.ensures.done
    (cut_behind second magic (second ++ magic) _ _ _ c.write_line-3.result refl c.in_ok-write_line-2.ensures.done c.write_line-3.ensures.cut)

pub returns-clause-others : goal.returns-clause-others
returns-clause-others g c line magic first second = c.write_line-3.ensures.others line magic ∙ c.write_line-2.ensures.others line second ∙ c.write_line.ensures.others line first

pub returns-clause-within : goal.returns-clause-within
returns-clause-within g c =
    subst (λ (n : ℕ). IfErr c.write_line-3.result (λ (at : FailedAt). at.0.0 < n)) (c.write_line-2.ensures.steady.size ∙ c.write_line.ensures.steady.size) c.write_line-3.ensures.within

pub returns-clause-rose : goal.returns-clause-rose
returns-clause-rose g c =
    rose_behind _ _ _ c.write_line-3.result c.write_line.ensures.steady.later (rose_behind _ _ _ c.write_line-3.result c.write_line-2.ensures.steady.later c.write_line-3.ensures.rose)

pub returns-clause-steady : goal.returns-clause-steady
returns-clause-steady g c =
    steady_both g.M.Media.size g.M.Media.state _ _ _ c.write_line.ensures.steady
    (steady_both g.M.Media.size g.M.Media.state _ _ _ c.write_line-2.ensures.steady c.write_line-3.ensures.steady)

pub write_line-requires-2 : goal.write_line-requires-2
write_line-requires-2 g c = record {
  within = omega (arith, c.requires.within, c.write_line.ensures.steady.size);
  room = λ lacks. omega (arith, c.requires.room, c.write_line.ensures.held_spare c.requires.prefix);
}

pub write_line-requires-3 : goal.write_line-requires-3
write_line-requires-3 g c = record {
  within = omega (arith, c.requires.within, c.write_line.ensures.steady.size, c.write_line-2.ensures.steady.size);
  room = λ lacks. omega (
    arith,
    c.requires.room,
    c.write_line.ensures.held_spare c.requires.prefix,
    c.write_line-2.ensures.held_spare (subst (λ (copy : Cell). IsHeld copy) (sym (c.write_line.ensures.others 2 (omega arith))) c.requires.rest),
  );
}
