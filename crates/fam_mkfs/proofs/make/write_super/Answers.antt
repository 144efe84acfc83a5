use Rattle.std.proofs.Common.{◌-◌, ◌++◌, take, ◌∙◌, refl, sym, subst, arith, ℕ, ◌<◌}
use Rattle.std.specs.Prelude.{IfErr}
use Rattle.fam_rules.specs.Written.{zero_line}
use Rattle.fam_machine.specs.declared.cell.Cell.{Cell}
use Rattle.fam_machine.specs.Mkfs.{put_ops, write_ops}
use Rattle.fam_machine.specs.OneLine.{IsHeld}
use Rattle.fam_cache.proofs.Runs.{cut_as, cut_first, cut_second}
use Rattle.fam_mkfs.specs.Parts.{header_puts, word_puts}
use Rattle.fam_mkfs.specs.declared.lines.FailedAt.{FailedAt}
use Rattle.fam_mkfs.proofs.Ending.{rose_since}
use Rattle.fam_mkfs.proofs.SuperPuts.{Spelled, all_front, element}
use Rattle.fam_mkfs.proofs.WholeLines.{cut_behind, cut_on, done_behind, none_done, rose_behind, rose_on, steady_both, within_on}
use Rattle.fam_mkfs.proofs.make.write_super.Goals as goal

pub returns-in_err-write_line-clause-done : goal.returns-in_err-write_line-clause-done
returns-in_err-write_line-clause-done g c = none_done _ c.from_residual.result c.from_residual.ensures.0

pub returns-in_err-write_line-clause-cut : goal.returns-in_err-write_line-clause-cut
returns-in_err-write_line-clause-cut g c =
    let p = c.args.params.now in
    let lines = c.spell.result in
    let header = c.spell_log-header.result in
    let most = c.args.most in
    let spelled : Spelled p lines header = record { magic = c.spell.ensures.magic; words = c.spell.ensures.words; log = c.spell_log-header.ensures } in
    cut_on (take most (write_ops p)) _ _ c.in_err-write_line.field-0.0 c.from_residual.result c.from_residual.ensures
    (cut_as _ _ _ _ _ (all_front p lines header most (most - 9) (most - 9 - 18) refl refl spelled)
    (cut_first (take most (put_ops (0, zero_line)))
    (take (most - 9) (header_puts header) ++ take (most - 9 - 18) (word_puts (element lines 0) (element lines 1) (element lines 2))) _ _ _
    c.in_err-write_line.ensures.cut))

pub returns-in_err-write_line-clause-others : goal.returns-in_err-write_line-clause-others
returns-in_err-write_line-clause-others g c line elsewhere = c.write_line.ensures.others line elsewhere.magic

pub returns-in_err-write_line-clause-within : goal.returns-in_err-write_line-clause-within
returns-in_err-write_line-clause-within g c = within_on _ c.in_err-write_line.field-0.0 c.from_residual.result c.from_residual.ensures c.in_err-write_line.ensures.within

pub returns-in_err-write_line-clause-rose : goal.returns-in_err-write_line-clause-rose
returns-in_err-write_line-clause-rose g c = rose_on _ _ c.from_residual.result c.in_err-write_line.ensures.rose

pub returns-in_err-write_line-clause-steady : goal.returns-in_err-write_line-clause-steady
returns-in_err-write_line-clause-steady g c = c.write_line.ensures.steady

pub write_header-requires : goal.write_header-requires
write_header-requires g c = record {
  within = omega (arith, c.requires.within, c.write_line.ensures.steady.size);
  room = omega (arith, c.requires.room, c.write_line.ensures.spare);
}

pub returns-in_err-write_header-clause-done : goal.returns-in_err-write_header-clause-done
returns-in_err-write_header-clause-done g c = none_done _ c.from_residual-in_err-write_header.result c.from_residual-in_err-write_header.ensures.0

pub returns-in_err-write_header-clause-cut : goal.returns-in_err-write_header-clause-cut
returns-in_err-write_header-clause-cut g c =
    let p = c.args.params.now in
    let lines = c.spell.result in
    let header = c.spell_log-header.result in
    let most = c.saturating_sub-most.result in
    let second = take most (header_puts header) in
    let third = take (most - 18) (word_puts (element lines 0) (element lines 1) (element lines 2)) in
    let spelled : Spelled p lines header = record { magic = c.spell.ensures.magic; words = c.spell.ensures.words; log = c.spell_log-header.ensures } in
    cut_on (take c.args.most (write_ops p)) _ _ c.in_err-write_header.field-0.0 c.from_residual-in_err-write_header.result c.from_residual-in_err-write_header.ensures
    (cut_as _ _ _ _ _ (all_front p lines header c.args.most most (most - 18) c.saturating_sub-most.ensures refl spelled)
    (cut_second (take c.args.most (put_ops (0, zero_line))) (second ++ third) _ _ _ _ c.in_ok-write_line.ensures.done (cut_first second third _ _ _ c.in_err-write_header.ensures.cut)))

pub returns-in_err-write_header-clause-others : goal.returns-in_err-write_header-clause-others
returns-in_err-write_header-clause-others g c line elsewhere = c.write_header.ensures.others line elsewhere.gate elsewhere.log ∙ c.write_line.ensures.others line elsewhere.magic

pub returns-in_err-write_header-clause-within : goal.returns-in_err-write_header-clause-within
returns-in_err-write_header-clause-within g c =
    within_on _ c.in_err-write_header.field-0.0 c.from_residual-in_err-write_header.result c.from_residual-in_err-write_header.ensures
    (subst (λ (n : ℕ). c.in_err-write_header.field-0.0.0.0 < n) c.write_line.ensures.steady.size c.in_err-write_header.ensures.within)

pub returns-in_err-write_header-clause-rose : goal.returns-in_err-write_header-clause-rose
returns-in_err-write_header-clause-rose g c = rose_on _ _ c.from_residual-in_err-write_header.result (rose_since _ _ _ c.write_line.ensures.steady.later c.in_err-write_header.ensures.rose)

pub returns-in_err-write_header-clause-steady : goal.returns-in_err-write_header-clause-steady
returns-in_err-write_header-clause-steady g c =
    steady_both g.M.Media.size g.M.Media.state _ _ _ c.write_line.ensures.steady c.write_header.ensures.steady

pub write_words-requires : goal.write_words-requires
write_words-requires g c =
    let kept = c.write_line.ensures.others in
    let left = c.write_header.ensures.others in
    record {
      within = omega (arith, c.requires.within, c.write_line.ensures.steady.size, c.write_header.ensures.steady.size);
      prefix = subst (λ (copy : Cell). IsHeld copy) (sym (left 1 (omega arith) (omega arith) ∙ kept 1 (omega arith))) c.requires.held.prefix;
      rest = subst (λ (copy : Cell). IsHeld copy) (sym (left 2 (omega arith) (omega arith) ∙ kept 2 (omega arith))) c.requires.held.rest;
      room = omega (arith, c.requires.room, c.write_line.ensures.held_spare c.requires.held.magic, c.write_header.ensures.spare);
    }

pub returns-clause-done : goal.returns-clause-done
returns-clause-done g c =
    let p = c.args.params.now in
    let lines = c.spell.result in
    let header = c.spell_log-header.result in
    let most = c.saturating_sub-most.result in
    let left = c.saturating_sub-most-2.result in
    let second = take most (header_puts header) in
    let third = take left (word_puts (element lines 0) (element lines 1) (element lines 2)) in
    let spelled : Spelled p lines header = record { magic = c.spell.ensures.magic; words = c.spell.ensures.words; log = c.spell_log-header.ensures } in
    done_behind (take c.args.most (put_ops (0, zero_line))) (second ++ third) (take c.args.most (write_ops p)) _ _ _ c.write_words.result
    (all_front p lines header c.args.most most left c.saturating_sub-most.ensures c.saturating_sub-most-2.ensures spelled) c.in_ok-write_line.ensures.done
    (done_behind second third (second ++ third) _ _ _ c.write_words.result refl c.in_ok-write_header.ensures.done c.write_words.ensures.done)

pub returns-clause-cut : goal.returns-clause-cut
returns-clause-cut g c =
    let p = c.args.params.now in
    let lines = c.spell.result in
    let header = c.spell_log-header.result in
    let most = c.saturating_sub-most.result in
    let left = c.saturating_sub-most-2.result in
    let second = take most (header_puts header) in
    let third = take left (word_puts (element lines 0) (element lines 1) (element lines 2)) in
    let spelled : Spelled p lines header = record { magic = c.spell.ensures.magic; words = c.spell.ensures.words; log = c.spell_log-header.ensures } in
    cut_behind (take c.args.most (put_ops (0, zero_line))) (second ++ third) (take c.args.most (write_ops p)) _ _ _ c.write_words.result
    (all_front p lines header c.args.most most left c.saturating_sub-most.ensures c.saturating_sub-most-2.ensures spelled) c.in_ok-write_line.ensures.done
    (cut_behind second third (second ++ third) _ _ _ c.write_words.result refl c.in_ok-write_header.ensures.done c.write_words.ensures.cut)

pub returns-clause-others : goal.returns-clause-others
returns-clause-others g c line elsewhere =
    c.write_words.ensures.others line elsewhere.magic elsewhere.prefix elsewhere.rest
    ∙ c.write_header.ensures.others line elsewhere.gate elsewhere.log ∙ c.write_line.ensures.others line elsewhere.magic

pub returns-clause-within : goal.returns-clause-within
returns-clause-within g c =
    subst (λ (n : ℕ). IfErr c.write_words.result (λ (at : FailedAt). at.0.0 < n)) (c.write_header.ensures.steady.size ∙ c.write_line.ensures.steady.size) c.write_words.ensures.within

pub returns-clause-rose : goal.returns-clause-rose
returns-clause-rose g c =
    rose_behind _ _ _ c.write_words.result c.write_line.ensures.steady.later (rose_behind _ _ _ c.write_words.result c.write_header.ensures.steady.later c.write_words.ensures.rose)

pub returns-clause-steady : goal.returns-clause-steady
returns-clause-steady g c =
    steady_both g.M.Media.size g.M.Media.state _ _ _ c.write_line.ensures.steady
    (steady_both g.M.Media.size g.M.Media.state _ _ _ c.write_header.ensures.steady c.write_words.ensures.steady)
