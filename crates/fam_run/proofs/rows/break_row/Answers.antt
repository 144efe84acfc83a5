use Rattle.std.proofs.Common.{◌≡◌, ◌+◌, ◌-◌, ◌∙◌, ℕ, List, drop, length, sym, ap, subst, arith}
use Rattle.std.proofs.lemmas.List.{length-drop, take_all}
use Rattle.fam_base.specs.declared.entry.Params.{Params}
use Rattle.fam_cache.specs.States.{CacheState}
use Rattle.fam_format.specs.Layout.{slot_line}
use Rattle.fam_tasks.specs.SlotLines.{LoadsSlotLines}
use Rattle.fam_run.proofs.SlotRuns.{slot_line_is}
use Rattle.fam_run.proofs.SlotRows.{broken_row, clean_next}
use Rattle.fam_run.proofs.rows.break_row.Goals as goal

pub drop_clean-requires : goal.drop_clean-requires
drop_clean-requires c =
    let mid = c.load_lines_of_slot.new.self in
    let line = c.line_of_slot_due-line.result in
    let rest = c.args.read - c.args.from in
    let is : line.0 ≡ c.args.due.first + rest =
    slot_line_is mid line c.args.due.slot c.args.due.first rest (c.load_lines_of_slot.ensures.next (omega (arith, c.requires.behind, c.requires.within)))
    (c.requires.first ∙ ap (λ (p : Params). slot_line p c.args.due.slot 0) (sym c.load_lines_of_slot.ensures.params)) c.line_of_slot_due-line.ensures in
    clean_next c.args.start c.args.lines.now c.args.read _ c.args.cache.now.lines c.renew_row.new.self.lines line.0 c.requires.clean c.requires.few
    (ap (λ (s : CacheState). s.lines) c.renew_row.ensures)
    (omega (arith, is, c.requires.place, c.requires.behind))

pub returns : goal.returns
returns c =
    let mid = c.load_lines_of_slot.new.self in
    let line = c.line_of_slot_due-line.result in
    let rest = c.args.read - c.args.from in
    let is : line.0 ≡ c.args.due.first + rest =
    slot_line_is mid line c.args.due.slot c.args.due.first rest (c.load_lines_of_slot.ensures.next (omega (arith, c.requires.behind, c.requires.within)))
    (c.requires.first ∙ ap (λ (p : Params). slot_line p c.args.due.slot 0) (sym c.load_lines_of_slot.ensures.params)) c.line_of_slot_due-line.ensures in
    broken_row c.args.start c.args.lines.now c.args.from c.args.read c.args.due.first line c.args.task.now mid c.drop_line_of_slot.new.self
    c.args.cache.now.lines c.renew_row.new.self.lines c.drop_clean.new.self.lines
    c.requires.place c.requires.behind
    (subst (λ (some : List (List ℕ)). LoadsSlotLines c.args.due.first some c.args.task.now mid rest)
    (take_all (length c.args.lines.now - c.args.from) (drop c.args.from c.args.lines.now)
    (omega (arith, length-drop c.args.from c.args.lines.now))) c.load_lines_of_slot.ensures.loads) c.is_sound.ensures c.drop_line_of_slot.ensures
    c.is_sound-2.ensures is
    (ap (λ (s : CacheState). s.lines) c.renew_row.ensures) (ap (λ (s : CacheState). s.lines) c.drop_clean.ensures)
