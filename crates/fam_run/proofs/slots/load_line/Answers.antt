use Rattle.std.proofs.Common.{◌≡◌, ◌<◌, ℕ, Err, ap, subst}
use Rattle.fam_base.specs.Image.{eight, line_at}
use Rattle.fam_machine.specs.declared.cell.Cell.TheVariants.{Clean}
use Rattle.fam_machine.specs.Caches.{cell_at, with_cell}
use Rattle.fam_machine.specs.OneLine.{IsDirty}
use Rattle.fam_media.specs.Outside.{IfModelled}
use Rattle.fam_run.proofs.Matched.{of_some}
use Rattle.fam_run.proofs.Renewed.{line_unread}
use Rattle.fam_run.proofs.SlotLines.{slot_line_read}
use Rattle.fam_run.proofs.slots.load_line.Goals as goal

pub returns-in-Ok-Some-clause-loaded : goal.returns-in-Ok-Some-clause-loaded
returns-in-Ok-Some-clause-loaded g c = λ _.
    let b = c.in-Ok-Some in
    let line = c.line_of_slot_due-line.result in
    let clean : ¬ (IsDirty (cell_at c.args.cache.now.lines line.0)) = of_some b.field-0 b.words _ b.field-0-is b.ensures.clean in
    let words : IfModelled (g.M.Media.state c.args.media.now).image (λ image. eight b.words ≡ line_at image line.0) = of_some b.field-0 b.words _ b.field-0-is b.ensures.words in
    let copy : c.renew_line.new.self.lines ≡ with_cell line.0 (Clean (eight b.words)) c.args.cache.now.lines = of_some b.field-0 b.words _ b.field-0-is b.ensures.cache in
    slot_line_read line b.words c.args.task.now c.load_line_of_slot.new.self (g.M.Media.state c.args.media.now).image
    (g.M.Media.state c.renew_line.new.media).image c.args.cache.now.lines c.renew_line.new.self.lines
    (g.M.Media.size c.args.media.now) (g.M.Media.state c.args.media.now).faults (g.M.Media.state c.renew_line.new.media).faults
    (g.met.M.Media.normal c.args.media.now) c.is_sound.ensures c.load_line_of_slot.ensures.loads clean words copy b.ensures.image

pub returns-in-Err-Failed-clause-failed : goal.returns-in-Err-Failed-clause-failed
returns-in-Err-Failed-clause-failed g c =
    let f = c.in-Err-Failed.ensures in
    let is = ap Err c.in-Err-Failed.field-0-is in
    let line = c.line_of_slot_due-line.result in
    let within : line.0 < g.M.Media.size c.args.media.now = subst (λ (n : ℕ). line.0 < n) c.requires.lines c.line_of_slot_due-line.ensures.within in
    line_unread line c.args.task.now c.drop_line_of_slot.new.self (g.M.Media.state c.args.media.now).image c.args.cache.now.lines
    (g.met.M.Media.normal c.args.media.now) c.is_sound.ensures c.drop_line_of_slot.ensures (f.failed_clean is) c.is_sound-in-Err-Failed.ensures
    _ _ _ c.renew_line.new.self.lines (g.M.Media.state c.renew_line.new.media).image f.image (f.failed_lines is) (f.failed is) within

pub returns-in-Ok-None-clause-image : goal.returns-in-Ok-None-clause-image
returns-in-Ok-None-clause-image g c = c.renew_line.ensures.image

pub returns-in-Ok-None-clause-steady : goal.returns-in-Ok-None-clause-steady
returns-in-Ok-None-clause-steady g c = c.renew_line.ensures.steady

pub returns-in-Ok-Some-clause-image : goal.returns-in-Ok-Some-clause-image
returns-in-Ok-Some-clause-image g c = c.renew_line.ensures.image

pub returns-in-Ok-Some-clause-steady : goal.returns-in-Ok-Some-clause-steady
returns-in-Ok-Some-clause-steady g c = c.renew_line.ensures.steady

pub returns-in-Err-Failed-clause-image : goal.returns-in-Err-Failed-clause-image
returns-in-Err-Failed-clause-image g c = c.renew_line.ensures.image

pub returns-in-Err-Failed-clause-steady : goal.returns-in-Err-Failed-clause-steady
returns-in-Err-Failed-clause-steady g c = c.renew_line.ensures.steady

pub returns-in-Err-OutOfMemory-clause-image : goal.returns-in-Err-OutOfMemory-clause-image
returns-in-Err-OutOfMemory-clause-image g c = c.renew_line.ensures.image

pub returns-in-Err-OutOfMemory-clause-steady : goal.returns-in-Err-OutOfMemory-clause-steady
returns-in-Err-OutOfMemory-clause-steady g c = c.renew_line.ensures.steady
