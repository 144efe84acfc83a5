use Rattle.std.proofs.Common.{◌≡◌, ◌<◌, ℕ, Err, refl, ap, subst}
use Rattle.fam_base.specs.Image.{eight, line_at}
use Rattle.fam_machine.specs.declared.cell.Cell.TheVariants.{Clean}
use Rattle.fam_machine.specs.Caches.{cell_at, with_cell}
use Rattle.fam_machine.specs.OneLine.{IsDirty}
use Rattle.fam_cache.specs.States.{CacheState}
use Rattle.fam_media.specs.Outside.{IfModelled}
use Rattle.fam_run.specs.Operation.{said_of}
use Rattle.fam_run.specs.TaskChange.{TaskChange, task_change}
use Rattle.fam_run.proofs.Matched.{line_matched, of_some}
use Rattle.fam_run.proofs.Operated.{alone, from_same}
use Rattle.fam_run.proofs.Renewed.{line_unread}
use Rattle.fam_run.proofs.comparing.compare_line.Goals as goal

pub returns-in-Ok-Some-clause-advanced : goal.returns-in-Ok-Some-clause-advanced
returns-in-Ok-Some-clause-advanced g c =
    let b = c.in-Ok-Some in
    let line = c.args.line in
    let clean : ¬ (IsDirty (cell_at c.args.cache.now.lines line.0)) = of_some b.field-0 b.words _ b.field-0-is b.ensures.clean in
    let words : IfModelled (g.M.Media.state c.args.media.now).image (λ image. eight b.words ≡ line_at image line.0) = of_some b.field-0 b.words _ b.field-0-is b.ensures.words in
    let copy : c.renew_line.new.self.lines ≡ with_cell line.0 (Clean (eight b.words)) c.args.cache.now.lines = of_some b.field-0 b.words _ b.field-0-is b.ensures.cache in
    line_matched line b.words c.args.task.now c.compare_whole.new.self c.compare_whole.new.turn (g.M.Media.state c.args.media.now).image
    c.args.cache.now.lines (g.met.M.Media.normal c.args.media.now) c.is_sound.ensures c.compare_whole.ensures clean words
    _ _ _ c.renew_line.new.self.lines (g.M.Media.state c.renew_line.new.media).image b.ensures.image copy

pub returns-in-Err-Failed-clause-advanced : goal.returns-in-Err-Failed-clause-advanced
returns-in-Err-Failed-clause-advanced g c =
    let f = c.in-Err-Failed.ensures in
    let is = ap Err c.in-Err-Failed.field-0-is in
    let within : c.args.line.0 < g.M.Media.size c.args.media.now = subst (λ (n : ℕ). c.args.line.0 < n) c.requires.lines c.drop_compared.ensures.within in
    line_unread c.args.line c.args.task.now c.drop_compared.new.self (g.M.Media.state c.args.media.now).image c.args.cache.now.lines
    (g.met.M.Media.normal c.args.media.now) c.is_sound.ensures c.drop_compared.ensures (f.failed_clean is) c.is_sound-in-Err-Failed.ensures
    _ _ _ c.renew_line.new.self.lines (g.M.Media.state c.renew_line.new.media).image f.image (f.failed_lines is) (f.failed is) within

pub returns-in-Ok-None-clause-advanced : goal.returns-in-Ok-None-clause-advanced
returns-in-Ok-None-clause-advanced g c =
    let m = g.M.Media in
    let b = c.in-Ok-None in
    let a : TaskChange = task_change m.size m.state c.args.task.now c.operate.new.task c.args.cache.now c.operate.new.cache c.args.media.now c.operate.new.media in
    let cache : c.renew_line.new.self ≡ c.args.cache.now = b.ensures.other b.field-0-is in
    let media : c.renew_line.new.media ≡ c.args.media.now = b.ensures.same b.field-0-is in
    from_same a (said_of c.operate.result c.operate.new.turn) c.args.task.now c.renew_line.new.self.lines (m.state c.renew_line.new.media)
    (m.size c.renew_line.new.media) refl (ap (λ (s : CacheState). s.lines) cache) (ap m.state media) (ap m.size media)
    (alone (record a {
      task = c.args.task.now;
      old = c.renew_line.new.self.lines;
      lines = m.size c.renew_line.new.media;
      media =
          record { old = m.state c.renew_line.new.media; new = a.media.new };
    }) (said_of c.operate.result c.operate.new.turn)
    c.operate.ensures.operated)

pub returns-in-Ok-Some-clause-steady : goal.returns-in-Ok-Some-clause-steady
returns-in-Ok-Some-clause-steady g c = c.renew_line.ensures.steady

pub returns-in-Err-Failed-clause-steady : goal.returns-in-Err-Failed-clause-steady
returns-in-Err-Failed-clause-steady g c = c.renew_line.ensures.steady

pub returns-in-Err-OutOfMemory-clause-steady : goal.returns-in-Err-OutOfMemory-clause-steady
returns-in-Err-OutOfMemory-clause-steady g c = c.renew_line.ensures.steady
