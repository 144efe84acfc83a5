use Rattle.std.proofs.Common.{◌≡◌, Err, ap, sym, subst, ◌∙◌, arith}
use Rattle.fam_base.specs.declared.entry.Params.{Params}
use Rattle.fam_cache.specs.States.{CacheState}
use Rattle.fam_format.specs.Layout.{geometry, slot_line}
use Rattle.fam_tasks.specs.declared.answer.Turn.{Turn}
use Rattle.fam_tasks.specs.declared.answer.Turn.TheVariants.{Go}
use Rattle.fam_run.specs.Led.{HasBrokenOff, HasDone}
use Rattle.fam_run.specs.Operation.{said_of}
use Rattle.fam_run.specs.TaskChange.{TaskChange, task_change}
use Rattle.fam_run.proofs.Come.{fault_at}
use Rattle.fam_run.proofs.Joined.{broken_behind, done_both, done_led}
use Rattle.fam_run.proofs.Led.{led_lines}
use Rattle.fam_run.proofs.Operated.{alone, from_same, to_same}
use Rattle.fam_run.proofs.slots.load_each.Goals as goal

-- src/slots.rt:93:15
pub load_line-requires-in-lines : goal.load_line-requires-in-lines
load_line-requires-in-lines g c =
    let m = g.M.Media in
    let inv = c.lines.invariant in
    let a : TaskChange = task_change m.size m.state c.args.task.now c.lines.task c.args.cache.now c.lines.cache c.args.media.now c.lines.media in
    record {
      lines = led_lines a.media.old.image a.task a.next a.old a.new (done_led a inv.image inv.done) ∙ c.requires.lines ∙ sym inv.steady.size;
      due = inv.phase (omega arith);
      count = c.requires.count ∙ ap (λ (p : Params). (geometry p).lines) (sym inv.params);
      first = c.requires.first ∙ ap (λ (p : Params). slot_line p c.args.due.slot 0) (sym inv.params);
    }

-- src/slots.rt:96:54
pub returns-in-Err-MediaFault-clause-advanced : goal.returns-in-Err-MediaFault-clause-advanced
returns-in-Err-MediaFault-clause-advanced g c =
    let m = g.M.Media in
    let inv = c.lines.invariant in
    let a : TaskChange = task_change m.size m.state c.args.task.now c.lines.task c.args.cache.now c.lines.cache c.args.media.now c.lines.media in
    let f = c.in-Err-MediaFault in
    let new = c.load_line-in-lines.new in
    rw f.field-0-is
    (broken_behind a inv.image inv.done new.task new.cache.lines (m.state new.media).image (m.state new.media).faults (m.size c.lines.media) (m.state c.lines.media).faults f.failed
    inv.steady.later inv.steady.size
    (fault_at f.field-0 f.failed (HasBrokenOff (task_change m.size m.state c.lines.task new.task c.lines.cache new.cache c.lines.media new.media)) f.field-0-is f.ensures.failed))

-- src/slots.rt:92:5
pub lines-preserved : goal.lines-preserved
lines-preserved g c =
    let m = g.M.Media in
    let inv = c.lines.invariant in
    let a : TaskChange = task_change m.size m.state c.args.task.now c.lines.task c.args.cache.now c.lines.cache c.args.media.now c.lines.media in
    let r = c.in-Ok-true-load_line in
    let new = c.load_line-in-lines.new in
    let all = c.load_line-in-lines.ensures in
    record {
      done = done_both a inv.image inv.done new.task new.cache.lines (m.state new.media).image (m.state new.media).faults (m.size c.lines.media) (m.state c.lines.media).faults
          (all.image ∙ inv.image) (r.ensures.loaded r.field-0-test);
      phase = λ below. r.ensures.next r.field-0-test below;
      params = r.ensures.params r.field-0-test ∙ inv.params;
      image = all.image ∙ inv.image;
      steady = record { size = all.steady.size ∙ inv.steady.size; later = omega (arith, inv.steady.later, all.steady.later) };
    }

pub returns-in-Ok-false-clause-advanced : goal.returns-in-Ok-false-clause-advanced
returns-in-Ok-false-clause-advanced g c =
    let m = g.M.Media in
    let b = c.in-Ok-false in
    let a : TaskChange = task_change m.size m.state c.args.task.now c.operate.new.task c.args.cache.now c.operate.new.cache c.args.media.now c.operate.new.media in
    let cache : c.load_line.new.cache ≡ c.args.cache.now = b.ensures.other_cache b.field-0-test in
    let media : c.load_line.new.media ≡ c.args.media.now = b.ensures.other b.field-0-test in
    from_same a (said_of c.operate.result c.operate.new.turn) c.load_line.new.task c.load_line.new.cache.lines (m.state c.load_line.new.media)
    (m.size c.load_line.new.media) (b.ensures.other_task b.field-0-test) (ap (λ (s : CacheState). s.lines) cache) (ap m.state media)
    (ap m.size media)
    (alone (record a {
      task = c.load_line.new.task;
      old = c.load_line.new.cache.lines;
      lines = m.size c.load_line.new.media;
      media =
          record { old = m.state c.load_line.new.media; new = a.media.new };
    }) (said_of c.operate.result c.operate.new.turn) c.operate.ensures.operated)

pub returns-in-Ok-false-load_line-clause-advanced : goal.returns-in-Ok-false-load_line-clause-advanced
returns-in-Ok-false-load_line-clause-advanced g c =
    let m = g.M.Media in
    let b = c.in-Ok-false-load_line in
    let new = c.load_line-in-lines.new in
    let a : TaskChange = task_change m.size m.state c.args.task.now c.lines.task c.args.cache.now c.lines.cache c.args.media.now c.lines.media in
    let cache : new.cache ≡ c.lines.cache = b.ensures.other_cache b.field-0-test in
    let media : new.media ≡ c.lines.media = b.ensures.other b.field-0-test in
    subst (λ (said : Turn). HasDone (task_change m.size m.state c.args.task.now new.task c.args.cache.now new.cache c.args.media.now new.media) said) (sym c.requires.go)
    (to_same a Go new.task new.cache.lines (m.state new.media) (b.ensures.other_task b.field-0-test) (ap (λ (s : CacheState). s.lines) cache) (ap m.state media) c.lines.invariant.done)

pub returns-in-Err-OutOfMemory-clause-advanced : goal.returns-in-Err-OutOfMemory-clause-advanced
returns-in-Err-OutOfMemory-clause-advanced g c =
    let m = g.M.Media in
    let b = c.in-Err-OutOfMemory in
    let full = ap Err b.field-0-is in
    let new = c.load_line-in-lines.new in
    let a : TaskChange = task_change m.size m.state c.args.task.now c.lines.task c.args.cache.now c.lines.cache c.args.media.now c.lines.media in
    let cache : new.cache ≡ c.lines.cache = b.ensures.unchanged full in
    let media : new.media ≡ c.lines.media = b.ensures.undone full in
    subst (λ (said : Turn). HasDone (task_change m.size m.state c.args.task.now new.task c.args.cache.now new.cache c.args.media.now new.media) said) (sym c.requires.go)
    (to_same a Go new.task new.cache.lines (m.state new.media) (b.ensures.unmoved full) (ap (λ (s : CacheState). s.lines) cache) (ap m.state media) c.lines.invariant.done)

pub returns-clause-advanced : goal.returns-clause-advanced
returns-clause-advanced g c =
    let m = g.M.Media in
    subst (λ (said : Turn). HasDone
    (task_change m.size m.state c.args.task.now c.lines.task c.args.cache.now c.lines.cache c.args.media.now c.lines.media) said)
    (sym c.requires.go) c.lines.invariant.done
