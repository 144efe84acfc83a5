-- Lines that a task sends one behind another: it is on an image of as many lines, and has no more to do than before.
use Rattle.std.proofs.Common.{◌≡◌, ◌≤◌, Option, refl, ◌∙◌, arith}
use Rattle.fam_base.specs.Image.{Image}
use Rattle.fam_machine.specs.Caches.{Cache}
use Rattle.fam_commands.specs.Task.{Task}
use Rattle.fam_tasks.specs.declared.answer.Turn.TheVariants.{Go}
use Rattle.fam_run.specs.Runs.{Sent}
use Rattle.fam_run.specs.Runs as run
use Rattle.fam_run.proofs.Led.{led_left, led_lines}
use Rattle.fam_run.proofs.Left.{left}
use Rattle.fam_run.proofs.Running.{kept_on}

pub sent_lines : (told last : Option Image) (t next : Task) (held after : Cache) → Sent told t held last next after → next.lines ≡ t.lines
sent_lines told _ t _ held _ run.none = refl
sent_lines told last t next held after (run.more {mid = mid} {here = here} {now = now} first one) =
    let x = one.done 0 0 in
    (kept_on after x.task next Go refl x.sound x.goes).lines ∙ led_lines mid here x.task now x.held x.led ∙ sent_lines told mid t here held now first

pub sent_left : (told last : Option Image) (t next : Task) (held after : Cache) → Sent told t held last next after → left next ≤ left t
sent_left told _ t _ held _ run.none = omega arith
sent_left told last t next held after (run.more {mid = mid} {here = here} {now = now} first one) =
    let x = one.done 0 0 in
    let fell = (kept_on after x.task next Go refl x.sound x.goes).falls one.sound.stands in
    let up_to = led_left mid here x.task now x.held x.led x.sound in
    let before = sent_left told mid t here held now first in
    omega (arith, fell, up_to, before)
