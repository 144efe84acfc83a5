-- Operations of a task that leave memory's image, one behind another.
use Rattle.std.proofs.Common.{◌≡◌, ◌≤◌, Option, refl, ◌∙◌, arith}
use Rattle.fam_base.specs.Image.{Image}
use Rattle.fam_machine.specs.Caches.{Cache}
use Rattle.fam_commands.specs.Task.{Task}
use Rattle.fam_tasks.specs.declared.answer.Turn.TheVariants.{Go}
use Rattle.fam_tasks.specs.Sound.{IsSound}
use Rattle.fam_run.specs.Led.{Led, none, more}
use Rattle.fam_run.proofs.Left.{left}
use Rattle.fam_run.proofs.Running.{kept_on}

pub led_lines : (modelled : Option Image) (t next : Task) (held after : Cache) → Led modelled t held next after → next.lines ≡ t.lines
led_lines modelled t _ held _ none = refl
led_lines modelled t next held after (more {mid = mid} {now = now} before quiet) =
    (kept_on after mid next Go refl quiet.sound quiet.goes).lines ∙ led_lines modelled t mid held now before

-- no more operations may come than before
pub led_left : (modelled : Option Image) (t next : Task) (held after : Cache) → Led modelled t held next after → IsSound next → left next ≤ left t
led_left modelled t _ held _ none sound_next = omega arith
led_left modelled t next held after (more {mid = mid} {now = now} before quiet) sound_next =
    let here = (kept_on after mid next Go refl quiet.sound quiet.goes).falls sound_next.stands in
    let up_to = led_left modelled t mid held now before quiet.sound in
    omega (arith, here, up_to)
