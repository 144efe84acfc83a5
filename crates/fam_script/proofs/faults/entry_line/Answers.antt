use Rattle.std.proofs.Common.{◌≡◌, string_bytes}
use Rattle.fam_outcomes.specs.Texts.{reason_text}
use Rattle.fam_script.proofs.faults.entry_line.Goals as goal

pub returns-in-Ok : goal.returns-in-Ok
returns-in-Ok c =
    let why : string_bytes c.in-Ok.why ≡ reason_text c.args.reason = c.in-Ok.ensures in
    rw (← why) (c.line_of.ensures _ c.format.ensures.ok)
