-- A script's events are those of its lines.
use Rattle.std.proofs.Common.{◌≡◌, ℕ, List, refl}
use Rattle.fam_grammar.specs.Scripts.{events_in}
use Rattle.fam_mail_script.specs.Scripts.{mail_events, mail_line_reads}

-- the events of a script are those of its lines
pub script_is : (bytes : List ℕ) → mail_events bytes ≡ events_in mail_line_reads bytes
unfolding mail_events
script_is bytes = refl
