-- A command that runs alone: what it settles.
use Rattle.std.specs.Prelude.{ℕ, List, Option}
use Rattle.fam_base.specs.declared.cmd.Cmd.{Cmd}
use Rattle.fam_base.specs.Image.{Image}
use Rattle.fam_machine.specs.Caches.{Cache}
use Rattle.fam_machine.specs.Operations.{Machine}
use Rattle.fam_commands.specs.Kept.{Kept}
use Rattle.fam_commands.specs.Solo.{SoloRun, starts, goes, turn_on}
use Rattle.fam_commands.specs.Task.{Task}
use Rattle.fam_protocol.specs.Steps.{turn_settles}
use Rattle.fam_protocol.specs.Invariant.{Settled}

-- what is settled where a command has come to, of what was settled at first
abbrev pub settles_up_to : (kept : Option Kept) (cmd : Cmd) (me : List ℕ) (image : Image) (cache : Cache) (t : Task) (words : List ℕ) (made : ℕ) (m : Machine) → SoloRun kept cmd me image cache t words made m → Settled → Settled
settles_up_to kept cmd me image cache t words made m starts first = first
settles_up_to kept cmd me image cache next _ _ _ (goes {t = t} {words = words} {made = made} {m = m} before inside is) first =
    turn_settles (turn_on t m) (settles_up_to kept cmd me image cache t words made m before first)
