-- The operations of a command that runs alone, as a list.
use Rattle.std.specs.Prelude.{ℕ, List, [], ◌∷◌, ◌++◌, Option}
use Rattle.fam_base.specs.declared.cmd.Cmd.{Cmd}
use Rattle.fam_base.specs.Image.{Image}
use Rattle.fam_machine.specs.declared.op.Op.{Op}
use Rattle.fam_machine.specs.Caches.{Cache}
use Rattle.fam_machine.specs.Operations.{Machine}
use Rattle.fam_commands.specs.Kept.{Kept}
use Rattle.fam_commands.specs.Solo.{SoloRun, starts, goes}
use Rattle.fam_commands.specs.Task.{Task, op_of}

-- the operations up to where the command has come, in their order: each is that of the task which then stood there
abbrev pub ops_up_to : (kept : Option Kept) (cmd : Cmd) (me : List ℕ) (image : Image) (cache : Cache) (t : Task) (words : List ℕ) (made : ℕ) (m : Machine) → SoloRun kept cmd me image cache t words made m → List Op
ops_up_to kept cmd me image cache t words made m starts = []
ops_up_to kept cmd me image cache next _ _ _ (goes {t = t} {words = words} {made = made} {m = m} before inside is) = ops_up_to kept cmd me image cache t words made m before ++ op_of t ∷ []
