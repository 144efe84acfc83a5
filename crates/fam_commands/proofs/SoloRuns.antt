-- A command that runs alone, as a run of operations.
use Rattle.std.proofs.Common.{ℕ, ◌≡◌, ◌+◌, List, [], ◌∷◌, length, Option, refl, sym, ap, ◌∙◌, length-append}
use Rattle.fam_base.specs.declared.cmd.Cmd.{Cmd}
use Rattle.fam_base.specs.Image.{Image}
use Rattle.fam_machine.specs.Caches.{Cache}
use Rattle.fam_machine.specs.Operations.{Machine, machine, operated, operated_all}
use Rattle.fam_machine.proofs.LinePuts.{operated_all-append}
use Rattle.fam_commands.specs.Kept.{Kept}
use Rattle.fam_commands.specs.Solo.{SoloRun, starts, goes}
use Rattle.fam_commands.specs.SoloOps.{ops_up_to}
use Rattle.fam_commands.specs.Task.{Task, op_of}

pub ran_leaves : (kept : Option Kept) (cmd : Cmd) (me : List ℕ) (image : Image) (cache : Cache) (t : Task) (words : List ℕ) (made : ℕ) (m : Machine)
    (ran : SoloRun kept cmd me image cache t words made m)
    → m ≡ operated_all (ops_up_to kept cmd me image cache t words made m ran) (machine image cache)
ran_leaves kept cmd me image cache t words made m starts = refl
ran_leaves kept cmd me image cache next _ _ _ (goes {t = t} {words = words} {made = made} {m = m} before inside is) =
    ap (operated (op_of t)) (ran_leaves kept cmd me image cache t words made m before)
    ∙ sym (operated_all-append (ops_up_to kept cmd me image cache t words made m before) (op_of t ∷ []) (machine image cache))

pub ran_count : (kept : Option Kept) (cmd : Cmd) (me : List ℕ) (image : Image) (cache : Cache) (t : Task) (words : List ℕ) (made : ℕ) (m : Machine)
    (ran : SoloRun kept cmd me image cache t words made m) → length (ops_up_to kept cmd me image cache t words made m ran) ≡ made
ran_count kept cmd me image cache t words made m starts = refl
ran_count kept cmd me image cache next _ _ _ (goes {t = t} {words = words} {made = made} {m = m} before inside is) =
    length-append (ops_up_to kept cmd me image cache t words made m before) (op_of t ∷ []) ∙ ap (λ (n : ℕ). n + 1) (ran_count kept cmd me image cache t words made m before)
