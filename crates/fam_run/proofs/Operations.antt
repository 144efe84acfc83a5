-- What comes of an operation, as the machine and the copies say it.
use Rattle.std.proofs.Common.{ℕ, ◌≡◌, Option, ap, subst, ◌∙◌}
use Rattle.fam_base.specs.Image.{Image}
use Rattle.fam_machine.specs.declared.op.Op.{Op}
use Rattle.fam_machine.specs.Caches.{Cache}
use Rattle.fam_machine.specs.Cuts.{IsMachine}
use Rattle.fam_machine.specs.Operations.{machine, operated, given}
use Rattle.fam_cache.specs.Operations.{word_of}
use Rattle.fam_commands.specs.Task.{Task, op_of}
use Rattle.fam_commands.specs.Turns.{turn_of}
use Rattle.fam_media.specs.Outside.{IfModelled}
use Rattle.fam_tasks.specs.declared.answer.Turn.{Turn}
use Rattle.fam_tasks.specs.Tells.{Tells}
use Rattle.fam_run.specs.Operation.{GoesOn, HasTurned}

-- an operation that was done, and whose word the task was told
pub turned : (task new : Task) (op : Op) (word : Option ℕ) (turn : Turn) (modelled left : Option Image) (old held : Cache) → op ≡ op_of task
    → IfModelled modelled (λ image. IsMachine (operated op (machine image old)) left held)
    → IfModelled modelled (λ image. word ≡ given op (machine image old)) → Tells (turn_of task word) turn new
    → IfModelled modelled (λ image. HasTurned task (machine image old) turn new left held)
turned task new op word turn modelled left old held is done gives tells image modelled_is = record {
  is = subst (λ (o : Op). IsMachine (operated o (machine image old)) left held) is (done image modelled_is);
  tells = subst (λ (w : Option ℕ). Tells (turn_of task w) turn new) (gives image modelled_is ∙ ap (λ (o : Op). given o (machine image old)) is) tells;
}

-- over any media
pub goes_by_word : (task new : Task) (op : Op) (word : Option ℕ) (turn : Turn) (held : Cache) → op ≡ op_of task → word ≡ word_of op held
    → Tells (turn_of task word) turn new → GoesOn task held turn new
goes_by_word task new op word turn held is gives tells =
    subst (λ (w : Option ℕ). Tells (turn_of task w) turn new) (gives ∙ ap (λ (o : Op). word_of o held) is) tells
