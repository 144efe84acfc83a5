-- What the words of the header tell, once its last one was loaded.
use Rattle.std.proofs.Common.{◌≡◌, ℕ, List, [], ◌∷◌, ◌++◌, length, length-append, slice_range, Option, ap, subst, ◌∙◌, arith}
use Rattle.fam_format.specs.declared.faults.LogFault.{LogFault}
use Rattle.fam_format.specs.Log.{log_fault}
use Rattle.fam_commands.specs.declared.phase.Part.TheVariants.{Header}
use Rattle.fam_commands.specs.declared.phase.Phase.{Phase}
use Rattle.fam_commands.specs.declared.phase.Phase.TheVariants as at
use Rattle.fam_commands.specs.Task.{Task}
use Rattle.fam_tasks.specs.declared.task.Task.TheInside.{Inside}
use Rattle.fam_tasks.specs.Invariant.{IsTask}
use Rattle.fam_tasks.specs.Model.{task_of}
use Rattle.fam_tasks.specs.Sound.{IsSoundAt}
use Rattle.fam_tasks.proofs.Lines.{one_line}

-- the line that is read is all that the task holds
pub header_told : (t : Inside) (now : Task) (word : ℕ) (words line : List ℕ) (fault : Option LogFault) → IsTask t → task_of t ≡ now
    → now.phase ≡ at.Word Header 0 7 → words ≡ t.buffer ++ word ∷ [] → line ≡ slice_range words 0 8 → log_fault line t.params ≡ fault
    → log_fault (now.words ++ word ∷ []) now.params ≡ fault
header_told t now word words line fault task view loaded pushed is told =
    let phase : t.phase ≡ at.Word Header 0 7 = ap (λ (u : Task). u.phase) view ∙ loaded in
    let stands : IsSoundAt (at.Word Header 0 7) (task_of t) = subst (λ (p : Phase). IsSoundAt p (task_of t)) phase task.sound.stands in
    let count : length words ≡ 8 = omega (arith, ap length pushed, length-append t.buffer (word ∷ []), stands.2) in
    subst (λ (u : Task). log_fault (u.words ++ word ∷ []) u.params ≡ fault) view
    (subst (λ (l : List ℕ). log_fault l t.params ≡ fault) (one_line words line count is ∙ pushed) told)
