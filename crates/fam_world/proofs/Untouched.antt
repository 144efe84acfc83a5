-- A call that isn't refused may ask of the media what it likes.
use Rattle.std.proofs.Common.{◌≡◌, ℕ, Some, None, sym, ap, ◌∙◌}
use Rattle.fam_journal.specs.ByWorld.{refusal_in}
use Rattle.fam_journal.specs.Calls.{Call}
use Rattle.fam_journal.specs.View.{WorldView}
use Rattle.fam_world.specs.Answers.{IsFree, IsUntouched}

pub none_refused : {M : Type 0} (c : Call) (lines : ℕ) (old world : WorldView) (before behind : M) → refusal_in c old lines ≡ None → old ≡ world → IsUntouched c lines world before behind
none_refused c lines old world before behind none same =
    λ cause is. absurd (let bad : None ≡ Some cause = sym none ∙ ap (λ (w : WorldView). refusal_in c w lines) same ∙ is in cc)

pub free_untouched : {M : Type 0} (c : Call) (lines at : ℕ) (old world : WorldView) (before behind : M) → IsFree c lines old at → old ≡ world → IsUntouched c lines world before behind
free_untouched c lines at old world before behind free same = none_refused c lines old world before behind free.free same
