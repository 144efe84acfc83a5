use Rattle.std.proofs.Common.{◌≡◌, ◌≢◌, ◌<◌, ℕ, Some}
use Rattle.std.specs.Prelude.{slice_get}
use Rattle.fam_journal.specs.Past.{Damage}
use Rattle.fam_judging.specs.declared.candidate.Candidate.{Candidate}
use Rattle.fam_judging.specs.ReplyKinds.{damage_in}
use Rattle.fam_causes.specs.Differing.{damage_of}
use Rattle.fam_causes.proofs.damages.is_other_damage.Given as goal

abbrev pub invariant-candidates : goal.invariant-candidates
invariant-candidates l = (d : Damage) → damage_of l.answer ≡ Some d → (k : ℕ) (c : Candidate) → k < l.i → slice_get l.candidates.items k ≡ Some c → damage_in l.given c.settled ≢ Some d
