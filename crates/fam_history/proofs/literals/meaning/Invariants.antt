use Rattle.std.proofs.Common.{◌≡◌, drop}
use Rattle.fam_history.specs.Literals.{meaning_by}
use Rattle.fam_history.proofs.literals.meaning.Given as goal

abbrev pub invariant-loop-text : goal.invariant-loop-text
invariant-loop-text g l =
    meaning_by (drop l.text-index l.keywords) (λ keyword. keyword.0.now) (λ keyword. keyword.1) l.word ≡ meaning_by l.keywords (λ keyword. keyword.0.now) (λ keyword. keyword.1) l.word
