use Rattle.std.proofs.Common.{◌≡◌, ℕ, ◌<◌, true, not, nat_eq, get_or, refl, arith}
use Rattle.std.proofs.lemmas.Bool.{OnTrue_from}
use Rattle.std.proofs.lemmas.Bool.Decides.{nat_tests}
use Rattle.fam_base.proofs.Eights.{each_of_eight}
use Rattle.fam_entry.proofs.fields.begin_without.Goals as goal

other : (byte mark : ℕ) → not (nat_eq byte mark) ≡ true → byte ≡ mark → ⊥
other byte mark test same = grind (arith, nat_tests)

pub returns-in-len8-up-clause-none : goal.returns-in-len8-up-clause-none
returns-in-len8-up-clause-none c =
    OnTrue_from _ ((k : ℕ) → k < 8 → get_or c.args.bytes.now k 0 ≡ c.args.mark → ⊥)
    (λ all k below. other _ c.args.mark
    (each_of_eight (λ (byte : ℕ). not (nat_eq byte c.args.mark)) c.args.bytes.now _ _ _ _ _ _ _ _ refl refl refl refl refl refl refl refl all k
    below))
