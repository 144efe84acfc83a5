use Rattle.std.proofs.Common.{◌≡◌, ℕ, ◌<◌, true, not, nat_eq, get_or, refl, arith}
use Rattle.std.proofs.lemmas.Bool.{OnTrue_from}
use Rattle.std.proofs.lemmas.Bool.Decides.{nat_tests}
use Rattle.fam_base.proofs.Eights.{each_of_eight}
use Rattle.fam_base.proofs.path.begin_in_name.Goals as goal

no_slash : (byte : ℕ) → not (nat_eq byte 47) ≡ true → byte ≡ 47 → ⊥
no_slash byte test same = grind (arith, nat_tests)

pub returns-in-len8-up-clause-none : goal.returns-in-len8-up-clause-none
returns-in-len8-up-clause-none c =
    OnTrue_from _ ((k : ℕ) → k < 8 → get_or c.args.bytes.now k 0 ≡ 47 → ⊥)
    (λ all k below. no_slash _ (each_of_eight (λ (byte : ℕ). not (nat_eq byte 47)) c.args.bytes.now _ _ _ _ _ _ _ _ refl refl refl refl refl refl
    refl refl all k below))
