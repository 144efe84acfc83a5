-- Choices by a test of two numbers.
use Rattle.std.proofs.Common.{◌≡◌, ◌≢◌, ◌↔◌, ℕ, ◌==◌, IfOk, List, [], ◌∷◌, length, Result, Ok, Err, Bool, true, false, IsTrue, if◌then◌else◌, refl, sym, arith}
use Rattle.std.proofs.lemmas.Bool.{true≢false}
use Rattle.fam_base.specs.declared.line.OutOfMemory.{OutOfMemory}
use Rattle.std.proofs.lemmas.Bool.Decides.{nat_tests}

-- they are the same
pub chosen : {A : Type 0} (a b : ℕ) (x y : A) → a ≡ b → x ≡ (if a == b then x else y)
chosen a b x y same = grind (arith, nat_tests)

-- they aren't
pub not_chosen : {A : Type 0} (a b : ℕ) (x y : A) → a ≢ b → y ≡ (if a == b then x else y)
not_chosen a b x y other = grind (arith, nat_tests)

-- Tests.

-- what is false isn't the case
pub refuted : {P : Type 0} → (P → ⊥) → IsTrue false ↔ P
refuted none = (λ h. absurd (true≢false (sym h)), λ p. absurd (none p))

-- what is true is the case
pub shown : {P : Type 0} → P → IsTrue true ↔ P
shown p = (λ h. p, λ q. refl)

-- a test of the same
pub both : {P Q : Type 0} (r : Bool) → (IsTrue r ↔ P) → (P ↔ Q) → IsTrue r ↔ Q
both r same others = (λ h. others.0 (same.0 h), λ q. same.1 (others.1 q))

-- no test fails that holds
pub untrue : IsTrue false → ⊥
untrue h = true≢false (sym h)

-- a test of the same, where it is made
pub both_ok : {P Q : Type 0} (r : Result Bool OutOfMemory) → IfOk r (λ b. IsTrue b ↔ P) → (P ↔ Q) → IfOk r (λ b. IsTrue b ↔ Q)
both_ok (Ok b) same others = both b same others
both_ok (Err e) same others = tt

-- a list of no elements
pub empty : {A : Type 0} (xs : List A) → length xs ≡ 0 → xs ≡ []
empty [] none = refl
empty (x ∷ xs) none = absurd (omega arith)
