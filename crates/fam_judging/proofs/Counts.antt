-- How many entries a master may find.
use Rattle.std.proofs.Common.{◌≡◌, ◌≢◌, ◌↔◌, ◌+◌, ℕ, IsTrue, true, false, Option, Some, None, inl, inr, refl, sym, arith}
use Rattle.std.specs.Prelude.{is_some}
use Rattle.std.proofs.lemmas.Bool.{true≢false}
use Rattle.fam_journal.specs.Legal.{FoundPending}
use Rattle.fam_settled.specs.declared.bytes.Filed.{Filed}
use Rattle.fam_settled.specs.Settled.{filed}

-- those that are settled
pub found_count : (n settled : ℕ) (pending : Option Filed) → n ≡ settled → IsTrue true ↔ FoundPending n settled (filed pending)
found_count n settled None same = (λ h. same, λ p. refl)
found_count n settled (Some f) same = (λ h. inl same, λ p. refl)

-- one more where one pends
pub found_more : (n settled : ℕ) (pending : Option Filed) → n ≡ settled + 1 → IsTrue (is_some pending) ↔ FoundPending n settled (filed pending)
found_more n settled None same = (λ h. absurd (true≢false (sym h)), λ p. absurd (omega (arith, p, same)))
found_more n settled (Some f) same = (λ h. inr same, λ p. refl)

-- and no others
pub found_none : (n settled : ℕ) (pending : Option Filed) → n ≢ settled → n ≢ settled + 1 → IsTrue false ↔ FoundPending n settled (filed pending)
found_none n settled None other more = (λ h. absurd (true≢false (sym h)), λ p. absurd (other p))
found_none n settled (Some f) other more = (λ h. absurd (true≢false (sym h)), λ p. absurd (elim p [ inl same ↦ other same | inr same ↦ more same ]))
