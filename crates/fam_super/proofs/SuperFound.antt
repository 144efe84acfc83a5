-- What is read is a superblock, and each superblock is read.
use Rattle.std.proofs.Common.{◌≡◌, ℕ, ◌≤◌, List, None, Result, Ok, Err, refl, sym, ap, ◌∙◌}
use Rattle.std.specs.Result.{IfOk}
use Rattle.fam_base.specs.declared.entry.Params.{Params}
use Rattle.fam_format.specs.declared.faults.SuperFault.{SuperFault}
use Rattle.fam_format.specs.Layout.{device_limit}
use Rattle.fam_format.specs.Super.{magic, magic_fault, super_body_of, super_of}
use Rattle.fam_format.specs.SuperLaws.{IsSuper, IsWords}
use Rattle.fam_format.proofs.SuperLawsProofs.{behind_stop, read_spelling, read_spelled}

-- the magic is there, and the words behind it are read
pub is_reading : (word : ℕ) (v w : List ℕ) (have : ℕ) (answer : Result Params SuperFault) → magic_fault word ≡ None → v ≡ w → answer ≡ super_body_of v have → answer ≡ super_of word w have
unfolding super_of
is_reading word v w have answer none same is = is ∙ ap (λ (x : List ℕ). super_body_of x have) same ∙ sym (behind_stop _ _ _ none refl)

-- an answer that is the reading of the words
module _ (word : ℕ) (w : List ℕ) (have : ℕ) (answer : Result Params SuperFault) (is : answer ≡ super_of word w have) where
  -- names a superblock where it is Ok
  pub found : IsWords 16 w → have ≤ device_limit → IfOk answer (λ p. IsSuper word w have p)
  found words limit = elim answer as (λ a. a ≡ super_of word w have → IfOk a (λ p. IsSuper word w have p)) [
    | Ok p ↦ λ read. read_spelled word w have p words limit (sym read)
    | Err fault ↦ λ read. tt
  ] is

  -- and is Ok where there is one
  pub only : (p : Params) → IsSuper word w have p → answer ≡ Ok p
  only p there = is ∙ ap (λ (n : ℕ). super_of n w have) there.first ∙ ap (λ (v : List ℕ). super_of magic v have) there.words ∙ read_spelling p there.sound have there.device
