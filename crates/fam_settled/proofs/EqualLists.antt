-- Lists that have the same at each place.
use Rattle.std.proofs.Common.{◌≡◌, ◌<◌, ℕ, zero, suc, List, [], ◌∷◌, length, refl, ap₂, arith}
use Rattle.std.specs.List.{slice_get}
use Rattle.std.proofs.lemmas.Option.{same_Some}

-- lists of one length that have the same at each place are equal
pub same_lists : {A : Type 0} (xs ys : List A) → length xs ≡ length ys
    → ((k : ℕ) → k < length xs → slice_get xs k ≡ slice_get ys k) → xs ≡ ys
same_lists [] [] long same = refl
same_lists [] (y ∷ ys) long same = absurd (omega (arith, long))
same_lists (x ∷ xs) [] long same = absurd (omega (arith, long))
same_lists (x ∷ xs) (y ∷ ys) long same =
    let rest : xs ≡ ys = same_lists xs ys (omega (arith, long)) (λ k less. same (suc k) (omega (arith, less))) in
    ap₂ (λ a (more : List _). a ∷ more) (same_Some x y (same zero (omega (arith)))) rest
