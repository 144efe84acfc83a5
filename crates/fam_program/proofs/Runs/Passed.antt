-- Members of a list that is passed from the front.
use Rattle.std.proofs.Common.{◌≡◌, ℕ, suc, List, [], ◌∷◌, ◌++◌, length, take, Option, Some, option_map, refl, ap, sym, ◌∙◌}
use Rattle.std.specs.Prelude.{slice_get}
use Rattle.std.proofs.lemmas.List.{append-nil, append_assoc}
use Rattle.fam_media.specs.Outside.{with_piece}
use Rattle.fam_outcomes.specs.Texts.{render}

-- the next one
next_here : {A : Type 0} (passed rest : List A) (x : A) → slice_get (passed ++ x ∷ rest) (length passed) ≡ Some x
next_here [] rest x = refl
next_here (y ∷ passed) rest x = next_here passed rest x

pub next_is : {A : Type 0} (all passed rest more : List A) (x : A) → all ≡ passed ++ rest → rest ≡ x ∷ more → slice_get all (length passed) ≡ Some x
next_is all passed rest more x all_is rest_is =
    ap (λ zs. slice_get zs (length passed)) (all_is ∙ ap (λ zs. passed ++ zs) rest_is) ∙ next_here passed more x

pub rest_is : {A : Type 0} (all passed rest more : List A) (x : A) → all ≡ passed ++ rest → rest ≡ x ∷ more → all ≡ (passed ++ x ∷ []) ++ more
rest_is all passed rest more x all_is is = all_is ∙ ap (λ zs. passed ++ zs) is ∙ sym (append_assoc passed (x ∷ []) more)

pub one_more : {A : Type 0} (passed : List A) (x : A) → length (passed ++ x ∷ []) ≡ suc (length passed)
one_more [] x = refl
one_more (y ∷ passed) x = ap suc (one_more passed x)

-- all of them
take_all_of : {A : Type 0} (passed : List A) → take (length passed) passed ≡ passed
take_all_of [] = refl
take_all_of (y ∷ passed) = ap (λ zs. y ∷ zs) (take_all_of passed)

pub all_taken : {A : Type 0} (all passed rest : List A) → all ≡ passed ++ rest → rest ≡ [] → take (length passed) all ≡ all
all_taken all passed rest all_is none =
    let same : all ≡ passed = all_is ∙ ap (λ zs. passed ++ zs) none ∙ append-nil passed in
    ap (take (length passed)) same ∙ take_all_of passed ∙ sym same

-- nothing was put yet
pub none_put : (o : Option (List ℕ)) → o ≡ option_map (with_piece (render [])) o
unfolding render
none_put Rattle.std.proofs.Common.None = refl
none_put (Some bytes) = ap Some (sym (append-nil bytes))
