-- The least path of entries.
use Rattle.std.proofs.Common.{◌≡◌, ℕ, List, [], ◌∷◌, ◌++◌, Option, Some, None, refl, ap, ◌∙◌}
use Rattle.std.specs.List.{fold}
use Rattle.std.specs.declared.cmp.Ordering.{Ordering}
use Rattle.std.specs.declared.cmp.Ordering.TheVariants.{Less, Equal, Greater}
use Rattle.std.proofs.lemmas.List.Sums.{fold-append}
use Rattle.fam_base.specs.PathOrder.{path_cmp}
use Rattle.fam_base.specs.declared.entry.Entry.{Entry}
use Rattle.fam_rules.specs.Checks.{lesser, lesser_by, least_path}
use Rattle.fam_fsck.proofs.Below.{Below}
use Rattle.fam_fsck.proofs.PathTests.{after}

-- what was found so far stands behind a path
abbrev High : List ℕ → Option (List ℕ) → Type 0
High path None = Unit {0}
High path (Some q) = path_cmp path q ≡ Less

high_one : (path : List ℕ) (o : Option (List ℕ)) (e : Entry) → High path o → path_cmp path e.path ≡ Less → High path (lesser o e)
high_one path None e h k = k
high_one path (Some q) e h k = elim (path_cmp q e.path) as (λ r. path_cmp path (lesser_by r q e.path) ≡ Less) [ Less ↦ h | Equal ↦ h | Greater ↦ k ]

high_all : (path : List ℕ) (xs : List Entry) (o : Option (List ℕ)) → High path o → Below path xs → High path (fold lesser o xs)
high_all path [] o h k = h
high_all path (x ∷ xs) o h k = high_all path xs (lesser o x) (high_one path o x h k.0) k.1

taken : (o : Option (List ℕ)) (e : Entry) → High e.path o → lesser o e ≡ Some e.path
taken None e h = refl
taken (Some q) e h = ap (λ (r : Ordering). Some (lesser_by r q e.path)) (after e.path q h)

stays : (path : List ℕ) (ys : List Entry) → Below path ys → fold lesser (Some path) ys ≡ Some path
stays path [] h = refl
stays path (y ∷ ys) h =
    ap (λ (o : Option (List ℕ)). fold lesser o ys) (ap (λ (r : Ordering). Some (lesser_by r path y.path)) h.0) ∙ stays path ys h.1

-- an entry before all others has it
pub least_of : (e : Entry) (xs ys : List Entry) → Below e.path xs → Below e.path ys → least_path (xs ++ e ∷ ys) ≡ Some e.path
least_of e xs ys h k =
    fold-append lesser None xs (e ∷ ys)
    ∙ ap (λ (o : Option (List ℕ)). fold lesser o ys) (taken (fold lesser None xs) e (high_all e.path xs None tt h))
    ∙ stays e.path ys k
