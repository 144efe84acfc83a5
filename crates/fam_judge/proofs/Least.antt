-- The least path of entries.
use Rattle.std.proofs.Common.{◌≡◌, ℕ, List, [], ◌∷◌, ◌++◌, Option, Some, None, refl, ap, ◌∙◌}
use Rattle.std.specs.Prelude.{⊤}
use Rattle.std.specs.List.{fold}
use Rattle.std.specs.declared.cmp.Ordering.{Ordering}
use Rattle.std.specs.declared.cmp.Ordering.TheVariants.{Less, Equal, Greater}
use Rattle.std.proofs.lemmas.List.Sums.{fold-append}
use Rattle.fam_base.specs.declared.entry.Entry.{Entry}
use Rattle.fam_base.specs.PathOrder.{path_cmp}
use Rattle.fam_rules.specs.Checks.{least_path, lesser, lesser_by}
use Rattle.fam_tree.specs.Runs.{AllAbove}
use Rattle.fam_judge.proofs.Finding.{after}

-- what was found so far stands behind a path
abbrev IsHigh : List ℕ → Option (List ℕ) → Type 0
IsHigh path None = ⊤
IsHigh path (Some q) = path_cmp path q ≡ Less

high_with : (path : List ℕ) (o : Option (List ℕ)) (e : Entry) → IsHigh path o → path_cmp path e.path ≡ Less → IsHigh path (lesser o e)
high_with path None e high less = less
high_with path (Some q) e high less =
    elim (path_cmp q e.path) as (λ r. path_cmp path (lesser_by r q e.path) ≡ Less) [ Less ↦ high | Equal ↦ high | Greater ↦ less ]

high_all : (path : List ℕ) (es : List Entry) (o : Option (List ℕ)) → IsHigh path o → AllAbove path es → IsHigh path (fold lesser o es)
high_all path [] o high above = high
high_all path (e ∷ es) o high above = high_all path es (lesser o e) (high_with path o e high above.0) above.1

taken : (o : Option (List ℕ)) (e : Entry) → IsHigh e.path o → lesser o e ≡ Some e.path
taken None e high = refl
taken (Some q) e high = ap (λ (r : Ordering). Some (lesser_by r q e.path)) (after e.path q high)

stays : (path : List ℕ) (es : List Entry) → AllAbove path es → fold lesser (Some path) es ≡ Some path
stays path [] above = refl
stays path (e ∷ es) above =
    ap (λ (o : Option (List ℕ)). fold lesser o es) (ap (λ (r : Ordering). Some (lesser_by r path e.path)) above.0) ∙ stays path es above.1

-- an entry before all others has it
pub least_of : (e : Entry) (a b : List Entry) → AllAbove e.path a → AllAbove e.path b → least_path (a ++ e ∷ b) ≡ Some e.path
least_of e a b over more =
    fold-append lesser None a (e ∷ b)
    ∙ ap (λ (o : Option (List ℕ)). fold lesser o b) (taken (fold lesser None a) e (high_all e.path a None tt over))
    ∙ stays e.path b more
