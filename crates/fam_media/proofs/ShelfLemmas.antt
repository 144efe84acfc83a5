-- Names looked up in a list, and files as finite maps.
use Rattle.std.proofs.Common.{◌≡◌, ℕ, ◌+◌, ◌<◌, Bool, true, false, cond, List, ◌∷◌, length, map, drop, get_or, Option, Some, sym, ap, ◌∙◌}
use Rattle.std.specs.FinMap.{find}
use Rattle.std.specs.Str.{bytes_eq}
use Rattle.std.proofs.lemmas.List.{at_drop_more}
use Rattle.std.proofs.lemmas.Map.Text.{is_eq-slice_cmp}
use Rattle.fam_media.specs.Files.{name_cmp}

module _ {X V : Type 0} (key : X → List ℕ) (value : X → V) (name : List ℕ) where
  abbrev pub lookup : List X → Option V
  lookup xs = find name_cmp name (map (λ x. (key x, value x)) xs)

  module _ (xs : List X) (i : ℕ) (x : X) (below : i < length xs) (is : x ≡ get_or xs i x) where
    -- one pair more was looked at
    lookup_more : lookup (drop i xs) ≡ cond (bytes_eq name (key x)) (Some (value x)) (lookup (drop (i + 1) xs))
    lookup_more =
        at_drop_more lookup xs i x below
        ∙ ap (λ (y : X). lookup (y ∷ drop (i + 1) xs)) (sym is)
        ∙ ap (λ (b : Bool). cond b (Some (value x)) (lookup (drop (i + 1) xs))) (is_eq-slice_cmp name (key x))

    -- a name that is the pair's finds it
    pub lookup_here : bytes_eq name (key x) ≡ true → lookup (drop i xs) ≡ Some (value x)
    lookup_here same = lookup_more ∙ ap (λ (b : Bool). cond b (Some (value x)) (lookup (drop (i + 1) xs))) same

    -- and another name stands behind it
    pub lookup_further : bytes_eq name (key x) ≡ false → lookup (drop i xs) ≡ lookup (drop (i + 1) xs)
    lookup_further other = lookup_more ∙ ap (λ (b : Bool). cond b (Some (value x)) (lookup (drop (i + 1) xs))) other
