-- One extent further.
use Rattle.std.proofs.Common.{◌≡◌, ℕ, ◌+◌, ◌-◌, ◌<◌, ◌≤◌, List, ◌∷◌, length, get_or, drop, sym, ap, ◌∙◌}
use Rattle.std.proofs.lemmas.List.{drop_more}
use Rattle.fam_base.specs.declared.extents.Extent.{Extent}
use Rattle.fam_base.specs.ExtentLists.{no_extent}
use Rattle.fam_rules.specs.Place.{simple_place}
use Rattle.fam_rules.proofs.SimplePlaces.{simple_here, simple_further}

module _ (xs : List Extent) (i left : ℕ) (within : i < length xs) where
  -- the extents from place i on
  from_here : simple_place (drop i xs) left ≡ simple_place (get_or xs i no_extent ∷ drop (i + 1) xs) left
  from_here = ap (λ (ys : List Extent). simple_place ys left) (drop_more xs i no_extent within)

  -- the place is in this extent
  pub here : left < (get_or xs i no_extent).length → simple_place (drop i xs) left ≡ (get_or xs i no_extent).offset + left
  here inside = from_here ∙ simple_here (get_or xs i no_extent) (drop (i + 1) xs) left inside

  -- or past it
  pub further : (get_or xs i no_extent).length ≤ left → simple_place (drop (i + 1) xs) (left - (get_or xs i no_extent).length) ≡ simple_place (drop i xs) left
  further past = sym (from_here ∙ simple_further (get_or xs i no_extent) (drop (i + 1) xs) left past)
