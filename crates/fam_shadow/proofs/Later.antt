-- A run behind one that stopped ends as one run would have.
use Rattle.std.proofs.Common.{◌≡◌, ◌⊎◌, ℕ, Bool, true, false, cond, List, [], ◌∷◌, Option, Some, None, inl, inr, refl, sym, ap, subst, ◌∙◌}
use Rattle.std.specs.FinMap as map
use Rattle.std.specs.FinMap.{same_map}
use Rattle.std.specs.Option.{option_or}
use Rattle.std.specs.Cmp.Lexicographic.{nat_list_cmp_total}
use Rattle.fam_format.specs.Tree.{Tree}
use Rattle.fam_shadow.specs.declared.node.Node.{Node}
use Rattle.fam_shadow.specs.declared.node.Node.TheVariants.{Directory, File}
use Rattle.fam_shadow.specs.Nodes.{Nodes}
use Rattle.fam_shadow.specs.Shadows.{HoldsPrefix, IsLeftInPart, MayHold, Runs, RunsBy, clash_of, first_clash, is_clash, names_of, shadow}
use Rattle.fam_shadow.proofs.Maps.{name_cmp-IsAntisymmetric}

-- a node of its own kind is no clash
own_kind : (own : Node) → is_clash (Some own) (Some own) ≡ false
own_kind Directory = refl
own_kind (File bytes) = refl

begun_kind : (own : Node) (now : Option Node) → HoldsPrefix own now → is_clash (Some own) now ≡ false
begun_kind (File bytes) (Some (File now)) begun = refl
begun_kind (File bytes) (Some Directory) begun = absurd begun
begun_kind (File bytes) None begun = absurd begun
begun_kind Directory now begun = absurd begun

no_own : (now : Option Node) → is_clash None now ≡ false
no_own None = refl
no_own (Some Directory) = refl
no_own (Some (File bytes)) = refl

-- what may stand at a name is no clash where none was
still_clear : (own held now : Option Node) → MayHold own held now → is_clash own held ≡ false → is_clash own now ≡ false
still_clear None held now may clear = no_own now
still_clear (Some own) held now (inl same) clear = ap (is_clash (Some own)) same ∙ clear
still_clear (Some own) held now (inr (inl done)) clear = ap (is_clash (Some own)) done ∙ own_kind own
still_clear (Some own) held now (inr (inr begun)) clear = begun_kind own now begun

module _ (own held now : Nodes) (each : (name : List ℕ) → MayHold (map.get own name) (map.get held name) (map.get now name)) where
  none_met : (names : List (List ℕ)) → first_clash own held names ≡ None → first_clash own now names ≡ None
  none_met [] none = refl
  none_met (name ∷ names) none = by_test (is_clash (map.get own name) (map.get held name)) refl none (none_met names)
    where
      by_test : (b : Bool) → is_clash (map.get own name) (map.get held name) ≡ b → cond b (Some name) (first_clash own held names) ≡ None
          → (first_clash own held names ≡ None → first_clash own now names ≡ None) → first_clash own now (name ∷ names) ≡ None
      by_test true is h rest = absurd (cc (h))
      by_test false is h rest =
          ap (λ (b : Bool). cond b (Some name) (first_clash own now names)) (still_clear (map.get own name) (map.get held name) (map.get now name) (each name) is)
          ∙ rest h

-- what stands there is of no account
same_end : (own held now : Option Node) → MayHold own held now → option_or own now ≡ option_or own held
same_end None held now same = same
same_end (Some own) held now may = refl

module _ (tree : Tree) where
  runs_once : (clash : Option (List ℕ)) (old one other : Nodes) → RunsBy clash tree old one → RunsBy clash tree old other → other ≡ one
  runs_once None old one other a b = same_map nat_list_cmp_total name_cmp-IsAntisymmetric other one (λ q. b q ∙ sym (a q))
  runs_once (Some name) old one other a b = b ∙ sym a

  pub ends_alike : (old left one later : Nodes) → IsLeftInPart tree old left → Runs tree old one → Runs tree left later → later ≡ one
  ends_alike old left one later is first again = by_looks is.looked
    where
      by_looks : (left ≡ old) ⊎ (clash_of tree old ≡ None) → later ≡ one
      by_looks (inl same) = runs_once (clash_of tree old) old one later first (subst (λ (from : Nodes). Runs tree from later) same again)
      by_looks (inr clear) =
          let first_whole = subst (λ (c : Option (List ℕ)). RunsBy c tree old one) clear first in
          let still : clash_of tree left ≡ None = none_met (shadow tree) old left is.each (names_of tree) clear in
          let again_whole = subst (λ (c : Option (List ℕ)). RunsBy c tree left later) still again in
          same_map nat_list_cmp_total name_cmp-IsAntisymmetric later one
          (λ q. again_whole q ∙ same_end (map.get (shadow tree) q) (map.get old q) (map.get left q) (is.each q) ∙ sym (first_whole q))
