-- Tests and the order of paths.
use Rattle.std.proofs.Common.{◌≡◌, ℕ, true, false, List, refl, ap, sym, ◌∙◌}
use Rattle.std.specs.Ordering.{is_eq, is_lt, ordering_reverse}
use Rattle.std.specs.Cmp.Lexicographic.{nat_list_cmp_total, texts_ties}
use Rattle.std.specs.declared.cmp.Ordering.{Ordering}
use Rattle.std.specs.declared.cmp.Ordering.TheVariants.{Less, Equal, Greater}
use Rattle.std.proofs.lemmas.Cmp.{tied_itself}
use Rattle.fam_base.specs.PathOrder.{path_cmp, path_eq}
use Rattle.fam_tree.proofs.Views.{path_cmp-IsAntisymmetric}

equal_of : (r : Ordering) → is_eq r ≡ true → r ≡ Equal
equal_of Less h = absurd (cc)
equal_of Equal h = refl
equal_of Greater h = absurd (cc)

greater_of : (r : Ordering) → is_lt r ≡ false → is_eq r ≡ false → r ≡ Greater
greater_of Less h k = absurd (cc)
greater_of Equal h k = absurd (cc)
greater_of Greater h k = refl

-- paths that pass the test are one
pub same_path : (a b : List ℕ) → path_eq a b ≡ true → a ≡ b
same_path a b h = path_cmp-IsAntisymmetric a b (equal_of (path_cmp a b) (sym (texts_ties a b) ∙ h))

-- a path is itself
pub own_path : (a b : List ℕ) → a ≡ b → path_cmp a b ≡ Equal
own_path a b h = ap (path_cmp a) (sym h) ∙ tied_itself nat_list_cmp_total a

-- the order turned round
pub after : (a b : List ℕ) → path_cmp a b ≡ Less → path_cmp b a ≡ Greater
after a b h = nat_list_cmp_total.antisymm b a ∙ ap ordering_reverse h

-- a path that is neither before another nor the same stands behind it
pub above : (a b : List ℕ) → is_lt (path_cmp a b) ≡ false → path_eq a b ≡ false → path_cmp b a ≡ Less
above a b not_before other =
    nat_list_cmp_total.antisymm b a ∙ ap ordering_reverse (greater_of (path_cmp a b) not_before (sym (texts_ties a b) ∙ other))

pub along : (a b c : List ℕ) → path_cmp a b ≡ Less → path_cmp b c ≡ Less → path_cmp a c ≡ Less
along a b c h k = nat_list_cmp_total.trans a b c h k
