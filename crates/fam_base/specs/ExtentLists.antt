-- Extents in a field of sixteen, and when two lists of them are equal.
use Rattle.std.specs.Prelude.{ℕ, ◌≡◌, ◌-◌, ◌≤◌, Bool, ◌&&◌, nat_eq, List, ◌++◌, length, replicate, take}
use Rattle.std.specs.Cmp.{IsEquivalence, and_equiv, on_equiv, nat_eq_equiv}
use Rattle.std.specs.Cmp.Lexicographic.{pointwise, lists_equiv}
use Rattle.fam_base.specs.declared.extents.Extent.{Extent}

-- the most extents of a file
abbrev pub extent_limit : ℕ
extent_limit = 16

-- what stands behind the extents in their field
abbrev pub no_extent : Extent
no_extent = record { offset = 0; length = 0 }

-- extents in a field of extent_limit, with empty ones behind
abbrev pub filled : List Extent → List Extent
filled extents = extents ++ replicate (extent_limit - length extents) no_extent

-- how extents lie in their field
pub record IsExtentsField (items : List Extent) (len : ℕ) : Type 0 where
  pub fits : len ≤ extent_limit
  pub count : length (take len items) ≡ len
  pub rest : items ≡ filled (take len items)

-- the same offset and the same length
abbrev pub extent_eq : Extent → Extent → Bool
extent_eq x y = nat_eq x.offset y.offset && nat_eq x.length y.length

-- the same extents in the same order
abbrev pub extents_eq : List Extent → List Extent → Bool
extents_eq xs ys = pointwise extent_eq xs ys

-- this is an equivalence
pub extents_equiv : IsEquivalence extents_eq
extents_equiv = lists_equiv (and_equiv (on_equiv (λ (x : Extent). x.offset) nat_eq_equiv) (on_equiv (λ (x : Extent). x.length) nat_eq_equiv))
