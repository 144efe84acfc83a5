-- The order of paths: by their bytes.
use Rattle.std.specs.Prelude.{ℕ, ◌+◌, ◌*◌, Bool, nat_eq, List, [], ◌∷◌}
use Rattle.std.specs.Ordering.{nat_cmp}
use Rattle.std.specs.Cmp.Lexicographic.{slice_cmp, pointwise}
use Rattle.std.specs.declared.cmp.Ordering.{Ordering}

-- byte by byte; a prefix comes before what goes on
abbrev pub path_cmp : List ℕ → List ℕ → Ordering
path_cmp x y = slice_cmp nat_cmp x y

-- the same bytes
abbrev pub path_eq : List ℕ → List ℕ → Bool
path_eq x y = pointwise nat_eq x y

-- the number that bytes spell behind n, the first one highest
abbrev pub big : ℕ → List ℕ → ℕ
big n [] = n
big n (b ∷ bs) = big (n * 256 + b) bs
