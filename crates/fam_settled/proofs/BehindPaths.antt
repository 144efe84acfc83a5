-- How many paths of entries stand behind a path.
use Rattle.std.proofs.Common.{◌≡◌, ◌+◌, ℕ, Bool, true, false, cond, List, ◌∷◌, length, map, ap, arith}
use Rattle.std.specs.Ordering.{is_lt}
use Rattle.std.specs.Prelude.{filter}
use Rattle.fam_base.specs.declared.entry.Entry.{Entry}
use Rattle.fam_base.specs.PathOrder.{path_cmp}
use Rattle.fam_judge.specs.Counting.{count_behind}

-- those behind it
abbrev pub those_behind : List ℕ → List (List ℕ) → List (List ℕ)
those_behind path xs = filter (λ other. is_lt (path_cmp path other)) xs

-- behind a path among those of entries
abbrev pub behind_of : List ℕ → List Entry → ℕ
behind_of path es = count_behind path (map (λ (e : Entry). e.path) es)

-- one more entry, behind it
pub more_behind : (path : List ℕ) (e : Entry) (es : List Entry) → is_lt (path_cmp path e.path) ≡ true → behind_of path (e ∷ es) ≡ 1 + behind_of path es
more_behind path e es is =
    let xs = map (λ (x : Entry). x.path) es in
    let more : behind_of path (e ∷ es) ≡ length (e.path ∷ those_behind path xs) = ap (λ (t : Bool). length (cond t (e.path ∷ those_behind path xs) (those_behind path xs))) is in
    omega (arith, more)

-- one more that isn't
pub more_other : (path : List ℕ) (e : Entry) (es : List Entry) → is_lt (path_cmp path e.path) ≡ false → behind_of path (e ∷ es) ≡ behind_of path es
more_other path e es is =
    let xs = map (λ (x : Entry). x.path) es in ap (λ (t : Bool). length (cond t (e.path ∷ those_behind path xs) (those_behind path xs))) is
