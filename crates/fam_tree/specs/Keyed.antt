-- How entries stand in a tree: each under its own path.
use Rattle.std.specs.Prelude.{ℕ, ◌≡◌, List, map}
use Rattle.std.specs.FinMap as finmap
use Rattle.fam_format.specs.Tree.{Tree}

-- the own paths of a tree's entries, in the order in which these stand
abbrev pub paths_of : Tree → List (List ℕ)
paths_of tree = map (λ e. e.path) (finmap.values tree)

-- each entry of a tree stands under its own path
abbrev pub IsKeyed : Tree → Type 0
IsKeyed tree = paths_of tree ≡ finmap.keys tree
