-- Bytes in a row, cut into paths by the places where these end.
use Rattle.std.specs.Prelude.{ℕ, ◌≡◌, ◌≤◌, IsTrue, List, [], ◌∷◌, length}
use Rattle.std.specs.List.{between}
use Rattle.fam_base.specs.Paths.{is_path}

-- the pieces of the bytes: from a start up to the first end, from there up to the next one, and so on
abbrev pub pieces : List ℕ → ℕ → List ℕ → List (List ℕ)
pieces bytes start [] = []
pieces bytes start (end ∷ ends) = between start end bytes ∷ pieces bytes end ends

-- the bytes from a start up to an end are a path
pub record IsPathAt (bytes : List ℕ) (start end : ℕ) : Type 0 where
  pub rises : start ≤ end
  pub within : end ≤ length bytes
  pub path : IsTrue (is_path (between start end bytes))

-- each of the pieces is a path, and the last one ends with the bytes
abbrev pub ArePaths : List ℕ → ℕ → List ℕ → Type 0
ArePaths bytes start [] = start ≡ length bytes
ArePaths bytes start (end ∷ ends) = IsPathAt bytes start end × ArePaths bytes end ends
