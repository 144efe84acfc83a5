-- Paths: bytes cut at slashes into names.
use Rattle.std.specs.Prelude.{ℕ, ◌≡◌, ◌-◌, Bool, true, false, not, ◌&&◌, ◌==◌, nat_le, nat_lt, if◌then◌else◌, IsTrue, List, [], ◌∷◌, ◌++◌, length, replicate, take, Option, Some, None}
use Rattle.std.specs.List.{slice_split, list_all, list_any, before_last}

-- the most bytes of a path
abbrev pub path_limit : ℕ
path_limit = 512

-- a name between two slashes: neither empty, nor `.`, nor `..`
abbrev pub is_name : List ℕ → Bool
is_name [] = false
is_name (a ∷ []) = not (a == 46)
is_name (a ∷ b ∷ []) = not (a == 46 && b == 46)
is_name (a ∷ b ∷ c ∷ rest) = true

-- the byte `/`
abbrev pub slash : ℕ
slash = 0x2f

-- the byte that parts names
abbrev pub is_slash : ℕ → Bool
is_slash b = b == slash

-- the names of a path
abbrev pub names : List ℕ → List (List ℕ)
names bytes = slice_split is_slash bytes

-- bytes, none of them 0
abbrev pub has_no_nul : List ℕ → Bool
has_no_nul bytes = list_all (λ b. nat_lt 0 b && nat_lt b 256) bytes

-- 1 to path_limit (512) bytes, none of them 0, of proper names
unfoldable pub is_path : List ℕ → Bool
is_path bytes =
    if length bytes == 0 then false
    else if nat_le (length bytes) path_limit then (if has_no_nul bytes then list_all is_name (names bytes) else false)
    else false

-- bytes in a field of path_limit bytes, with zeros behind
abbrev pub padded : List ℕ → List ℕ
padded bytes = bytes ++ replicate (path_limit - length bytes) 0

-- the path without its last name, where it has more than one
abbrev pub parent_of : List ℕ → Option (List ℕ)
parent_of bytes = if list_any is_slash bytes then Some (before_last is_slash bytes) else None

-- how a path lies in its field
pub record IsPathField (bytes : List ℕ) (len : ℕ) : Type 0 where
  pub path : IsTrue (is_path (take len bytes))
  pub count : length (take len bytes) ≡ len
  pub zeros : bytes ≡ padded (take len bytes)
