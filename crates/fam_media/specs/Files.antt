-- The files of a shelf, and what its calls tell of them.
use Rattle.std.specs.Prelude.{ℕ, ◌≡◌, ◌≤◌, ◌<◌, List, [], length, Option, Some, None}
use Rattle.std.specs.FinMap as map
use Rattle.std.specs.Ordering.{nat_cmp}
use Rattle.std.specs.Cmp.Lexicographic.{slice_cmp}
use Rattle.std.specs.declared.cmp.Ordering.{Ordering}

-- names in byte order
abbrev pub name_cmp : List ℕ → List ℕ → Ordering
name_cmp x y = slice_cmp nat_cmp x y

-- bytes by name
abbrev pub Files : Type 0
Files = map.FinMap name_cmp (List ℕ)

-- the bytes of an optional file, none where there is no file
abbrev pub bytes_or_none : Option (List ℕ) → List ℕ
bytes_or_none None = []
bytes_or_none (Some bytes) = bytes

-- the bytes of a name, none where there is no such file
abbrev pub bytes_of : Files → List ℕ → List ℕ
bytes_of files name = bytes_or_none (map.get files name)

-- the files are modelled, and this name has no byte at the offset
abbrev pub HasNone : Option Files → List ℕ → ℕ → Type 0
HasNone None name offset = ⊥
HasNone (Some files) name offset = length (bytes_of files name) ≤ offset

-- a read at this offset gave no byte, though the file has one there
abbrev pub IsShort : Files → List ℕ → ℕ → ℕ → Type 0
IsShort files name offset given = (given ≡ 0) × (offset < length (bytes_of files name))
