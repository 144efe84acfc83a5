-- Where two lines of a file differ.
use Rattle.std.specs.Prelude.{ℕ, ◌≡◌, ◌≢◌, ◌+◌, ◌*◌, ◌%◌, ◌<◌, ◌≤◌, Option, Some, None, List, length}
use Rattle.fam_rules.specs.Content.{byte_in}
use Rattle.fam_content.specs.Stream.{line_in}

-- byte o of the file lies in the line that begins at byte `start`, and below the size, and it is not the byte wanted.
-- Lines begin at multiples of 64, so it is byte o mod 64 of the line
pub record DiffersAt (found wanted : List ℕ) (start size o : ℕ) : Type 0 where
  pub from : start ≤ o
  pub inside : o < start + 64
  pub below : o < size
  pub unlike : byte_in found (o % 64) ≢ byte_in wanted (o % 64)

-- byte o is the first such, with the byte that was found there and the byte that was wanted
pub record IsFirst (found wanted : List ℕ) (start size o is should_be : ℕ) : Type 0 where
  pub differs : DiffersAt found wanted start size o
  pub least : (other : ℕ) → DiffersAt found wanted start size other → o ≤ other
  pub byte_found : is ≡ byte_in found (o % 64)
  pub byte_wanted : should_be ≡ byte_in wanted (o % 64)

-- the first such byte, or none exactly where there is no such byte
abbrev pub IsFirstDifference : List ℕ → List ℕ → ℕ → ℕ → Option (ℕ × ℕ × ℕ) → Type 0
IsFirstDifference found wanted start size (Some (o, is, should_be)) = IsFirst found wanted start size o is should_be
IsFirstDifference found wanted start size None = (o : ℕ) → DiffersAt found wanted start size o → ⊥

-- the first so many of these lines have the bytes that are wanted; the first line begins at byte `start`
abbrev pub HaveNone : List (List ℕ) → List (List ℕ) → ℕ → ℕ → ℕ → Type 0
HaveNone found wanted start size count = (k : ℕ) → k < count → IsFirstDifference (line_in found k) (line_in wanted k) (start + 64 * k) size None

-- the first line that hasn't, and its first such byte, or none exactly where there is no such line
abbrev pub IsFirstOfRun : List (List ℕ) → List (List ℕ) → ℕ → ℕ → Option (ℕ × (ℕ × ℕ × ℕ)) → Type 0
IsFirstOfRun found wanted start size (Some (k, (o, is, should_be))) =
    (k < length wanted) × HaveNone found wanted start size k × IsFirst (line_in found k) (line_in wanted k) (start + 64 * k) size o is should_be
IsFirstOfRun found wanted start size None = HaveNone found wanted start size (length wanted)
