-- The list of the entries of a tree: chunks, one behind another.
use Rattle.std.specs.Prelude.{ℕ, ◌≡◌, ◌≤◌, List, [], ◌++◌, Option, Some, None, length}
use Rattle.std.specs.List.{AllByRecursion}
use Rattle.fam_base.specs.declared.entry.Entry.{Entry}
use Rattle.fam_tree.specs.Runs.{entries_in}
use Rattle.fam_tree.specs.declared.packed.TheConstants.{CHUNK}

-- the entries of full chunks, and of the last one behind them
abbrev pub packed_entries : List (List Entry) → List Entry → List Entry
packed_entries full last = entries_in full ++ last

-- each chunk is full
abbrev pub AreFull : List (List Entry) → Type 0
AreFull chunks = AllByRecursion (λ chunk. length chunk ≡ CHUNK) chunks

-- each but the last one is full, and that one has no more
pub record ArePacked (full : List (List Entry)) (last : List Entry) : Type 0 where
  pub each : AreFull full
  pub few : length last ≤ CHUNK

-- the entries that are held, and none where nothing is
abbrev pub entries_held : Option (List Entry) → List Entry
entries_held None = []
entries_held (Some entries) = entries

-- so many entries
abbrev pub AreCounted : List Entry → ℕ → Type 0
AreCounted entries count = count ≡ length entries
