-- What a check of a tree may answer of a listing of which so much is told as how many entries it has.
use Rattle.std.specs.Prelude.{ℕ, ◌≡◌, ◌+◌, ◌≤◌, Bool, true, false, List, length, filter, Option, Some, None}
use Rattle.std.specs.FinMap as finmap
use Rattle.std.specs.Ordering.{is_lt}
use Rattle.fam_base.specs.PathOrder.{path_cmp}
use Rattle.fam_format.specs.Tree.{Tree}
use Rattle.fam_rules.specs.declared.answers.Checked.{Checked}

-- how many of these paths come behind a path
abbrev pub count_behind : List ℕ → List (List ℕ) → ℕ
count_behind path paths = length (filter (λ other. is_lt (path_cmp path other)) paths)

-- by whether the tree has the first path that differs: it is missing or changed, or else extra; and no more are missing or changed
-- than stand there and behind it
abbrev pub FirstCounts : Bool → ℕ → Checked → Type 0
FirstCounts true behind counts = (1 ≤ counts.missing + counts.changed) × (counts.missing + counts.changed ≤ behind + 1)
FirstCounts false behind counts = (1 ≤ counts.extra) × (counts.missing + counts.changed ≤ behind)

-- by the first path that differs: there is none where nothing differs
abbrev pub PathCounts : Tree → Checked → Option (List ℕ) → Type 0
PathCounts tree counts None = (counts.missing ≡ 0) × (counts.extra ≡ 0) × (counts.changed ≡ 0)
PathCounts tree counts (Some path) = FirstCounts (finmap.contains_key tree path) (count_behind path (finmap.keys tree)) counts

-- a check of a tree against so many entries may answer this
pub record CountsFit (tree : Tree) (entries : ℕ) (counts : Checked) : Type 0 where
  pub size : entries + counts.missing ≡ finmap.len tree + counts.extra
  pub first : PathCounts tree counts counts.first
