-- The entries of a tree in byte order of their paths, cut into runs. They stand in one list, in the order in which they
-- were added, and a run has their places.
use Rattle.std.specs.Prelude.{ℕ, ◌≡◌, ◌<◌, ◌≤◌, ◌-◌, suc, ⊤, Bool, List, [], ◌∷◌, map, length, take, drop, slice_get, slice_index_or, Option, Some, None, option_map, true}
use Rattle.std.specs.FinMap as finmap
use Rattle.std.specs.List.{AllByRecursion, flat_map, insert}
use Rattle.std.specs.Ordering.{is_lt}
use Rattle.std.specs.declared.cmp.Ordering.{Ordering}
use Rattle.std.specs.declared.cmp.Ordering.TheVariants.{Less}
use Rattle.fam_base.specs.PathOrder.{path_cmp}
use Rattle.fam_base.specs.declared.entry.Entry.{Entry}
use Rattle.fam_base.specs.declared.entry.Kind.TheVariants.{Directory}
use Rattle.fam_base.specs.declared.entry.MapKind.TheVariants.{Empty}
use Rattle.fam_format.specs.Tree.{Tree}

-- each entry under its own path
abbrev pub keyed : List Entry → List (List ℕ × Entry)
keyed es = map (λ e. (e.path, e)) es

-- the tree of entries
abbrev pub tree_of : List Entry → Tree
tree_of es = finmap.from_entries (keyed es)

-- each entry is below a path, or above it
abbrev pub AllBelow : List ℕ → List Entry → Type 0
AllBelow q es = AllByRecursion (λ e. path_cmp e.path q ≡ Less) es

-- or above it
abbrev pub AllAbove : List ℕ → List Entry → Type 0
AllAbove q es = AllByRecursion (λ e. path_cmp q e.path ≡ Less) es

-- the paths rise
abbrev pub InOrder : List Entry → Type 0
InOrder [] = ⊤
InOrder (e ∷ es) = AllAbove e.path es × InOrder es

-- the entry of this path stands at a place
pub record IsAt (es : List Entry) (q : List ℕ) (i : ℕ) : Type 0 where
  pub within : i < length es
  pub own : option_map (λ e. e.path) (slice_get es i) ≡ Some q

-- no entry has this path, and one that has it would go to this place
pub record IsGap (es : List Entry) (q : List ℕ) (i : ℕ) : Type 0 where
  pub within : i ≤ length es
  pub below : AllBelow q (take i es)
  pub above : AllAbove q (drop i es)

-- this entry stands at a path
pub record IsFound (es : List Entry) (q : List ℕ) (e : Entry) : Type 0 where
  pub place : ℕ
  pub here : slice_get es place ≡ Some e
  pub own : e.path ≡ q

-- no entry has this path
pub record IsAbsent (es : List Entry) (q : List ℕ) : Type 0 where
  pub place : ℕ
  pub gap : IsGap es q place

-- an entry was put where none had its path
pub record IsPut (old new : List Entry) (e : Entry) : Type 0 where
  pub place : ℕ
  pub gap : IsGap old e.path place
  pub more : new ≡ insert old place e

-- by what an entry is, if there is one: below a path
abbrev pub is_below : List ℕ → Option Entry → Bool
is_below q None = true
is_below q (Some e) = is_lt (path_cmp e.path q)

-- the last entry is below a path
abbrev pub ends_below : List ℕ → List Entry → Bool
ends_below q es = is_below q (slice_get es (length es - 1))

-- the entries of runs
abbrev pub entries_in : List (List Entry) → List Entry
entries_in runs = flat_map (λ run. run) runs

-- no run is empty
abbrev pub AreFilled : List (List Entry) → Type 0
AreFilled runs = AllByRecursion (λ run. 1 ≤ length run) runs

-- runs of a tree: the paths rise over all of them
pub record AreRuns (runs : List (List Entry)) : Type 0 where
  pub order : InOrder (entries_in runs)
  pub filled : AreFilled runs

-- the run that has a path or would have it: entries of the runs before it are below the path, and those behind it above
pub record IsRunFor (runs : List (List Entry)) (q : List ℕ) (k : ℕ) : Type 0 where
  pub within : k < length runs
  pub below : AllBelow q (entries_in (take k runs))
  pub above : AllAbove q (entries_in (drop (suc k) runs))

-- Places.

-- what stands where no entry does
abbrev pub no_entry : Entry
no_entry = record { kind = Directory; path = []; size = 0; mode = 0; uid = 0; gid = 0; map = Empty; extents = [] }

-- the entry at a place
abbrev pub entry_at : List Entry → ℕ → Entry
entry_at entries place = slice_index_or entries place no_entry

-- the entries at the places of a run, and of some runs
abbrev pub run_of : List Entry → List ℕ → List Entry
run_of entries places = map (entry_at entries) places

-- at those of each run
abbrev pub runs_of : List Entry → List (List ℕ) → List (List Entry)
runs_of entries runs = map (run_of entries) runs

-- all entries of a tree, in byte order of their paths
abbrev pub listed : List Entry → List (List ℕ) → List Entry
listed entries runs = entries_in (runs_of entries runs)

-- at each place of a run stands one of so many entries
abbrev pub AreWithin : ℕ → List ℕ → Type 0
AreWithin count places = AllByRecursion (λ place. place < count) places

-- and of some runs
abbrev pub RunsWithin : ℕ → List (List ℕ) → Type 0
RunsWithin count runs = AllByRecursion (AreWithin count) runs

-- runs of a tree with these entries
pub record AreRunsOf (entries : List Entry) (runs : List (List ℕ)) : Type 0 where
  pub held : AreRuns (runs_of entries runs)
  pub within : RunsWithin (length entries) runs

-- and how many entries they have
pub record IsTree (entries : List Entry) (runs : List (List ℕ)) (count : ℕ) : Type 0 where
  pub held : AreRunsOf entries runs
  pub counted : count ≡ length (listed entries runs)

-- the order of an entry's path, if there is one, and another
abbrev pub cmp_or_less : Option Entry → List ℕ → Ordering
cmp_or_less None q = Less
cmp_or_less (Some e) q = path_cmp e.path q

-- that of the entry at a place
abbrev pub place_cmp : List Entry → List ℕ → ℕ → Ordering
place_cmp entries q place = cmp_or_less (slice_get entries place) q

-- by a place, if there is one: the entry there is below a path
abbrev pub is_before : List Entry → List ℕ → Option ℕ → Bool
is_before entries q None = true
is_before entries q (Some place) = is_lt (place_cmp entries q place)

-- the last entry of a run is below a path
abbrev pub ends_before : List Entry → List ℕ → List ℕ → Bool
ends_before entries q places = is_before entries q (slice_get places (length places - 1))
