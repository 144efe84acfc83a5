-- A list of runs, each by its start and its length, and the units that stand in them.
use Rattle.std.specs.Prelude.{ℕ, Bool, false, not, ⊤, ◌≡◌, ◌+◌, ◌-◌, ◌<◌, ◌≤◌, ◌==◌, ◌&&◌, Option, Some, None, List, [], ◌∷◌, nat_lt, if◌then◌else◌}
use Rattle.std.specs.List.{AllByRecursion, list_any}
use Rattle.std.specs.Map.{lookup, set_value, remove_entry}
use Rattle.std.specs.Ordering.{nat_cmp}
use Rattle.std.specs.BTreeMap.{insert_entry, is_at}
use Rattle.fam_alloc.specs.declared.bits.TheConstants.{MOST_UNITS}
use Rattle.fam_alloc.specs.declared.overlap.Run.{Run}
use Rattle.fam_alloc.specs.Next.{is_between}
use Rattle.fam_alloc.specs.Taken.{taken_units, units_by}

-- unit u stands in one of the runs
abbrev pub in_runs : List (ℕ × ℕ) → ℕ → Bool
in_runs runs u = list_any (λ r. is_between r.0 (r.0 + r.1) u) runs

-- unit u stands in none, and so is used
abbrev pub outside : List (ℕ × ℕ) → ℕ → Bool
outside runs u = not (in_runs runs u)

-- the runs start at `from` or above, upwards, with a unit or more between two of them, and end within so many units
abbrev pub AreSpaced : ℕ → ℕ → List (ℕ × ℕ) → Type 0
AreSpaced from units [] = ⊤
AreSpaced from units (r ∷ rs) = (from ≤ r.0) × (r.0 + r.1 ≤ units) × AreSpaced (r.0 + r.1 + 1) units rs

-- no run is empty
abbrev pub NoneEmpty : List (ℕ × ℕ) → Type 0
NoneEmpty runs = AllByRecursion (λ r. 0 < r.1) runs

-- a run of no units stands at q
abbrev pub is_empty_at : List (ℕ × ℕ) → ℕ → Bool
is_empty_at runs q = list_any (λ r. (r.0 == q) && (r.1 == 0)) runs

-- the length of the run that starts at s
abbrev pub run_from : List (ℕ × ℕ) → ℕ → Option ℕ
run_from runs s = lookup (is_at (nat_cmp s)) runs

-- the run from `start` up to `end` is one of them, and u stands in it or in none
pub record IsInRun (runs : List (ℕ × ℕ)) (u start end : ℕ) : Type 0 where
  pub low : start ≤ u
  pub order : start ≤ end
  pub stands : run_from runs start ≡ Some (end - start)
  pub here : in_runs runs u ≡ nat_lt u end

-- the last run that starts at u or below it
abbrev pub IsLast : List (ℕ × ℕ) → ℕ → Option Run → Type 0
IsLast runs u (Some run) = IsInRun runs u run.start run.end
IsLast runs u None = (v : ℕ) → v ≤ u → in_runs runs v ≡ false

-- with a run from `end` up to `past`, where that has units
abbrev pub with_rest : List (ℕ × ℕ) → ℕ → ℕ → List (ℕ × ℕ)
with_rest runs end past = if nat_lt end past then insert_entry nat_cmp runs end (past - end) else runs

-- without the run from `end` on, where one up to `past` has units
abbrev pub without_rest : List (ℕ × ℕ) → ℕ → ℕ → List (ℕ × ℕ)
without_rest runs end past = if nat_lt end past then remove_entry (is_at (nat_cmp end)) runs else runs

-- with another length of the run that starts at s
abbrev pub with_length : List (ℕ × ℕ) → ℕ → ℕ → List (ℕ × ℕ)
with_length runs s n = set_value (is_at (nat_cmp s)) runs n

-- without the run from `start` on, where it was taken whole or from its front, up to `first`
abbrev pub settled : List (ℕ × ℕ) → ℕ → ℕ → List (ℕ × ℕ)
settled runs start first = if start == first then remove_entry (is_at (nat_cmp start)) runs else runs

-- the run from `start` on to the end of so many units, where it has units
abbrev pub run_after : ℕ → ℕ → List (ℕ × ℕ)
run_after start units = if nat_lt start units then (start, units - start) ∷ [] else []

-- how the fields of an `AllocMap` hang together
pub record IsMap (runs : List (ℕ × ℕ)) (units used : ℕ) : Type 0 where
  pub few : units ≤ MOST_UNITS
  pub spaced : AreSpaced 0 units runs
  pub some : NoneEmpty runs
  pub counted : used ≡ taken_units (units_by (outside runs) units)
