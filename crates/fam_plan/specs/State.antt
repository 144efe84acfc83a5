-- What a contract sees of a plan: the parameters, and the entries that were added, in order.
use Rattle.std.specs.Prelude.{ℕ, ◌≡◌, ◌<◌, ◌≤◌, Bool, List, length, map, take, slice_get, Some, None, IsSome, refl}
use Rattle.std.specs.List.{AllByRecursion, filter_map}
use Rattle.std.specs.FinMap as finmap
use Rattle.std.specs.Coded.{Coded, code_by, coded×, coded_list}
use Rattle.fam_base.specs.declared.entry.Params.{Params}
use Rattle.fam_base.specs.declared.entry.Entry.{Entry}
use Rattle.fam_base.specs.contracts.entry.Entry as entry_type
use Rattle.fam_base.specs.contracts.entry.Params as params_type
use Rattle.fam_format.specs.Layout.{device_units}
use Rattle.fam_format.specs.Params.{SoundParams}
use Rattle.fam_format.specs.Slot.{Proper}
use Rattle.fam_format.specs.Tree.{Tree, replay, join_fault}
use Rattle.fam_format.specs.Units.{is_used}
use Rattle.fam_alloc.specs.Taken.{is_taken}

-- the parameters of the file system, and its entries in the order of the log
pub record PlanState : Type 0 where
  pub params : Params
  pub entries : List Entry

-- a plan's state has a code, so that it can be what contracts see
abbrev pub state_code : Coded PlanState
state_code = code_by (Params × List Entry) (coded× params_type.the_row.coded (coded_list entry_type.the_row.coded)) (λ s. (s.params, s.entries)) (λ p. record { params = p.0; entries = p.1 }) (λ _. refl)

-- an entry is proper, and joins the entries before it
pub record IsAdded (p : Params) (before : List Entry) (e : Entry) : Type 0 where
  pub proper : Proper p e
  pub joins : join_fault p before e ≡ None

-- sound parameters, no more entries than slots, and each entry joins those before it
pub record IsHistory (s : PlanState) : Type 0 where
  pub params : SoundParams s.params
  pub few : length s.entries ≤ s.params.slots
  pub added : (i : ℕ) (e : Entry) → slice_get s.entries i ≡ Some e → IsAdded s.params (take i s.entries) e

-- an entry for which a slot is left, and that is proper and joins
pub record MayBeAdded (s : PlanState) (e : Entry) : Type 0 where
  pub left : length s.entries < s.params.slots
  pub added : IsAdded s.params s.entries e

-- how the fields of a plan hang together: the tree and the map of used units are those of its entries
pub record IsPlan (s : PlanState) (held : Tree) (map : List Bool) : Type 0 where
  pub history : IsHistory s
  pub tree : held ≡ replay s.entries
  pub units : length map ≡ device_units s.params
  pub used : (u : ℕ) → u < device_units s.params → is_taken map u ≡ is_used s.params s.entries u

-- what stands at the paths, in their order
abbrev pub entries_at : Tree → List (List ℕ) → List Entry
entries_at held order = filter_map (λ path. finmap.get held path) order

-- something stands at each of the paths
abbrev pub AreHeld : Tree → List (List ℕ) → Type 0
AreHeld held order = AllByRecursion (λ path. IsSome (finmap.get held path)) order

-- the paths of entries
abbrev pub paths_in : List Entry → List (List ℕ)
paths_in list = map (λ e. e.path) list

-- a plan's fields, where its entries are those of the tree at these paths, each under its own
pub record IsPlanAt (s : PlanState) (tree : Tree) (order : List (List ℕ)) (map : List Bool) (unit : ℕ) : Type 0 where
  pub plan : IsPlan s tree map
  pub held : AreHeld tree order
  pub own : paths_in s.entries ≡ order
  pub units : unit ≡ s.params.unit
