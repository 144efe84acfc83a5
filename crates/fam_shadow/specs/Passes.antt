-- The two passes over a tree's entries: of looks, and of puts.
use Rattle.std.specs.Prelude.{ℕ, ⊤, ◌≡◌, ◌≢◌, ◌++◌, ◌∷◌, [], Bool, true, false, fold, if◌then◌else◌, List, Option, Some, None}
use Rattle.std.specs.List.{AllByRecursion}
use Rattle.std.specs.Option.{option_map, option_or}
use Rattle.std.specs.FinMap as map
use Rattle.fam_base.specs.declared.entry.Entry.{Entry}
use Rattle.fam_base.specs.declared.entry.Kind.{Kind}
use Rattle.fam_base.specs.declared.entry.Kind.TheVariants as kind
use Rattle.fam_base.specs.Paths.{is_path}
use Rattle.fam_media.specs.Causes.{Rose}
use Rattle.fam_media.specs.Outside.{IfModelled}
use Rattle.fam_media.specs.Plans.{one_more}
use Rattle.fam_shadow.specs.declared.fault.ShadowFault.{ShadowFault}
use Rattle.fam_shadow.specs.declared.fault.ShadowFault.TheVariants as fault
use Rattle.fam_shadow.specs.declared.node.Node.{Node}
use Rattle.fam_shadow.specs.declared.node.Node.TheVariants.{Directory, File}
use Rattle.fam_shadow.specs.declared.shade.Look.{Look}
use Rattle.fam_shadow.specs.declared.shade.Look.TheVariants as look
use Rattle.fam_shadow.specs.Nodes.{IsOneMore, IsTornPut, Nodes, ShadeState, with_node}
use Rattle.fam_shadow.specs.Shadows.{IsNamed, is_clash, name_of, node_of}

-- each entry's path is one
abbrev pub AreProper : List Entry → Type 0
AreProper entries = AllByRecursion (λ e. is_path e.path ≡ true) entries

-- no two entries have one name
abbrev pub HasNewName : List ℕ → List Entry → Type 0
HasNewName name entries = AllByRecursion (λ e. name_of e ≢ name) entries

-- all names differ
abbrev pub AreDistinct : List Entry → Type 0
AreDistinct [] = ⊤
AreDistinct (e ∷ entries) = HasNewName (name_of e) entries × AreDistinct entries

-- of an entry of this kind, what was seen at its name is the other kind
abbrev pub is_other_kind : Kind → Look → Bool
is_other_kind kind.Directory look.Nothing = false
is_other_kind kind.Directory look.Directory = false
is_other_kind kind.Directory look.File = true
is_other_kind kind.File look.Nothing = false
is_other_kind kind.File look.Directory = true
is_other_kind kind.File look.File = false

-- the first of these entries at whose name the other kind stands
abbrev pub first_met : List Entry → Nodes → Option (List ℕ)
first_met [] held = None
first_met (e ∷ entries) held = if is_clash (Some (node_of e)) (map.get held (name_of e)) then Some (name_of e) else first_met entries held

-- the nodes, with those of these entries
abbrev pub with_entry_node : Nodes → Entry → Nodes
with_entry_node held e = with_node (name_of e) (node_of e) held

-- with those of all of them
abbrev pub with_entries : List Entry → Nodes → Nodes
with_entries entries held = fold with_entry_node held entries

-- the count of calls, one more for each of these entries
abbrev pub calls_behind : List Entry → Option ℕ → Option ℕ
calls_behind entries calls = fold (λ (count : Option ℕ) (e : Entry). option_map one_more count) calls entries

-- these entries were looked at, and the rest is to come: the first clash of all is the one that was seen, or the first of the rest
pub record AreSeen (entries rest : List Entry) (old now : ShadeState) (seen : Option (List ℕ)) : Type 0 where
  pub done : List Entry
  pub parts : entries ≡ done ++ rest
  pub proper : AreProper rest → AreProper entries
  pub first : IfModelled old.nodes (λ held. option_or seen (first_met rest held) ≡ first_met entries held)
  pub same : now.nodes ≡ old.nodes
  pub calls : now.calls ≡ calls_behind done old.calls
  pub faults : now.faults ≡ old.faults

-- these entries were put, and the rest is to come
pub record EntriesPut (entries rest : List Entry) (old now : ShadeState) : Type 0 where
  pub done : List Entry
  pub parts : entries ≡ done ++ rest
  pub is : now.nodes ≡ option_map (with_entries done) old.nodes
  pub calls : now.calls ≡ calls_behind done old.calls
  pub faults : now.faults ≡ old.faults

-- nothing was done of an entry, or a part
abbrev pub IsCutAt : Node → List ℕ → Option Nodes → Option Nodes → Type 0
IsCutAt Directory name old now = now ≡ old
IsCutAt (File bytes) name old now = IsTornPut old now name bytes

-- some entries were put, up to one that wasn't
pub record EntriesPartlyPut (entries : List Entry) (old now : Option Nodes) : Type 0 where
  pub done : List Entry
  pub entry : Entry
  pub rest : List Entry
  pub parts : entries ≡ done ++ entry ∷ rest
  pub cut : IsCutAt (node_of entry) (name_of entry) (option_map (with_entries done) old) now

-- a fault of the shade at an entry, or of a pass over entries
abbrev pub FaultAt : (List ℕ → Type 0) → ℕ → ℕ → ShadowFault → Type 0
FaultAt named before now (fault.Clash name) = ⊥
FaultAt named before now (fault.ShadeFault name) = named name × Rose before now
FaultAt named before now fault.OutOfMemory = ⊤

-- at this entry
abbrev pub EntryFault : Entry → ℕ → ℕ → ShadowFault → Type 0
EntryFault e before now given = FaultAt (λ name. name ≡ name_of e) before now given

-- at one of these entries
abbrev pub PassFault : List Entry → ℕ → ℕ → ShadowFault → Type 0
PassFault entries before now given = FaultAt (IsNamed entries) before now given

-- the call at an entry ended a pass: it failed, or no memory was left, and then no call did
abbrev pub CallStops : ShadeState → ShadeState → ShadowFault → Type 0
CallStops before now (fault.Clash name) = ⊥
CallStops before now (fault.ShadeFault name) = IsOneMore before.calls now.calls
CallStops before now fault.OutOfMemory = now.faults ≡ before.faults
