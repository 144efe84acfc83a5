-- The calls of a run, in their order: a look for each entry, and then a put for each. What each answer says of them.
use Rattle.std.specs.Prelude.{ℕ, ◌≡◌, ◌⊎◌, ◌++◌, ◌∷◌, [], List, Result, Ok, Err}
use Rattle.std.specs.Option.{option_map}
use Rattle.std.specs.FinMap as map
use Rattle.fam_base.specs.declared.entry.Entry.{Entry}
use Rattle.fam_format.specs.Tree.{Tree}
use Rattle.fam_media.specs.Causes.{Rose}
use Rattle.fam_shadow.specs.declared.fault.ShadowFault.{ShadowFault}
use Rattle.fam_shadow.specs.declared.fault.ShadowFault.TheVariants as fault
use Rattle.fam_shadow.specs.Nodes.{ShadeState, ShadeChange}
use Rattle.fam_shadow.specs.Passes.{EntriesPartlyPut, IsCutAt, calls_behind, with_entries}
use Rattle.fam_shadow.specs.Shadows.{name_of, node_of}

-- no call failed, and one was made for each of these entries
pub record WereMade (entries : List Entry) (before now : ShadeState) : Type 0 where
  pub calls : now.calls ≡ calls_behind entries before.calls
  pub faults : now.faults ≡ before.faults

-- the look at an entry failed, and that call was the last one: the entries before it were looked at, and nothing was changed
pub record LookFailed (entries : List Entry) (before now : ShadeState) (name : List ℕ) : Type 0 where
  pub done : List Entry
  pub entry : Entry
  pub rest : List Entry
  pub parts : entries ≡ done ++ entry ∷ rest
  pub named : name ≡ name_of entry
  pub calls : now.calls ≡ calls_behind (done ++ entry ∷ []) before.calls
  pub rose : Rose before.faults now.faults
  pub same : now.nodes ≡ before.nodes

-- the put of an entry failed, and that call was the last one, behind those for the entries `first`: the entries before it were
-- put, nothing or a part was done of it, and nothing of the rest
pub record PutFailed (first entries : List Entry) (before now : ShadeState) (name : List ℕ) : Type 0 where
  pub done : List Entry
  pub entry : Entry
  pub rest : List Entry
  pub parts : entries ≡ done ++ entry ∷ rest
  pub named : name ≡ name_of entry
  pub calls : now.calls ≡ calls_behind (first ++ (done ++ entry ∷ [])) before.calls
  pub rose : Rose before.faults now.faults
  pub cut : IsCutAt (node_of entry) (name_of entry) (option_map (with_entries done) before.nodes) now.nodes

-- what an answer says of the calls for these entries. No other call failed than the one that a fault names
abbrev pub CallsOf : List Entry → ShadeState → ShadeState → Result (Unit {0}) ShadowFault → Type 0
CallsOf entries before now (Ok done) = WereMade (entries ++ entries) before now
CallsOf entries before now (Err (fault.Clash name)) = WereMade entries before now
CallsOf entries before now (Err (fault.ShadeFault name)) = LookFailed entries before now name ⊎ PutFailed entries entries before now name
CallsOf entries before now (Err fault.OutOfMemory) = (now.faults ≡ before.faults) × ((now.nodes ≡ before.nodes) ⊎ EntriesPartlyPut entries before.nodes now.nodes)

-- so of a tree's entries, in byte order of their paths
abbrev pub CallsMade : Tree → ShadeChange → Result (Unit {0}) ShadowFault → Type 0
CallsMade tree shade result = CallsOf (map.values tree) shade.old shade.new result

-- The passes.

-- a pass of looks ended early
abbrev pub LooksStop : List Entry → ShadeState → ShadeState → ShadowFault → Type 0
LooksStop entries before now (fault.Clash name) = ⊥
LooksStop entries before now (fault.ShadeFault name) = LookFailed entries before now name
LooksStop entries before now fault.OutOfMemory = now.faults ≡ before.faults

-- a pass of puts did
abbrev pub PutsStop : List Entry → ShadeState → ShadeState → ShadowFault → Type 0
PutsStop entries before now (fault.Clash name) = ⊥
PutsStop entries before now (fault.ShadeFault name) = PutFailed [] entries before now name
PutsStop entries before now fault.OutOfMemory = now.faults ≡ before.faults
