-- The shadow of a tree: a folder in which a directory stands for each directory, and a description for each file.
use Rattle.std.specs.Prelude.{ℕ, ⊤, ◌≡◌, ◌⊎◌, ◌++◌, ◌∷◌, [], Bool, true, false, if◌then◌else◌, List, codes, map as list_map, take, Option, Some, None, Result, Ok, Err}
use Rattle.std.specs.Option.{option_or}
use Rattle.std.specs.FinMap as map
use Rattle.fam_base.specs.declared.entry.Entry.{Entry}
use Rattle.fam_base.specs.declared.entry.Kind.{Kind}
use Rattle.fam_base.specs.declared.entry.Kind.TheVariants as kind
use Rattle.fam_base.specs.Escapes.{escaped}
use Rattle.fam_format.specs.Tree.{Tree}
use Rattle.fam_media.specs.Causes.{Rose}
use Rattle.fam_tree.specs.Lines.{line_feed, listing_line}
use Rattle.fam_shadow.specs.declared.node.Node.{Node}
use Rattle.fam_shadow.specs.declared.node.Node.TheVariants.{Directory, File}
use Rattle.fam_shadow.specs.declared.fault.ShadowFault.{ShadowFault}
use Rattle.fam_shadow.specs.declared.fault.ShadowFault.TheVariants as fault
use Rattle.fam_shadow.specs.Nodes.{Nodes}

-- The shadow.

-- a file's description: a line that names the form, and the entry's line
unfoldable pub description : Entry → List ℕ
description e = codes "famfs shadow 1" ++ line_feed ∷ listing_line e

-- what stands for an entry
abbrev pub node_by : Kind → List ℕ → Node
node_by kind.Directory bytes = Directory
node_by kind.File bytes = File bytes

-- by its kind
abbrev pub node_of : Entry → Node
node_of e = node_by e.kind (description e)

-- and under which name: the printed form of its path
abbrev pub name_of : Entry → List ℕ
name_of e = escaped e.path

-- the names of a tree, in byte order of the paths
abbrev pub names_of : Tree → List (List ℕ)
names_of tree = list_map name_of (map.values tree)

-- each entry's name, with its node
abbrev pub named_nodes : List Entry → List (List ℕ × Node)
named_nodes entries = list_map (λ e. (name_of e, node_of e)) entries

-- the shadow of a tree
abbrev pub shadow : Tree → Nodes
shadow tree = map.from_entries (named_nodes (map.values tree))

-- What a run does with a folder.

-- a directory is to be where a file stands, or a file where a directory stands
abbrev pub is_clash : Option Node → Option Node → Bool
is_clash (Some Directory) (Some (File bytes)) = true
is_clash (Some (File bytes)) (Some Directory) = true
is_clash (Some Directory) (Some Directory) = false
is_clash (Some (File bytes)) (Some (File held)) = false
is_clash (Some own) None = false
is_clash None held = false

-- the first of these names at which that is so
abbrev pub first_clash : Nodes → Nodes → List (List ℕ) → Option (List ℕ)
first_clash own held [] = None
first_clash own held (name ∷ names) = if is_clash (map.get own name) (map.get held name) then Some name else first_clash own held names

-- the first name of a tree's shadow at which a folder holds the other kind
abbrev pub clash_of : Tree → Nodes → Option (List ℕ)
clash_of tree held = first_clash (shadow tree) held (names_of tree)

-- each name of the shadow holds its node, and every other name what it held
abbrev pub IsShadowed : Tree → Nodes → Nodes → Type 0
IsShadowed tree old new = (name : List ℕ) → map.get new name ≡ option_or (map.get (shadow tree) name) (map.get old name)

-- the bytes of a file begin so
abbrev pub HoldsPrefix : Node → Option Node → Type 0
HoldsPrefix (File bytes) (Some (File now)) = (kept : ℕ) × (now ≡ take kept bytes)
HoldsPrefix (File bytes) (Some Directory) = ⊥
HoldsPrefix (File bytes) None = ⊥
HoldsPrefix Directory now = ⊥

-- what may stand at a name behind a run that stopped, by its own node and what it held: what it held; and where it has an
-- own node, that, or a prefix of its bytes
abbrev pub MayHold : Option Node → Option Node → Option Node → Type 0
MayHold None held now = now ≡ held
MayHold (Some own) held now = (now ≡ held) ⊎ (now ≡ Some own) ⊎ HoldsPrefix own now

-- what a run that stopped leaves. It changes nothing where a name holds the other kind
pub record IsLeftInPart (tree : Tree) (old left : Nodes) : Type 0 where
  pub looked : (left ≡ old) ⊎ (clash_of tree old ≡ None)
  pub each : (name : List ℕ) → MayHold (map.get (shadow tree) name) (map.get old name) (map.get left name)

-- what a run without fault leaves
abbrev pub RunsBy : Option (List ℕ) → Tree → Nodes → Nodes → Type 0
RunsBy None tree old new = IsShadowed tree old new
RunsBy (Some clash) tree old new = new ≡ old

-- by the first clash of the tree with what stood there
abbrev pub Runs : Tree → Nodes → Nodes → Type 0
Runs tree old new = RunsBy (clash_of tree old) tree old new

-- Answers.

-- what a run answers, by the folder before and after it
abbrev pub ShadowEnds : Tree → Result (Unit {0}) ShadowFault → Nodes → Nodes → Type 0
ShadowEnds tree (Ok done) old new = (clash_of tree old ≡ None) × IsShadowed tree old new
ShadowEnds tree (Err (fault.Clash name)) old new = (clash_of tree old ≡ Some name) × (new ≡ old)
ShadowEnds tree (Err (fault.ShadeFault name)) old new = IsLeftInPart tree old new
ShadowEnds tree (Err fault.OutOfMemory) old new = IsLeftInPart tree old new

-- where the nodes are told before, they are told after, and the two are so related
abbrev pub NodesBecome : Option Nodes → Option Nodes → (Nodes → Nodes → Type 0) → Type 0
NodesBecome before after P = (old : Nodes) → before ≡ Some old → (new : Nodes) × ((after ≡ Some new) × P old new)

-- a fault names an entry of these
abbrev pub IsNamed : List Entry → List ℕ → Type 0
IsNamed entries name = (done rest : List Entry) × (e : Entry) × ((entries ≡ done ++ e ∷ rest) × (name ≡ name_of e))

-- a fault of the shade names an entry, and the count of faults rose
abbrev pub FaultCaused : Tree → ℕ → ℕ → ShadowFault → Type 0
FaultCaused tree before now (fault.Clash name) = ⊤
FaultCaused tree before now (fault.ShadeFault name) = IsNamed (map.values tree) name × Rose before now
FaultCaused tree before now fault.OutOfMemory = ⊤
