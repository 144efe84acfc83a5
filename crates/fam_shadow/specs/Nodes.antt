-- What stands in a folder, name by name, and what calls on it do.
use Rattle.std.specs.Prelude.{ℕ, ◌≡◌, ◌⊎◌, ◌≤◌, List, take, Option, Some, None, Result, IsErrOf, OnOk}
use Rattle.std.specs.Option.{option_map}
use Rattle.std.specs.FinMap as map
use Rattle.fam_media.specs.Causes.{Rose}
use Rattle.fam_media.specs.Files.{name_cmp}
use Rattle.fam_media.specs.Plans.{one_more}
use Rattle.fam_media.specs.States.{Change}
use Rattle.fam_shadow.specs.declared.node.Node.{Node}
use Rattle.fam_shadow.specs.declared.node.Node.TheVariants.{Directory, File}
use Rattle.fam_shadow.specs.declared.shade.Look.{Look}
use Rattle.fam_shadow.specs.declared.shade.Look.TheVariants as look
use Rattle.fam_shadow.specs.declared.shade.ShadeStop.{ShadeStop}
use Rattle.fam_shadow.specs.declared.shade.ShadeStop.TheVariants as stop

-- a directory or a file's bytes at each name
abbrev pub Nodes : Type 0
Nodes = map.FinMap name_cmp Node

-- what a shade tells: what stands at each name, where it is told, how often a call failed, and how many calls were made,
-- where it is told
pub record ShadeState : Type 0 where
  pub nodes : Option Nodes
  pub faults : ℕ
  pub calls : Option ℕ

-- of what a shade tells
abbrev pub ShadeChange : Type 0
ShadeChange = Change ShadeState

-- what a look at a name tells
abbrev pub look_of : Option Node → Look
look_of None = look.Nothing
look_of (Some Directory) = look.Directory
look_of (Some (File bytes)) = look.File

-- at this name
abbrev pub look_at : Nodes → List ℕ → Look
look_at nodes name = look_of (map.get nodes name)

-- the nodes, with this one at a name
abbrev pub with_node : List ℕ → Node → Nodes → Nodes
with_node name node nodes = map.insert nodes name node

-- after a put that failed all is as before, or the name holds a prefix of the bytes
abbrev pub IsTornPut : Option Nodes → Option Nodes → List ℕ → List ℕ → Type 0
IsTornPut old new name bytes = (new ≡ old) ⊎ ((kept : ℕ) × (new ≡ option_map (with_node name (File (take kept bytes))) old))

-- the count of faults did not fall during a call: it rose where the call failed, and stayed where it was done and where no
-- memory was left
pub record CountsFaults (before now : ℕ) (result : Result (Unit {0}) ShadeStop) : Type 0 where
  pub later : before ≤ now
  pub failed : IsErrOf result stop.Failed → Rose before now
  pub memory : IsErrOf result stop.OutOfMemory → now ≡ before
  pub done : OnOk result (now ≡ before)

-- one more call was made
abbrev pub IsOneMore : Option ℕ → Option ℕ → Type 0
IsOneMore before now = now ≡ option_map one_more before

-- a call that was done or failed is one more. One for which no memory was left may be none
pub record IsCall (before now : Option ℕ) (result : Result (Unit {0}) ShadeStop) : Type 0 where
  pub done : OnOk result (IsOneMore before now)
  pub failed : IsErrOf result stop.Failed → IsOneMore before now
