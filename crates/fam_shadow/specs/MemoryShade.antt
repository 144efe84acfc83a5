-- A shade in memory, and what each call makes of it.
use Rattle.std.specs.Prelude.{ℕ, ◌==◌, min, if◌then◌else◌, List, [], length, take, Option, Some, None, is_some}
use Rattle.std.specs.FinMap as map
use Rattle.fam_media.specs.Plans.{one_more, planned, count_if}
use Rattle.fam_shadow.specs.declared.node.Node.{Node}
use Rattle.fam_shadow.specs.declared.node.Node.TheVariants.{Directory, File}
use Rattle.fam_shadow.specs.Nodes.{Nodes, with_node}

-- what stands at each name, how many calls were made, which ones are to fail and keep how many bytes, and the count of faults
pub record MemShadeState : Type 0 where
  pub nodes : Nodes
  pub calls : ℕ
  pub plan : List (ℕ × ℕ)
  pub faults : ℕ

-- nothing stands anywhere, and no call is to fail
abbrev pub empty_shade : MemShadeState
empty_shade = record { nodes = map.empty; calls = 0; plan = []; faults = 0 }

-- how many bytes the next call keeps where it fails, and None where it doesn't fail
abbrev pub next_kept : MemShadeState → Option ℕ
next_kept s = planned s.plan s.calls

-- the bytes of a name, None where no file has it
abbrev pub node_bytes : Option Node → Option (List ℕ)
node_bytes None = None
node_bytes (Some Directory) = None
node_bytes (Some (File bytes)) = Some bytes

-- after a call: it was counted, and where it failed a fault
abbrev pub after_call : MemShadeState → MemShadeState
after_call s = record s { calls = one_more s.calls; faults = count_if (is_some (next_kept s)) s.faults }

-- after a call that makes a directory
abbrev pub made_by : Option ℕ → List ℕ → Nodes → Nodes
made_by None name nodes = with_node name Directory nodes
made_by (Some kept) name nodes = nodes

-- with its count
abbrev pub after_make_dir : List ℕ → MemShadeState → MemShadeState
after_make_dir name s = record (after_call s) { nodes = made_by (next_kept s) name s.nodes }

-- after a put: one that fails and keeps no byte leaves the old ones
abbrev pub put_by : Option ℕ → List ℕ → List ℕ → Nodes → Nodes
put_by None name bytes nodes = with_node name (File bytes) nodes
put_by (Some kept) name bytes nodes = if min kept (length bytes) == 0 then nodes else with_node name (File (take kept bytes)) nodes

-- with its count
abbrev pub after_put : List ℕ → List ℕ → MemShadeState → MemShadeState
after_put name bytes s = record (after_call s) { nodes = put_by (next_kept s) name bytes s.nodes }
