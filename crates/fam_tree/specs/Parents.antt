-- What stands at a path's parent.
use Rattle.std.specs.Prelude.{List, ℕ, Option, Some, None, option_map}
use Rattle.std.specs.FinMap as map
use Rattle.fam_base.specs.declared.entry.Kind.{Kind}
use Rattle.fam_base.specs.declared.entry.Kind.TheVariants.{Directory}
use Rattle.fam_format.specs.Tree.{Tree}

-- its kind, of a parent that is the root or an entry of the tree. The root is a directory
abbrev pub parent_kind : Tree → Option (List ℕ) → Option Kind
parent_kind tree None = Some Directory
parent_kind tree (Some parent) = option_map (λ e. e.kind) (map.get tree parent)
