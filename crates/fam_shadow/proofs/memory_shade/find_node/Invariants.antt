use Rattle.std.proofs.Common.{◌≡◌, drop, map}
use Rattle.std.specs.String.{string_bytes}
use Rattle.std.specs.FinMap.{find}
use Rattle.fam_media.specs.Files.{name_cmp}
use Rattle.fam_shadow.proofs.memory_shade.find_node.Given as goal

abbrev pub invariant-loop-n : goal.invariant-loop-n
invariant-loop-n l =
    find name_cmp l.name (map (λ n. (string_bytes n.0, n.1)) (drop l.n-index l.nodes))
    ≡ find name_cmp l.name (map (λ n. (string_bytes n.0, n.1)) l.nodes)
