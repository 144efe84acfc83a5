use Rattle.std.proofs.Common.{◌≡◌, drop, map}
use Rattle.std.specs.String.{string_bytes}
use Rattle.std.specs.FinMap.{find}
use Rattle.fam_media.specs.Files.{name_cmp}
use Rattle.fam_media.proofs.memory_shelf.find_bytes.Given as goal

abbrev pub invariant-loop-f : goal.invariant-loop-f
invariant-loop-f l =
    find name_cmp l.name (map (λ f. (string_bytes f.0, f.1.items)) (drop l.f-index l.files))
    ≡ find name_cmp l.name (map (λ f. (string_bytes f.0, f.1.items)) l.files)
