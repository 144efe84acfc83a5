use Rattle.std.proofs.Common.{◌≡◌, drop, map}
use Rattle.std.specs.String.{string_bytes}
use Rattle.std.specs.FinMap.{find}
use Rattle.fam_media.specs.Files.{name_cmp}
use Rattle.fam_media.proofs.memory_shelf.find_cut.Given as goal

abbrev pub invariant-loop-c : goal.invariant-loop-c
invariant-loop-c l =
    find name_cmp l.name (map (λ f. (string_bytes f.0, f.1)) (drop l.c-index l.cuts))
    ≡ find name_cmp l.name (map (λ f. (string_bytes f.0, f.1)) l.cuts)
