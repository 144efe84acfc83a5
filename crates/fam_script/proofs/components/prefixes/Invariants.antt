use Rattle.std.proofs.Common.{◌≡◌, ◌++◌, take, drop}
use Rattle.fam_outcomes.specs.Programs.{prefixes_behind, path_prefixes}
use Rattle.fam_script.proofs.components.prefixes.Given as goal

abbrev pub invariant-bytes : goal.invariant-bytes
invariant-bytes l =
    l.paths.items ++ prefixes_behind (take l.i l.bytes) (drop l.i l.bytes) ≡ path_prefixes l.bytes
