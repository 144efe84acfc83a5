use Rattle.std.proofs.Common.{◌≡◌, ◌++◌, take}
use Rattle.std.specs.List.{flat_map}
use Rattle.fam_tree.specs.Lines.{listing_line}
use Rattle.fam_tree.specs.Runs.{run_of}
use Rattle.fam_tree.proofs.lines.put_lines.Given as goal

abbrev pub invariant-loop-place : goal.invariant-loop-place
invariant-loop-place l = l.into.items ≡ l.initial.into.items ++ flat_map listing_line (run_of l.entries (take l.place-index l.places))
