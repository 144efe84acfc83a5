use Rattle.std.proofs.Common.{◌≡◌, take}
use Rattle.std.specs.List.{flat_map}
use Rattle.fam_tree.specs.Lines.{listing_line}
use Rattle.fam_tree.specs.Runs.{listed}
use Rattle.fam_tree.proofs.lines.print_listing.Given as goal

abbrev pub invariant-loop-run : goal.invariant-loop-run
invariant-loop-run l = l.text.items ≡ flat_map listing_line (listed l.entries (take l.run-index l.runs))
