use Rattle.std.proofs.Common.{◌≡◌, map}
use Rattle.std.specs.List.{range_with_len}
use Rattle.fam_format.specs.Slot.{extent_of}
use Rattle.fam_entry.proofs.fields.extents_of.Given as goal

abbrev pub invariant-loop-i : goal.invariant-loop-i
invariant-loop-i l = l.extents ≡ map (extent_of l.words) (range_with_len 0 l.i)
