use Rattle.std.proofs.Common.{slice_index}
use Rattle.fam_entry.proofs.ExtentsRead.{few_extents}
use Rattle.fam_entry.proofs.fields.borrowed_entry.Goals as goal

pub invariant_of-result : goal.invariant_of-result
invariant_of-result c = record {
  path = c.requires.fields.path.field.path;
  few = few_extents c.args.words.now (slice_index c.args.words.now 9) c.args.extents.now c.requires.extents c.requires.fields.few;
}
