use Rattle.std.proofs.Common.{Option, ap, ◌∙◌, unwrap_or}
use Rattle.std.proofs.lemmas.Option.{unwrap_or-slice_get}
use Rattle.fam_base.specs.declared.extents.Extent.{Extent}
use Rattle.fam_base.specs.ExtentLists.{no_extent}
use Rattle.fam_alloc.proofs.overlap.extent_at.Goals as goal

pub returns-in-None : goal.returns-in-None
returns-in-None c =
    ap (λ (o : Option Extent). unwrap_or o no_extent) c.in-None.ensures
    ∙ unwrap_or-slice_get c.args.extents.now c.args.i no_extent
