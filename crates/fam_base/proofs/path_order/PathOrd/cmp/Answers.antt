use Rattle.std.proofs.Common.{◌-◌, ◌∙◌, ap₂, length, arith}
use Rattle.fam_base.specs.PathOrder.{path_cmp}
use Rattle.fam_base.proofs.FieldOrder.{padded_order}
use Rattle.fam_base.proofs.PathLemmas.{no_zero, parts_of_path}
use Rattle.fam_base.proofs.path_order.PathOrd.cmp.Goals as goal

pub returns : goal.returns
returns c =
    let x = parts_of_path c.args.self.now c.field.ensures.path in
    let y = parts_of_path c.args.other.now c.field-2.ensures.path in
    c.order.ensures ∙ ap₂ path_cmp c.field.ensures.same c.field-2.ensures.same
    ∙ padded_order c.args.self.now c.args.other.now (512 - length c.args.self.now) (512 - length c.args.other.now) (omega (arith, x.fits, y.fits))
    (no_zero c.args.self.now x.no_nul) (no_zero c.args.other.now y.no_nul)
