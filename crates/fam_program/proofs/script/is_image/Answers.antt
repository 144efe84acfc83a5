use Rattle.std.proofs.Common.{arith, subst}
use Rattle.fam_base.specs.Image.{IsNormal}
use Rattle.fam_program.proofs.script.is_image.Goals as goal

pub returns : goal.returns
returns g c = λ image is.
    let lines = g.met.M.Media.modelled c.args.media.now image is in
    let most = c.lines.ensures.limit in
    record { limit = omega (arith, lines, most); normal = subst IsNormal is (g.met.M.Media.normal c.args.media.now) }
