use Rattle.std.proofs.Common.{Ok, arith}
use Rattle.fam_opening.proofs.Damaged.{super_sized}
use Rattle.fam_opening.proofs.opened.open_with_header.Goals as goal

pub returns-clause-given : goal.returns-clause-given
returns-clause-given g c = λ image told.
    let count = g.met.M.Media.modelled c.args.media.now image told in
    c.bad_header.ensures image (omega (arith, count, c.requires.within))
    (super_sized image (g.M.Media.size c.args.media.now) (Ok c.args.params.now) count (c.requires.superblock image told))
    (c.requires.header image told) (c.in_ok-gate.ensures.gate image told)
