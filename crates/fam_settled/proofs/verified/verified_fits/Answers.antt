use Rattle.fam_settled.proofs.Sources.{length_told}
use Rattle.fam_settled.proofs.verified.verified_fits.Goals as goal

pub returns-then-entries-m-2 : goal.returns-then-entries-m-2
returns-then-entries-m-2 c =
    let a = c.args in
    let told = c.in-Length in
    length_told a.bytes.now a.size a.against a.m told.entries told.found told.wanted a.answer.now c.length_fits.result told.is c.if-entries-m-2.true c.length_fits.ensures
