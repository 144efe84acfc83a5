use Rattle.fam_settled.proofs.Sources.{agree_told}
use Rattle.fam_settled.proofs.agree.contents_agree.Goals as goal

pub returns : goal.returns
returns c first second a_is b_is =
    agree_told first second c.args.a.now c.args.b.now a_is b_is c.holds_bytes.ensures c.holds_bytes-2.ensures c.args.end c.have_same.result c.have_same.ensures
