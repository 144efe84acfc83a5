use Rattle.std.proofs.Common.{◌↔◌, IsTrue, refl, subst}
use Rattle.fam_settled.specs.declared.bytes.Bytes.{Bytes}
use Rattle.fam_settled.specs.Bytes.{MayAgreeTo}
use Rattle.fam_settled.proofs.Choices.{refuted, untrue}
use Rattle.fam_settled.proofs.Sources.{same_told, long_told}
use Rattle.fam_settled.proofs.verified.same_fits.Goals as goal

pub returns-then-not-is_long : goal.returns-then-not-is_long
returns-then-not-is_long c = refuted (λ o. untrue (c.if-not-is_long.ensures.1 ((long_told c.args.bytes.now c.args.size c.args.against).0 o.long)))

pub returns : goal.returns
returns c =
    same_told c.args.bytes.now c.args.size c.args.against c.may_agree.result (c.if-not-is_long.ensures.0 refl)
    (subst (λ (s : Bytes). IsTrue c.may_agree.result ↔ MayAgreeTo c.args.bytes.now s c.args.size) c.source_of.ensures c.may_agree.ensures)
