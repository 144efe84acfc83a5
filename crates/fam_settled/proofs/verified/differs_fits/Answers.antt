use Rattle.std.proofs.Common.{◌↔◌, IsTrue, refl, subst, arith}
use Rattle.fam_settled.specs.declared.bytes.Bytes.{Bytes}
use Rattle.fam_settled.specs.Fits.{MayDifferAt}
use Rattle.fam_settled.proofs.Choices.{refuted, untrue}
use Rattle.fam_settled.proofs.Sources.{differs_told, length-bytes_of, long_told}
use Rattle.fam_settled.proofs.verified.differs_fits.Goals as goal

pub returns-then-not-is_long : goal.returns-then-not-is_long
returns-then-not-is_long c = refuted (λ o. untrue (c.if-not-is_long.ensures.1 ((long_told c.args.bytes.now c.args.size c.args.against).0 o.long)))

pub returns-then-offset-size : goal.returns-then-offset-size
returns-then-offset-size c = refuted (λ o. omega (arith, o.differ.within, length-bytes_of c.args.bytes.now c.args.size, c.if-offset-size.true))

pub returns : goal.returns
returns c =
    let a = c.args in
    differs_told a.bytes.now a.size a.against c.may_differ.result a.offset a.found a.wanted (c.if-not-is_long.ensures.0 refl) (omega (arith, c.if-offset-size.false))
    c.if-found-wanted.false (omega (arith, c.ranges.found.fits))
    (subst (λ (s : Bytes). IsTrue c.may_differ.result ↔ MayDifferAt a.bytes.now s a.offset a.found a.wanted) c.source_of.ensures c.may_differ.ensures)
