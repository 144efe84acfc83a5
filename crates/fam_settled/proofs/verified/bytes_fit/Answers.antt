use Rattle.std.proofs.Common.{rules, ◌≡◌, ◌-◌, min, length, arith}
use Rattle.fam_settled.proofs.Choices.{both, refuted, shown}
use Rattle.fam_settled.proofs.Sources.{read_count, read_told}
use Rattle.fam_settled.proofs.verified.bytes_fit.Goals as goal

pub returns-then-given-min : goal.returns-then-given-min
returns-then-given-min c =
    let a = c.args in
    refuted (λ fits. c.if-given-min.true (omega (arith, fits.count, read_count a.bytes.now a.size a.offset a.count, c.min.ensures, c.saturating_sub.ensures)))

pub returns-then-is_empty : goal.returns-then-is_empty
returns-then-is_empty c =
    let a = c.args in
    let none : length a.given.now ≡ 0 = search rules in
    let same : length a.given.now ≡ min a.count (a.size - a.offset) = omega (arith, c.if-given-min.false, c.min.ensures, c.saturating_sub.ensures) in
    shown ((read_told a.bytes.now a.size a.offset a.count a.given.now c.are_bytes.ensures same).0 (λ i below. absurd (omega (arith, below, none))))

pub returns : goal.returns
returns c =
    let a = c.args in
    let same : length a.given.now ≡ min a.count (a.size - a.offset) = omega (arith, c.if-given-min.false, c.min.ensures, c.saturating_sub.ensures) in
    both c.may_have.result c.may_have.ensures (read_told a.bytes.now a.size a.offset a.count a.given.now c.are_bytes.ensures same)
