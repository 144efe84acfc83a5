use Rattle.std.proofs.Common.{◌≡◌, length, arith, inl, inr}
use Rattle.fam_causes.proofs.Loops.{one_read}
use Rattle.fam_causes.proofs.notes.found_other.Goals as goal

pub returns-else-n-second : goal.returns-else-n-second
returns-else-n-second c =
    let d = c.index.result.now in
    let other = c.if-n-second.false in
    let may = c.in_ok-first.ensures in
    let one : length c.args.candidates.now.items ≡ 1 = omega (arith, c.args.candidates.now.ok.0, c.len.ensures, c.if-len-ne1.false) in (
      d,
      one_read c.args.candidates.now.items d one c.index.ensures,
      may,
      λ p. elim ((may c.args.n).0 p) [ inl e ↦ other.0 e | inr e ↦ other.1 e ],
      one,
    )
