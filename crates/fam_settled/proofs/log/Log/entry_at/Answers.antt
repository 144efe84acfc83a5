use Rattle.std.proofs.Common.{◌≡◌, length, sym, ◌∙◌, arith}
use Rattle.fam_settled.proofs.Files.{all_last, all_none, all_some}
use Rattle.fam_settled.proofs.log.Log.entry_at.Goals as goal

pub unreachable-requires : goal.unreachable-requires
unreachable-requires c = omega (arith, all_none c.args.self.now (sym c.pending.ensures ∙ c.in-None.is), c.requires, c.if-i-count.false, c.count.ensures)

pub returns : goal.returns
returns c =
    let s = c.args.self.now in
    let is = sym c.pending.ensures ∙ c.in-Some.is in
    let last : c.args.i ≡ length s.entries = omega (arith, all_some s c.in-Some.pending is, c.requires, c.if-i-count.false, c.count.ensures) in
    all_last s c.in-Some.pending c.args.i is last
