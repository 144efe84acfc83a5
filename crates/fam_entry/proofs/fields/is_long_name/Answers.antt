use Rattle.std.proofs.Common.{ℕ, ◌-◌, length, arith}
use Rattle.fam_entry.proofs.LongNames.{eight_more, long_path}
use Rattle.fam_entry.proofs.fields.is_long_name.Goals as goal

pub loop-at-preserved : goal.loop-at-preserved
loop-at-preserved c =
    let bytes = c.args.bytes.now in
    let at = c.loop-at.at in
    record {
      within = omega (arith, c.loop-at-test.true);
      some = λ k below. eight_more bytes at at 0 (omega arith) c.loop-at.invariant.some c.if-not-begin_in_name.ensures.some k below (omega (arith, below, c.loop-at-test.true));
      none = λ k below. eight_more bytes at at 47 (omega arith) c.loop-at.invariant.none c.if-not-begin_in_name.ensures.none k below (omega (arith, below, c.loop-at-test.true));
    }

pub returns : goal.returns
returns c =
    let bytes = c.args.bytes.now in
    let at = c.loop-at.at in
    let last : ℕ = length bytes - 8 in
    long_path bytes (λ k. (c.type_inv.bytes k).fits)
    (λ k within. eight_more bytes at last 0 (omega (arith, c.loop-at-test.false)) c.loop-at.invariant.some c.if-not-begin_in_name-2.ensures.some k (omega (arith, within)) within)
    (λ k within. eight_more bytes at last 47 (omega (arith, c.loop-at-test.false)) c.loop-at.invariant.none c.if-not-begin_in_name-2.ensures.none k (omega (arith, within)) within)
    (omega (arith, c.if-len-lt8.false)) (omega (arith, c.if-len-gt-PATH_LIMIT.false))
