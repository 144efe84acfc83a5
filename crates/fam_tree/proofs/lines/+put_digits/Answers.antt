use Rattle.std.proofs.Common.{◌≡◌, List, ℕ, subst}
use Rattle.std.specs.Prelude.{OnOk}
use Rattle.fam_tree.proofs.Words.{decimal_small, decimal_more}
use Rattle.fam_tree.proofs.lines.+put_digits.Goals as goal

pub returns-then-n-lt10 : goal.returns-then-n-lt10
returns-then-n-lt10 k c = rw (decimal_small c.args.n c.if-n-lt10.true) c.put_byte.ensures

pub returns : goal.returns
returns k c = subst (λ (l : List ℕ). OnOk c.put_byte-2.result (c.put_byte-2.new.into.items ≡ l))
    (decimal_more c.args.n c.args.into.now.items c.put_digits.new.into.items c.if-n-lt10.false c.ranges.n.fits c.in_ok-put_digits.ensures) c.put_byte-2.ensures
