use Rattle.std.proofs.Common.{◌≡◌, ℕ, ◌≤◌, ◌∙◌, true, arith, nat_cmp, is_le}
use Rattle.std.specs.Range.{range_inclusive_start, range_inclusive_end}
use Rattle.std.proofs.lemmas.Bool.Decides.{nat_tests}
use Rattle.fam_format.proofs.UnitPowers.{unit_within}
use Rattle.fam_super.proofs.read.is_unit.Goals as goal

-- a comparison that gives at most
at_most : (a b : ℕ) → is_le (nat_cmp a b) ≡ true → a ≤ b
at_most a b h = grind (arith, nat_tests)

pub returns-then-contains : goal.returns-then-contains
returns-then-contains c =
    let within = c.if-contains.ensures.cases in
    let above : range_inclusive_start c.new.result ≤ c.args.unit = at_most _ _ within.0 in
    let below : c.args.unit ≤ range_inclusive_end c.new.result = at_most _ _ within.1 in
    let start = c.new.ensures.start in
    let end = c.new.ensures.end in
    c.is_power_of_two.ensures ∙ unit_within c.args.unit (omega arith) (omega arith)
