use Rattle.std.proofs.Common.{ℕ, ◌≡◌, ◌*◌, ◌/◌, ◌-◌, ◌^◌, min, ap, sym, ◌∙◌, arith}
use Rattle.std.specs.Int.{div_ceil}
use Rattle.fam_base.specs.Units.{strip_bytes}
use Rattle.fam_base.proofs.UnitLemmas.{strips, strip_below}
use Rattle.fam_base.proofs.units.strip_units.Goals as goal

capped : (c : goal.After-saturating_mul) → c.saturating_mul.result ≡ min (strip_bytes c.args.size c.args.chunk c.args.nstrips / c.args.unit) (2 ^ 64 - 1)
capped c =
    c.saturating_mul.ensures
    ∙ ap (λ (n : ℕ). min n (2 ^ 64 - 1))
    (sym (strips c.units_of-rows.result c.args.chunk c.args.unit c.requires.whole)
    ∙ ap (λ (rows : ℕ). rows * c.args.chunk / c.args.unit) (c.units_of-rows.ensures ∙ ap (λ (q : ℕ). div_ceil q c.args.nstrips) c.units_of.ensures))

pub returns-clause-value : goal.returns-clause-value
returns-clause-value c = capped c

pub returns-clause-exact : goal.returns-clause-exact
returns-clause-exact c = λ large.
    let small = strip_below c.args.size c.args.unit c.args.chunk c.args.nstrips (omega arith) (omega arith) large c.requires.chunk c.requires.strips in
    omega (arith, capped c, small)
