use Rattle.std.proofs.Common.{◌<◌, sym, ap, ◌∙◌, arith, rules}
use Rattle.std.specs.Prelude.{min, ◌+◌, ◌-◌, ◌^◌}
use Rattle.fam_sources.proofs.Files.{holds_of}
use Rattle.fam_sources.proofs.whole.size_of.Goals as goal

-- the sum is above the limit
pub returns-then-sum-limit-clause-fault : goal.returns-then-sum-limit-clause-fault
returns-then-sum-limit-clause-fault g c = (
  c.if-sum-limit.true,
  λ files at.
      let h = holds_of _ c.in-Ok-Some.size (sym c.in-Ok-Some.field-0-is ∙ c.in-Ok-Some.ensures.value files at) in (
        h.0,
        h.1,
        (
          c.saturating_add-sum.ensures ∙ ap (λ n. min (c.args.copied + n) (2 ^ 64 - 1)) h.2,
          (let fits : c.in-Ok-Some.size < 2 ^ 64 = search rules in let same = h.2 in omega (arith, fits, same)),
        ),
      ),
)

pub returns-else-sum-limit-clause-within : goal.returns-else-sum-limit-clause-within
returns-else-sum-limit-clause-within g c = grind (arith, c.saturating_add-sum.ensures, c.if-sum-limit.false)

pub returns-else-sum-limit-clause-size : goal.returns-else-sum-limit-clause-size
returns-else-sum-limit-clause-size g c files at = holds_of _ c.in-Ok-Some.size (sym c.in-Ok-Some.field-0-is ∙ c.in-Ok-Some.ensures.value files at)
