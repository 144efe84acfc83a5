use Rattle.std.proofs.Common.{◌≡◌, ◌+◌, ◌-◌, ℕ, suc, sym, ap, subst, ◌∙◌, arith}
use Rattle.fam_machine.specs.declared.cell.Cell.TheVariants.{Absent}
use Rattle.fam_machine.specs.Caches.{Cache, with_cell}
use Rattle.fam_cache.specs.BroughtRuns.{LacksNone, brought_run}
use Rattle.fam_cache.specs.States.{CacheState}
use Rattle.fam_run.proofs.ComparedRuns.{lacks_dropped, last_dropped}
use Rattle.fam_run.proofs.comparing_run.drop_behind.Goals as goal

pub lines-preserved : goal.lines-preserved
lines-preserved c =
    let l = c.lines in
    let first : ℕ = c.args.first.0 in
    let k : ℕ = l.at - 1 in
    let last : l.at ≡ suc k = omega (arith, c.lines-test.true) in
    let dropped : c.drop_clean.new.self.lines ≡ with_cell (first + k) Absent l.cache.lines = ap (λ (s : CacheState). s.lines) c.drop_clean.ensures in
    record {
      few = omega (arith, l.invariant.few);
      above = omega (arith, c.lines-test.true);
      clean = subst (λ (m : Cache). LacksNone m first k) (sym dropped) (lacks_dropped first k l.cache.lines (subst (LacksNone l.cache.lines first) last l.invariant.clean));
      lines = λ lines before absent is.
          dropped ∙ last_dropped first lines k before l.cache.lines (λ i below. absent i (omega (arith, below, last, l.invariant.few)))
          (l.invariant.lines lines before absent is ∙ ap (λ (n : ℕ). brought_run first lines n before) last);
    }

pub returns : goal.returns
returns c = λ lines before absent is.
    let all : c.lines.at ≡ c.args.from = omega (arith, c.lines-test.false, c.lines.invariant.above) in
    c.lines.invariant.lines lines before absent is ∙ ap (λ (n : ℕ). brought_run c.args.first.0 lines n before) all
