use Rattle.std.proofs.Common.{◌≡◌, ℕ, ◌+◌, List, length, ap, ◌∙◌, arith}
use Rattle.fam_alloc.specs.FreeRuns.{free_runs}
use Rattle.fam_alloc.specs.Runs.{outside}
use Rattle.fam_alloc.specs.Taken.{taken_units, units_by}
use Rattle.fam_alloc.proofs.MapLemmas.{length-units_by}
use Rattle.fam_alloc.proofs.ViewLemmas.{units_of_view, lie_within, overlap_of_view, taken_more, counted_more, counted_le}
use Rattle.fam_alloc.proofs.EmptyLemmas.{still_none}
use Rattle.fam_alloc.proofs.FreeRunsLemmas.{free_runs_are, free_runs_of_view}
use Rattle.fam_alloc.proofs.alloc_map.AllocMap.take.Goals as goal

pub take_from-requires-clause-within : goal.take_from-requires-clause-within
take_from-requires-clause-within c =
    let own = c.self.inside in
    lie_within (outside own.runs.entries) own.units c.args.unit c.args.self.now c.args.extents.now c.self.view_is c.requires.unit c.requires.within

pub count_units-requires-clause-within : goal.count_units-requires-clause-within
count_units-requires-clause-within c =
    let own = c.self.inside in
    lie_within (outside own.runs.entries) own.units c.args.unit c.args.self.now c.args.extents.now c.self.view_is c.requires.unit c.requires.within

pub overflow_add-self : goal.overflow_add-self
overflow_add-self c =
    let own = c.self.inside in
    let new = outside c.take_from.new.runs.entries in
    let counted : own.used + c.count_units.result ≡ taken_units (units_by new own.units) =
    counted_more (outside own.runs.entries) own.units c.args.unit c.args.self.now c.args.extents.now c.self.view_is c.requires.unit c.requires.within
    new own.used c.count_units.result c.self.invariant.counted c.in-Ok.ensures.fits c.count_units.ensures c.in-Ok.ensures.taken in
    omega (arith, counted_le new own.units, c.self.invariant.few)

pub invariant_of-self : goal.invariant_of-self
invariant_of-self c =
    let own = c.self.inside in
    let new = outside c.take_from.new.runs.entries in
    record {
      few = c.self.invariant.few;
      spaced = c.in-Ok.ensures.spaced;
      some = still_none own.runs.entries c.take_from.new.runs.entries c.self.invariant.some c.in-Ok.ensures.empty;
      counted =
          counted_more (outside own.runs.entries) own.units c.args.unit c.args.self.now c.args.extents.now c.self.view_is c.requires.unit c.requires.within
          new own.used c.count_units.result c.self.invariant.counted c.in-Ok.ensures.fits c.count_units.ensures c.in-Ok.ensures.taken;
    }

pub returns-in-Ok-clause-value : goal.returns-in-Ok-clause-value
returns-in-Ok-clause-value c =
    let own = c.self.inside in
    taken_more (outside own.runs.entries) own.units c.args.unit c.args.self.now c.args.extents.now c.self.view_is c.requires.unit c.requires.within
    (outside c.take_from.new.runs.entries) c.in-Ok.ensures.taken

pub returns-in-Ok-clause-units : goal.returns-in-Ok-clause-units
returns-in-Ok-clause-units c =
    let own = c.self.inside in
    length-units_by (outside c.take_from.new.runs.entries) own.units ∙ units_of_view (outside own.runs.entries) own.units c.args.self.now c.self.view_is

pub returns-in-Ok-clause-runs : goal.returns-in-Ok-clause-runs
returns-in-Ok-clause-runs c =
    let own = c.self.inside in
    let new = c.take_from.new.runs.entries in
    let before : length own.runs.entries ≡ length (free_runs c.args.self.now) =
    ap (λ (rs : List (ℕ × ℕ)). length rs) (free_runs_of_view own.units own.runs.entries c.args.self.now c.self.invariant.spaced c.self.invariant.some c.self.view_is) in
    let after : length new ≡ length (free_runs (units_by (outside new) own.units)) =
    ap (λ (rs : List (ℕ × ℕ)). length rs) (free_runs_are own.units new c.in-Ok.ensures.spaced (still_none own.runs.entries new c.self.invariant.some c.in-Ok.ensures.empty)) in
    omega (arith, before, after, c.in-Ok.ensures.more)

pub returns-in-Ok-clause-fits : goal.returns-in-Ok-clause-fits
returns-in-Ok-clause-fits c =
    let own = c.self.inside in
    overlap_of_view (outside own.runs.entries) own.units c.args.unit c.args.self.now c.args.extents.now c.self.view_is c.requires.unit c.requires.within
    ∙ c.in-Ok.ensures.fits
