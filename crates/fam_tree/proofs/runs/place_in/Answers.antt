use Rattle.std.proofs.Common.{◌≡◌, ℕ, List, Option, Some, None, IfSome, IfNone, get_or, sym, ap}
use Rattle.std.specs.Prelude.{option_map}
use Rattle.std.specs.FinMap as map
use Rattle.fam_base.specs.declared.entry.Entry.{Entry}
use Rattle.fam_tree.specs.Runs.{InOrder, IsAbsent, IsFound, IsRunFor, entries_in, entry_at, run_of, runs_of, tree_of}
use Rattle.fam_tree.proofs.Nested.{Runs, absent_of_run, found_in_run, nothing_without_runs}
use Rattle.fam_tree.proofs.RunPlaces.{run_at, run_in_order}
use Rattle.fam_tree.proofs.runs.place_in.Goals as goal

told : (es : List Entry) (runs : Runs) (q : List ℕ) (k : ℕ) (r : List Entry) → IsRunFor runs q k → r ≡ get_or runs k r → InOrder (entries_in runs)
    → (o : Option ℕ) → IfSome o (λ place. IsFound r q (entry_at es place)) → IfNone o (IsAbsent r q)
    → option_map (entry_at es) o ≡ map.get (tree_of (entries_in runs)) q
told es runs q k r for is order (Some place) found none = sym (found_in_run runs q k r for is order (entry_at es place) found)
told es runs q k r for is order None found none = sym (absent_of_run runs q k r for is none)

pub place_of-requires-clause-order : goal.place_of-requires-clause-order
place_of-requires-clause-order c =
    run_in_order c.args.entries.now c.args.runs.now c.in-Some.k c.in-Some.ensures.within c.requires c.index-runs-k.result c.index-runs-k.is

pub returns-in-Some-clause-value : goal.returns-in-Some-clause-value
returns-in-Some-clause-value c =
    let es = c.args.entries.now in
    let runs = c.args.runs.now in
    let run = c.index-runs-k.result in
    told es (runs_of es runs) c.args.path.now c.in-Some.k (run_of es run) c.in-Some.ensures.some (run_at es runs c.in-Some.k c.in-Some.ensures.within run c.index-runs-k.is)
    c.requires.held.order c.place_of.result c.place_of.ensures.found c.place_of.ensures.none

pub returns-in-None-clause-value : goal.returns-in-None-clause-value
returns-in-None-clause-value c =
    let es = c.args.entries.now in
    sym (nothing_without_runs (runs_of es c.args.runs.now) c.args.path.now (ap (runs_of es) c.in-None.ensures.none))
