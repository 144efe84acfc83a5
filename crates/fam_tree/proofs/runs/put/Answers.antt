use Rattle.std.proofs.Common.{◌≡◌, ◌<◌, Bool, true, false, List, [], length, set, ap, ◌∙◌}
use Rattle.std.specs.Bool.{OnTrue}
use Rattle.fam_base.specs.declared.entry.Entry.{Entry}
use Rattle.fam_tree.specs.Runs.{IsRunFor, listed, runs_of, tree_of}
use Rattle.fam_tree.proofs.Nested.{nothing_without_runs}
use Rattle.fam_tree.proofs.RunPlaces.{Places, added_are, added_count, added_free, added_view, run_in_order}
use Rattle.fam_tree.proofs.runs.put.Goals as goal

on_any : (t : Bool) (P : Type 0) → P → OnTrue t P
on_any true P p = p
on_any false P p = tt

pub returns-in_default-clause-free : goal.returns-in_default-clause-free
returns-in_default-clause-free g c =
    let es = c.args.entries.now in
    let items = c.args.runs.now.items in
    let none : items ≡ [] = rw (← c.deref.ensures.value) c.in_default.ensures.none in
    on_any c.begin.result _ (nothing_without_runs (runs_of es items) c.args.entry.now.path (ap (λ (l : Places). runs_of es l) none))

pub add-requires-clause-order : goal.add-requires-clause-order
add-requires-clause-order g c =
    let items = c.args.runs.now.items in
    let below : c.in-Some.k < length items = rw (← c.deref.ensures.value) c.in-Some.ensures.within in
    run_in_order c.args.entries.now items c.in-Some.k below c.requires.runs c.index_mut.result.now c.index_mut.ensures.value

pub split-requires-clause-runs : goal.split-requires-clause-runs
split-requires-clause-runs g c =
    let es = c.args.entries.now in
    let items = c.args.runs.now.items in
    let for : IsRunFor (runs_of es items) c.args.entry.now.path c.in-Some.k = rw (← c.deref.ensures.value, ← c.path.ensures.same) c.in-Some.ensures.some in
    let below : c.in-Some.k < length items = rw (← c.deref.ensures.value) c.in-Some.ensures.within in
    added_are es c.add.new.entries items c.in-Some.k c.add.new.self c.args.entry.now c.requires.runs c.if-not-add.ensures.entries
    c.index_mut.result.now for below c.index_mut.ensures.value c.if-not-add.ensures.added c.if-not-add.ensures.inside

pub returns-clause-free : goal.returns-clause-free
returns-clause-free g c =
    let es = c.args.entries.now in
    let items = c.args.runs.now.items in
    let for : IsRunFor (runs_of es items) c.args.entry.now.path c.in-Some.k = rw (← c.deref.ensures.value, ← c.path.ensures.same) c.in-Some.ensures.some in
    let below : c.in-Some.k < length items = rw (← c.deref.ensures.value) c.in-Some.ensures.within in
    added_free es c.add.new.entries items c.in-Some.k c.add.new.self c.args.entry.now c.requires.runs c.if-not-add.ensures.entries
    c.index_mut.result.now for below c.index_mut.ensures.value c.if-not-add.ensures.added

pub returns-clause-added : goal.returns-clause-added
returns-clause-added g c =
    let es = c.args.entries.now in
    let items = c.args.runs.now.items in
    let for : IsRunFor (runs_of es items) c.args.entry.now.path c.in-Some.k = rw (← c.deref.ensures.value, ← c.path.ensures.same) c.in-Some.ensures.some in
    let below : c.in-Some.k < length items = rw (← c.deref.ensures.value) c.in-Some.ensures.within in
    let kept : listed c.add.new.entries c.split.new.runs.items ≡ listed c.add.new.entries (set items c.in-Some.k c.add.new.self) = c.split.ensures.entries in
    ap tree_of kept ∙ added_view es c.add.new.entries items c.in-Some.k c.add.new.self c.args.entry.now c.requires.runs c.if-not-add.ensures.entries
    c.index_mut.result.now for below c.index_mut.ensures.value c.if-not-add.ensures.added

pub returns-clause-count : goal.returns-clause-count
returns-clause-count g c =
    let es = c.args.entries.now in
    let items = c.args.runs.now.items in
    let for : IsRunFor (runs_of es items) c.args.entry.now.path c.in-Some.k = rw (← c.deref.ensures.value, ← c.path.ensures.same) c.in-Some.ensures.some in
    let below : c.in-Some.k < length items = rw (← c.deref.ensures.value) c.in-Some.ensures.within in
    let kept : listed c.add.new.entries c.split.new.runs.items ≡ listed c.add.new.entries (set items c.in-Some.k c.add.new.self) = c.split.ensures.entries in
    ap (λ (l : List Entry). length l) kept ∙ added_count es c.add.new.entries items c.in-Some.k c.add.new.self c.args.entry.now c.requires.runs
    c.if-not-add.ensures.entries c.index_mut.result.now for below c.index_mut.ensures.value c.if-not-add.ensures.added
