use Rattle.std.proofs.Common.{◌<◌, length, IsOk, ap, ◌∙◌, arith}
use Rattle.fam_tree.specs.Runs.{listed}
use Rattle.fam_tree.proofs.Edits.{chosen}
use Rattle.fam_tree.proofs.RunPlaces.{are_cut, listed_cut}
use Rattle.fam_tree.proofs.runs.split.Goals as goal

pub returns-in-Ok-split-clause-runs : goal.returns-in-Ok-split-clause-runs
returns-in-Ok-split-clause-runs c =
    let ok : IsOk c.insert.result = c.insert.ensures.succeeds (omega (arith, c.in-Ok.ensures.ok)) in
    let runs = c.reserve.new.self.items in
    let within : c.args.k < length runs = rw c.reserve.ensures.items c.requires.within in
    let is = chosen c.insert.result _ _ _ ok c.insert.ensures.items in
    are_cut c.args.entries.now runs c.args.k c.split.new.self c.in-Ok-split.upper c.index_mut.result.now within c.index_mut.ensures.value c.in-Ok-split.ensures.cut c.insert.new.self.items is
    (rw c.reserve.ensures.items c.requires.runs) c.in-Ok-split.ensures.lower c.in-Ok-split.ensures.upper

pub returns-in-Ok-split-clause-entries : goal.returns-in-Ok-split-clause-entries
returns-in-Ok-split-clause-entries c =
    let ok : IsOk c.insert.result = c.insert.ensures.succeeds (omega (arith, c.in-Ok.ensures.ok)) in
    let runs = c.reserve.new.self.items in
    let within : c.args.k < length runs = rw c.reserve.ensures.items c.requires.within in
    let is = chosen c.insert.result _ _ _ ok c.insert.ensures.items in
    listed_cut c.args.entries.now runs c.args.k c.split.new.self c.in-Ok-split.upper c.index_mut.result.now within c.index_mut.ensures.value c.in-Ok-split.ensures.cut c.insert.new.self.items is
    ∙ ap (listed c.args.entries.now) c.reserve.ensures.items
