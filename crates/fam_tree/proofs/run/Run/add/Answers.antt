use Rattle.std.proofs.Common.{◌≡◌, length, ap, ◌∙◌}
use Rattle.fam_tree.specs.Runs.{AreWithin, IsGap, run_of}
use Rattle.fam_tree.proofs.Edits.{put_where, within_where}
use Rattle.fam_tree.proofs.run.Run.add.Goals as goal

pub returns-clause-added : goal.returns-clause-added
returns-clause-added g c =
    let es = c.args.entries.now in
    let xs = c.self.inside.places.value.items in
    let e = c.args.entry.now in
    let same : c.in-Some.places.now.items ≡ xs = ap (λ v. v.items) c.in-Some.ensures.value ∙ c.unshare.ensures in
    let gap : IsGap (run_of es xs) e.path c.in-Err.i = rw (c.self.view_is, ← c.path.ensures.same) c.in-Err.ensures.gap in
    let within : AreWithin (length es) xs = rw c.self.view_is c.requires.inside in
    rw (← c.self.view_is)
    (put_where c.insert.result es c.insert.new.entries xs c.insert.new.places.items c.in-Some.places.now.items c.in-Err.i e within same c.insert.ensures.places c.insert.ensures.entries gap)

pub returns-clause-inside : goal.returns-clause-inside
returns-clause-inside g c =
    let es = c.args.entries.now in
    let xs = c.self.inside.places.value.items in
    let same : c.in-Some.places.now.items ≡ xs = ap (λ v. v.items) c.in-Some.ensures.value ∙ c.unshare.ensures in
    let within : AreWithin (length es) xs = rw c.self.view_is c.requires.inside in
    within_where c.insert.result es c.insert.new.entries xs c.insert.new.places.items c.in-Some.places.now.items c.in-Err.i c.args.entry.now within
    same c.insert.ensures.places c.insert.ensures.entries
