use Rattle.std.proofs.Common.{◌≡◌, ℕ, List, [], ◌∷◌, ◌++◌, length, ap, ap₂, ◌∙◌, arith}
use Rattle.fam_base.specs.declared.entry.Entry.{Entry}
use Rattle.fam_base.specs.declared.extents.Extent.{Extent}
use Rattle.fam_tree.specs.Rows.{row_of}
use Rattle.fam_tree.specs.declared.row.Row.{Row}
use Rattle.fam_tree.proofs.Edits.{chosen}
use Rattle.fam_tree.proofs.RowLemmas.{put_entries, put_rows}
use Rattle.fam_tree.proofs.entry_list.EntryList.push.Goals as goal
use Rattle.fam_tree.proofs.entry_list.EntryList.push.Goals.{After-put-2}
use Rattle.fam_tree.proofs.entry_list.EntryList.push.Given.{Over}

row_is : (g : Over) (c : After-put-2 g) → c.in-Some.row ≡ row_of c.args.entry.now (length c.self.inside.paths.items) (length c.self.inside.extents.items)
row_is g c = c.in-Some.ensures ∙ ap₂ (row_of c.args.entry.now) (c.len.ensures ∙ c.self.inside.paths.ok.0) (c.len-2.ensures ∙ c.self.inside.extents.ok.0)

rows_longer : (g : Over) (c : After-put-2 g) → c.push.new.self.items ≡ c.self.inside.rows.items ++ c.in-Some.row ∷ []
rows_longer g c =
    chosen {X = List Row} c.push.result _ _ _ (c.push.ensures.succeeds (omega (arith, c.in-Ok.ensures.ok))) c.push.ensures.items
    ∙ ap (λ (l : List Row). l ++ c.in-Some.row ∷ []) c.reserve.ensures.items

paths_longer : (g : Over) (c : After-put-2 g) → c.put.new.items.items ≡ c.self.inside.paths.items ++ c.args.entry.now.path
paths_longer g c =
    c.put.ensures
    ∙ ap (λ (l : List ℕ). l ++ c.path-path.result.now) c.reserve-2.ensures.items
    ∙ ap (λ (l : List ℕ). c.self.inside.paths.items ++ l) c.path-path.ensures.same

extents_longer : (g : Over) (c : After-put-2 g) → c.put-2.new.items.items ≡ c.self.inside.extents.items ++ c.args.entry.now.extents
extents_longer g c =
    c.put-2.ensures
    ∙ ap (λ (l : List Extent). l ++ c.extents-extents.result.now) c.reserve-3.ensures.items
    ∙ ap (λ (l : List Extent). c.self.inside.extents.items ++ l) c.extents-extents.ensures.same

pub invariant_of-self-2 : goal.invariant_of-self-2
invariant_of-self-2 g c =
    let own = c.self.inside in
    put_rows own.paths.items c.put.new.items.items own.extents.items c.put-2.new.items.items own.rows.items c.push.new.self.items c.in-Some.row c.args.entry.now
    c.self.invariant (row_is g c) (paths_longer g c) (extents_longer g c) (rows_longer g c) c.path-path.ensures.path c.extents-extents.ensures.few

pub returns-clause-added : goal.returns-clause-added
returns-clause-added g c =
    let own = c.self.inside in
    put_entries own.paths.items c.put.new.items.items own.extents.items c.put-2.new.items.items own.rows.items c.push.new.self.items c.in-Some.row c.args.entry.now
    c.self.invariant (row_is g c) (paths_longer g c) (extents_longer g c) (rows_longer g c)
    ∙ ap (λ (l : List Entry). l ++ c.args.entry.now ∷ []) c.self.view_is
