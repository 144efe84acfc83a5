use Rattle.std.proofs.Common.{◌≡◌, Bool, List, [], ◌∷◌, ◌++◌, sym, ap, ap₂, ◌∙◌, arith}
use Rattle.fam_base.specs.declared.entry.Entry.{Entry}
use Rattle.fam_tree.proofs.Edits.{chosen, where_ok}
use Rattle.fam_fsck.specs.declared.found.Found.{Found}
use Rattle.fam_fsck.specs.declared.found_list.Mark.{Mark}
use Rattle.fam_fsck.specs.Found.{found_of}
use Rattle.fam_fsck.proofs.FoundLists.{applies_told, found_more}
use Rattle.fam_fsck.proofs.found_list.FoundList.join.Goals as goal

pub returns-clause-found : goal.returns-clause-found
returns-clause-found c =
    let own = c.self.inside in
    let e : Entry = c.args.entry.now in
    let m : Mark = record { number = c.args.number; applies = c.is_none-applies.result } in
    let room = where_ok c.reserve.result _ (sym c.is_err.ensures.value ∙ c.if-is_err.false) c.reserve.ensures.ok in
    let marks : c.push-2.new.self.items ≡ own.marks.items ++ m ∷ [] =
    chosen {X = List Mark} c.push-2.result _ _ _ (c.push-2.ensures.succeeds (omega (arith, room))) c.push-2.ensures.items
    ∙ ap (λ (l : List Mark). l ++ m ∷ []) c.reserve.ensures.items in
    ap₂ found_of c.if-not-push.ensures.added marks
    ∙ found_more own.entries own.marks.items e m c.self.invariant
    ∙ ap₂ (λ (l : List Found) (b : Bool). let f : Found = record { number = c.args.number; entry = e; applies = b } in l ++ f ∷ [])
    c.self.view_is (applies_told c.push.new.beside.fault c.is_none-applies.result c.is_none-applies.ensures)
