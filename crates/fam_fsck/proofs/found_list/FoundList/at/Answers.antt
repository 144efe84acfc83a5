use Rattle.std.proofs.Common.{◌<◌, List, Some, length, refl, sym, ap, ◌∙◌, arith}
use Rattle.std.specs.Prelude.{slice_get}
use Rattle.std.proofs.lemmas.Option.{slice_get_read}
use Rattle.fam_base.specs.declared.entry.Entry.{Entry}
use Rattle.fam_fsck.specs.declared.found.Found.{Found}
use Rattle.fam_fsck.specs.Found.{with_mark}
use Rattle.fam_fsck.proofs.FoundLists.{found_at, found_within}
use Rattle.fam_fsck.proofs.found_list.FoundList.at.Goals as goal

pub index-mark-requires : goal.index-mark-requires
index-mark-requires c =
    let own = c.self.inside in
    omega (arith, found_within own.entries own.marks.items c.args.self.now c.args.place c.self.invariant c.self.view_is c.requires, c.self.invariant, own.marks.ok.0)

pub at-requires : goal.at-requires
at-requires c =
    let own = c.self.inside in
    found_within own.entries own.marks.items c.args.self.now c.args.place c.self.invariant c.self.view_is c.requires

pub returns : goal.returns
returns c =
    let own = c.self.inside in
    let within : c.args.place < length own.entries = found_within own.entries own.marks.items c.args.self.now c.args.place c.self.invariant c.self.view_is c.requires in
    let mark = c.index-mark.result.now in
    ap (λ (l : List Found). slice_get l c.args.place) (sym c.self.view_is)
    ∙ found_at own.entries own.marks.items c.args.place mark c.self.invariant
    (slice_get_read own.marks.items (length own.marks.items) c.args.place mark refl (omega (arith, within, c.self.invariant)) c.index-mark.ensures)
    ∙ ap (λ (e : Entry). Some (with_mark e mark)) (sym c.at.ensures)
