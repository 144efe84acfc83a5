use Rattle.std.proofs.Common.{◌<◌, List, Some, length, sym, ap, ◌∙◌}
use Rattle.std.specs.Prelude.{option_map, slice_get}
use Rattle.fam_base.specs.declared.entry.Kind.{Kind}
use Rattle.fam_fsck.specs.declared.found.Found.{Found}
use Rattle.fam_fsck.proofs.FoundLists.{found_within, kind_found}
use Rattle.fam_fsck.proofs.found_list.FoundList.kind_at.Goals as goal

pub kind_at-requires : goal.kind_at-requires
kind_at-requires c =
    let own = c.self.inside in
    found_within own.entries own.marks.items c.args.self.now c.args.place c.self.invariant c.self.view_is c.requires

pub returns : goal.returns
returns c =
    let own = c.self.inside in
    let within : c.args.place < length own.entries = found_within own.entries own.marks.items c.args.self.now c.args.place c.self.invariant c.self.view_is c.requires in
    ap (λ (l : List Found). option_map (λ (f : Found). f.entry.kind) (slice_get l c.args.place)) (sym c.self.view_is)
    ∙ kind_found own.entries own.marks.items c.args.place c.self.invariant within
    ∙ ap (λ (k : Kind). Some k) (sym c.kind_at.ensures)
