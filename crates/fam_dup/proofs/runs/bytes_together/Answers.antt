use Rattle.std.proofs.Common.{◌≡◌, ℕ, ◌+◌, List, sym, ap, ◌∙◌}
use Rattle.fam_base.specs.declared.extents.Extent.{Extent}
use Rattle.fam_base.specs.declared.entry.MapKind.TheVariants.{Simple, Striped}
use Rattle.fam_content.proofs.Callers.{by_kind, dealt_some}
use Rattle.fam_rules.specs.Place.{simple_place}
use Rattle.fam_dup.proofs.RunPuts.{dealt_behind}
use Rattle.fam_dup.proofs.runs.bytes_together.Goals as goal

pub chunk_run-requires : goal.chunk_run-requires
chunk_run-requires c =
    (dealt_some c.args.entry.now c.in-Striped.chunk c.args.offset c.in-Striped.is c.requires.file c.requires.below).1

pub returns-in-Simple : goal.returns-in-Simple
returns-in-Simple c = λ d below.
    let e = c.args.entry.now in
    let run : simple_place e.extents (c.args.offset + d) ≡ simple_place e.extents c.args.offset + d =
    ap (λ (xs : List Extent). simple_place xs (c.args.offset + d)) (sym c.as_slice.ensures.same)
    ∙ c.simple_run.ensures d below
    ∙ ap (λ (xs : List Extent). simple_place xs c.args.offset + d) c.as_slice.ensures.same in
    sym (by_kind e Simple (c.args.offset + d) c.in-Simple.is) ∙ run ∙ ap (λ (b : ℕ). b + d) (by_kind e Simple c.args.offset c.in-Simple.is)

pub returns-in-Striped : goal.returns-in-Striped
returns-in-Striped c = λ d below.
    let e = c.args.entry.now in
    let chunk = c.in-Striped.chunk in
    sym (by_kind e (Striped chunk) (c.args.offset + d) c.in-Striped.is)
    ∙ dealt_behind e.extents chunk c.args.offset d (c.chunk_run.ensures.chunk d below) (c.chunk_run.ensures.place d below)
    ∙ ap (λ (b : ℕ). b + d) (by_kind e (Striped chunk) c.args.offset c.in-Striped.is)
