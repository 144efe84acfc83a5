use Rattle.std.proofs.Common.{◌≡◌, ℕ, ◌+◌, ◌<◌, List, sym, ap, subst, ◌∙◌, arith}
use Rattle.fam_base.specs.declared.entry.MapKind.TheVariants.{Simple, Striped}
use Rattle.fam_base.specs.declared.extents.Extent.{Extent}
use Rattle.fam_rules.specs.Place.{simple_place}
use Rattle.fam_content.proofs.Callers.{by_kind, dealt_some}
use Rattle.fam_content.proofs.Rows.{row_in_chunk}
use Rattle.fam_content.proofs.places.bytes_in_row.Goals as goal

pub nonzero_rem-result : goal.nonzero_rem-result
nonzero_rem-result c =
    (dealt_some c.args.entry.now c.in-Striped.chunk c.args.offset c.in-Striped.is c.requires.file c.requires.below).1

pub overflow_sub-result : goal.overflow_sub-result
overflow_sub-result c =
    let some : 0 < c.in-Striped.chunk = (dealt_some c.args.entry.now c.in-Striped.chunk c.args.offset c.in-Striped.is c.requires.file c.requires.below).1 in
    omega arith

pub returns-in-Simple : goal.returns-in-Simple
returns-in-Simple c = λ d within.
    let offset : ℕ = c.args.offset in
    let row : simple_place c.args.entry.now.extents (offset + d) ≡ simple_place c.args.entry.now.extents offset + d =
    subst (λ (xs : List Extent). simple_place xs (offset + d) ≡ simple_place xs offset + d) c.as_slice.ensures.same (c.simple_row.ensures d within) in
    sym (by_kind c.args.entry.now Simple (offset + d) c.in-Simple.is)
    ∙ row
    ∙ ap (λ (n : ℕ). n + d) (by_kind c.args.entry.now Simple offset c.in-Simple.is)

pub returns-in-Striped : goal.returns-in-Striped
returns-in-Striped c = λ d within.
    let offset : ℕ = c.args.offset in
    let some : 0 < c.in-Striped.chunk = (dealt_some c.args.entry.now c.in-Striped.chunk offset c.in-Striped.is c.requires.file c.requires.below).1 in
    sym (by_kind c.args.entry.now (Striped c.in-Striped.chunk) (offset + d) c.in-Striped.is)
    ∙ row_in_chunk c.args.entry.now.extents c.in-Striped.chunk offset some d within
    ∙ ap (λ (n : ℕ). n + d) (by_kind c.args.entry.now (Striped c.in-Striped.chunk) offset c.in-Striped.is)
