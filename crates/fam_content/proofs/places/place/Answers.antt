use Rattle.std.proofs.Common.{◌≡◌, ◌<◌, ◌^◌, List, sym, ap, subst, ◌∙◌}
use Rattle.fam_base.specs.declared.entry.MapKind.TheVariants.{Empty, Simple, Striped}
use Rattle.fam_base.specs.declared.extents.Extent.{Extent}
use Rattle.fam_rules.specs.Place.{simple_place, striped_place, place}
use Rattle.fam_content.proofs.Callers.{by_kind, by_kind_fits, dealt_some, lies_in, no_other}
use Rattle.fam_content.proofs.places.place.Goals as goal

pub simple_place-requires : goal.simple_place-requires
simple_place-requires c =
    subst (λ (xs : List Extent). simple_place xs c.args.offset < 2 ^ 64) (sym c.as_slice.ensures.same)
    (by_kind_fits c.args.entry.now Simple c.args.offset c.in-Simple.is c.requires.file c.requires.below)

pub striped_place-requires-clause-some : goal.striped_place-requires-clause-some
striped_place-requires-clause-some c =
    rw c.as_slice-in-Striped.ensures.same (dealt_some c.args.entry.now c.in-Striped.chunk c.args.offset c.in-Striped.is c.requires.file c.requires.below).0

pub striped_place-requires-clause-chunk : goal.striped_place-requires-clause-chunk
striped_place-requires-clause-chunk c =
    (dealt_some c.args.entry.now c.in-Striped.chunk c.args.offset c.in-Striped.is c.requires.file c.requires.below).1

pub striped_place-requires-clause-fits : goal.striped_place-requires-clause-fits
striped_place-requires-clause-fits c =
    subst (λ (xs : List Extent). striped_place xs c.in-Striped.chunk c.args.offset < 2 ^ 64) (sym c.as_slice-in-Striped.ensures.same)
    (by_kind_fits c.args.entry.now (Striped c.in-Striped.chunk) c.args.offset c.in-Striped.is c.requires.file c.requires.below)

pub returns-in-Empty : goal.returns-in-Empty
returns-in-Empty c =
    let at : 0 ≡ place c.args.entry.now c.args.offset = by_kind c.args.entry.now Empty c.args.offset c.in-Empty.is in
    record {
      value = at;
      within = lies_in c.args.entry.now c.args.offset 0 at c.requires.file c.requires.below;
      apart = no_other c.args.entry.now c.args.offset 0 at c.requires.below;
    }

pub returns-in-Simple : goal.returns-in-Simple
returns-in-Simple c =
    let at : c.simple_place.result ≡ place c.args.entry.now c.args.offset =
    c.simple_place.ensures
    ∙ ap (λ (xs : List Extent). simple_place xs c.args.offset) c.as_slice.ensures.same
    ∙ by_kind c.args.entry.now Simple c.args.offset c.in-Simple.is in
    record {
      value = at;
      within = lies_in c.args.entry.now c.args.offset c.simple_place.result at c.requires.file c.requires.below;
      apart = no_other c.args.entry.now c.args.offset c.simple_place.result at c.requires.below;
    }

pub returns-in-Striped : goal.returns-in-Striped
returns-in-Striped c =
    let at : c.striped_place.result ≡ place c.args.entry.now c.args.offset =
    c.striped_place.ensures
    ∙ ap (λ (xs : List Extent). striped_place xs c.in-Striped.chunk c.args.offset) c.as_slice-in-Striped.ensures.same
    ∙ by_kind c.args.entry.now (Striped c.in-Striped.chunk) c.args.offset c.in-Striped.is in
    record {
      value = at;
      within = lies_in c.args.entry.now c.args.offset c.striped_place.result at c.requires.file c.requires.below;
      apart = no_other c.args.entry.now c.args.offset c.striped_place.result at c.requires.below;
    }
