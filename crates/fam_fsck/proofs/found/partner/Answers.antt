use Rattle.std.proofs.Common.{Bool, sym, ap, subst, ◌∙◌, arith}
use Rattle.std.specs.Prelude.{option_map}
use Rattle.std.proofs.lemmas.Option.{get_or_from_slice_get}
use Rattle.fam_rules.specs.Reports.{overlaps}
use Rattle.fam_fsck.specs.declared.found.Found.{Found}
use Rattle.fam_fsck.specs.Found.{pair_of, LiesWithin}
use Rattle.fam_fsck.proofs.FoundLists.{find_here, find_next, find_past}
use Rattle.fam_fsck.proofs.found.partner.Goals as goal

pub overlap-requires-clause-first : goal.overlap-requires-clause-first
overlap-requires-clause-first c =
    let f : Found = c.at-earlier.result in
    subst (LiesWithin c.args.unit c.args.units) (get_or_from_slice_get c.args.found.now c.loop-place.place f f c.at-earlier.ensures)
    (c.requires.first c.loop-place.place f (omega (arith, c.loop-place-test.true, c.len-place-end.ensures)))

pub returns-then-overlap : goal.returns-then-overlap
returns-then-overlap c =
    let test : Found → Bool = λ f. overlaps c.args.unit (pair_of f, (c.args.number, c.args.last.now)) in
    ap (option_map (λ (f : Found). f.number))
    (sym (find_here test c.args.found.now c.loop-place.place c.at-earlier.result c.at-earlier.ensures (sym c.overlap.ensures ∙ c.if-overlap.true)) ∙ c.loop-place.invariant)

pub loop-place-preserved : goal.loop-place-preserved
loop-place-preserved c =
    let test : Found → Bool = λ f. overlaps c.args.unit (pair_of f, (c.args.number, c.args.last.now)) in
    sym (find_next test c.args.found.now c.loop-place.place c.at-earlier.result c.at-earlier.ensures (sym c.overlap.ensures ∙ c.if-overlap.false))
    ∙ c.loop-place.invariant

pub returns : goal.returns
returns c =
    let test : Found → Bool = λ f. overlaps c.args.unit (pair_of f, (c.args.number, c.args.last.now)) in
    ap (option_map (λ (f : Found). f.number))
    (sym (find_past test c.args.found.now c.loop-place.place (omega (arith, c.loop-place-test.false, c.len-place-end.ensures))) ∙ c.loop-place.invariant)
