use Rattle.std.proofs.Common.{ℕ, ◌+◌, ◌*◌, ◌^◌, ◌<◌, List, map, Result, Ok, sym, ap, subst, ◌∙◌, rules}
use Rattle.std.specs.List.{All}
use Rattle.fam_base.specs.declared.extents.Extent.{Extent}
use Rattle.fam_base.specs.declared.entry.MapKind.TheVariants.{Striped}
use Rattle.fam_rules.specs.declared.answers.Refused.{Refused}
use Rattle.fam_rules.specs.Decide.{Room, extent_from}
use Rattle.fam_plan.proofs.Decisions.{striped_by, stripe_here, strip_some, ends_fit}
use Rattle.fam_plan.specs.State.{entries_at}
use Rattle.fam_plan.proofs.plan.Plan.striped_room.Goals as goal

pub find_strips-requires-clause-some : goal.find_strips-requires-clause-some
find_strips-requires-clause-some c =
    let own = c.self.inside in
    let good = stripe_here (record { params = own.params; entries = entries_at own.tree own.ledger.order }) c.args.self.now own.tree
    own.ledger.used.map c.self.invariant.plan c.self.view_is c.args.stripe c.requires.stripe in
    let chunk_fits : c.args.stripe.chunk < 2 ^ 64 = search rules in
    strip_some (record { params = own.params; entries = entries_at own.tree own.ledger.order }) c.args.self.now own.tree own.ledger.used.map c.self.invariant.plan c.self.view_is
    c.args.size c.args.stripe c.strip_units-count.result good c.requires.size c.ranges.size.fits chunk_fits c.strip_units-count.ensures.value

pub returns-in_default : goal.returns-in_default
returns-in_default c =
    let own = c.self.inside in
    striped_by (record { params = own.params; entries = entries_at own.tree own.ledger.order }) c.args.self.now own.tree own.ledger.used.map c.self.invariant.plan c.self.view_is
    c.args.size c.args.stripe c.strip_units-count.result c.count-seq.result _ c.strip_units-count.ensures.value c.count-seq.ensures.count c.in_default.ensures

pub extents_at-requires-clause-fit : goal.extents_at-requires-clause-fit
extents_at-requires-clause-fit c =
    let own = c.self.inside in
    subst (All (λ i. (i + c.strip_units-count.result) * own.params.unit < 2 ^ 64)) (sym c.as_slice.ensures.same)
    (ends_fit (record { params = own.params; entries = entries_at own.tree own.ledger.order }) c.args.self.now own.tree own.ledger.used.map c.self.invariant.plan c.self.view_is
    c.strip_units-count.result c.args.stripe.nstrips c.args.stripe.nbuckets c.count-seq.result c.in-Some.starts c.in-Some.ensures)

pub returns : goal.returns
returns c =
    let own = c.self.inside in
    let as_room : List Extent → Result Room Refused = λ xs. Ok (record { map = Striped c.args.stripe.chunk; extents = xs }) in
    striped_by (record { params = own.params; entries = entries_at own.tree own.ledger.order }) c.args.self.now own.tree own.ledger.used.map c.self.invariant.plan c.self.view_is
    c.args.size c.args.stripe c.strip_units-count.result c.count-seq.result _ c.strip_units-count.ensures.value c.count-seq.ensures.count c.in-Some.ensures
    ∙ ap as_room (sym (c.extents_at.ensures ∙ ap (λ (xs : List ℕ). map (extent_from own.params.unit c.strip_units-count.result) xs) c.as_slice.ensures.same))
