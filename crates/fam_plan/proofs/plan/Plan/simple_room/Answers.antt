use Rattle.std.proofs.Common.{List, [], ◌∷◌, Result, Ok, sym, ap, ◌∙◌}
use Rattle.fam_base.specs.declared.extents.Extent.{Extent}
use Rattle.fam_base.specs.declared.entry.MapKind.TheVariants.{Simple}
use Rattle.fam_rules.specs.declared.answers.Refused.{Refused}
use Rattle.fam_rules.specs.Decide.{Room}
use Rattle.fam_alloc.specs.Taken.{is_taken}
use Rattle.fam_plan.proofs.Decisions.{simple_by, end_fits, room_within}
use Rattle.fam_plan.specs.State.{entries_at}
use Rattle.fam_plan.proofs.plan.Plan.simple_room.Goals as goal

pub returns-in_default : goal.returns-in_default
returns-in_default c =
    let own = c.self.inside in
    simple_by (record { params = own.params; entries = entries_at own.tree own.ledger.order }) c.args.self.now own.tree own.ledger.used.map c.self.invariant.plan c.self.view_is
    c.args.size c.units_of-count.result _ c.units_of-count.ensures c.in_default.ensures

pub extent_from-requires : goal.extent_from-requires
extent_from-requires c =
    let own = c.self.inside in
    end_fits (record { params = own.params; entries = entries_at own.tree own.ledger.order }) c.args.self.now own.tree own.ledger.used.map
    c.self.invariant.plan c.self.view_is c.units_of-count.result c.in-Some.start
    (room_within (is_taken own.ledger.used.map) _ c.units_of-count.result c.in-Some.start c.in-Some.ensures)

pub returns : goal.returns
returns c =
    let own = c.self.inside in
    let as_room : List Extent → Result Room Refused = λ xs. Ok (record { map = Simple; extents = xs }) in
    simple_by (record { params = own.params; entries = entries_at own.tree own.ledger.order }) c.args.self.now own.tree own.ledger.used.map c.self.invariant.plan c.self.view_is
    c.args.size c.units_of-count.result _ c.units_of-count.ensures c.in-Some.ensures
    ∙ ap as_room (sym (c.one_extent.ensures ∙ ap (λ (x : Extent). x ∷ []) c.extent_from.ensures))
