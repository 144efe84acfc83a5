use Rattle.std.proofs.Common.{List, ℕ, ap, refl, sym, ◌∙◌, drop, get_or, ◌+◌}
use Rattle.fam_format.specs.Units.{first_overlap}
use Rattle.fam_plain.specs.Joining.{is_seen}
use Rattle.fam_plain.proofs.Scans.{overlap_more}
use Rattle.fam_plain.proofs.units.first_overlap.Goals as goal

pub loop-unit-preserved : goal.loop-unit-preserved
loop-unit-preserved c =
    ap (λ (l : List ℕ). first_overlap (is_seen c.args.head l) (drop (c.loop-unit.unit-index + 1) c.args.units.now)) c.in-Ok.ensures.items
    ∙ overlap_more c.args.head c.loop-unit.seen.items c.args.units.now c.loop-unit.unit-index (get_or c.args.units.now c.loop-unit.unit-index 0) c.loop-unit-test.true refl
    (sym (c.is_seen.ensures ∙ ap (λ (l : List ℕ). is_seen c.args.head l (get_or c.args.units.now c.loop-unit.unit-index 0)) c.deref.ensures.value) ∙ c.if-is_seen.false)
    ∙ c.loop-unit.invariant
