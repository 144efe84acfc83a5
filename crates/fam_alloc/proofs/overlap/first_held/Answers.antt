use Rattle.std.proofs.Common.{◌≡◌, ℕ, List, take, true, length, subst, ap, ◌∙◌}
use Rattle.std.proofs.Math.Seq.{take-length}
use Rattle.fam_base.specs.declared.extents.Extent.{Extent}
use Rattle.fam_format.specs.Units.{units_in}
use Rattle.fam_alloc.specs.Next.{IsNext}
use Rattle.fam_alloc.specs.Taken.{holds}
use Rattle.fam_alloc.proofs.overlap.first_held.Goals as goal

-- all of the extents
whole : (unit start end first n : ℕ) (extents : List Extent) → n ≡ length extents
    → IsNext (holds (units_in unit (take n extents))) true start end first → IsNext (holds (units_in unit extents)) true start end first
whole unit start end first n extents e h =
    subst (λ (xs : List Extent). IsNext (holds (units_in unit xs)) true start end first) (ap (λ (k : ℕ). take k extents) e ∙ take-length extents) h

pub returns : goal.returns
returns c =
    whole c.args.unit c.args.run.start c.args.run.end c.first_shared.result c.len.result c.args.extents.now c.len.ensures.count c.first_shared.ensures
