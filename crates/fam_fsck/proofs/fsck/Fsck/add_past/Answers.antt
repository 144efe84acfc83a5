use Rattle.std.proofs.Common.{arith, ap}
use Rattle.fam_fsck.specs.Scan.{Scan}
use Rattle.fam_fsck.proofs.Surveys.{slots_fit}
use Rattle.fam_fsck.proofs.fsck.Fsck.add_past.Goals as goal

pub overflow_add-self : goal.overflow_add-self
overflow_add-self c =
    omega (arith, slots_fit c.self.inside.findings.params c.self.invariant.sound, c.requires.fewer, ap (λ (s : Scan). s.added) c.self.view_is, ap (λ (s : Scan). s.params.slots) c.self.view_is)
