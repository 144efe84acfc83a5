use Rattle.fam_tests.proofs.tests.surface.a_step_of_nobody_is_refused.Goals as goal

-- there is no host
pub step-refused-requires : goal.step-refused-requires
step-refused-requires g c = rw c.new-world.ensures (record { fits = λ h view is. absurd cc })
