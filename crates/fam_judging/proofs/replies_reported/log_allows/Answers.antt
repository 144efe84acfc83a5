use Rattle.std.proofs.Common.{◌∙◌}
use Rattle.fam_judging.proofs.Leaves.{ok_map}
use Rattle.fam_judging.proofs.replies_reported.log_allows.Goals as goal

pub returns-in-Some : goal.returns-in-Some
returns-in-Some c = ok_map c.report_fits.result _ _ c.report_fits.ensures (λ b is host same. is host (same ∙ c.in-Some.is))
