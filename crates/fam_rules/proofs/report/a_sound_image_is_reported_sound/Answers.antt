use Rattle.fam_rules.proofs.ReportProofs.{sound_reported}
use Rattle.fam_rules.proofs.report.a_sound_image_is_reported_sound.Goals as goal

pub returns : goal.returns
returns c = sound_reported
