use Rattle.fam_judge.proofs.Fitting.{explained_fits}
use Rattle.fam_judge.proofs.laws.what_is_allowed_fits.Goals as goal

pub returns : goal.returns
returns c = explained_fits
