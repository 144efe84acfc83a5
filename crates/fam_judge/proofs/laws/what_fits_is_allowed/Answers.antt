use Rattle.fam_judge.proofs.Fitting.{fits_explained}
use Rattle.fam_judge.proofs.laws.what_fits_is_allowed.Goals as goal

pub returns : goal.returns
returns c = fits_explained
