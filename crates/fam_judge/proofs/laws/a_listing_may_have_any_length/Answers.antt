use Rattle.fam_judge.proofs.Standing.Listings.{may_list}
use Rattle.fam_judge.proofs.laws.a_listing_may_have_any_length.Goals as goal

pub returns : goal.returns
returns c = may_list
