use Rattle.std.proofs.Common.{refl}
use Rattle.fam_rules.specs.Content.{fill}
use Rattle.fam_samples.proofs.settled.what_notes_settle.Goals as goal

pub returns-clause-writes : goal.returns-clause-writes
unfolding fill
returns-clause-writes c = refl

pub returns-clause-found_new : goal.returns-clause-found_new
unfolding fill
returns-clause-found_new c = refl

pub returns-clause-found_far : goal.returns-clause-found_far
unfolding fill
returns-clause-found_far c = refl

pub returns-clause-shown_old : goal.returns-clause-shown_old
unfolding fill
returns-clause-shown_old c = refl

pub returns-clause-shown_new : goal.returns-clause-shown_new
unfolding fill
returns-clause-shown_new c = refl

pub returns-clause-reported : goal.returns-clause-reported
unfolding fill
returns-clause-reported c = refl

pub returns-clause-unread : goal.returns-clause-unread
unfolding fill
returns-clause-unread c = refl

pub returns-clause-acknowledged : goal.returns-clause-acknowledged
unfolding fill
returns-clause-acknowledged c = refl

pub returns-clause-another : goal.returns-clause-another
unfolding fill
returns-clause-another c = refl

pub returns-clause-quiet : goal.returns-clause-quiet
unfolding fill
returns-clause-quiet c = refl

pub returns-clause-halted_early : goal.returns-clause-halted_early
unfolding fill
returns-clause-halted_early c = refl
