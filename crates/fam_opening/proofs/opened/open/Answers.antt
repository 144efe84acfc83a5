use Rattle.std.proofs.Common.{◌∙◌}
use Rattle.fam_opening.proofs.opened.open.Goals as goal

pub returns-in_ok-open_without_superblock-in-Err-clause-opened : goal.returns-in_ok-open_without_superblock-in-Err-clause-opened
returns-in_ok-open_without_superblock-in-Err-clause-opened g c = λ image told.
    c.in_ok-open_without_superblock-in-Err.ensures.given image (c.in_ok-params.ensures.same ∙ told)
