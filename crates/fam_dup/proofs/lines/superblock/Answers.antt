use Rattle.std.proofs.Common.{ℕ, ◌*◌, ◌∙◌, ap}
use Rattle.fam_base.specs.Image.{line_at}
use Rattle.fam_format.specs.Reading.{super_in}
use Rattle.fam_dup.proofs.lines.superblock.Goals as goal

pub returns-clause-found : goal.returns-clause-found
returns-clause-found g c = λ image told.
    c.read_super.ensures.value
    ∙ c.in_ok-lines.ensures.found image told (64 * c.lines.result)
    ∙ ap (λ (n : ℕ). super_in (line_at image) (64 * n)) (c.lines.ensures.count ∙ c.in_ok-lines.ensures.steady.size)
