use Rattle.std.proofs.Common.{ℕ, ◌*◌, Err, ap, sym, ◌∙◌, arith}
use Rattle.fam_base.specs.Image.{line_at}
use Rattle.fam_format.specs.Reading.{super_in}
use Rattle.fam_rules.specs.Place.{line_bytes}
use Rattle.fam_opening.proofs.Damaged.{super_sized}
use Rattle.fam_opening.proofs.opened.open_without_superblock.Goals as goal

pub returns-then-lines-lt-LEAST_LINES-clause-given : goal.returns-then-lines-lt-LEAST_LINES-clause-given
returns-then-lines-lt-LEAST_LINES-clause-given g c = λ image told.
    let lines = c.lines-lines.ensures.count in
    c.few_lines.ensures image (g.met.M.Media.modelled c.args.media.now image told ∙ sym lines)
    (ap (λ (n : ℕ). super_in (line_at image) (line_bytes * n)) lines ∙ c.requires.superblock image told)

pub returns-clause-given : goal.returns-clause-given
returns-clause-given g c = λ image told.
    let count = g.met.M.Media.modelled c.args.media.now image told in
    c.bad_superblock.ensures image (omega (arith, count, c.lines-lines.ensures.count, c.if-lines-lt-LEAST_LINES.false))
    (super_sized image (g.M.Media.size c.args.media.now) (Err c.args.fault) count (c.requires.superblock image told))
    (c.in_ok-gate.ensures.gate image told)
