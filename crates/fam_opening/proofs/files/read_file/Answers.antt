use Rattle.std.proofs.Common.{ℕ, List, ◌∙◌, arith}
use Rattle.fam_base.specs.Image.{line_at}
use Rattle.fam_opening.proofs.FileBytes.{held_all}
use Rattle.fam_opening.proofs.files.read_file.Goals as goal

pub returns-clause-held : goal.returns-clause-held
returns-clause-held g c = λ image told.
    let bytes = c.in_ok-bytes.bytes in
    ◌∙◌ {A = List ℕ} c.truncate.ensures.items
    (held_all (line_at image) c.args.entry.now bytes.items (omega (arith, c.in_ok-bytes.ensures.long, bytes.ok.0)) (c.in_ok-bytes.ensures.held image told))
