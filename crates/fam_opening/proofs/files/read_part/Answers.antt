use Rattle.std.proofs.Common.{◌≡◌, ℕ, ◌+◌, ◌*◌, ◌∙◌, get_or, length, subst, sym, arith}
use Rattle.fam_base.specs.Image.{line_at}
use Rattle.fam_rules.specs.Content.{byte_in}
use Rattle.fam_media.specs.Runs.{line_in}
use Rattle.fam_opening.proofs.FileBytes.{held_more}
use Rattle.fam_opening.proofs.files.read_part.Goals as goal

pub returns-clause-held : goal.returns-clause-held
returns-clause-held g c = λ image told.
    let old = c.args.bytes.now in
    let new = c.push_lines.new.bytes in
    let lines = c.read_run.new.lines in
    let e = c.in_ok-push_lines.ensures in
    let r = c.in_ok-read_run.ensures in
    let n : ℕ = length c.args.lines.now in
    held_more (line_at image) c.args.entry.now c.args.j n lines old.items new.items
    (sym old.ok.0 ∙ c.requires.bytes)
    (omega (arith, new.ok.0, old.ok.0, e.count, r.count, c.requires.bytes))
    (λ k below. e.before k (omega (arith, below, old.ok.0)))
    (λ i b inside small.
    subst (λ (m : ℕ). get_or new.items (m + 64 * i + b) 0 ≡ byte_in (line_in lines i) b) old.ok.0 (e.here i b (omega (arith, inside, r.count)) small))
    (r.bytes image told)
