use Rattle.std.proofs.Common.{◌≡◌, ◌+◌, ◌/◌, Some, ap, sym, ◌∙◌}
use Rattle.fam_base.specs.declared.cmd.Content.{Content}
use Rattle.fam_rules.specs.Content.{content_byte, stream_state}
use Rattle.fam_content.specs.Stream.{generator_of}
use Rattle.fam_content.proofs.Lines.{seeded_byte}
use Rattle.fam_content.proofs.stream.endless_line.Goals as goal

pub returns-in-Some-clause-bytes : goal.returns-in-Some-clause-bytes
returns-in-Some-clause-bytes c = λ b small.
    let seed = c.in-Seed.field-0 in
    let held : Some c.in-Some.generator ≡ Some (stream_state seed (c.args.start / 8)) =
    sym c.in-Some.is ∙ c.requires.stands ∙ ap (λ (x : Content). generator_of x (c.args.start / 8)) c.in-Seed.is in
    let stands : c.in-Some.generator ≡ stream_state seed (c.args.start / 8) = cc in
    seeded_byte seed c.args.start c.next_line.result c.requires.aligned (λ w low. c.next_line.ensures.words seed (c.args.start / 8) w stands low) b small
    ∙ ap (λ (x : Content). content_byte x (c.args.start + b)) (sym c.in-Seed.is)
