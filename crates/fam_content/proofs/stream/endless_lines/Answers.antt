use Rattle.std.proofs.Common.{ℕ, ◌≡◌, ◌+◌, ◌*◌, ◌/◌, ◌%◌, Some, ap, sym, ◌∙◌, arith}
use Rattle.fam_base.specs.declared.cmd.Content.{Content}
use Rattle.fam_rules.specs.Content.{content_byte, stream_state, stream_word}
use Rattle.fam_content.specs.Stream.{generator_of, line_in}
use Rattle.fam_content.proofs.Lines.{seeded_byte}
use Rattle.fam_content.proofs.stream.endless_lines.Goals as goal

pub returns-in-Some-clause-bytes : goal.returns-in-Some-clause-bytes
returns-in-Some-clause-bytes c = λ k b within small.
    let seed = c.in-Seed.field-0 in
    let held : Some c.in-Some.generator ≡ Some (stream_state seed (c.args.start / 8)) =
    sym c.in-Some.is ∙ c.requires.stands ∙ ap (λ (x : Content). generator_of x (c.args.start / 8)) c.in-Seed.is in
    let stands : c.in-Some.generator ≡ stream_state seed (c.args.start / 8) = cc in
    let at : c.args.start / 8 + 8 * k ≡ (c.args.start + 64 * k) / 8 = omega (arith, c.requires.aligned) in
    let whole : (c.args.start + 64 * k) % 64 ≡ 0 = omega (arith, c.requires.aligned) in
    seeded_byte seed (c.args.start + 64 * k) (line_in c.next_lines.new.lines k) whole (λ w low.
    c.next_lines.ensures.words seed (c.args.start / 8) k w stands within low ∙ ap (λ (i : ℕ). stream_word seed (i + w)) at) b small
    ∙ ap (λ (x : Content). content_byte x (c.args.start + 64 * k + b)) (sym c.in-Seed.is)
