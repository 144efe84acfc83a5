use Rattle.std.proofs.Common.{ℕ, ◌≡◌, ◌+◌, ◌-◌, ◌*◌, ◌<◌, nat_lt, if◌then◌else◌, length, ap, ◌∙◌, rules, arith}
use Rattle.fam_rules.specs.Content.{byte_in, content_byte, content_line}
use Rattle.fam_content.specs.Stream.{line_in}
use Rattle.fam_content.proofs.Lines.{line_of_content, lines_of_content}
use Rattle.fam_content.proofs.stream.ContentStream.lines.Goals as goal

pub returns-clause-lines : goal.returns-clause-lines
returns-clause-lines c = λ given k stands below.
    let given_so_far : ℕ = c.args.self.now.given in
    let n : ℕ = length c.args.lines.now in
    let last : ℕ = length c.endless_lines.new.lines - 1 in
    let some : last + 1 ≡ n = omega arith in
    let left : 64 * (given_so_far + n) < c.args.size + 64 = omega (arith, c.requires.stands.count, c.requires.left) in
    let cut : c.first_bytes.result ≡ content_line c.args.content.now c.args.size (given_so_far + last) =
    line_of_content c.args.content.now c.args.size (given_so_far + last) (line_in c.endless_lines.new.lines last) c.first_bytes.result (search rules) (search rules) (omega arith)
    (λ b small. c.endless_lines.ensures.bytes last b (omega arith) small ∙ ap (content_byte c.args.content.now) (omega arith))
    (λ b small. c.first_bytes.ensures b small
    ∙ ap (λ (before : ℕ). if nat_lt b (c.args.size - before) then byte_in (line_in c.endless_lines.new.lines last) b else 0) (omega arith)) in
    lines_of_content c.args.content.now c.args.size given_so_far n last c.endless_lines.new.lines c.first_bytes.result c.endless_lines.auto.lines left
    c.endless_lines.ensures.bytes c.endless_lines.ensures.whole some cut k below
    ∙ ap (λ (i : ℕ). content_line c.args.content.now c.args.size (i + k)) stands.count
