use Rattle.std.proofs.Common.{ℕ, ◌≡◌, ◌*◌, ◌<◌, ap, ◌∙◌, rules, arith}
use Rattle.fam_rules.specs.Content.{content_line}
use Rattle.fam_content.proofs.Lines.{line_of_content}
use Rattle.fam_content.proofs.stream.ContentStream.line.Goals as goal

pub returns-clause-line : goal.returns-clause-line
returns-clause-line c = λ given stands.
    let given_so_far : ℕ = c.args.self.now.given in
    let left : 64 * given_so_far < c.args.size = omega (arith, c.requires.stands.count, c.requires.left) in
    let line : c.first_bytes.result ≡ content_line c.args.content.now c.args.size given_so_far =
    line_of_content c.args.content.now c.args.size given_so_far c.endless_line-line.result c.first_bytes.result (search rules) (search rules) left
    c.endless_line-line.ensures.bytes c.first_bytes.ensures in
    line ∙ ap (content_line c.args.content.now c.args.size) stands.count
