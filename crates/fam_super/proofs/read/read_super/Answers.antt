use Rattle.std.proofs.Common.{◌++◌, ℕ, List, sym, subst}
use Rattle.fam_base.specs.Image.{line_at, word_at}
use Rattle.fam_format.specs.SuperLaws.{IsWords}
use Rattle.fam_super.proofs.SuperFound.{is_reading, found, only}
use Rattle.fam_super.proofs.read.read_super.Goals as goal

pub returns-clause-found : goal.returns-clause-found
returns-clause-found c limit =
    let word : ℕ = word_at c.args.lines.now 0 0 in
    let w : List ℕ = line_at c.args.lines.now 1 ++ line_at c.args.lines.now 2 in
    found word w c.args.have c.read_body.result
    (is_reading word c.words_of.result w c.args.have c.read_body.result (sym c.in_default.ensures) c.words_of.ensures c.read_body.ensures.value)
    (subst (λ (v : List ℕ). IsWords 16 v) c.words_of.ensures c.read_body.ensures.words)
    limit

pub returns-clause-only : goal.returns-clause-only
returns-clause-only c =
    let word : ℕ = word_at c.args.lines.now 0 0 in
    let w : List ℕ = line_at c.args.lines.now 1 ++ line_at c.args.lines.now 2 in
    only word w c.args.have c.read_body.result
    (is_reading word c.words_of.result w c.args.have c.read_body.result (sym c.in_default.ensures) c.words_of.ensures c.read_body.ensures.value)
