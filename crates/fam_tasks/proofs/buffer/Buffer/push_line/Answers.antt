use Rattle.std.proofs.Common.{rules, ◌≡◌, ◌∙◌, ◌++◌, ℕ, List, length, take, sym, ap, ap₂, arith}
use Rattle.std.proofs.lemmas.List.{length-take-le}
use Rattle.fam_base.specs.Image.{eight}
use Rattle.fam_machine.proofs.WideLines.{eight_whole}
use Rattle.fam_tasks.proofs.Lines.{put_behind}
use Rattle.fam_tasks.proofs.buffer.Buffer.push_line.Goals as goal

pub returns-clause-same : goal.returns-clause-same
returns-clause-same c =
    let n = c.count-count.result in
    let inside = c.self.inside in
    let whole : eight c.args.words.now ≡ c.args.words.now = eight_whole c.args.words.now (search rules) in
    let copied : c.copy_from_slice.new.self ≡ c.args.words.now = search rules in
    let held : length (take inside.len inside.words) ≡ inside.len = length-take-le inside.len inside.words (omega (arith, c.self.told, c.self.invariant)) in
    let same : n ≡ inside.len = omega (arith, c.count-count.ensures, ap length c.self.view_is, held) in
    put_behind n _ inside.words c.copy_from_slice.new.self (omega (arith, c.self.told, c.count-count.ensures, c.requires)) (ap length (copied ∙ sym whole))
    ∙ ap₂ (λ (x y : List ℕ). x ++ y) (ap (λ (m : ℕ). take m inside.words) same ∙ c.self.view_is) (copied ∙ sym whole)
