use Rattle.std.proofs.Common.{rules, ◌≡◌, ◌∙◌, ◌+◌, ◌-◌, ◌++◌, List, ℕ, length, ap, ap₂, arith}
use Rattle.std.proofs.lemmas.Slice.{take-put_mid}
use Rattle.fam_tasks.specs.SlotLines.{words_in}
use Rattle.fam_tasks.proofs.FlatLines.{flat_words}
use Rattle.fam_tasks.proofs.buffer.Buffer.push_lines.Goals as goal

pub returns : goal.returns
returns c =
    let start = c.count-start.result in
    let words = c.as_flattened-words.result.now in
    let copied : c.copy_from_slice.new.self ≡ words = search rules in
    let flat : words ≡ words_in c.args.lines.now c.args.count = c.as_flattened-words.ensures.value
    ∙ flat_words c.args.lines.now c.args.count c.requires.has (λ k below. c.told-lines k (omega (arith, below, c.requires.has))) in
    take-put_mid start (start + length words - start) c.self.inside.words c.copy_from_slice.new.self (start + length words)
    (omega (arith, ap length copied)) (omega (arith, c.self.told, c.count-start.ensures))
    ∙ ap₂ (λ (x y : List ℕ). x ++ y) (search rules) (copied ∙ flat)
