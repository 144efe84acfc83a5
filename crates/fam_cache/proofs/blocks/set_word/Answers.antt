use Rattle.std.proofs.Common.{false, ◌∙◌, List, ℕ, ap, sym, set}
use Rattle.fam_base.specs.Image.{eight}
use Rattle.fam_machine.specs.declared.cell.Cell.TheVariants.{Dirty}
use Rattle.fam_machine.specs.Caches.{with_cell}
use Rattle.fam_cache.specs.Blocks.{lines_of}
use Rattle.fam_cache.proofs.BlockLemmas.{eight_set, words_held}
use Rattle.fam_cache.proofs.blocks.set_word.Goals as goal

pub returns-clause-cache : goal.returns-clause-cache
returns-clause-cache c =
    let words = ap eight c.words_at-words.ensures ∙ sym (words_held c.args.cache.now c.requires.kept c.args.at c.args.line c.requires.stands c.requires.held) in
    c.set_line.ensures.cache
    ∙ ap (λ (new : List ℕ). with_cell c.args.line (Dirty false new) (lines_of c.args.cache.now))
    (ap eight c.with_word-stored.ensures ∙ eight_set c.words_at-words.result c.args.word c.args.value ∙ ap (λ (old : List ℕ). set old c.args.word c.args.value) words)
