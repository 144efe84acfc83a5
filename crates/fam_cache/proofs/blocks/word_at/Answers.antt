use Rattle.std.proofs.Common.{◌∙◌, List, ℕ, ap, sym, get_or}
use Rattle.fam_cache.specs.Blocks.{words_there}
use Rattle.fam_cache.proofs.BlockLemmas.{eight_index, words_held}
use Rattle.fam_cache.proofs.blocks.word_at.Goals as goal

pub returns : goal.returns
returns c =
    ap (λ (words : List ℕ). get_or words c.args.word 0) c.words_at-words.ensures
    ∙ sym (eight_index (words_there c.args.cache.now.blocks.items c.args.at c.args.line) c.args.word c.requires.word)
    ∙ sym (ap (λ (words : List ℕ). get_or words c.args.word 0) (words_held c.args.cache.now c.requires.kept c.args.at c.args.line c.requires.stands c.requires.held))
