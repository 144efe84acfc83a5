use Rattle.fam_alloc.proofs.LayerLemmas.{skipped_full}
use Rattle.fam_alloc.proofs.layers.Layers.next_free.Goals as goal

pub next_behind-past_blocks-requires-clause-full : goal.next_behind-past_blocks-requires-clause-full
next_behind-past_blocks-requires-clause-full c =
    skipped_full c.self.inside.blocks.items c.self.inside.tops.items c.div_ceil-block.result c.div_ceil.result c.div_ceil-2.result
    c.next-past_tops.result c.self.invariant.blocks_full c.div_ceil.ensures c.next-past_tops.ensures

pub next_behind-past_words-requires-clause-full : goal.next_behind-past_words-requires-clause-full
next_behind-past_words-requires-clause-full c =
    skipped_full c.self.inside.full.items c.self.inside.blocks.items c.div_ceil-word.result c.div_ceil-block.result c.div_ceil-last_block.result
    c.next_behind-past_blocks.result c.self.invariant.full_full c.div_ceil-block.ensures c.next_behind-past_blocks.ensures

pub next_behind-requires-clause-full : goal.next_behind-requires-clause-full
next_behind-requires-clause-full c =
    skipped_full c.self.inside.words.items c.self.inside.full.items c.args.from c.div_ceil-word.result c.div_ceil-last_word.result
    c.next_behind-past_words.result c.self.invariant.words_full c.div_ceil-word.ensures c.next_behind-past_words.ensures
