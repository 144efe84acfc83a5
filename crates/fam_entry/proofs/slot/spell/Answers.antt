use Rattle.std.proofs.Common.{ℕ, ◌-◌, arith, ap, ◌∙◌, set, take}
use Rattle.std.proofs.lemmas.List.{length-set}
use Rattle.std.proofs.lemmas.List.Edits.{fill_by_more}
use Rattle.fam_crc.specs.Crc.{crc32, bytes_of_words}
use Rattle.fam_format.specs.Layout.{shape_of}
use Rattle.fam_format.specs.Slot.{slot_word_at}
use Rattle.fam_format.proofs.Filling.{spelled_in_front}
use Rattle.fam_entry.proofs.slot.spell.Goals as goal

pub loop-i-preserved : goal.loop-i-preserved
loop-i-preserved c = (
  length-set c.loop-i.words c.loop-i.i c.word_of.result ∙ c.loop-i.invariant.0,
  rw c.word_of.ensures (fill_by_more (slot_word_at c.args.entry.now c.args.seq) c.loop-i.words c.loop-i.i 0 (omega arith) c.loop-i.invariant.1),
)

pub returns : goal.returns
returns c =
    let last = c.shape_of-shape.result.words - 1 in
    ap (take c.shape_of-shape.result.words) (ap (set c.loop-i.words last) c.crc_words.ensures)
    ∙ ap (λ (n : ℕ). take n (set c.loop-i.words last (crc32 (bytes_of_words (take last c.loop-i.words))))) c.shape_of-shape.ensures.words
    ∙ spelled_in_front (shape_of c.args.format) c.args.entry.now c.args.seq last c.loop-i.words
    (omega (arith, c.shape_of-shape.ensures.words, c.shape_of-shape.ensures.least))
    (omega (arith, c.shape_of-shape.ensures.most, c.loop-i.invariant.0, c.shape_of-shape.ensures.least))
    (λ k below. c.loop-i.invariant.1 k (omega (arith, below, c.loop-i-test.false)))
