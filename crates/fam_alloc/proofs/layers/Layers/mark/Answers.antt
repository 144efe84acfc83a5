use Rattle.std.proofs.Common.{ℕ, List, ◌||◌, ap, ◌∙◌, arith}
use Rattle.fam_alloc.specs.Next.{is_bit_set, is_between}
use Rattle.fam_alloc.proofs.LayerLemmas.{still_full, marked_too}
use Rattle.fam_alloc.proofs.layers.Layers.mark.Goals as goal

pub hint_all-requires-clause-sound : goal.hint_all-requires-clause-sound
hint_all-requires-clause-sound c =
    still_full c.self.inside.words.items c.mark.new.words.items c.self.inside.full.items c.self.invariant.words_full
    (marked_too c.self.inside.words.items c.mark.new.words.items c.args.from c.args.to c.mark.ensures.marked)

pub hint_all-requires-2-clause-sound : goal.hint_all-requires-2-clause-sound
hint_all-requires-2-clause-sound c =
    still_full c.self.inside.full.items c.hint_all.new.full.items c.self.inside.blocks.items c.self.invariant.full_full c.hint_all.ensures.more

pub hint_all-requires-3-clause-sound : goal.hint_all-requires-3-clause-sound
hint_all-requires-3-clause-sound c =
    still_full c.self.inside.blocks.items c.hint_all-2.new.full.items c.self.inside.tops.items c.self.invariant.blocks_full c.hint_all-2.ensures.more

pub invariant_of-self : goal.invariant_of-self
invariant_of-self c = record {
  words_full = c.hint_all.ensures.sound;
  full_full = c.hint_all-2.ensures.sound;
  blocks_full = c.hint_all-3.ensures.sound;
  words_room = omega (arith, c.mark.ensures.len, c.hint_all.ensures.len, c.self.invariant.words_room);
  full_room = omega (arith, c.hint_all.ensures.len, c.hint_all-2.ensures.len, c.self.invariant.full_room);
  blocks_room = omega (arith, c.hint_all-2.ensures.len, c.hint_all-3.ensures.len, c.self.invariant.blocks_room);
}

pub returns-clause-marked : goal.returns-clause-marked
returns-clause-marked c = λ u. c.mark.ensures.marked u ∙ ap (λ (w : List ℕ). is_bit_set w u || is_between c.args.from c.args.to u) c.self.view_is
