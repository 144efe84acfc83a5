use Rattle.std.proofs.Common.{◌∙◌, arith}
use Rattle.fam_alloc.proofs.layers.hint_all.Goals as goal

pub hint-requires : goal.hint-requires
hint-requires c = record {
  within = omega (arith, c.loop-word-test.true, c.requires.within);
  room = omega (arith, c.loop-word.invariant.len, c.requires.room);
  few = omega (arith, c.loop-word-test.true, c.requires.few);
  sound = c.loop-word.invariant.sound;
}

pub loop-word-preserved : goal.loop-word-preserved
loop-word-preserved c = record {
  len = c.hint.ensures.len ∙ c.loop-word.invariant.len;
  sound = c.hint.ensures.sound;
  more = λ w set. c.hint.ensures.more w (c.loop-word.invariant.more w set);
}

pub returns : goal.returns
returns c = record { sound = c.loop-word.invariant.sound; more = c.loop-word.invariant.more; len = c.loop-word.invariant.len }
