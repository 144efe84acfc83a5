use Rattle.std.proofs.Common.{◌≡◌, ◌∙◌, ℕ, ap, refl, sym, fold, bit_xor}
use Rattle.fam_crc.specs.Crc.{all_ones, after_byte, bytes_of_words, crc32}
use Rattle.fam_crc.proofs.Steps.{of_none}
use Rattle.fam_crc.proofs.SeenZeros.{none_seen, tail_within, zeros_behind}
use Rattle.fam_crc.proofs.words.sum_words.Goals as goal

pub loop-next-init : goal.loop-next-init
loop-next-init c = record {
  after = c.begin-begun.ensures.after;
  seen = none_seen c.args.words.now c.begin-begun.result.rest.now c.begin-begun.ensures.rest;
}

pub overflow_sub-result : goal.overflow_sub-result
overflow_sub-result c = tail_within c.args.words.now c.loop-next.pass.tail.now c.loop-next.invariant.seen.ends

pub returns-clause-crc : goal.returns-clause-crc
unfolding crc32
returns-clause-crc c =
    let all : c.loop-next.pass.register ≡ fold after_byte all_ones (bytes_of_words c.args.words.now) =
    sym (of_none c.loop-next.pass.register c.loop-next.pass.rest.now c.in_default.ensures.none) ∙ c.loop-next.invariant.after in
    ap (λ (x : ℕ). bit_xor x all_ones) all

pub returns-clause-end : goal.returns-clause-end
returns-clause-end c = λ k from. zeros_behind c.args.words.now c.loop-next.pass.tail.now c.loop-next.pass.rest.now _ k c.loop-next.invariant.seen c.in_default.ensures.none refl from

pub loop-next-preserved : goal.loop-next-preserved
loop-next-preserved c = record {
  after = c.in-Some.ensures.after ∙ c.loop-next.invariant.after;
  seen = c.in-Some.ensures.seen c.args.words.now c.loop-next.invariant.seen;
}
