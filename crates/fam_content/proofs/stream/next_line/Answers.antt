use Rattle.std.proofs.Common.{ℕ, List, ◌≡◌, ◌+◌, get_or, ap, sym, ◌∙◌, arith}
use Rattle.std.proofs.lemmas.Grind.{common_steps}
use Rattle.std.specs.Prelude.{slice_set}
use Rattle.std.proofs.lemmas.List.Edits.{fill_by_more}
use Rattle.rand_xoshiro.specs.Xoshiro256.{next_state, plus_plus}
use Rattle.fam_rules.specs.Content.{stream_state, stream_word}
use Rattle.fam_rules.proofs.Streams.{stream_state_next, stream_word_of_state}
use Rattle.fam_content.proofs.stream.next_line.Goals as goal

pub words-preserved : goal.words-preserved
words-preserved c = record {
  count = grind (arith, common_steps);
  stands = λ seed given h.
      let at : given + c.words.w + 1 ≡ given + (c.words.w + 1) = omega arith in
      ap (λ p. p.1) c.next_word.ensures
      ∙ ap next_state (c.words.invariant.stands seed given h)
      ∙ sym (stream_state_next seed (given + c.words.w))
      ∙ ap (stream_state seed) at;
  words = λ seed given w h below.
      let word : c.next_word.result ≡ stream_word seed (given + c.words.w) =
      ap (λ p. p.0) c.next_word.ensures
      ∙ ap (λ (s : List ℕ). (plus_plus s).0) (c.words.invariant.stands seed given h)
      ∙ sym (stream_word_of_state seed (given + c.words.w)) in
      ap (λ (x : ℕ). get_or (slice_set c.words.words c.words.w x) w 0) word
      ∙ fill_by_more (λ v. stream_word seed (given + v)) c.words.words c.words.w 0 (omega arith) (λ v earlier. c.words.invariant.words seed given v h earlier) w below;
}
