use Rattle.std.proofs.Common.{◌≡◌, ℕ, true, vec_len}
use Rattle.fam_alloc.specs.Full.{AreFull}
use Rattle.fam_alloc.specs.Next.{is_bit_set}
use Rattle.fam_alloc.proofs.layers.hint_all.Given as goal

abbrev pub invariant-loop-word : goal.invariant-loop-word
invariant-loop-word l = record {
  len : vec_len l.full ≡ vec_len l.initial.full;
  sound : AreFull l.words.items l.full.items;
  more : (w : ℕ) → is_bit_set l.initial.full.items w ≡ true → is_bit_set l.full.items w ≡ true;
}
