use Rattle.std.proofs.Common.{rules, ◌≡◌, ◌∙◌, ℕ, sym, ap, inl, inr, slice_index_or, arith}
use Rattle.std.proofs.lemmas.Bool.{cases_eq}
use Rattle.std.proofs.lemmas.Bool.Decides.{nat_tests}
use Rattle.std.proofs.lemmas.Grind.{same_number_lists}
use Rattle.std.proofs.lemmas.Nat.{le_or_l, le_or_r}
use Rattle.std.specs.Int.Bits.{bit_xor, xor_assoc, xor_comm, xor_self, xor_zero_l}
use Rattle.fam_content.proofs.difference.are_same.Goals as goal

-- words that differ in no bit
same_word : (a b : ℕ) → bit_xor a b ≡ 0 → a ≡ b
same_word a b none =
    sym (xor_zero_l a) ∙ ap (λ (x : ℕ). bit_xor x a) (sym none) ∙ xor_assoc a b a
    ∙ ap (bit_xor a) (xor_comm b a) ∙ sym (xor_assoc a a b) ∙ ap (λ (x : ℕ). bit_xor x b) (xor_self a) ∙ xor_zero_l b

pub loop-k-preserved : goal.loop-k-preserved
loop-k-preserved c = record {
  same = λ none j below.
      let left = slice_index_or c.args.found.now c.loop-k.k 0 in
      let right = slice_index_or c.args.wanted.now c.loop-k.k 0 in
      elim (cases_eq j c.loop-k.k) [
        | inl here ↦ ap (λ (i : ℕ). slice_index_or c.args.found.now i 0) here
            ∙ same_word left right (omega (arith, le_or_r c.loop-k.differences (bit_xor left right), none))
            ∙ ap (λ (i : ℕ). slice_index_or c.args.wanted.now i 0) (sym here)
        | inr other ↦ c.loop-k.invariant.same (omega (arith, le_or_l c.loop-k.differences (bit_xor left right), none)) j (omega (arith, below, other))
      ];
}

pub returns : goal.returns
returns c = λ none.
    same_number_lists c.args.found.now c.args.wanted.now (search rules)
    (λ k below. c.loop-k.invariant.same (grind (arith, nat_tests, none)) k (omega (arith, below, c.loop-k-test.false)))
