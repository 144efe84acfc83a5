-- The words of a slot, line by line.
use Rattle.std.proofs.Common.{◌≡◌, ℕ, ◌+◌, ◌-◌, ◌*◌, ◌/◌, ◌%◌, ◌<◌, ◌≤◌, List, length, take, get_or, sym, ap, ap₂, ◌∙◌, inl, inr, arith}
use Rattle.std.proofs.lemmas.Bool.{cases_lt}
use Rattle.std.proofs.lemmas.List.{length-take-le, get_or-take}
use Rattle.std.proofs.lemmas.List.FromFn.{fill_by_all}
use Rattle.fam_base.specs.declared.entry.Params.{Params}
use Rattle.fam_format.specs.Layout.{geometry, slot_line}
use Rattle.fam_format.specs.Reading.{Lines, slot_word, slot_words}
use Rattle.fam_format.proofs.Formats.{shape}

module _ (memory : Lines) (p : Params) (slot : ℕ) where
  -- the words of one line more
  pub words_more : (line : ℕ) (old new part : List ℕ) → ((k : ℕ) → k < 8 * line → get_or old k 0 ≡ slot_word memory p slot k)
      → ((k : ℕ) → k < 8 → get_or new (8 * line + k) 0 ≡ get_or part k 0) → ((k : ℕ) → k < 8 * line → get_or new k 0 ≡ get_or old k 0) → part ≡ memory (slot_line p slot line)
      → (k : ℕ) → k < 8 * (line + 1) → get_or new k 0 ≡ slot_word memory p slot k
  words_more line old new part before here same is k below =
      elim (cases_lt k (8 * line)) [
        | inl earlier ↦ same k earlier ∙ before k earlier
        | inr past ↦
            let at : 8 * line + (k - 8 * line) ≡ k = omega arith in
            let row : line ≡ k / 8 = omega arith in
            let word : k - 8 * line ≡ k % 8 = omega arith in
            ap (λ (n : ℕ). get_or new n 0) (sym at)
            ∙ here (k - 8 * line) (omega arith)
            ∙ ap (λ (w : List ℕ). get_or w (k - 8 * line) 0) is
            ∙ ap₂ (λ (l n : ℕ). get_or (memory (slot_line p slot l)) n 0) row word
      ]

  -- all of them
  pub words_all : (words : List ℕ) (line : ℕ) → (geometry p).words ≤ length words → (geometry p).lines ≤ line
      → ((k : ℕ) → k < 8 * line → get_or words k 0 ≡ slot_word memory p slot k)
      → take (geometry p).words words ≡ slot_words memory p slot
  unfolding slot_words
  words_all words line count past each =
      fill_by_all (slot_word memory p slot) (take (geometry p).words words) (geometry p).words 0 (length-take-le (geometry p).words words count)
      (λ k below. get_or-take (geometry p).words words k 0 below ∙ each k (omega (arith, past, below, (shape p).words)))
