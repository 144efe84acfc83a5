-- Notes that pass a test, counted one after another.
use Rattle.std.proofs.Common.{◌≡◌, ℕ, ◌+◌, ◌<◌, ◌≤◌, Bool, true, false, List, length, get_or, take, sym, ap, ◌∙◌}
use Rattle.std.specs.Prelude.{count_by}
use Rattle.std.proofs.lemmas.List.{take_all}
use Rattle.std.proofs.lemmas.List.Sums.{count_by_more_no, count_by_more_yes}
use Rattle.fam_notes.specs.declared.note.Note.{Note as Kept}

module _ (test : Kept → Bool) (notes : List Kept) where
  module _ (i : ℕ) (note : Kept) (below : i < length notes) (is : note ≡ get_or notes i note) (count : ℕ) (so_far : count ≡ count_by test (take i notes)) where
    -- one that passes
    pub counted_yes : (new : ℕ) → test note ≡ true → new ≡ count + 1 → new ≡ count_by test (take (i + 1) notes)
    counted_yes new passes more =
        more ∙ ap (λ (n : ℕ). n + 1) so_far ∙ sym (count_by_more_yes test notes i note below (ap test (sym is) ∙ passes))

    -- one that doesn't
    pub counted_no : (new : ℕ) → test note ≡ false → new ≡ count → new ≡ count_by test (take (i + 1) notes)
    counted_no new fails same =
        same ∙ so_far ∙ sym (count_by_more_no test notes i note below (ap test (sym is) ∙ fails))

  -- and all of them
  pub counted_all : (i count : ℕ) → length notes ≤ i → count ≡ count_by test (take i notes) → count ≡ count_by test notes
  counted_all i count end so_far = so_far ∙ ap (count_by test) (take_all i notes end)
