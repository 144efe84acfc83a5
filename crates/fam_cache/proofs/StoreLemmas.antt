-- A store: the line is brought, and then its word is set.
use Rattle.std.proofs.Common.{false, ◌≡◌, ℕ, List, Option, Result, Ok, Err, set, refl, ap, ◌∙◌}
use Rattle.std.specs.Prelude.{OnErr}
use Rattle.fam_base.specs.Image.{Image}
use Rattle.fam_machine.specs.declared.cell.Cell.{Cell}
use Rattle.fam_machine.specs.declared.cell.Cell.TheVariants.{Absent, Clean, Dirty}
use Rattle.fam_machine.specs.Caches.{Cache, cell_at, with_cell, cell_changed}
use Rattle.fam_machine.specs.OneLine.{brought, current, stored, words_of}
use Rattle.fam_machine.proofs.CacheLemmas.{cell_at-with_cell_same, with_cell_twice}
use Rattle.fam_cache.specs.Effects.{FromMemory}

-- what holds holds of an error too
pub on_err_too : {T E P : Type 0} (r : Result T E) → P → OnErr r P
on_err_too (Ok x) p = tt
on_err_too (Err e) p = p

-- the words of a line that was brought are those that the host reads
pub brought_words : (memory : List ℕ) (cell : Cell) → words_of (brought memory cell) ≡ current memory cell
brought_words memory Absent = refl
brought_words memory (Clean words) = refl
brought_words memory (Dirty a words) = refl

module _ (line word value : ℕ) (before between after : Cache) where
  stored_cell : (memory : List ℕ) → between ≡ cell_changed line (brought memory) before →
      with_cell line (Dirty false (set (words_of (cell_at between line)) word value)) between ≡ cell_changed line (stored word value memory) before
  stored_cell memory is =
      let cell : Cell = cell_at before line in
      let words : words_of (cell_at between line) ≡ current memory cell =
      ap words_of (ap (λ (cache : Cache). cell_at cache line) is ∙ cell_at-with_cell_same line (brought memory cell) before)
      ∙ brought_words memory cell in
      ap (λ (ws : List ℕ). with_cell line (Dirty false (set ws word value)) between) words
      ∙ ap (with_cell line (Dirty false (set (current memory cell) word value))) is
      ∙ with_cell_twice line (brought memory cell) (Dirty false (set (current memory cell) word value)) before

  -- the word was set in the line that was brought
  pub stored_after : (modelled : Option Image) → FromMemory modelled line (λ memory. between ≡ cell_changed line (brought memory) before) →
      after ≡ with_cell line (Dirty false (set (words_of (cell_at between line)) word value)) between →
      FromMemory modelled line (λ memory. after ≡ cell_changed line (stored word value memory) before)
  stored_after modelled from is = record {
    memory = from.memory;
    whole = from.whole;
    modelled_is = from.modelled_is;
    is = is ∙ stored_cell from.memory from.is;
  }
