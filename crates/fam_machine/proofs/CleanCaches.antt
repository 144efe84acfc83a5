-- Caches that have nothing to send.
use Rattle.std.proofs.Common.{ℕ, ◌≡◌, List, length, inl, inr, refl, sym, ap, subst}
use Rattle.std.specs.FinMap as map
use Rattle.std.proofs.lemmas.Bool.{cases_eq}
use Rattle.fam_base.proofs.ImageLemmas.{length-masked}
use Rattle.fam_machine.specs.declared.cell.Cell.{Cell}
use Rattle.fam_machine.specs.declared.cell.Cell.TheVariants.{Absent, Clean, Dirty}
use Rattle.fam_machine.specs.Caches.{Cache, IsClean, IsCleanCell, cell_at, with_cell}
use Rattle.fam_machine.specs.OneLine.{IsDirty, brought, current, fetched, leaked, sent}
use Rattle.fam_machine.proofs.CacheLemmas.{cell_at-empty, cell_at-with_cell_same, cell_at-with_cell_other}

-- One copy.

pub clean_sent : (w : List ℕ) (c : Cell) → IsCleanCell c → sent w c ≡ w
clean_sent w Absent clean = refl
clean_sent w (Clean words) clean = refl
clean_sent w (Dirty a words) clean = absurd clean

pub clean_leaked : (mask : ℕ) (w : List ℕ) (c : Cell) → IsCleanCell c → leaked mask w c ≡ w
clean_leaked mask w Absent clean = refl
clean_leaked mask w (Clean words) clean = refl
clean_leaked mask w (Dirty a words) clean = absurd clean

pub clean_brought : (w : List ℕ) (c : Cell) → length w ≡ 8 → IsCleanCell c → IsCleanCell (brought w c)
clean_brought w Absent wide clean = wide
clean_brought w (Clean words) wide clean = clean
clean_brought w (Dirty a words) wide clean = absurd clean

pub clean_fetched : (mask : ℕ) (w : List ℕ) (c : Cell) → length w ≡ 8 → IsCleanCell c → IsCleanCell (fetched mask w c)
clean_fetched mask w Absent wide clean = wide
clean_fetched mask w (Clean words) wide clean = length-masked mask w words
clean_fetched mask w (Dirty a words) wide clean = absurd clean

-- what the host reads there has eight words
pub clean_wide : (w : List ℕ) (c : Cell) → length w ≡ 8 → IsCleanCell c → length (current w c) ≡ 8
clean_wide w Absent wide clean = wide
clean_wide w (Clean words) wide clean = clean
clean_wide w (Dirty a words) wide clean = absurd clean

pub not_dirty : (c : Cell) → IsCleanCell c → IsDirty c → ⊥
not_dirty Absent clean dirty = absurd (cc)
not_dirty (Clean words) clean dirty = absurd (cc)
not_dirty (Dirty a words) clean dirty = clean

-- A cache.

pub clean_empty : IsClean map.empty
clean_empty line = subst IsCleanCell (sym (cell_at-empty line)) tt

-- with another clean copy of one line
pub clean_with : (line : ℕ) (c : Cell) (cache : Cache) → IsClean cache → IsCleanCell c → IsClean (with_cell line c cache)
clean_with line c cache clean new q =
    elim (cases_eq q line) [
      | inl same ↦ subst IsCleanCell (sym (ap (cell_at (with_cell line c cache)) same)) (subst IsCleanCell (sym (cell_at-with_cell_same line c cache)) new)
      | inr other ↦ subst IsCleanCell (sym (cell_at-with_cell_other line c cache q other)) (clean q)
    ]
