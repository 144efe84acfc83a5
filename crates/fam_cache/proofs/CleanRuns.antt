-- Rows of lines of which the host holds clean copies.
use Rattle.std.proofs.Common.{◌≡◌, ℕ, zero, suc, ◌+◌, ◌-◌, ◌/◌, ◌<◌, ◌≤◌, inl, inr, List, [], length, take, drop, sym, ap, ap₂, subst, ◌∙◌, arith}
use Rattle.std.proofs.lemmas.Bool.{cases_lt, false≢true}
use Rattle.std.proofs.lemmas.List.{get_or-drop, length-drop, length-take-le}
use Rattle.fam_base.specs.Image.{eight}
use Rattle.fam_machine.specs.declared.cell.Cell.{Cell}
use Rattle.fam_machine.specs.declared.cell.Cell.TheVariants.{Absent, Clean, Dirty}
use Rattle.fam_machine.specs.Caches.{Cache, cell_at, with_cell}
use Rattle.fam_machine.specs.OneLine.{IsDirty}
use Rattle.fam_media.specs.Runs.{line_in}
use Rattle.fam_cache.specs.declared.blocks.Block.{Block}
use Rattle.fam_cache.specs.Blocks.{HasNone, cache_of}
use Rattle.fam_cache.specs.BroughtRuns.{AreClean, IsClean, LacksNone, brought_run}
use Rattle.fam_cache.proofs.BlockLemmas.{cell_none}
use Rattle.fam_cache.proofs.SetRuns.{brought_other, brought_take}

-- memory lacks none of their words
undirty : (cell : Cell) → IsClean cell → ¬ (IsDirty cell)
undirty Absent clean dirty = clean
undirty (Clean words) clean dirty = false≢true dirty
undirty (Dirty asked words) clean dirty = clean

pub lacks_none_clean : (cache : Cache) (first count : ℕ) → AreClean cache first count → LacksNone cache first count
lacks_none_clean cache first count clean = λ k below. undirty (cell_at cache (first + k)) (clean k below)

-- a row and those behind it
pub clean_both : (cache : Cache) (first m n : ℕ) → AreClean cache first m → AreClean cache (first + m) n → AreClean cache first (m + n)
clean_both cache first m n front rest = λ k below.
    elim (cases_lt k m) [
      | inl before ↦ front k before
      | inr behind ↦
          let place : first + m + (k - m) ≡ first + k = omega (arith, behind) in
          subst (λ (q : ℕ). IsClean (cell_at cache q)) place (rest (k - m) (omega (arith, below, behind)))
    ]

-- a clean line stands in a block
pub stands_clean : (blocks : List Block) (q : ℕ) → HasNone blocks (q / 16) → ¬ (IsClean (cell_at (cache_of blocks) q))
stands_clean blocks q none clean = subst IsClean (cell_none blocks q none) clean

-- a line behind those that were brought is clean still
pub clean_behind : (first : ℕ) (lines : List (List ℕ)) (m n : ℕ) (cache : Cache) → AreClean cache first n → m < n → IsClean (cell_at (brought_run first lines m cache) (first + m))
clean_behind first lines m n cache clean below =
    subst IsClean (sym (brought_other first lines m cache (first + m) (inr (omega arith)))) (clean m below)

-- lines are brought in two rows
pub brought_both : (first : ℕ) (lines : List (List ℕ)) (m n : ℕ) (cache : Cache) → brought_run (first + m) (drop m lines) n (brought_run first lines m cache) ≡ brought_run first lines (m + n) cache
brought_both first lines m zero cache = ap (λ (k : ℕ). brought_run first lines k cache) (let same : m ≡ m + 0 = omega arith in same)
brought_both first lines m (suc n) cache =
    let place : first + m + n ≡ first + (m + n) = omega arith in
    let number : suc (m + n) ≡ m + suc n = omega arith in
    ap₂ (λ (q : ℕ) (words : List ℕ). with_cell q (Clean (eight words)) (brought_run (first + m) (drop m lines) n (brought_run first lines m cache))) place (get_or-drop m lines n [])
    ∙ ap (with_cell (first + (m + n)) (Clean (eight (line_in lines (m + n))))) (brought_both first lines m n cache)
    ∙ ap (λ (k : ℕ). brought_run first lines k cache) number

-- a part of a row is put behind the others
pub row_put : (first : ℕ) (lines : List (List ℕ)) (done part n : ℕ) (old now new : Cache) → n ≡ part → done + part ≤ length lines → now ≡ brought_run first lines done old →
    new ≡ brought_run (first + done) (take n (drop done lines)) (length (take n (drop done lines))) now → new ≡ brought_run first lines (done + part) old
row_put first lines done part n old now new size within before put =
    let count : length (take n (drop done lines)) ≡ part =
    omega (arith, size, within, length-drop done lines, length-take-le n (drop done lines) (omega (arith, size, within, length-drop done lines)))
    in
    put ∙ ap (λ (k : ℕ). brought_run (first + done) (take n (drop done lines)) k now) count
    ∙ brought_take (first + done) (drop done lines) n part now (omega (arith, size))
    ∙ ap (brought_run (first + done) (drop done lines) part) before
    ∙ brought_both first lines done part old
