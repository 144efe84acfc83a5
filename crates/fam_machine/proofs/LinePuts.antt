-- The eight words of a line are loaded, or stored and sent.
use Rattle.std.proofs.Common.{ℕ, ◌≡◌, false, List, [], ◌∷◌, ◌++◌, map, refl, sym, ap, ap₂, ◌∙◌}
use Rattle.std.specs.Prelude.{slice_index, slice_set}
use Rattle.fam_base.specs.Image.{Image, eight, line_at, with_line}
use Rattle.fam_machine.specs.declared.cell.Cell.{Cell}
use Rattle.fam_machine.specs.declared.cell.Cell.TheVariants.{Absent, Clean, Dirty}
use Rattle.fam_machine.specs.declared.op.Op.{Op}
use Rattle.fam_machine.specs.declared.op.Op.TheVariants.{Load, Store, Invalidate}
use Rattle.fam_machine.specs.Caches.{Cache, cell_at, with_cell}
use Rattle.fam_machine.specs.OneLine.{brought, current, sent, stored}
use Rattle.fam_machine.specs.Operations.{Machine, machine, operated, operated_all, load_ops, store_ops, line_no}
use Rattle.fam_machine.proofs.CacheLemmas.{cell_at-with_cell_same, with_cell_twice}

-- operations one after another, in two parts
pub operated_all-append : (a b : List Op) (m : Machine) → operated_all (a ++ b) m ≡ operated_all b (operated_all a m)
operated_all-append [] b m = refl
operated_all-append (op ∷ a) b m = operated_all-append a b (operated op m)

-- a load of a line that was just brought changes nothing
load_again : (line k : ℕ) (image : Image) (words : List ℕ) (cache : Cache)
    → operated (Load (line_no line) k) (machine image (with_cell line (Clean words) cache)) ≡ machine image (with_cell line (Clean words) cache)
load_again line k image words cache =
    ap (machine image)
    (ap (λ (cell : Cell). with_cell line (brought (line_at image line) cell) (with_cell line (Clean words) cache)) (cell_at-with_cell_same line (Clean words) cache)
    ∙ with_cell_twice line (Clean words) (Clean words) cache)

loads_again : (line : ℕ) (ks : List ℕ) (image : Image) (words : List ℕ) (cache : Cache)
    → operated_all (map (λ k. Load (line_no line) k) ks) (machine image (with_cell line (Clean words) cache))
    ≡ machine image (with_cell line (Clean words) cache)
loads_again line [] image words cache = refl
loads_again line (k ∷ ks) image words cache =
    ap (operated_all (map (λ k. Load (line_no line) k) ks)) (load_again line k image words cache) ∙ loads_again line ks image words cache

-- the first load of a line that was dropped brings it
load_absent : (line k : ℕ) (image : Image) (cache : Cache) → operated (Load (line_no line) k) (machine image (with_cell line Absent cache))
    ≡ machine image (with_cell line (Clean (line_at image line)) cache)
load_absent line k image cache =
    ap (machine image)
    (ap (λ (cell : Cell). with_cell line (brought (line_at image line) cell) (with_cell line Absent cache)) (cell_at-with_cell_same line Absent cache)
    ∙ with_cell_twice line Absent (Clean (line_at image line)) cache)

-- a line is dropped, and its words are loaded: it is clean, with memory's words
pub line_loaded : (line : ℕ) (m : Machine) → operated_all (load_ops line 8) m ≡ machine (operated (Invalidate (line_no line)) m).image
    (with_cell line (Clean (line_at (operated (Invalidate (line_no line)) m).image line)) m.cache)
line_loaded line m =
    let image = (operated (Invalidate (line_no line)) m).image in
    ap (operated_all (map (λ k. Load (line_no line) k) (1 ∷ 2 ∷ 3 ∷ 4 ∷ 5 ∷ 6 ∷ 7 ∷ []))) (load_absent line 0 image m.cache)
    ∙ loads_again line (1 ∷ 2 ∷ 3 ∷ 4 ∷ 5 ∷ 6 ∷ 7 ∷ []) image (line_at image line) m.cache

-- some words of a list set from another one
abbrev pub set_from : List ℕ → List ℕ → List ℕ → List ℕ
set_from words [] old = old
set_from words (k ∷ ks) old = set_from words ks (slice_set old k (slice_index words k))

-- a store into a line that was just stored into
store_again : (line k value : ℕ) (image : Image) (words : List ℕ) (cache : Cache)
    → operated (Store (line_no line) k value) (machine image (with_cell line (Dirty false words) cache))
    ≡ machine image (with_cell line (Dirty false (slice_set words k value)) cache)
store_again line k value image words cache =
    ap (machine image)
    (ap (λ (cell : Cell). with_cell line (stored k value (line_at image line) cell) (with_cell line (Dirty false words) cache)) (cell_at-with_cell_same line (Dirty false words) cache)
    ∙ with_cell_twice line (Dirty false words) (Dirty false (slice_set words k value)) cache)

stores_again : (line : ℕ) (new : List ℕ) (ks : List ℕ) (image : Image) (words : List ℕ) (cache : Cache)
    → operated_all (map (λ k. Store (line_no line) k (slice_index new k)) ks) (machine image (with_cell line (Dirty false words) cache))
    ≡ machine image (with_cell line (Dirty false (set_from new ks words)) cache)
stores_again line new [] image words cache = refl
stores_again line new (k ∷ ks) image words cache =
    ap (operated_all (map (λ k. Store (line_no line) k (slice_index new k)) ks)) (store_again line k (slice_index new k) image words cache)
    ∙ stores_again line new ks image (slice_set words k (slice_index new k)) cache

-- all eight words are set
all_set : (new old : List ℕ) → eight old ≡ old → set_from new (0 ∷ 1 ∷ 2 ∷ 3 ∷ 4 ∷ 5 ∷ 6 ∷ 7 ∷ []) old ≡ eight new
all_set new old whole = sym (ap (set_from new (0 ∷ 1 ∷ 2 ∷ 3 ∷ 4 ∷ 5 ∷ 6 ∷ 7 ∷ [])) whole)

-- the eight stores
pub line_stored : (line : ℕ) (words : List ℕ) (m : Machine) → eight (current (line_at m.image line) (cell_at m.cache line))
    ≡ current (line_at m.image line) (cell_at m.cache line)
    → operated_all (store_ops line words) m ≡ machine m.image (with_cell line (Dirty false (eight words)) m.cache)
line_stored line words m whole =
    let old = current (line_at m.image line) (cell_at m.cache line) in
    stores_again line words (1 ∷ 2 ∷ 3 ∷ 4 ∷ 5 ∷ 6 ∷ 7 ∷ []) m.image (slice_set old 0 (slice_index words 0)) m.cache
    ∙ ap (λ (words : List ℕ). machine m.image (with_cell line (Dirty false words) m.cache)) (all_set words old whole)

-- a dirty line is sent and dropped
line_sent : (line : ℕ) (image : Image) (words : List ℕ) (cache : Cache)
    → operated (Invalidate (line_no line)) (machine image (with_cell line (Dirty false words) cache)) ≡ machine (with_line line words image)
    (with_cell line Absent cache)
line_sent line image words cache =
    ap₂ machine
    (ap (λ (cell : Cell). with_line line (sent (line_at image line) cell) image) (cell_at-with_cell_same line (Dirty false words) cache))
    (with_cell_twice line (Dirty false words) Absent cache)

-- the eight words of a line are stored, and the line is sent and dropped: memory has them, and the cache has no copy
pub line_put : (line : ℕ) (words : List ℕ) (m : Machine) → eight (current (line_at m.image line) (cell_at m.cache line))
    ≡ current (line_at m.image line) (cell_at m.cache line) → operated_all (store_ops line words ++ Invalidate (line_no line) ∷ []) m
    ≡ machine (with_line line words m.image) (with_cell line Absent m.cache)
line_put line words m whole =
    operated_all-append (store_ops line words) (Invalidate (line_no line) ∷ []) m
    ∙ ap (operated (Invalidate (line_no line))) (line_stored line words m whole)
    ∙ line_sent line m.image (eight words) m.cache
