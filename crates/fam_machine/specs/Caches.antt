-- One host's whole cache: a finite map from line number to eight words and a mark. A line that the map doesn't
-- hold is absent. An operation changes the cache and the image at its own line, and nothing else.
use Rattle.std.specs.Prelude.{ℕ, ⊤, ◌≡◌, Bool, true, false, List, length, filter, map as map_list, Option, Some, None, refl, count_by}
use Rattle.std.specs.Ordering.{nat_cmp}
use Rattle.std.specs.FinMap as map
use Rattle.std.specs.Coded.{Coded, code_by, coded×, coded_ℕ, coded_bool, coded_list}
use Rattle.fam_base.specs.Image.{Image, line_at, with_line}
use Rattle.fam_machine.specs.declared.cell.Cell.{Cell}
use Rattle.fam_machine.specs.declared.cell.Cell.TheVariants.{Absent, Clean, Dirty}

-- whether the host stored into the line since it was brought or sent, and whether it has asked for it to be sent since
pub data Mark : Type 0 where
  clean : Mark
  dirty : Mark
  asked : Mark

-- what a cache has of a line
pub record CachedLine : Type 0 where
  pub words : List ℕ
  pub mark : Mark

-- what a cache has, by line number
abbrev pub Cache : Type 0
Cache = map.FinMap nat_cmp CachedLine

-- the copy of a line that is held with this mark
abbrev pub cell_marked : Mark → List ℕ → Cell
cell_marked clean words = Clean words
cell_marked dirty words = Dirty false words
cell_marked asked words = Dirty true words

-- the copy of a line that is held or isn't
abbrev pub cell_of : Option CachedLine → Cell
cell_of None = Absent
cell_of (Some copy) = cell_marked copy.mark copy.words

-- the copy of this line
abbrev pub cell_at : Cache → ℕ → Cell
cell_at cache line = cell_of (map.get cache line)

-- the mark of a dirty line
abbrev pub unsent_mark : Bool → Mark
unsent_mark false = dirty
unsent_mark true = asked

-- the cache with this copy of this line
abbrev pub with_cell : ℕ → Cell → Cache → Cache
with_cell line Absent cache = map.remove cache line
with_cell line (Clean words) cache = map.insert cache line (record { words = words; mark = clean })
with_cell line (Dirty a words) cache = map.insert cache line (record { words = words; mark = unsent_mark a })

-- the cache after a step at one line, which makes one copy of another
abbrev pub cell_changed : ℕ → (Cell → Cell) → Cache → Cache
cell_changed line step cache = with_cell line (step (cell_at cache line)) cache

-- the image after a step at one line, which makes eight words of eight words
abbrev pub line_changed : ℕ → (List ℕ → List ℕ) → Image → Image
line_changed line step image = with_line line (step (line_at image line)) image

-- a copy that memory needn't get: none, or eight words that the host didn't store into. They may be stale
abbrev pub IsCleanCell : Cell → Type 0
IsCleanCell Absent = ⊤
IsCleanCell (Clean words) = length words ≡ 8
IsCleanCell (Dirty a words) = ⊥

-- a cache that has nothing to send
abbrev pub IsClean : Cache → Type 0
IsClean cache = (line : ℕ) → IsCleanCell (cell_at cache line)

-- whether memory may lack words of a line
abbrev pub is_marked_dirty : Mark → Bool
is_marked_dirty clean = false
is_marked_dirty dirty = true
is_marked_dirty asked = true

-- whether the next fence sends it
abbrev pub is_marked_asked : Mark → Bool
is_marked_asked clean = false
is_marked_asked dirty = false
is_marked_asked asked = true

-- how many lines are dirty, asked for or not
abbrev pub dirty_count : Cache → ℕ
dirty_count cache = count_by (λ copy. is_marked_dirty copy.mark) (map.values cache)

-- the lines that the next fence sends, in the order of their numbers
unfoldable pub asked_lines : Cache → List ℕ
asked_lines cache = map_list (λ (e : ℕ × CachedLine). e.0) (filter (λ (e : ℕ × CachedLine). is_marked_asked e.1.mark) (map.entries cache))

-- the mark of which the two tests say this
abbrev pub mark_of : Bool × Bool → Mark
mark_of (false, asks) = clean
mark_of (true, asks) = unsent_mark asks

-- a mark is told by the two tests
abbrev pub mark_back : (mark : Mark) → mark_of (is_marked_dirty mark, is_marked_asked mark) ≡ mark
mark_back clean = refl
mark_back dirty = refl
mark_back asked = refl

-- Codes show marks, lines and caches to contracts.

-- the code of a mark
abbrev pub mark_code : Coded Mark
mark_code = code_by (Bool × Bool) (coded× coded_bool coded_bool) (λ mark. (is_marked_dirty mark, is_marked_asked mark)) mark_of mark_back

-- the code of a line
abbrev pub line_code : Coded CachedLine
line_code = code_by (List ℕ × Mark) (coded× (coded_list coded_ℕ) mark_code) (λ c. (c.words, c.mark)) (λ p. record { words = p.0; mark = p.1 }) (λ _. refl)

-- the code of a cache
abbrev pub cache_code : Coded Cache
cache_code = map.code coded_ℕ line_code
