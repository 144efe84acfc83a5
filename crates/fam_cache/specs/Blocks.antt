-- A cache as blocks of sixteen neighbouring lines, and the areas of sixty-four neighbouring blocks, by which a block is found.
use Rattle.std.specs.Prelude.{ℕ, ◌≡◌, ◌≢◌, ◌+◌, ◌*◌, ◌/◌, ◌%◌, ◌<◌, ◌≤◌, IsTrue, zero, suc, Bool, true, false, List, [], ◌∷◌, Option, Some, None, length, slice_index_or, vec_len, vec_capacity}
use Rattle.std.specs.Option.{option_map}
use Rattle.std.specs.Ordering.{nat_cmp}
use Rattle.std.specs.FinMap as map
use Rattle.std.specs.FinMap.{find, is_sorted}
use Rattle.fam_base.specs.Image.{eight}
use Rattle.fam_machine.specs.declared.cell.Cell.{Cell}
use Rattle.fam_machine.specs.declared.cell.Cell.TheVariants.{Absent, Clean, Dirty}
use Rattle.fam_machine.specs.Caches.{Cache, cell_at, with_cell}
use Rattle.fam_machine.specs.OneLine.{IsAsked}
use Rattle.fam_cache.specs.declared.blocks.Mark.{Mark}
use Rattle.fam_cache.specs.declared.blocks.Mark.TheVariants.{Empty, Fresh, Stored, Asked}
use Rattle.fam_cache.specs.declared.blocks.Block.{Block}
use Rattle.fam_cache.specs.declared.blocks.Blocks.{Blocks}

-- a copy has eight words whatever its list is
abbrev pub normal : Cell → Cell
normal Absent = Absent
normal (Clean words) = Clean (eight words)
normal (Dirty a words) = Dirty a (eight words)

-- the copy with this mark
abbrev pub marked : Mark → List ℕ → Cell
marked Empty words = Absent
marked Fresh words = Clean (eight words)
marked Stored words = Dirty false (eight words)
marked Asked words = Dirty true (eight words)

-- whether a line with this mark is dirty
abbrev pub is_dirty_by : Mark → Bool
is_dirty_by Empty = false
is_dirty_by Fresh = false
is_dirty_by Stored = true
is_dirty_by Asked = true

-- the copy of the line that stands there in a block
unfoldable pub cell_in : Block → ℕ → Cell
cell_in block at = marked (slice_index_or block.marks at Empty) (slice_index_or block.words at [])

-- a block has sixteen lines
pub record IsWhole (block : Block) : Type 0 where
  pub marks : length block.marks ≡ 16
  pub words : length block.words ≡ 16

-- a cache, with the copies of the first so many lines of a block put in
unfoldable pub with_lines : Block → ℕ → Cache → Cache
with_lines block zero cache = cache
with_lines block (suc n) cache = with_cell (16 * block.number + n) (cell_in block n) (with_lines block n cache)

-- the cache that blocks stand for: each line of each block
unfoldable pub cache_of : List Block → Cache
cache_of [] = map.empty
cache_of (block ∷ blocks) = with_lines block 16 (cache_of blocks)

-- what stands where there is no block: nothing is held
abbrev pub no_block : Block
no_block = record { number = 0; marks = []; words = [] }

-- the block that stands there
abbrev pub block_at : List Block → ℕ → Block
block_at blocks at = slice_index_or blocks at no_block

-- its number: the lines from sixteen times that number on are its own
abbrev pub number_at : List Block → ℕ → ℕ
number_at blocks at = (block_at blocks at).number

-- the words of a line in the block that stands there
abbrev pub words_there : List Block → ℕ → ℕ → List ℕ
words_there blocks at line = slice_index_or (block_at blocks at).words (line % 16) []

-- the block with this number stands there
pub record IsBlockOf (blocks : List Block) (at number : ℕ) : Type 0 where
  pub within : at < length blocks
  pub is : number_at blocks at ≡ number

-- no block has this number
abbrev pub HasNone : List Block → ℕ → Type 0
HasNone blocks number = (j : ℕ) → j < length blocks → number_at blocks j ≢ number

-- where the block with this number stands, if there is one
abbrev pub IsSpot : List Block → Option ℕ → ℕ → Type 0
IsSpot blocks (Some at) number = IsBlockOf blocks at number
IsSpot blocks None number = HasNone blocks number

-- areas in the order of their numbers, each with the places of its blocks
abbrev pub Areas : Type 0
Areas = List (ℕ × List ℕ)

-- what stands where there is no area
abbrev pub no_area : ℕ × List ℕ
no_area = (0, [])

-- the number of the area that stands there: the blocks from sixty-four times that number on are its own
abbrev pub area_at : Areas → ℕ → ℕ
area_at areas at = (slice_index_or areas at no_area).0

-- the areas before a place come before this one
abbrev pub Before : Areas → ℕ → ℕ → Type 0
Before areas at number = (j : ℕ) → j < at → area_at areas j < number

-- the place that the areas have of a block
unfoldable pub place_in : Areas → ℕ → Option ℕ
place_in areas number = option_map (λ places. slice_index_or places (number % 64) 0) (find nat_cmp (number / 64) areas)

-- so many blocks at most, so that all their lines can be counted: more than any memory has
abbrev pub most_blocks : ℕ
most_blocks = 576460752303423488

-- what holds between two calls: the areas are in order and tell where each block stands, each block has sixteen lines and each
-- area sixty-four blocks, there is room for so many more of
-- both, blocks are few enough to count their lines, and none has a number above the greatest
pub record IsKept (cache : Blocks) : Type 0 where
  pub sorted : IsTrue (is_sorted nat_cmp cache.areas.items)
  pub indexed : (j : ℕ) → j < length cache.blocks.items → place_in cache.areas.items (number_at cache.blocks.items j) ≡ Some j
  pub whole : (j : ℕ) → j < length cache.blocks.items → IsWhole (block_at cache.blocks.items j)
  pub wide : (area : ℕ) (places : List ℕ) → find nat_cmp area cache.areas.items ≡ Some places → length places ≡ 64
  pub blocks : vec_len cache.blocks + cache.room ≤ vec_capacity cache.blocks
  pub areas : vec_len cache.areas + cache.room ≤ vec_capacity cache.areas
  pub few : vec_len cache.blocks + cache.room ≤ most_blocks
  pub greatest : (j : ℕ) → j < length cache.blocks.items → number_at cache.blocks.items j ≤ cache.greatest

-- there is room for one more of both
pub record HasRoom (cache : Blocks) : Type 0 where
  pub blocks : vec_len cache.blocks < vec_capacity cache.blocks
  pub areas : vec_len cache.areas < vec_capacity cache.areas
  pub few : vec_len cache.blocks < most_blocks

-- the areas tell of this block that it stands there, and of the others what they told; they are in order
pub record IsEnlisted (old new : Areas) (number place : ℕ) : Type 0 where
  pub here : place_in new number ≡ Some place
  pub others : (other : ℕ) → other ≢ number → (at : ℕ) → place_in old other ≡ Some at → place_in new other ≡ Some at
  pub sorted : IsTrue (is_sorted nat_cmp new)
  pub wide : (area : ℕ) (places : List ℕ) → find nat_cmp area new ≡ Some places → length places ≡ 64

-- the lines that are held
abbrev pub lines_of : Blocks → Cache
lines_of cache = cache_of cache.blocks.items

-- a spot that needs room
abbrev pub is_gap : Option ℕ → Bool
is_gap (Some at) = false
is_gap None = true

-- every asked line lies between these two
pub record AskedWithin (first last : ℕ) (cache : Cache) : Type 0 where
  pub low : (line : ℕ) → IsAsked (cell_at cache line) → first ≤ line
  pub high : (line : ℕ) → IsAsked (cell_at cache line) → line ≤ last

-- from this line on and before that one, none is asked
abbrev pub NoneAsked : ℕ → ℕ → Cache → Type 0
NoneAsked from to cache = (line : ℕ) → from ≤ line → line < to → ¬ (IsAsked (cell_at cache line))

-- the first asked line from there on
pub record IsFirstAsked (cache : Cache) (from line : ℕ) : Type 0 where
  pub from_there : from ≤ line
  pub asked : IsAsked (cell_at cache line)
  pub none : NoneAsked from line cache
