-- What one operation of the machine's table does on a host's cache over any media, whose image may be modelled or not.
use Rattle.std.specs.Prelude.{ℕ, ◌≡◌, ◌<◌, ⊤, List, [], ◌∷◌, Option, Some, None, slice_index, take}
use Rattle.fam_base.specs.declared.line.LineNo.{LineNo}
use Rattle.fam_base.specs.Image.{Image}
use Rattle.fam_machine.specs.declared.cell.Cell.TheVariants.{Absent}
use Rattle.fam_machine.specs.declared.op.Op.{Op}
use Rattle.fam_machine.specs.declared.op.Op.TheVariants.{Load, Store, WriteBack, Fence, Invalidate, Digest}
use Rattle.fam_machine.specs.Caches.{Cache, asked_lines, cell_at, cell_changed, with_cell}
use Rattle.fam_machine.specs.OneLine.{IsAsked, IsDirty, IsHeld, asked_for, brought, cleaned, stored, words_of}
use Rattle.fam_cache.specs.Effects.{FromMemory}

-- the operation brings no line: a load or a store of a line that the cache holds, or none of these
abbrev pub BringsNone : Op → Cache → Type 0
BringsNone (Load line k) cache = IsHeld (cell_at cache line.0)
BringsNone (Store line k value) cache = IsHeld (cell_at cache line.0)
BringsNone (WriteBack line) cache = ⊤
BringsNone Fence cache = ⊤
BringsNone (Invalidate line) cache = ⊤
BringsNone Digest cache = ⊤

-- the operation asks nothing of the media: it neither brings a line nor sends one
abbrev pub AsksNothing : Op → Cache → Type 0
AsksNothing (Load line k) cache = IsHeld (cell_at cache line.0)
AsksNothing (Store line k value) cache = IsHeld (cell_at cache line.0)
AsksNothing (WriteBack line) cache = ⊤
AsksNothing Fence cache = (line : ℕ) → ¬ (IsAsked (cell_at cache line))
AsksNothing (Invalidate line) cache = ¬ (IsDirty (cell_at cache line.0))
AsksNothing Digest cache = ⊤

-- the word that an operation gives: a load that of the copy that the host has then, the others none
abbrev pub word_of : Op → Cache → Option ℕ
word_of (Load line k) held = Some (slice_index (words_of (cell_at held line.0)) k)
word_of (Store line k value) held = None
word_of (WriteBack line) held = None
word_of Fence held = None
word_of (Invalidate line) held = None
word_of Digest held = None

-- these lines are clean, one after another
abbrev pub cleaned_lines : List ℕ → Cache → Cache
cleaned_lines [] cache = cache
cleaned_lines (l ∷ lines) cache = cleaned_lines lines (cell_changed l cleaned cache)

-- the operation is at one line, or at none
abbrev pub IsOneLine : Op → Type 0
IsOneLine (Load line k) = ⊤
IsOneLine (Store line k value) = ⊤
IsOneLine (WriteBack line) = ⊤
IsOneLine Fence = ⊥
IsOneLine (Invalidate line) = ⊤
IsOneLine Digest = ⊤

-- of a media of so many lines: a fence sends lines of it alone
abbrev pub SendsWithin : Op → ℕ → Cache → Type 0
SendsWithin (Load line k) lines cache = ⊤
SendsWithin (Store line k value) lines cache = ⊤
SendsWithin (WriteBack line) lines cache = ⊤
SendsWithin Fence lines cache = (line : ℕ) → IsAsked (cell_at cache line) → line < lines
SendsWithin (Invalidate line) lines cache = ⊤
SendsWithin Digest lines cache = ⊤

-- some of the lines that a fence sends are clean, the first ones, and the others are as before
pub record CleansSome (old new : Cache) : Type 0 where
  pub count : ℕ
  pub is : new ≡ cleaned_lines (take count (asked_lines old)) old

-- what an operation leaves of the cache where the media fails: all of it, but that a fence has sent some lines
abbrev pub LeavesFailed : Op → Cache → Cache → Type 0
LeavesFailed (Load line k) old new = new ≡ old
LeavesFailed (Store line k value) old new = new ≡ old
LeavesFailed (WriteBack line) old new = new ≡ old
LeavesFailed Fence old new = CleansSome old new
LeavesFailed (Invalidate line) old new = new ≡ old
LeavesFailed Digest old new = new ≡ old

-- the line at which the media may fail: the operation's, or one that a fence sends
abbrev pub IsAtLine : Op → LineNo → Cache → Type 0
IsAtLine (Load line k) at cache = Some line ≡ Some at
IsAtLine (Store line k value) at cache = Some line ≡ Some at
IsAtLine (WriteBack line) at cache = Some line ≡ Some at
IsAtLine Fence at cache = IsAsked (cell_at cache at.0)
IsAtLine (Invalidate line) at cache = Some line ≡ Some at
IsAtLine Digest at cache = ⊥

-- what an operation leaves of the cache: of its line what the machine's table has, for the words that memory has there,
-- and every other line as it was
abbrev pub LeavesCache : Op → Option Image → Cache → Cache → Type 0
LeavesCache (Load line k) modelled old new = FromMemory modelled line.0 (λ memory. new ≡ cell_changed line.0 (brought memory) old)
LeavesCache (Store line k value) modelled old new = FromMemory modelled line.0 (λ memory. new ≡ cell_changed line.0 (stored k value memory) old)
LeavesCache (WriteBack line) modelled old new = new ≡ cell_changed line.0 asked_for old
LeavesCache Fence modelled old new = new ≡ cleaned_lines (asked_lines old) old
LeavesCache (Invalidate line) modelled old new = new ≡ with_cell line.0 Absent old
LeavesCache Digest modelled old new = new ≡ old

-- the words of a line, once those of others behind the first one were stored there
abbrev pub rest_stored : List ℕ → List ℕ → List ℕ
rest_stored words old = slice_index old 0 ∷ slice_index words 1 ∷ slice_index words 2 ∷ slice_index words 3 ∷ slice_index words 4 ∷ slice_index words 5 ∷ slice_index words 6 ∷ slice_index words 7 ∷ []
