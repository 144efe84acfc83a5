-- One operation on a whole cache and the one memory. docs/MODEL.md, "The machine".
use Rattle.std.specs.Prelude.{ℕ, List, [], ◌∷◌, slice_index, Option, Some, None, option_map, ⊤, ◌<◌, length, map, take, drop}
use Rattle.std.specs.List.{range_with_len}
use Rattle.fam_base.specs.declared.line.LineNo.{LineNo}
use Rattle.fam_base.specs.Image.{Image, line_at, with_line}
use Rattle.fam_machine.specs.declared.cell.Cell.{Cell}
use Rattle.fam_machine.specs.declared.cell.Cell.TheVariants.{Absent, Clean, Dirty}
use Rattle.fam_machine.specs.declared.op.Op.{Op}
use Rattle.fam_machine.specs.declared.op.Op.TheVariants.{Load, Store, WriteBack, Fence, Invalidate, Digest}
use Rattle.fam_machine.specs.OneLine.{IsAsked, asked_for, brought, cleaned, current, failed_send, sent, stored}
use Rattle.fam_machine.specs.Caches.{Cache, asked_lines, cell_at, cell_changed, line_changed, with_cell}

-- a line by its number
abbrev pub line_no : ℕ → LineNo
line_no l = record { 0 = l }

-- the one line that an operation is at: a Fence is at all that are asked, and a Digest at none
abbrev pub op_line : Op → Option LineNo
op_line (Load l k) = Some l
op_line (Store l k value) = Some l
op_line (WriteBack l) = Some l
op_line (Invalidate l) = Some l
op_line Fence = None
op_line Digest = None

-- the operation's line is one of so many, and its word one of a line's eight
abbrev pub IsWithin : ℕ → Op → Type 0
IsWithin lines (Load line word) = (line.0 < lines) × (word < 8)
IsWithin lines (Store line word value) = (line.0 < lines) × (word < 8)
IsWithin lines (WriteBack line) = line.0 < lines
IsWithin lines (Invalidate line) = line.0 < lines
IsWithin lines Fence = ⊤
IsWithin lines Digest = ⊤

-- memory, and the cache of the host that operates on it
pub record Machine : Type 0 where
  pub image : Image
  pub cache : Cache

-- the machine of an image and a cache
abbrev pub machine : Image → Cache → Machine
machine image cache = record { image = image; cache = cache }

-- the operation's lines are among the image's
abbrev pub IsInImage : Op → Machine → Type 0
IsInImage (Load line k) m = line.0 < length m.image
IsInImage (Store line k value) m = line.0 < length m.image
IsInImage (WriteBack line) m = line.0 < length m.image
IsInImage Fence m = (line : ℕ) → IsAsked (cell_at m.cache line) → line < length m.image
IsInImage (Invalidate line) m = line.0 < length m.image
IsInImage Digest m = ⊤

-- a dirty line is sent whole, and is clean
abbrev pub send_line : ℕ → Machine → Machine
send_line l m =
    record { image = line_changed l (λ words. sent words (cell_at m.cache l)) m.image; cache = cell_changed l cleaned m.cache }

-- so are these, one after another
abbrev pub send_lines : List ℕ → Machine → Machine
send_lines [] m = m
send_lines (l ∷ lines) m = send_lines lines (send_line l m)

-- what an operation leaves, where the media doesn't fail
abbrev pub operated : Op → Machine → Machine
operated (Load l k) m = record m { cache = cell_changed l.0 (brought (line_at m.image l.0)) m.cache }
operated (Store l k value) m = record m { cache = cell_changed l.0 (stored k value (line_at m.image l.0)) m.cache }
operated (WriteBack l) m = record m { cache = cell_changed l.0 asked_for m.cache }
operated Fence m = send_lines (asked_lines m.cache) m
operated (Invalidate l) m =
    record { image = line_changed l.0 (λ words. sent words (cell_at m.cache l.0)) m.image; cache = with_cell l.0 Absent m.cache }
operated Digest m = m

-- the word that it gives: a load gives one
abbrev pub given : Op → Machine → Option ℕ
given (Load l k) m = Some (slice_index (current (line_at m.image l.0) (cell_at m.cache l.0)) k)
given (Store l k value) m = None
given (WriteBack l) m = None
given (Invalidate l) m = None
given Fence m = None
given Digest m = None

-- the word that comes of an operation: a load gives one
abbrev pub given_by : Op → ℕ → Option ℕ
given_by (Load line k) word = Some word
given_by (Store line k value) word = None
given_by (WriteBack line) word = None
given_by (Invalidate line) word = None
given_by Fence word = None
given_by Digest word = None

-- where the media failed: the line, and the machine that is left
pub record Failure : Type 0 where
  pub line : LineNo
  pub left : Machine

-- an absent line can't be brought: the machine stays
abbrev pub not_brought : LineNo → Machine → Cell → Option Failure
not_brought l m Absent = Some (record { line = l; left = m })
not_brought l m (Clean words) = None
not_brought l m (Dirty a words) = None

-- a send of a line failed that left these words in memory. The copy is as before
abbrev pub torn_at : LineNo → Machine → List ℕ → Failure
torn_at l m words = record { line = l; left = record m { image = with_line l.0 words m.image } }

-- How the media fails: of a line that it then sends, this mask says which words came through; a fence had sent so many
-- lines before.
pub record Breaking : Type 0 where
  pub mask : ℕ
  pub sent : ℕ

-- so it failed, and the masked words came through
abbrev pub not_sent : ℕ → LineNo → Machine → Option Failure
not_sent through l m = option_map (torn_at l m) (failed_send through (line_at m.image l.0) (cell_at m.cache l.0))

-- the first of these lines can't be sent. None: there is none
abbrev pub first_not_sent : ℕ → List ℕ → Machine → Option Failure
first_not_sent through [] m = None
first_not_sent through (l ∷ lines) m = not_sent through (line_no l) m

-- the media failed in an operation. None: the operation asks nothing of memory, and can't fail
abbrev pub failed : Breaking → Op → Machine → Option Failure
failed through (Load l k) m = not_brought l m (cell_at m.cache l.0)
failed through (Store l k value) m = not_brought l m (cell_at m.cache l.0)
failed through (WriteBack l) m = None
failed through Fence m =
    first_not_sent through.mask (drop through.sent (asked_lines m.cache)) (send_lines (take through.sent (asked_lines m.cache)) m)
failed through (Invalidate l) m = not_sent through.mask l m
failed through Digest m = None

-- operations, one after another
abbrev pub operated_all : List Op → Machine → Machine
operated_all [] m = m
operated_all (op ∷ ops) m = operated_all ops (operated op m)

-- Operations on all words of a line.

-- a line is invalidated, and its first so many words are loaded
abbrev pub load_ops : ℕ → ℕ → List Op
load_ops line count = Invalidate (line_no line) ∷ map (λ k. Load (line_no line) k) (range_with_len 0 count)

-- the eight words of a line are stored
abbrev pub store_ops : ℕ → List ℕ → List Op
store_ops line words = map (λ k. Store (line_no line) k (slice_index words k)) (range_with_len 0 8)
