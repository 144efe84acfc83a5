-- What making a file system and appending an entry leave in an image. docs/MODEL.md, "Written and formatted".
use Rattle.std.specs.Prelude.{ℕ, ◌+◌, ◌*◌, ◌/◌, List, [], ◌∷◌, map, slice_set, slice_range}
use Rattle.std.specs.List.{fold, range_with_len}
use Rattle.std.specs.Int.{div_ceil}
use Rattle.fam_base.specs.declared.entry.Params.{Params}
use Rattle.fam_base.specs.declared.entry.Entry.{Entry}
use Rattle.fam_base.specs.Image.{Image, line_at, with_line}
use Rattle.fam_format.specs.Layout.{geometry, log_line, gate_line, slot_line}
use Rattle.fam_format.specs.Line.{line_words}
use Rattle.fam_format.specs.Super.{magic_line, super_words}
use Rattle.fam_format.specs.Log.{log_words}
use Rattle.fam_format.specs.Slot.{spelling}
use Rattle.fam_rules.specs.Content.{file_words}
use Rattle.fam_rules.specs.Place.{place, line_bytes}

-- a line's number and its words
abbrev pub Put : Type 0
Put = ℕ × List ℕ

-- the image with one line put
abbrev pub put_line : Image → Put → Image
put_line image put = with_line put.0 put.1 image

-- the image with lines put, one after another
abbrev pub put_lines : List Put → Image → Image
put_lines puts image = fold put_line image puts

-- how many lines hold so many bytes
abbrev pub lines_of : ℕ → ℕ
lines_of size = div_ceil size line_bytes

-- the line of the device that holds line j of a file
abbrev pub file_line : Entry → ℕ → ℕ
file_line e j = place e (line_bytes * j) / line_bytes

-- the lines of a file with these bytes
abbrev pub file_puts : Entry → List ℕ → List Put
file_puts e bytes = map (λ j. (file_line e j, file_words bytes j)) (range_with_len 0 (lines_of e.size))

-- line j of the words of a slot
abbrev pub slot_part : List ℕ → ℕ → List ℕ
slot_part words j = slice_range words (line_words * j) (line_words * j + line_words)

-- the lines of slot `seq` with an entry
abbrev pub slot_puts : Params → ℕ → Entry → List Put
slot_puts p seq e =
    map (λ j. (slot_line p seq j, slot_part (spelling (geometry p) e seq) j)) (range_with_len 0 (geometry p).lines)

-- the image with another gate: word 0 of its line alone
abbrev pub with_gate : ℕ → Image → Image
with_gate gate image = with_line gate_line (slice_set (line_at image gate_line) 0 gate) image

-- an entry is appended: the file's lines hold its bytes, with zeros behind them, its slot holds the spelling, and
-- the gate counts it. All else is as before
unfoldable pub written : Image → Params → ℕ → Entry → List ℕ → Image
written image p seq e bytes = with_gate (seq + 1) (put_lines (slot_puts p seq e) (put_lines (file_puts e bytes) image))

-- a line of zeros
abbrev pub zero_line : List ℕ
zero_line = 0 ∷ 0 ∷ 0 ∷ 0 ∷ 0 ∷ 0 ∷ 0 ∷ 0 ∷ []

-- the lines that making a file system writes, in this order: line 0 is cleared first and has the magic last
abbrev pub format_puts : Params → List Put
format_puts p =
    (0, zero_line) ∷ (gate_line, zero_line) ∷ (log_line, log_words p) ∷ (1, slice_range (super_words p) 0 line_words) ∷ (2, slice_range (super_words p) line_words (2 * line_words)) ∷ (0, magic_line) ∷ []

-- a file system is made: superblock, header and a gate of 0. All else is as before
unfoldable pub formatted : Image → Params → Image
formatted image p = put_lines (format_puts p) image
