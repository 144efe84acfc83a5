-- The lines that a copy writes, in their order, and what a copy that was cut short has written.
use Rattle.std.specs.Prelude.{ℕ, ◌≡◌, ◌≢◌, ◌⊎◌, ◌+◌, ◌*◌, List, [], ◌∷◌, ◌++◌, length, slice_get, slice_range, ◌≤◌, Option, Some, Result, Ok, Err}
use Rattle.std.specs.Option.{option_map}
use Rattle.fam_base.specs.declared.entry.Params.{Params}
use Rattle.fam_base.specs.declared.entry.Entry.{Entry}
use Rattle.fam_base.specs.Image.{Image}
use Rattle.fam_format.specs.Layout.{log_line, gate_line}
use Rattle.fam_format.specs.Line.{line_words}
use Rattle.fam_format.specs.Log.{log_words}
use Rattle.fam_format.specs.Params.{SoundParams}
use Rattle.fam_format.specs.Reading.{Lines}
use Rattle.fam_format.specs.Slot.{Proper}
use Rattle.fam_format.specs.Super.{magic_line, super_words}
use Rattle.fam_media.specs.Outside.{IsTorn}
use Rattle.fam_rules.specs.Place.{line_bytes}
use Rattle.fam_rules.specs.Solo.{held_file}
use Rattle.fam_rules.specs.Written.{Put, file_puts, put_lines, slot_puts, zero_line}
use Rattle.fam_rules.specs.WrittenLaws.{IsOffFile, IsOffSlot}

-- the bytes of an entry's file
abbrev pub bytes_in : Lines → Entry → List ℕ
bytes_in memory e = (held_file memory e).bytes

-- the lines of the copies' files, with the bytes that their entries have in the other memory
abbrev pub files_puts : Lines → List Entry → List Entry → List Put
files_puts memory [] copies = []
files_puts memory (e ∷ entries) [] = []
files_puts memory (e ∷ entries) (c ∷ copies) = file_puts c (bytes_in memory e) ++ files_puts memory entries copies

-- the slots of the copies, from one on
abbrev pub slots_puts : Params → ℕ → List Entry → List Put
slots_puts p seq [] = []
slots_puts p seq (c ∷ copies) = slot_puts p seq c ++ slots_puts p (seq + 1) copies

-- the gate's line, which counts so many entries
abbrev pub gate_words : ℕ → List ℕ
gate_words count = count ∷ 0 ∷ 0 ∷ 0 ∷ 0 ∷ 0 ∷ 0 ∷ 0 ∷ []

-- gate, header and superblock
abbrev pub head_puts : Params → ℕ → List Put
head_puts p count =
    (gate_line, gate_words count) ∷ (log_line, log_words p) ∷ (1, slice_range (super_words p) 0 line_words) ∷ (2, slice_range (super_words p) line_words (2 * line_words)) ∷ []

-- all lines between the first and the last write, which are of line 0
abbrev pub body_puts : Lines → Params → List Entry → List Entry → List Put
body_puts memory p entries copies = files_puts memory entries copies ++ (slots_puts p 0 copies ++ head_puts p (length copies))

-- all lines: line 0 is cleared first and has the magic last
abbrev pub copy_puts : Lines → Params → List Entry → List Entry → List Put
copy_puts memory p entries copies = (0, zero_line) ∷ (body_puts memory p entries copies ++ (0, magic_line) ∷ [])

-- a line that holds no part of a copy
pub record IsOffCopy (p : Params) (copies : List Entry) (l : ℕ) : Type 0 where
  pub magic : l ≢ 0
  pub first : l ≢ 1
  pub second : l ≢ 2
  pub header : l ≢ log_line
  pub gate : l ≢ gate_line
  pub slots : (i : ℕ) (c : Entry) → slice_get copies i ≡ Some c → IsOffSlot p i l
  pub files : (i : ℕ) (c : Entry) → slice_get copies i ≡ Some c → IsOffFile c l

-- lines were put, one after another
abbrev pub ArePut : List Put → Option Image → Option Image → Type 0
ArePut puts old new = new ≡ option_map (put_lines puts) old

-- nothing of a line was put, or some of its words
abbrev pub IsPartlyPut : Put → Option Image → Option Image → Type 0
IsPartlyPut put old new = (new ≡ old) ⊎ IsTorn old new put.0 put.1

-- some lines were put, and of the next one nothing or some of its words
pub record LinesPartlyPut (puts : List Put) (old new : Option Image) : Type 0 where
  pub done : List Put
  pub put : Put
  pub rest : List Put
  pub parts : puts ≡ done ++ put ∷ rest
  pub cut : IsPartlyPut put (option_map (put_lines done) old) new

-- lines were cut so, at such a line
pub record AreCutAt (At : Put → Type 0) (puts : List Put) (old new : Option Image) : Type 0 where
  pub cut : LinesPartlyPut puts old new
  pub at : At cut.put

-- all lines were put, or a media failed at one of them: a fault is of such a line
abbrev pub PutsEnd : {T E : Type 0} → (E → Put → Type 0) → List Put → Option Image → Option Image → Result T E → Type 0
PutsEnd At puts old new (Ok u) = ArePut puts old new
PutsEnd At puts old new (Err fault) = AreCutAt (At fault) puts old new

-- an entry's file lies within a device of so many lines
pub record IsFileOn (e : Entry) (lines : ℕ) : Type 0 where
  pub params : Params
  pub sound : SoundParams params
  pub proper : Proper params e
  pub device : params.device ≤ line_bytes * lines
