-- The lines of a file, of a slot and of the gate are apart, and in the image.
use Rattle.std.proofs.Common.{◌≡◌, ℕ, ◌+◌, ◌*◌, ◌<◌, ◌≤◌, sym, ap, ◌∙◌, arith}
use Rattle.std.proofs.Math.Nat.{div-mul-le_self}
use Rattle.fam_base.specs.declared.entry.Params.{Params}
use Rattle.fam_base.specs.declared.entry.Entry.{Entry}
use Rattle.fam_format.specs.Layout.{geometry, gate_line, log_end, slot_line}
use Rattle.fam_format.specs.Params.{SoundParams}
use Rattle.fam_format.specs.Slot.{Proper}
use Rattle.fam_format.proofs.Formats.{shape, slot_ends}
use Rattle.fam_rules.specs.Place.{line_bytes, place}
use Rattle.fam_rules.specs.Written.{file_line}
use Rattle.fam_rules.specs.WrittenLaws.{HasPhase}
use Rattle.fam_rules.proofs.FilePlaces.{place_behind, place_before, place_once, line_place}

-- a slot's lines end with the log, or before
pub slot_before : (p : Params) (seq j : ℕ) → SoundParams p → seq < p.slots → j < (geometry p).lines → line_bytes * slot_line p seq j + line_bytes ≤ log_end p
slot_before p seq j sound below line = omega (arith, slot_ends p.format p.log_length seq (omega (arith, sound.slots)))

-- a file's lines are behind it
pub file_behind : (p : Params) (e : Entry) (j : ℕ) → SoundParams p → Proper p e → line_bytes * j < e.size → log_end p < line_bytes * file_line e j + line_bytes
file_behind p e j sound proper below = omega (arith, place_behind p e (line_bytes * j) sound proper below)

-- and in the device
pub file_within : (p : Params) (e : Entry) (j lines : ℕ) → SoundParams p → Proper p e → line_bytes * j < e.size → p.device ≤ line_bytes * lines → file_line e j < lines
file_within p e j lines sound proper below fits =
    omega (arith, place_before p e (line_bytes * j) sound proper below, div-mul-le_self p.device p.unit)

-- so is a slot
pub slot_within : (p : Params) (seq j lines : ℕ) → SoundParams p → seq < p.slots → j < (geometry p).lines → p.device ≤ line_bytes * lines → slot_line p seq j < lines
slot_within p seq j lines sound below line fits = omega (arith, slot_before p seq j sound below line, sound.need)

-- a file's line begins where its first byte stands
line_start : (p : Params) (e : Entry) (j : ℕ) → SoundParams p → Proper p e → line_bytes * j < e.size → place e (line_bytes * j) ≡ line_bytes * file_line e j
line_start p e j sound proper below =
    let whole : line_bytes * j + 0 ≡ line_bytes * j = omega arith in
    sym (ap (λ (o : ℕ). place e o) whole) ∙ line_place p e j 0 sound proper below (omega arith) ∙ (let none : line_bytes * file_line e j + 0 ≡ line_bytes * file_line e j = omega arith in none)

-- two lines of a file are two lines of the device
pub file_lines_apart : (p : Params) (seq : ℕ) (e : Entry) (lines i j : ℕ) → HasPhase p seq e lines → line_bytes * i < e.size → line_bytes * j < e.size → file_line e i ≡ file_line e j → i ≡ j
file_lines_apart p seq e lines i j has i_below j_below same =
    let places : place e (line_bytes * i) ≡ place e (line_bytes * j) =
    line_start p e i has.sound has.proper i_below ∙ ap (λ (l : ℕ). line_bytes * l) same ∙ sym (line_start p e j has.sound has.proper j_below) in
    let bytes : line_bytes * i ≡ line_bytes * j = place_once p e (line_bytes * i) (line_bytes * j) has.sound has.proper has.once i_below j_below places in
    omega arith

-- a file's line is no line of a slot
pub file_off_slot : (p : Params) (seq : ℕ) (e : Entry) (lines i j : ℕ) → HasPhase p seq e lines → line_bytes * i < e.size → j < (geometry p).lines → file_line e i ≡ slot_line p seq j → ⊥
file_off_slot p seq e lines i j has below line same = omega (arith, slot_before p seq j has.sound has.slot line, file_behind p e i has.sound has.proper below)

-- nor the gate's
pub file_off_gate : (p : Params) (seq : ℕ) (e : Entry) (lines i : ℕ) → HasPhase p seq e lines → line_bytes * i < e.size → file_line e i ≡ gate_line → ⊥
file_off_gate p seq e lines i has below same = omega (arith, (shape p).lines, slot_before p seq 0 has.sound has.slot (omega (arith, (shape p).lines)), file_behind p e i has.sound has.proper below)

-- the gate's line is in the image
pub gate_within : (p : Params) (seq : ℕ) (e : Entry) (lines : ℕ) → HasPhase p seq e lines → gate_line < lines
gate_within p seq e lines has = omega (arith, (shape p).lines, slot_within p seq 0 lines has.sound has.slot (omega (arith, (shape p).lines)) has.device)
