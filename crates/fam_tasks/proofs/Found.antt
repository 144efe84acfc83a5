-- Where the lines of the file of a task's entry stand.
use Rattle.std.proofs.Common.{◌≡◌, ℕ, ◌+◌, ◌*◌, ◌/◌, ◌^◌, ◌<◌, ◌≤◌, Option, Some, None, ap, subst, arith}
use Rattle.std.proofs.Math.Nat.{div-mul-le_self}
use Rattle.fam_base.specs.declared.entry.Params.{Params}
use Rattle.fam_base.specs.declared.entry.Entry.{Entry}
use Rattle.fam_format.specs.Params.{SoundParams}
use Rattle.fam_format.specs.Slot.{Proper}
use Rattle.fam_format.proofs.EntryLawsProofs.{proper_fits}
use Rattle.fam_rules.specs.Place.{line_bytes, place}
use Rattle.fam_rules.proofs.FilePlaces.{place_before}
use Rattle.fam_commands.specs.Task.{Task, first_line, size_of}
use Rattle.fam_tasks.specs.Sound.{HasSuper, IsFileLine, IsProperFor, IsWantedLine}

-- a line of a proper file is one of the image's
pub line_within : (p : Params) (e : Entry) (j line lines : ℕ) → SoundParams p → Proper p e → p.device ≤ line_bytes * lines → line_bytes * j < e.size
    → line ≡ place e (line_bytes * j) / line_bytes → line < lines
line_within p e j line lines sound proper device below is =
    omega (arith, is, place_before p e (line_bytes * j) sound proper below, div-mul-le_self p.device p.unit, device)

-- a size fits its word
pub size_fits : (p : Params) (e : Entry) → SoundParams p → Proper p e → e.size < 2 ^ 64
size_fits p e sound proper = (proper_fits p e sound proper).size

-- The entry of a task.

pub proper_here : (o : Option Entry) (t : Task) (e : Entry) → o ≡ Some e → IsProperFor t o → Proper t.params e
proper_here None t e is proper = absurd proper
proper_here (Some x) t e is proper = subst (Proper t.params) (let same : x ≡ e = cc in same) proper

pub proper_size : (e : Option Entry) (t : Task) → SoundParams t.params → IsProperFor t e → size_of e < 2 ^ 64
proper_size None t sound proper = absurd proper
proper_size (Some e) t sound proper = size_fits t.params e sound proper

-- the device's line of a line of the file is one of the image's
pub within_image : (t : Task) (e : Entry) (j line : ℕ) → t.entry ≡ Some e → HasSuper t → IsFileLine j t → line ≡ place e (line_bytes * j) / line_bytes → line < t.lines
within_image t e j line is super file at =
    let size : size_of t.entry ≡ e.size = ap size_of is in
    let below = file.below in
    line_within t.params e j line t.lines super.sound (proper_here t.entry t e is file.proper) super.device (omega arith) at

-- its number fits a word
pub number_fits : (t : Task) (j : ℕ) → IsWantedLine j t → first_line t.cmd + j < 2 ^ 64
number_fits t j wanted =
    let below = wanted.file.below in
    omega (arith, proper_size t.entry t wanted.found.super.sound wanted.file.proper)
