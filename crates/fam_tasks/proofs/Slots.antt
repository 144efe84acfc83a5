-- Where the slots of a task's log stand, whatever their shape.
use Rattle.std.proofs.Common.{◌≡◌, ℕ, ◌+◌, ◌-◌, ◌*◌, ◌%◌, ◌^◌, ◌<◌, ◌≤◌, Bool, true, cond, ap, inl, inr, mod-eq_of_lt, arith}
use Rattle.std.proofs.lemmas.Bool.{cases_lt}
use Rattle.std.proofs.lemmas.Bool.Decides.{nat_tests}
use Rattle.fam_base.specs.declared.entry.Params.{Params}
use Rattle.fam_format.specs.Layout.{geometry, log_limit, log_line, slot_line}
use Rattle.fam_format.specs.Params.{SoundParams}
use Rattle.fam_format.proofs.Formats.{shape, slot_ends, slots_some, times}
use Rattle.fam_format.proofs.UnitPowers.{unit_told}
use Rattle.fam_commands.specs.Classes.{is_fsck}
use Rattle.fam_commands.specs.Task.{Task}
use Rattle.fam_tasks.specs.declared.task.Task.TheInside.{Inside}
use Rattle.fam_tasks.specs.Commands.{slots_told}
use Rattle.fam_tasks.specs.Invariant.{HasLooked}
use Rattle.fam_tasks.specs.Sound.{HasSuper}
use Rattle.fam_tasks.specs.Survey.{added_in}

-- a log has a slot
pub has_slot : (p : Params) → SoundParams p → 0 < p.slots
has_slot p sound =
    let least = (unit_told p.unit sound.unit).least in
    let some : 0 < p.log_length = grind (arith, nat_tests, sound.log_length) in
    let whole : p.log_length % p.unit ≡ 0 = grind (arith, nat_tests, sound.log_length) in
    let long : p.unit ≤ p.log_length = elim (cases_lt p.log_length p.unit) [ inl below ↦ absurd (omega (arith, mod-eq_of_lt below, whole, some)) | inr past ↦ past ] in
    omega (arith, sound.slots, slots_some p.format p.log_length (omega (arith, long, least)))

-- header and slots stand in the image
pub slots_in : (p : Params) (lines : ℕ) → SoundParams p → p.device ≤ 64 * lines → log_line + (geometry p).lines * (p.slots + 1) ≤ lines
slots_in p lines sound device =
    let last : ℕ = p.slots - 1 in
    omega (arith, times p last, times p (p.slots + 1), has_slot p sound, slot_ends p.format p.log_length last (omega (arith, has_slot p sound, sound.slots)), sound.need, device)

-- a line of a slot is one of the image's
pub slot_within : (t : Task) (i j : ℕ) → HasSuper t → i < t.params.slots → j < (geometry t.params).lines → slot_line t.params i j < t.lines
slot_within t i j super below line = omega (arith, times t.params i, times t.params (t.params.slots + 1), super.slots)

-- and their numbers are small
pub slot_small : (p : Params) (i j : ℕ) → SoundParams p → i < p.slots → j < (geometry p).lines → i + j < 2 ^ 32
slot_small p i j sound below line =
    let short : p.log_length ≤ log_limit = grind (arith, nat_tests, sound.log_length) in
    omega (arith, times p i, slot_ends p.format p.log_length i (omega (arith, sound.slots)), short)

-- a word of one of its lines is one of the slot's
pub word_within : (p : Params) (j k : ℕ) → j < (geometry p).lines → k < 8 → 8 * j + k < (geometry p).words
word_within p j k line word = omega (arith, (shape p).words)

-- a slot has a first line
pub some_line : (p : Params) → 0 < (geometry p).lines
some_line p = omega (arith, (shape p).lines)

-- a check that was shown all slots was shown one
pub some_shown : (t : Inside) → is_fsck t.cmd ≡ true → SoundParams t.params → HasLooked (slots_told t.cmd t.params t.gate) t → 0 < added_in t.scan
some_shown t fsck sound looked =
    let told : slots_told t.cmd t.params t.gate ≡ t.params.slots = ap (λ (b : Bool). cond b t.params.slots t.gate) fsck in
    omega (arith, looked.slots fsck, told, has_slot t.params sound)
