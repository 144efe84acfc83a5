-- A blank image, and how many lines it has where a history is judged on one.
use Rattle.std.specs.Prelude.{ℕ, ◌/◌, if◌then◌else◌, nat_lt, List, [], ◌∷◌, replicate, Option, Some, None}
use Rattle.fam_base.specs.Image.{Image}
use Rattle.fam_format.specs.declared.faults.SuperFault.TheVariants as super
use Rattle.fam_format.specs.Layout.{device_limit, least_lines}
use Rattle.fam_history.specs.declared.note.LineNote.{LineNote}
use Rattle.fam_history.specs.declared.note.LineNote.TheVariants as told
use Rattle.fam_judging.specs.declared.given.Damage.{Damage}
use Rattle.fam_judging.specs.declared.given.Damage.TheVariants as damage
use Rattle.fam_records.specs.Histories.{history_in}
use Rattle.fam_records.specs.Records.{Recorded}
use Rattle.fam_rules.specs.Place.{line_bytes}

-- lines of zeros
abbrev pub blank_image : ℕ → Image
blank_image lines = replicate lines (replicate 8 0)

-- why it has no history: no gate, or no superblock
abbrev pub blank_damage : ℕ → Damage
blank_damage lines = if nat_lt lines least_lines then damage.FewLines lines else damage.NoSuperblock (super.NoSuper 0)

-- the bytes of the device on which a line tells that a file system was made
abbrev pub device_told : LineNote → Option ℕ
device_told (told.Host uuid) = None
device_told (told.Made p) = Some p.device
device_told (told.Cut k) = None
device_told (told.Start cmd) = None
device_told told.Mark = None
device_told (told.Found n) = None
device_told (told.Writes seq entry) = None
device_told (told.Answered answer) = None
device_told told.Stop = None
device_told told.Halt = None
device_told told.Umount = None
device_told (told.Refused why) = None

-- the first number, or else the second one
abbrev pub or_else : Option ℕ → Option ℕ → Option ℕ
or_else None other = other
or_else (Some n) other = Some n

-- the device of the first file system that was made
abbrev pub first_device : List Recorded → Option ℕ
first_device [] = None
first_device (r ∷ records) = or_else (device_told r.told.note) (first_device records)

-- so many bytes, but no more than a device may have
abbrev pub at_most_device : ℕ → ℕ
at_most_device n = if nat_lt n device_limit then n else device_limit

-- the lines of such a device; where none was made, of the largest one
abbrev pub lines_of_device : Option ℕ → ℕ
lines_of_device None = device_limit / line_bytes
lines_of_device (Some n) = at_most_device n / line_bytes

-- the lines of the image on which a text is judged where none is given
abbrev pub lines_enough : List ℕ → ℕ
lines_enough text = lines_of_device (first_device (history_in text).records)
