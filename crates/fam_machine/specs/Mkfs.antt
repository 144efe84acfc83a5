-- The operations that make a file system, on the maker's cache and the one memory; and what is refused before any.
use Rattle.std.specs.Prelude.{ℕ, ◌≡◌, ◌⊎◌, ◌<◌, ◌-◌, ◌*◌, ◌/◌, ◌&&◌, min, take, nat_lt, if◌then◌else◌, Bool, true, false, List, [], ◌∷◌, ◌++◌, Option, Some, None, Result, Ok, Err}
use Rattle.std.specs.List.{flat_map, fold}
use Rattle.fam_machine.specs.declared.request.MkfsRequest.{MkfsRequest}
use Rattle.fam_base.specs.declared.entry.Params.{Params}
use Rattle.fam_base.specs.Image.{Image, line_at}
use Rattle.fam_format.specs.declared.faults.SuperFault.{SuperFault}
use Rattle.fam_format.specs.declared.faults.SuperFault.TheVariants as super
use Rattle.fam_format.specs.Layout.{slots_of}
use Rattle.fam_format.specs.Params.{is_unit, is_log_length, need}
use Rattle.fam_format.specs.Reading.{NoSuperblock, Sound, reading, super_in}
use Rattle.fam_rules.specs.Place.{line_bytes}
use Rattle.fam_rules.specs.Written.{Put, format_puts, put_lines}
use Rattle.fam_machine.specs.declared.cell.Cell.TheVariants.{Absent}
use Rattle.fam_machine.specs.declared.op.Op.{Op}
use Rattle.fam_machine.specs.declared.op.Op.TheVariants.{Invalidate}
use Rattle.fam_machine.specs.Caches.{Cache, cell_at, with_cell}
use Rattle.fam_machine.specs.OneLine.{IsDirty}
use Rattle.fam_machine.specs.Operations.{Machine, operated_all, load_ops, store_ops, line_no}

-- the first 27 operations: each of lines 0, 1 and 2 is dropped, and its eight words are loaded
unfoldable pub read_ops : List Op
read_ops = load_ops 0 8 ++ load_ops 1 8 ++ load_ops 2 8

-- a line's eight words are stored, and it is sent and dropped
unfoldable pub put_ops : Put → List Op
put_ops put = store_ops put.0 put.1 ++ Invalidate (line_no put.0) ∷ []

-- the next 54: six lines are put, in the order of `format_puts`
unfoldable pub write_ops : Params → List Op
write_ops p = flat_map put_ops (format_puts p)

-- all 81 operations
abbrev pub mkfs_ops : Params → List Op
mkfs_ops p = read_ops ++ write_ops p

-- the first 80 operations at most, after which the maker halts: all that read, and the first that write
abbrev pub halted_ops : ℕ → Params → List Op
halted_ops k p = read_ops ++ take (min k 80 - 27) (write_ops p)

-- the operations that are done, by after how many the maker halts. None: it does all
abbrev pub done_ops : Option ℕ → Params → List Op
done_ops None p = mkfs_ops p
done_ops (Some k) p = halted_ops k p

-- the operation that sends the first line, which is line 0, all zero
abbrev pub first_sent : ℕ
first_sent = 36

-- the image with the lines that were put before the maker halted: nine operations put one, so there is one more at the
-- 36th, 45th, 54th, 63rd and 72nd
abbrev pub halted_image : ℕ → Params → Image → Image
halted_image k p image = put_lines (take ((min k 80 - 27) / 9) (format_puts p)) image

-- the cache without a line that was put
abbrev pub drop_line : Cache → Put → Cache
drop_line cache put = with_cell put.0 Absent cache

-- the cache without the lines of these puts
abbrev pub drop_lines : List Put → Cache → Cache
drop_lines puts cache = fold drop_line cache puts

-- the parameters that are asked for, of a host of this UUID, on a device of so many lines
abbrev pub asked : MkfsRequest → List ℕ → ℕ → Params
asked request me lines =
    record { format = request.format; log_length = request.log; slots = slots_of request.format request.log; unit = request.unit; device = line_bytes * lines; fs = request.fs; master = me }

-- a unit, and the length of a log of such units
abbrev pub is_geometry : ℕ → ℕ → Bool
is_geometry unit log = is_unit unit && is_log_length unit log

-- why nothing is begun: no unit, or no length of a log with this unit; or the device has fewer bytes than are needed
pub data EarlyRefusal : Type 0 where
  BadGeometry : (unit log : ℕ) → EarlyRefusal
  TooSmall : (needed have : ℕ) → EarlyRefusal

-- what is refused before any operation, by the unit, the log and the bytes of the device alone. None: nothing
abbrev pub early_refusal : ℕ → ℕ → ℕ → Option EarlyRefusal
early_refusal unit log have =
    if is_geometry unit log then (if nat_lt have (need log unit) then Some (TooSmall (need log unit) have) else None)
    else Some (BadGeometry unit log)

-- what the superblock says behind the reading
abbrev pub superblock_found : Params → Machine → Result Params SuperFault
superblock_found p m = super_in (line_at (operated_all read_ops m).image) p.device

-- nothing stands in the way, or it is to be written over
abbrev pub goes_on : Bool → Result Params SuperFault → Bool
goes_on true superblock_found = true
goes_on false (Ok other) = false
goes_on false (Err fault) = true

-- the operations that are expected, by whether it goes on, and by after how many the maker halts
abbrev pub expected_by : Bool → Option ℕ → Params → List Op
expected_by true halt p = done_ops halt p
expected_by false halt p = read_ops

-- the operations that are expected, by what is superblock_found
abbrev pub expected_ops : Bool → Option ℕ → Params → Machine → List Op
expected_ops force halt p m = expected_by (goes_on force (superblock_found p m)) halt p

-- Where the media fails in one of them.

-- the cache has nothing to send of lines 0, 1 and 2
abbrev pub IsHeadSent : Cache → Type 0
IsHeadSent cache = (line : ℕ) → line < 3 → IsDirty (cell_at cache line) → ⊥

-- the image that is left reads as the old one; or it has no superblock, since word 0 of line 0 is zero from the first line that
-- is sent to the last; or it reads as the new file system, without entries
abbrev pub IsOldNoneOrNew : Params → Image → Image → Type 0
IsOldNoneOrNew p old left = (reading left ≡ reading old) ⊎ ((reading left ≡ NoSuperblock (super.NoSuper 0)) ⊎ (reading left ≡ Sound p []))
