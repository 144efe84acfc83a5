-- What ties the slot definitions together.
use Rattle.std.specs.Prelude.{◌≡◌, ◌+◌, ◌*◌, ◌%◌, ◌^◌, ◌<◌, ◌≤◌, length}
use Rattle.std.specs.List.{All}
use Rattle.fam_base.specs.declared.entry.Params.{Params}
use Rattle.fam_base.specs.declared.entry.Entry.{Entry}
use Rattle.fam_base.specs.declared.extents.Extent.{Extent}
use Rattle.fam_format.specs.Layout.{log_end, device_units}
use Rattle.fam_format.specs.Slot.{extent_limit, chunk_word}

-- an extent of whole units, at least one, behind the log and before the end of the device's last whole unit
pub record IsInDevice (p : Params) (x : Extent) : Type 0 where
  pub offset : x.offset % p.unit ≡ 0
  pub length : x.length % p.unit ≡ 0
  pub some : 0 < x.length
  pub behind : log_end p ≤ x.offset
  pub before : x.offset + x.length ≤ device_units p * p.unit

-- an extent whose two numbers fit words of 64 bits
pub record ExtentFits (x : Extent) : Type 0 where
  pub offset : x.offset < 2 ^ 64
  pub length : x.length < 2 ^ 64

-- an entry whose numbers fit words of 64 bits, and its extents their sixteen places
pub record FitsWords (e : Entry) : Type 0 where
  pub size : e.size < 2 ^ 64
  pub chunk : chunk_word e.map < 2 ^ 64
  pub count : length e.extents ≤ extent_limit
  pub extents : All ExtentFits e.extents
