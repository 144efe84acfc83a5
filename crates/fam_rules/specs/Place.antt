-- Where the bytes of a file stand on the device. docs/FORMAT.md, "Place".
use Rattle.std.specs.Prelude.{ℕ, ◌≡◌, ◌≢◌, ◌+◌, ◌-◌, ◌*◌, ◌/◌, ◌%◌, ◌<◌, ◌≤◌, nat_lt, if◌then◌else◌, List, [], ◌∷◌, length, take, slice_get, slice_index, slice_index_or, sum_by, Some, All}
use Rattle.std.specs.List.{flat_map, range_with_len, Any}
use Rattle.fam_base.specs.declared.entry.Params.{Params}
use Rattle.fam_base.specs.declared.entry.Entry.{Entry}
use Rattle.fam_base.specs.declared.entry.MapKind.{MapKind}
use Rattle.fam_base.specs.declared.entry.MapKind.TheVariants.{Empty, Simple, Striped}
use Rattle.fam_base.specs.declared.extents.Extent.{Extent}
use Rattle.fam_base.specs.ExtentLists.{no_extent}
pub use Rattle.fam_format.specs.Line.{line_bytes}
use Rattle.fam_format.specs.Params.{SoundParams}
use Rattle.fam_format.specs.Slot.{Proper}
use Rattle.fam_format.specs.Units.{units_in, list_units, is_used}
use Rattle.fam_format.specs.ReadingLaws.{AreFree}

-- the device's bytes of extents laid end to end
abbrev pub bytes_of_extents : List Extent → List ℕ
bytes_of_extents extents = flat_map (λ x. range_with_len x.offset x.length) extents

-- how many these are
abbrev pub total_length : List Extent → ℕ
total_length extents = sum_by (λ x. x.length) extents

-- byte o of them, 0 past their end
abbrev pub simple_place : List Extent → ℕ → ℕ
simple_place [] o = 0
simple_place (x ∷ xs) o = if nat_lt o x.length then x.offset + o else simple_place xs (o - x.length)

-- chunk o / chunk has byte o. Chunks are dealt in turn to k strips: this is the byte's strip
abbrev pub strip_of : ℕ → ℕ → ℕ → ℕ
strip_of k chunk o = o / chunk % k

-- and its place in the strip, behind one chunk of each round before
abbrev pub place_in_strip : ℕ → ℕ → ℕ → ℕ
place_in_strip k chunk o = o / chunk / k * chunk + o % chunk

-- byte o of a striped file
abbrev pub striped_place : List Extent → ℕ → ℕ → ℕ
striped_place strips chunk o =
    (slice_index_or strips (strip_of (length strips) chunk o) no_extent).offset + place_in_strip (length strips) chunk o

-- byte o by the kind of map, 0 where there are no bytes
abbrev pub place_by : List Extent → MapKind → ℕ → ℕ
place_by extents Empty o = 0
place_by extents Simple o = simple_place extents o
place_by extents (Striped chunk) o = striped_place extents chunk o

-- the device's byte that holds byte o of the entry's file
unfoldable pub place : Entry → ℕ → ℕ
place e o = place_by e.extents e.map o

-- byte b of the device lies in an extent
pub record HasByte (b : ℕ) (x : Extent) : Type 0 where
  pub from : x.offset ≤ b
  pub to : b < x.offset + x.length

-- byte b of the device lies in one of these extents
abbrev pub IsIn : List Extent → ℕ → Type 0
IsIn extents b = Any (HasByte b) extents

-- no unit stands twice
abbrev pub IsOnce : List ℕ → Type 0
IsOnce units = (i j : ℕ) → i < j → j < length units → slice_index units i ≢ slice_index units j

-- an entry is proper for some sound parameters
pub record IsProperEntry (e : Entry) : Type 0 where
  pub params : Params
  pub sound : SoundParams params
  pub proper : Proper params e

-- byte o of entry i of a list stands at byte b of the device
pub record StandsAt (list : List Entry) (i o b : ℕ) : Type 0 where
  pub entry : Entry
  pub at : slice_get list i ≡ Some entry
  pub below : o < entry.size
  pub place : place entry o ≡ b

-- proper entries, and no unit stands in two of their extents
pub record AreApart (p : Params) (list : List Entry) : Type 0 where
  pub proper : All (Proper p) list
  pub once : IsOnce (list_units p.unit list)

-- an entry is proper, and its units are free where those of these entries are used
pub record IsFreeAfter (p : Params) (before : List Entry) (e : Entry) : Type 0 where
  pub proper : Proper p e
  pub units : AreFree (is_used p before) (units_in p.unit e.extents)

-- so is each entry of a list, behind the entries before it
abbrev pub IsLaidOut : Params → List Entry → Type 0
IsLaidOut p list = (i : ℕ) (e : Entry) → slice_get list i ≡ Some e → IsFreeAfter p (take i list) e
