-- A slot of the log: the spelling of an entry, which entries are proper, and what a reader says of its words.
-- docs/FORMAT.md, "Slots".
use Rattle.std.specs.Prelude.{ℕ, ◌+◌, ◌-◌, ◌*◌, ◌/◌, ◌%◌, ◌^◌, ◌<◌, ◌≤◌, ◌==◌, ◌&&◌, not, Bool, true, false, nat_lt, nat_le, if◌then◌else◌, IsTrue, List, [], ◌∷◌, ◌++◌, length, map, take, find, sum_by, slice_index, slice_index_or, Option, Some, None, option_map, Result, Ok}
use Rattle.std.specs.List.{range_with_len, list_all, list_any}
use Rattle.std.specs.Int.{div_ceil}
use Rattle.fam_base.specs.declared.entry.Params.{Params}
use Rattle.fam_base.specs.declared.entry.Entry.{Entry}
use Rattle.fam_base.specs.declared.entry.Kind.{Kind}
use Rattle.fam_base.specs.declared.entry.Kind.TheVariants.{File, Directory}
use Rattle.fam_base.specs.declared.entry.MapKind.{MapKind}
use Rattle.fam_base.specs.declared.entry.MapKind.TheVariants.{Empty, Simple, Striped}
use Rattle.fam_base.specs.declared.extents.Extent.{Extent}
use Rattle.fam_base.specs.ExtentLists.{no_extent}
pub use Rattle.fam_base.specs.ExtentLists.{extent_limit}
pub use Rattle.fam_base.specs.Commands.{mode_limit}
use Rattle.fam_base.specs.Image.{byte_of}
use Rattle.fam_base.specs.Paths.{is_path}
use Rattle.fam_base.specs.Units.{strip_bytes}
use Rattle.fam_crc.specs.Crc.{crc32, bytes_of_words}
use Rattle.fam_format.specs.declared.faults.Reason.{Reason}
use Rattle.fam_format.specs.declared.faults.Reason.TheVariants as reason
use Rattle.fam_format.specs.Layout.{Geometry, geometry, log_end, device_units}
use Rattle.fam_format.specs.Words.{word_of_bytes, bytes_from}
use Rattle.fam_format.specs.Stop.{stop}

-- Places of the words of a slot.

-- the first word of the extents, of two words each
abbrev pub extents_word : ℕ
extents_word = 10

-- the first word of the path
abbrev pub path_word : ℕ
path_word = 42

-- Spelling.

-- 1 is a file and 2 a directory
abbrev pub kind_word : Kind → ℕ
kind_word File = 1
kind_word Directory = 2

-- 0 is no map, 1 a simple and 2 a striped one
abbrev pub map_word : MapKind → ℕ
map_word Empty = 0
map_word Simple = 1
map_word (Striped chunk) = 2

-- the chunk in bytes, 0 unless striped
abbrev pub chunk_word : MapKind → ℕ
chunk_word Empty = 0
chunk_word Simple = 0
chunk_word (Striped chunk) = chunk

-- word j of the pairs of offset and length, with zeros behind the last extent
abbrev pub extent_word : List Extent → ℕ → ℕ
extent_word extents j =
    if j % 2 == 0 then (slice_index_or extents (j / 2) no_extent).offset else (slice_index_or extents (j / 2) no_extent).length

-- word i before the checksum, by the table: sequence number, kind, size, mode, uid, gid, path length, map kind,
-- chunk, extent count, sixteen extents, path
unfoldable pub slot_word_at : Entry → ℕ → ℕ → ℕ
slot_word_at e seq i =
    if i == 0 then seq
    else if i == 1 then kind_word e.kind
    else if i == 2 then e.size
    else if i == 3 then e.mode
    else if i == 4 then e.uid
    else if i == 5 then e.gid
    else if i == 6 then length e.path
    else if i == 7 then map_word e.map
    else if i == 8 then chunk_word e.map
    else if i == 9 then length e.extents
    else if nat_lt i path_word then extent_word e.extents (i - extents_word)
    else word_of_bytes e.path (i - path_word)

-- the words before the checksum
abbrev pub slot_body : Geometry → Entry → ℕ → List ℕ
slot_body g e seq = map (slot_word_at e seq) (range_with_len 0 (g.words - 1))

-- the words of the slot that holds entry number seq
unfoldable pub spelling : Geometry → Entry → ℕ → List ℕ
spelling g e seq = slot_body g e seq ++ crc32 (bytes_of_words (slot_body g e seq)) ∷ []

-- The map rule.

-- no bytes and no extents
abbrev pub is_bare : Entry → Bool
is_bare e = (e.size == 0) && (length e.extents == 0)

-- whole units, at least one
abbrev pub is_aligned : Params → Extent → Bool
is_aligned p x = (x.offset % p.unit == 0) && (x.length % p.unit == 0) && nat_lt 0 x.length

-- behind the log, and before the end of the device's last whole unit
abbrev pub is_within : Params → Extent → Bool
is_within p x = nat_le (log_end p) x.offset && nat_le (x.offset + x.length) (device_units p * p.unit)

-- whole units, where files may stand
abbrev pub is_placed : Params → Extent → Bool
is_placed p x = is_aligned p x && is_within p x

-- bytes, in 1 to 16 extents
abbrev pub has_extents : Params → Entry → Bool
has_extents p e = nat_lt 0 e.size && nat_lt 0 (length e.extents) && nat_le (length e.extents) extent_limit && list_all (is_placed p) e.extents

-- the lengths add up to the size rounded up to units
abbrev pub adds_up : Params → Entry → Bool
adds_up p e = sum_by (λ x. x.length) e.extents == div_ceil e.size p.unit * p.unit

-- the chunk is whole units, at least one, and each extent is one strip's bytes
abbrev pub is_striped : Params → Entry → ℕ → Bool
is_striped p e chunk = nat_lt 0 chunk && (chunk % p.unit == 0) && list_all (λ x. x.length == strip_bytes e.size chunk (length e.extents)) e.extents

-- a directory and a file of no bytes have no map; other files have a simple or a striped one
abbrev pub fits_map : Params → Entry → Kind → MapKind → Bool
fits_map p e Directory Empty = is_bare e
fits_map p e Directory Simple = false
fits_map p e Directory (Striped chunk) = false
fits_map p e File Empty = is_bare e
fits_map p e File Simple = has_extents p e && adds_up p e
fits_map p e File (Striped chunk) = has_extents p e && is_striped p e chunk

-- the map rule
unfoldable pub is_map : Params → Entry → Bool
is_map p e = fits_map p e e.kind e.map

-- an entry that a log of these parameters may hold
pub record Proper (p : Params) (e : Entry) : Type 0 where
  pub path : IsTrue (is_path e.path)
  pub short : length e.path ≤ (geometry p).path_limit
  pub mode : e.mode ≤ mode_limit
  pub uid : e.uid < 2 ^ 32
  pub gid : e.gid < 2 ^ 32
  pub map : IsTrue (is_map p e)

-- Reading.

-- the kind by its word, where the word is one
abbrev pub kind_of : ℕ → Kind
kind_of word = if word == 1 then File else Directory

-- the map by its word and the chunk
abbrev pub map_of : ℕ → ℕ → MapKind
map_of word chunk = if word == 0 then Empty else if word == 1 then Simple else Striped chunk

-- extent i of the words
abbrev pub extent_of : List ℕ → ℕ → Extent
extent_of words i =
    record { offset = slice_index words (extents_word + 2 * i); length = slice_index words (extents_word + 1 + 2 * i) }

-- the first so many extents of the words
unfoldable pub extents_of : List ℕ → ℕ → List Extent
extents_of words count = map (extent_of words) (range_with_len 0 count)

-- the path by its length in bytes
abbrev pub path_of : List ℕ → List ℕ
path_of words = bytes_from path_word words (slice_index words 6)

-- the entry that the fields tell, whatever a test says of them
unfoldable pub fields_of : List ℕ → Entry
fields_of words = record {
  kind = kind_of (slice_index words 1);
  path = path_of words;
  size = slice_index words 2;
  mode = slice_index words 3;
  uid = slice_index words 4;
  gid = slice_index words 5;
  map = map_of (slice_index words 7) (slice_index words 8);
  extents = extents_of words (slice_index words 9);
}

-- the checksum that the words should have
abbrev pub slot_crc : Geometry → List ℕ → ℕ
slot_crc g words = crc32 (bytes_of_words (take (g.words - 1) words))

-- the tests in their order
abbrev pub crc_fault : Geometry → List ℕ → Option Reason
crc_fault g words =
    if slice_index words (g.words - 1) == slot_crc g words then None else Some (reason.Crc (slice_index words (g.words - 1)) (slot_crc g words))

-- the number isn't the slot's
abbrev pub seq_fault : List ℕ → ℕ → Option Reason
seq_fault words seq = if slice_index words 0 == seq then None else Some (reason.Seq (slice_index words 0) seq)

-- neither a file nor a directory
abbrev pub kind_fault : List ℕ → Option Reason
kind_fault words =
    if slice_index words 1 == 1 then None else if slice_index words 1 == 2 then None else Some (reason.BadKind (slice_index words 1))

-- mode, uid or gid is out of its range: the first of them
abbrev pub attribute_fault : List ℕ → Option Reason
attribute_fault words =
    if nat_lt mode_limit (slice_index words 3) then Some (reason.Attribute 3)
    else if nat_le (2 ^ 32) (slice_index words 4) then Some (reason.Attribute 4)
    else if nat_le (2 ^ 32) (slice_index words 5) then Some (reason.Attribute 5)
    else None

-- too long, or no path
abbrev pub path_fault : Geometry → List ℕ → Option Reason
path_fault g words =
    if nat_lt g.path_limit (slice_index words 6) then Some reason.BadPath
    else if is_path (path_of words) then None
    else Some reason.BadPath

-- a map kind, a count that fits, and a chunk only where the map is striped
abbrev pub is_map_words : List ℕ → Bool
is_map_words words =
    if nat_lt 2 (slice_index words 7) then false
    else if nat_lt extent_limit (slice_index words 9) then false
    else if slice_index words 7 == 2 then true
    else slice_index words 8 == 0

-- a map that doesn't fit its words, the entry or the device
abbrev pub map_fault : Params → List ℕ → Option Reason
map_fault p words =
    if is_map_words words then (if is_map p (fields_of words) then None else Some reason.Map) else Some reason.Map

-- byte b of word i is past the path's length, and not zero
abbrev pub is_stray_byte : List ℕ → ℕ → ℕ → Bool
is_stray_byte words i b = nat_le (slice_index words 6) (8 * (i - path_word) + b) && not (byte_of (slice_index words i) b == 0)

-- word i holds something in a part that no extent of the count uses, or in a byte past the path's length
abbrev pub is_stray : List ℕ → ℕ → Bool
is_stray words i =
    if nat_lt i path_word then nat_le (extents_word + 2 * slice_index words 9) i && not (slice_index words i == 0)
    else list_any (is_stray_byte words i) (range_with_len 0 8)

-- the first such word, in the order of their places
abbrev pub rest_fault : Geometry → List ℕ → Option Reason
rest_fault g words = option_map reason.Rest (find (is_stray words) (range_with_len extents_word (g.words - 1 - extents_word)))

-- what the words tell as entry number seq: the first reason against them, or the entry
unfoldable pub entry_of : Params → List ℕ → ℕ → Result Entry Reason
entry_of p words seq =
    stop (crc_fault (geometry p) words) (stop (seq_fault words seq) (stop (kind_fault words) (stop (attribute_fault words) (stop (path_fault (geometry p) words) (stop (map_fault p words) (stop (rest_fault (geometry p) words) (Ok (fields_of words))))))))
