-- Entries and trees in print. docs/FORMAT.md, "Listings".
use Rattle.std.specs.Prelude.{ℕ, ◌+◌, ◌/◌, ◌%◌, List, [], ◌∷◌, ◌++◌, map}
use Rattle.std.specs.FinMap as finmap
use Rattle.std.specs.Fmt.{decimal}
use Rattle.std.specs.List.{flat_map, join_with_byte}
use Rattle.fam_base.specs.declared.entry.Entry.{Entry}
use Rattle.fam_base.specs.declared.entry.Kind.{Kind}
use Rattle.fam_base.specs.declared.entry.Kind.TheVariants.{File, Directory}
use Rattle.fam_base.specs.declared.entry.MapKind.{MapKind}
use Rattle.fam_base.specs.declared.entry.MapKind.TheVariants.{Empty, Simple, Striped}
use Rattle.fam_base.specs.declared.extents.Extent.{Extent}
use Rattle.fam_base.specs.Escapes.{escaped}
use Rattle.fam_format.specs.Tree.{Tree}

-- between two words
abbrev pub space : ℕ
space = 0x20

-- between offset and length
abbrev pub plus : ℕ
plus = 0x2b

-- between two extents
abbrev pub comma : ℕ
comma = 0x2c

-- behind the chunk
abbrev pub colon : ℕ
colon = 0x3a

-- behind a line
abbrev pub line_feed : ℕ
line_feed = 0x0a

-- `d` for a directory, `f` for a file
abbrev pub kind_letter : Kind → List ℕ
kind_letter Directory = 0x64 ∷ []
kind_letter File = 0x66 ∷ []

-- the last octal digit of a number, from `0`
abbrev pub octal_digit : ℕ → ℕ
octal_digit n = 0x30 + n % 8

-- a mode has four octal digits, with leading zeros
abbrev pub mode_text : ℕ → List ℕ
mode_text mode = octal_digit (mode / 512) ∷ octal_digit (mode / 64) ∷ octal_digit (mode / 8) ∷ octal_digit mode ∷ []

-- `OFFSET+LENGTH`, both in bytes and decimal
abbrev pub extent_text : Extent → List ℕ
extent_text extent = decimal extent.offset ++ plus ∷ decimal extent.length

-- the extents in their order, with commas between
abbrev pub extents_text : List Extent → List ℕ
extents_text extents = join_with_byte comma (map extent_text extents)

-- `-` for no map, the extents for a simple one, and `CHUNK:` before the extents of a striped one
abbrev pub map_text : MapKind → List Extent → List ℕ
map_text Empty extents = 0x2d ∷ []
map_text Simple extents = extents_text extents
map_text (Striped chunk) extents = decimal chunk ++ colon ∷ extents_text extents

-- the words of a line: KIND MODE UID GID SIZE MAP PATH
abbrev pub entry_words : Entry → List (List ℕ)
entry_words e =
    kind_letter e.kind ∷ mode_text e.mode ∷ decimal e.uid ∷ decimal e.gid ∷ decimal e.size
    ∷ map_text e.map e.extents ∷ escaped e.path ∷ []

-- an entry's line, with one space between words
unfoldable pub entry_line : Entry → List ℕ
entry_line e = join_with_byte space (entry_words e)

-- the line, and the line feed behind it
abbrev pub listing_line : Entry → List ℕ
listing_line e = entry_line e ++ line_feed ∷ []

-- the line of each entry of a tree, in byte order of the paths
unfoldable pub listing : Tree → List ℕ
listing tree = flat_map listing_line (finmap.values tree)
