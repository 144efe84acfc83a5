-- The grammar of an entry in print, from left to right: the words of its line in a listing (docs/FORMAT.md, "Listings"), with
-- numbers, modes and paths spelled as in scripts.
use Rattle.std.specs.Prelude.{ℕ, zero, suc, ◌==◌, if◌then◌else◌, List, [], ◌∷◌, codes, length, Option, Some, None, option_map}
use Rattle.std.specs.Str.{bytes_eq}
use Rattle.fam_base.specs.declared.cmd.Attr.{Attr}
use Rattle.fam_base.specs.declared.entry.Entry.{Entry}
use Rattle.fam_base.specs.declared.entry.Kind.{Kind}
use Rattle.fam_base.specs.declared.entry.Kind.TheVariants.{File, Directory}
use Rattle.fam_base.specs.declared.entry.MapKind.{MapKind}
use Rattle.fam_base.specs.declared.entry.MapKind.TheVariants.{Empty, Simple, Striped}
use Rattle.fam_base.specs.declared.extents.Extent.{Extent}
use Rattle.fam_base.specs.ExtentLists.{extent_limit}
use Rattle.fam_tree.specs.Cuts.{back, front}
use Rattle.fam_tree.specs.Lines.{colon, comma, plus}
use Rattle.fam_grammar.specs.Numbers.{number_of_text}
use Rattle.fam_grammar.specs.Reading.{Reading, Reads, ends_with, then_reads, word_of}
use Rattle.fam_grammar.specs.Spellings.{id_of, mode_of, path_of}
use Rattle.fam_grammar.specs.Words.{Word}

-- a kind, by its letter
abbrev pub listed_kind : List ℕ → Option Kind
listed_kind text =
    if bytes_eq text (codes "d") then Some Directory
    else if bytes_eq text (codes "f") then Some File
    else None

-- Maps.

-- an offset and a length, where both are there
abbrev pub extent_with : Option ℕ → Option ℕ → Option Extent
extent_with None bytes = None
extent_with (Some offset) None = None
extent_with (Some offset) (Some bytes) = Some (record { offset = offset; length = bytes })

-- `OFFSET+LENGTH`
abbrev pub listed_extent : List ℕ → Option Extent
listed_extent text = extent_with (number_of_text (front plus text)) (number_of_text (back plus text))

-- what stands behind the first comma, where there is one
abbrev pub behind_comma : List ℕ → Option (List ℕ)
behind_comma text = if length (front comma text) == length text then None else Some (back comma text)

-- the first extent, and what stands behind its comma, where there is one
abbrev pub first_extent : List ℕ → Option (Extent × Option (List ℕ))
first_extent text = option_map (λ extent. (extent, behind_comma text)) (listed_extent (front comma text))

-- an extent in front of extents, where all are there
abbrev pub and_extents : Option Extent → Option (List Extent) → Option (List Extent)
and_extents None more = None
and_extents (Some extent) more = option_map (λ extents. extent ∷ extents) more

-- at most so many extents with commas between, of what is left of a word
abbrev pub extents_up_to : ℕ → Option (List ℕ) → Option (List Extent)
extents_up_to n None = Some []
extents_up_to zero (Some text) = None
extents_up_to (suc n) (Some text) = and_extents (listed_extent (front comma text)) (extents_up_to n (behind_comma text))

-- at least one extent, and at most 16
abbrev pub listed_extents : List ℕ → Option (List Extent)
listed_extents text = extents_up_to extent_limit (Some text)

-- a chunk and strips, where both are there
abbrev pub striped_with : Option ℕ → Option (List Extent) → Option (MapKind × List Extent)
striped_with None extents = None
striped_with (Some chunk) extents = option_map (λ extents. (Striped chunk, extents)) extents

-- `-` for no map; or extents, which have a chunk and a colon in front where they are strips
abbrev pub listed_map : List ℕ → Option (MapKind × List Extent)
listed_map text =
    if bytes_eq text (codes "-") then Some (Empty, [])
    else if length (front colon text) == length text then option_map (λ extents. (Simple, extents)) (listed_extents text)
    else striped_with (number_of_text (front colon text)) (listed_extents (back colon text))

-- Entries.

-- kind, mode, user and group
abbrev pub kind_line : ℕ → List Word → Reading (Kind × Attr)
kind_line end words =
    then_reads (word_of listed_kind end words) (λ kind rest.
    then_reads (word_of mode_of end rest) (λ mode rest.
    then_reads (word_of id_of end rest) (λ uid rest.
    then_reads (word_of id_of end rest) (λ gid rest. Reads (kind, record { mode = mode; uid = uid; gid = gid }) rest))))

-- an entry of this kind, mode, user and group, with what its other words say
abbrev pub entry_with : Kind × Attr → ℕ → MapKind × List Extent → List ℕ → Entry
entry_with first size map path = record {
  kind = first.0;
  path = path;
  size = size;
  mode = first.1.mode;
  uid = first.1.uid;
  gid = first.1.gid;
  map = map.0;
  extents = map.1;
}

-- an entry: these, and size, map and path
unfoldable pub listed_entry : ℕ → List Word → Reading Entry
listed_entry end words =
    then_reads (kind_line end words) (λ first rest.
    then_reads (word_of number_of_text end rest) (λ size rest.
    then_reads (word_of listed_map end rest) (λ map rest.
    then_reads (word_of path_of end rest) (λ path. ends_with (entry_with first size map path)))))
