-- What a source must hold to be a listing. docs/FORMAT.md, "Listings".
use Rattle.std.specs.Prelude.{ℕ, ⊤, ◌≡◌, ◌⊎◌, ◌+◌, ◌^◌, ◌<◌, ◌≤◌, ◌==◌, IsTrue, Bool, true, false, List, [], ◌∷◌, ◌++◌, All, length, codes, Option, Some, None, Result, Ok, Err}
use Rattle.std.specs.Fmt.{decimal}
use Rattle.std.specs.List.{slice_split}
use Rattle.std.specs.declared.cmp.Ordering.TheVariants.{Less}
use Rattle.fam_base.specs.declared.entry.Entry.{Entry}
use Rattle.fam_base.specs.declared.entry.MapKind.{MapKind}
use Rattle.fam_base.specs.declared.entry.MapKind.TheVariants.{Empty, Simple, Striped}
use Rattle.fam_base.specs.declared.extents.Extent.{Extent}
use Rattle.fam_base.specs.Commands.{mode_limit}
use Rattle.fam_base.specs.ExtentLists.{extent_limit}
use Rattle.fam_base.specs.Paths.{is_path}
use Rattle.fam_base.specs.PathOrder.{path_cmp, path_eq}
use Rattle.fam_tree.specs.Lines.{entry_line, line_feed}

-- the lines of a text: a line feed ends one, and what stands behind the last line feed is one where it isn't empty
abbrev pub without_end : List (List ℕ) → List (List ℕ)
without_end [] = []
without_end ([] ∷ []) = []
without_end ((byte ∷ bytes) ∷ []) = (byte ∷ bytes) ∷ []
without_end (line ∷ next ∷ more) = line ∷ without_end (next ∷ more)

-- cut at each line feed
unfoldable pub text_lines : List ℕ → List (List ℕ)
text_lines bytes = without_end (slice_split (λ byte. byte == line_feed) bytes)

-- numbers of 64 bits
abbrev pub IsWord : ℕ → Type 0
IsWord n = n < 2 ^ 64

-- an extent of such numbers
abbrev pub IsWordExtent : Extent → Type 0
IsWordExtent x = IsWord x.offset × IsWord x.length

-- extents of such numbers
abbrev pub AreWordExtents : List Extent → Type 0
AreWordExtents xs = All (λ (x : Extent). IsWordExtent x) xs

-- no map has extents but one of bytes
abbrev pub MapListed : MapKind → List Extent → Type 0
MapListed Empty extents = extents ≡ []
MapListed Simple extents = (1 ≤ length extents) × (length extents ≤ extent_limit)
MapListed (Striped chunk) extents = IsWord chunk × (1 ≤ length extents) × (length extents ≤ extent_limit)

-- an entry that a listing may have, proper or not
pub record IsListed (e : Entry) : Type 0 where
  pub path : IsTrue (is_path e.path)
  pub size : IsWord e.size
  pub mode : e.mode ≤ mode_limit
  pub uid : e.uid < 2 ^ 32
  pub gid : e.gid < 2 ^ 32
  pub map : MapListed e.map e.extents
  pub extents : AreWordExtents e.extents

-- the path comes behind the one before it
abbrev pub ComesBehind : Option (List ℕ) → List ℕ → Type 0
ComesBehind None path = ⊤
ComesBehind (Some before) path = path_cmp before path ≡ Less

-- a line is this entry's, and stands where it may
pub record IsListingLine (before : Option (List ℕ)) (line : List ℕ) (e : Entry) : Type 0 where
  pub listed : IsListed e
  pub printed : line ≡ entry_line e
  pub order : ComesBehind before e.path

-- lines from number n on: they are these entries', or the first bad one has this number
abbrev pub LinesSay : ℕ → Option (List ℕ) → List (List ℕ) → Result (List Entry) ℕ → Type 0
LinesSay n before [] (Ok entries) = entries ≡ []
LinesSay n before [] (Err bad) = ⊥
LinesSay n before (line ∷ lines) (Ok entries) =
    (e : Entry) × (more : List Entry) × IsListingLine before line e × LinesSay (n + 1) (Some e.path) lines (Ok more) × (entries ≡ e ∷ more)
LinesSay n before (line ∷ lines) (Err bad) =
    ((bad ≡ n) × ((e : Entry) → IsListingLine before line e → ⊥)) ⊎ ((e : Entry) × IsListingLine before line e × LinesSay (n + 1) (Some e.path) lines (Err bad))

-- a first line that counts the lines behind it
abbrev pub played_line : ℕ → List ℕ
played_line n = codes "played " ++ decimal n

-- by whether the first line is one
abbrev pub BodySays : Bool → List ℕ → List (List ℕ) → Result (List Entry) ℕ → Type 0
BodySays true first rest said = LinesSay 2 None rest said
BodySays false first rest said = LinesSay 1 None (first ∷ rest) said

-- of the lines of a text
abbrev pub TextSays : List (List ℕ) → Result (List Entry) ℕ → Type 0
TextSays [] said = LinesSay 1 None [] said
TextSays (first ∷ rest) said = BodySays (path_eq first (played_line (length rest))) first rest said

-- bytes are the listing of these entries, or this line of them, from 1, is the first that fits no listing
abbrev pub ListingSays : List ℕ → Result (List Entry) ℕ → Type 0
ListingSays bytes said = TextSays (text_lines bytes) said
