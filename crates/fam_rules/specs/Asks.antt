-- What a reading command answers on a list of entries with their bytes. docs/MODEL.md, "Ask".
use Rattle.std.specs.Prelude.{ℕ, ◌≡◌, ◌==◌, not, if◌then◌else◌, List, length, map, find, take, drop, slice_get, slice_index, Option, Some, None}
use Rattle.std.specs.List.{range_with_len}
use Rattle.fam_base.specs.declared.cmd.Cmd.{Cmd}
use Rattle.fam_base.specs.declared.cmd.Cmd.TheVariants.{Logplay, Mount, Mkdir, Creat, Cp, Verify, Read, Check, Fsck}
use Rattle.fam_base.specs.declared.cmd.Content.{Content}
use Rattle.fam_base.specs.declared.cmd.Content.TheVariants as content
use Rattle.fam_base.specs.declared.entry.Entry.{Entry}
use Rattle.fam_base.specs.declared.entry.Kind.{Kind}
use Rattle.fam_base.specs.declared.entry.Kind.TheVariants as kind
use Rattle.fam_base.specs.declared.entry.Params.{Params}
use Rattle.fam_base.specs.PathOrder.{path_eq}
use Rattle.fam_format.specs.ReadingLaws.{Joins}
use Rattle.fam_format.specs.Tree.{replay}
use Rattle.fam_rules.specs.Content.{content_byte}
use Rattle.fam_rules.specs.Reply.{Reply, Played, Mounted, Same, Differs, Length, Bytes, NotFound, IsDirectory, Checks}
use Rattle.fam_rules.specs.Checks.{checked}

-- an entry of the log, and the bytes of its file; a directory has none
pub record File : Type 0 where
  pub entry : Entry
  pub bytes : List ℕ

-- the entries alone
abbrev pub entries_of : List File → List Entry
entries_of files = map (λ f. f.entry) files

-- each entry joins those before it
abbrev pub AreJoined : Params → List File → Type 0
AreJoined p files = (i : ℕ) (f : File) → slice_get files i ≡ Some f → Joins p (entries_of (take i files)) f.entry

-- the entry of this path
abbrev pub file_at : List File → List ℕ → Option File
file_at files path = find (λ f. path_eq f.entry.path path) files

-- the first offset at which the bytes of a file aren't those of a content
abbrev pub first_difference : List ℕ → Content → Option ℕ
first_difference bytes against =
    find (λ o. not (slice_index bytes o == content_byte against o)) (range_with_len 0 (length bytes))

-- no such offset, or the two bytes there
abbrev pub compared_at : ℕ → List ℕ → Content → Option ℕ → Reply
compared_at m bytes against None = Same m
compared_at m bytes against (Some o) = Differs m o (slice_index bytes o) (content_byte against o)

-- a file's bytes beside a content
abbrev pub compared : ℕ → List ℕ → Content → Reply
compared m bytes against = compared_at m bytes against (first_difference bytes against)

-- given bytes must be as many as the file's; other contents have any size
abbrev pub verified : ℕ → List ℕ → Content → Reply
verified m bytes (content.Bytes given) =
    if length given == length bytes then compared m bytes (content.Bytes given) else Length m (length bytes) (length given)
verified m bytes (content.Seed seed) = compared m bytes (content.Seed seed)
verified m bytes content.Zero = compared m bytes content.Zero

-- at most so many bytes of a file, from an offset on
abbrev pub file_bytes_from : ℕ → ℕ → List ℕ → List ℕ
file_bytes_from offset count bytes = take count (drop offset bytes)

-- what a question about bytes gives, by what stands at the path
abbrev pub of_kind : ℕ → Kind → Reply → Reply
of_kind m kind.Directory reply = IsDirectory m
of_kind m kind.File reply = reply

-- what a question about a file gives, by what stands at its path
abbrev pub of_file : ℕ → Option File → (List ℕ → Reply) → Reply
of_file m None question = NotFound m
of_file m (Some f) question = of_kind m f.entry.kind (question f.bytes)

-- what a reading command answers. None: the command appends, or checks the whole image
abbrev pub ask : List File → Cmd → Option Reply
ask files Logplay = Some (Played (length files) (replay (entries_of files)))
ask files Mount = Some (Mounted (length files))
ask files (Check listing) = Some (Checks (length files) (checked (replay (entries_of files)) listing))
ask files (Verify path against) = Some (of_file (length files) (file_at files path) (λ bytes. verified (length files) bytes against))
ask files (Read path offset count) = Some (of_file (length files) (file_at files path) (λ bytes. Bytes (length files) (file_bytes_from offset count bytes)))
ask files (Mkdir path attr) = None
ask files (Creat path size attr stripe fill) = None
ask files (Cp path attr stripe bytes) = None
ask files Fsck = None
