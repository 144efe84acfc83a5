-- Which told answers fit a question, as tables over what is told.
use Rattle.std.specs.Prelude.{ℕ, ◌≡◌, ◌≢◌, List, length, replicate, Option, Some, None}
use Rattle.std.specs.FinMap as map
use Rattle.fam_base.specs.declared.cmd.Cmd.{Cmd}
use Rattle.fam_base.specs.declared.cmd.Cmd.TheVariants.{Logplay, Mount, Mkdir, Creat, Cp, Verify, Read, Check, Fsck}
use Rattle.fam_base.specs.declared.cmd.Content.{Content}
use Rattle.fam_base.specs.declared.cmd.Content.TheVariants as content
use Rattle.fam_base.specs.declared.entry.Entry.{Entry}
use Rattle.fam_base.specs.declared.entry.Kind.{Kind}
use Rattle.fam_base.specs.declared.entry.Kind.TheVariants as kind
use Rattle.fam_format.specs.Tree.{replay}
use Rattle.fam_history.specs.declared.answer.ToldAnswer.{ToldAnswer}
use Rattle.fam_history.specs.declared.answer.ToldAnswer.TheVariants as told
use Rattle.fam_rules.specs.Asks.{File, entries_of, file_at, file_bytes_from}
use Rattle.fam_judge.specs.Fitting.{FitBytes, FitsWanted, AllowsSize, MayBeSame, MayDiffer, given_count}
use Rattle.fam_judge.specs.Untold.{untold}
use Rattle.fam_settled.specs.declared.bytes.Bytes.{Bytes}
use Rattle.fam_settled.specs.declared.bytes.Bytes.TheVariants as bytes
use Rattle.fam_settled.specs.declared.against.Against.{Against}
use Rattle.fam_settled.specs.declared.against.Against.TheVariants as against
use Rattle.fam_settled.specs.Bytes.{MayAgreeTo, byte_told}

-- the content that a file is compared with
abbrev pub content_in : Against → Content
content_in against.Zero = content.Zero
content_in (against.Seed seed) = content.Seed seed
content_in (against.Untold count) = content.Bytes (replicate count untold)

-- where its bytes are from
abbrev pub bytes_against : Against → Bytes
bytes_against against.Zero = bytes.Zero
bytes_against (against.Seed seed) = bytes.Seed seed
bytes_against (against.Untold count) = bytes.Untold

-- how many there are, where that is told
abbrev pub count_in : Against → Option ℕ
count_in against.Zero = None
count_in (against.Seed seed) = None
count_in (against.Untold count) = Some count

-- a listing of the first m entries
pub record IsPlayed (m : ℕ) (files : List File) (answer : ToldAnswer) (listed : List Entry) : Type 0 where
  pub told : answer ≡ told.Played m
  pub lines : map.values (replay (entries_of files)) ≡ listed

-- a file's bytes may be those of a content, of as many where these are given
pub record IsSame (bytes : List ℕ) (against : Content) : Type 0 where
  pub long : AllowsSize (given_count against) (length bytes)
  pub same : MayBeSame bytes against

-- or first differ so
pub record FirstDiffers (bytes : List ℕ) (against : Content) (offset found wanted : ℕ) : Type 0 where
  pub long : AllowsSize (given_count against) (length bytes)
  pub differ : MayDiffer bytes against offset found wanted

-- bytes of the two may first differ so
pub record MayDifferAt (a b : Bytes) (offset found wanted : ℕ) : Type 0 where
  pub before : MayAgreeTo a b offset
  pub found_fits : FitsWanted (byte_told a offset) found
  pub wanted_fits : FitsWanted (byte_told b offset) wanted

-- what is told of a verify of the first m entries, by a file's bytes
abbrev pub VerifiedTold : ℕ → List ℕ → Content → ToldAnswer → Type 0
VerifiedTold m bytes against (told.Same n) = (n ≡ m) × IsSame bytes against
VerifiedTold m bytes against (told.Differs n offset found wanted) = (n ≡ m) × FirstDiffers bytes against offset found wanted
VerifiedTold m bytes against (told.Length n size wanted) =
    (n ≡ m) × (size ≡ length bytes) × (given_count against ≡ Some wanted) × (wanted ≢ size)
VerifiedTold m bytes against (told.Ok seq) = ⊥
VerifiedTold m bytes against (told.NotAppended why) = ⊥
VerifiedTold m bytes against (told.Played n) = ⊥
VerifiedTold m bytes against (told.Mounted n) = ⊥
VerifiedTold m bytes against (told.Bytes n given) = ⊥
VerifiedTold m bytes against (told.NotFound n) = ⊥
VerifiedTold m bytes against (told.IsDirectory n) = ⊥
VerifiedTold m bytes against (told.Checked n counts) = ⊥
VerifiedTold m bytes against (told.Report sound) = ⊥
VerifiedTold m bytes against (told.NoSuperblock fault) = ⊥
VerifiedTold m bytes against (told.BadHeader fault) = ⊥
VerifiedTold m bytes against (told.BadSlot seq why) = ⊥
VerifiedTold m bytes against (told.MediaFault line) = ⊥

-- what is told of a read
abbrev pub ReadTold : ℕ → List ℕ → ℕ → ℕ → ToldAnswer → Type 0
ReadTold m bytes offset count (told.Bytes n found) = (n ≡ m) × FitBytes (file_bytes_from offset count bytes) found
ReadTold m bytes offset count (told.Ok seq) = ⊥
ReadTold m bytes offset count (told.NotAppended why) = ⊥
ReadTold m bytes offset count (told.Played n) = ⊥
ReadTold m bytes offset count (told.Mounted n) = ⊥
ReadTold m bytes offset count (told.Same n) = ⊥
ReadTold m bytes offset count (told.Differs n at found wanted) = ⊥
ReadTold m bytes offset count (told.Length n size wanted) = ⊥
ReadTold m bytes offset count (told.NotFound n) = ⊥
ReadTold m bytes offset count (told.IsDirectory n) = ⊥
ReadTold m bytes offset count (told.Checked n counts) = ⊥
ReadTold m bytes offset count (told.Report sound) = ⊥
ReadTold m bytes offset count (told.NoSuperblock fault) = ⊥
ReadTold m bytes offset count (told.BadHeader fault) = ⊥
ReadTold m bytes offset count (told.BadSlot seq why) = ⊥
ReadTold m bytes offset count (told.MediaFault line) = ⊥

-- by what stands at the path
abbrev pub KindTold : ℕ → Kind → ToldAnswer → Type 0 → Type 0
KindTold m kind.Directory answer fits = answer ≡ told.IsDirectory m
KindTold m kind.File answer fits = fits

-- a question about a file
abbrev pub FileTold : ℕ → Option File → ToldAnswer → (List ℕ → Type 0) → Type 0
FileTold m None answer Fits = answer ≡ told.NotFound m
FileTold m (Some f) answer Fits = KindTold m f.entry.kind answer (Fits f.bytes)

-- what is told of the first m entries, where no lines follow
abbrev pub PlainTold : ℕ → List File → Cmd → ToldAnswer → Type 0
PlainTold m files Mount answer = answer ≡ told.Mounted m
PlainTold m files (Verify path against) answer = FileTold m (file_at files path) answer (λ bytes. VerifiedTold m bytes against answer)
PlainTold m files (Read path offset count) answer = FileTold m (file_at files path) answer (λ bytes. ReadTold m bytes offset count answer)
PlainTold m files Logplay answer = ⊥
PlainTold m files (Mkdir path attr) answer = ⊥
PlainTold m files (Creat path size attr stripe fill) answer = ⊥
PlainTold m files (Cp path attr stripe bytes) answer = ⊥
PlainTold m files (Check listing) answer = ⊥
PlainTold m files Fsck answer = ⊥
