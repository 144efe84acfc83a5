-- What the entries of a log become on another device: each entry with a map of its own there, or the first that has no
-- slot or no room.
use Rattle.std.specs.Prelude.{ℕ, ◌≡◌, ⊤, List, [], ◌∷◌, ◌++◌, length, slice_get, Option, None, Some, Result, Ok, Err}
use Rattle.std.specs.FinMap as map
use Rattle.std.specs.Option.{option_map}
use Rattle.fam_base.specs.declared.entry.Params.{Params}
use Rattle.fam_base.specs.declared.entry.Entry.{Entry}
use Rattle.fam_base.specs.declared.entry.Kind.{Kind}
use Rattle.fam_format.specs.Tree.{replay}
use Rattle.fam_plan.specs.State.{IsAdded}
use Rattle.fam_rules.specs.declared.answers.Refused.{Refused}
use Rattle.fam_rules.specs.declared.answers.Refused.TheVariants.{NotMaster, LongPath, BadStripe, Exists, NoParent, ParentIsFile, LogFull, NoSpace}
use Rattle.fam_rules.specs.Decide.{Wish, decide_wish}
use Rattle.fam_rules.specs.DecideLaws.{IsAsWished}

-- what a command would want that makes an entry anew, without a stripe
abbrev pub wish_again : Entry → Wish
wish_again e = record {
  kind = e.kind;
  path = e.path;
  size = e.size;
  attr = record { mode = e.mode; uid = e.uid; gid = e.gid };
  stripe = None;
}

-- what the master appends for an entry behind these copies, or why nothing
abbrev pub copy_of : Params → List Entry → Entry → Result Entry Refused
copy_of p copies e = decide_wish p p.master copies (wish_again e)

-- all entries have copies, or the first that has none, and why
pub data Copying : Type 0 where
  Copied : (copies : List Entry) → Copying
  StoppedAt : (seq : ℕ) (refused : Refused) → Copying

-- a copy stands behind the others, or the copying stops
abbrev pub copied_or : List Entry → Result Entry Refused → (Entry → Copying) → Copying
copied_or copies (Ok c) rest = rest c
copied_or copies (Err refused) rest = StoppedAt (length copies) refused

-- these entries behind the copies so far
abbrev pub copying_from : Params → List Entry → List Entry → Copying
copying_from p [] copies = Copied copies
copying_from p (e ∷ more) copies = copied_or copies (copy_of p copies e) (λ c. copying_from p more (copies ++ c ∷ []))

-- the entries of a log, in order
abbrev pub copying : Params → List Entry → Copying
copying p list = copying_from p list []

-- a refusal for want of slots or of room, for the path or for the bytes
abbrev pub IsWantOfRoom : Refused → Type 0
IsWantOfRoom (NotMaster me master) = ⊥
IsWantOfRoom (LongPath limit) = ⊤
IsWantOfRoom BadStripe = ⊥
IsWantOfRoom (Exists kind) = ⊥
IsWantOfRoom NoParent = ⊥
IsWantOfRoom ParentIsFile = ⊥
IsWantOfRoom (LogFull slots) = ⊤
IsWantOfRoom (NoSpace count) = ⊤

-- a copy keeps kind, path, size, mode, user and group of its entry
abbrev pub IsCopy : Entry → Entry → Type 0
IsCopy e c = IsAsWished (wish_again e) c

-- the copies of a list, one for each entry
pub record AreCopies (list copies : List Entry) : Type 0 where
  pub count : length copies ≡ length list
  pub each : (i : ℕ) (e c : Entry) → slice_get list i ≡ Some e → slice_get copies i ≡ Some c → IsCopy e c

-- the kind of what stands at a path
abbrev pub kind_at : List Entry → List ℕ → Option Kind
kind_at list path = option_map (λ e. e.kind) (map.get (replay list) path)

-- at each path of one list stands what stands there in the other, by its kind
abbrev pub AreAlike : List Entry → List Entry → Type 0
AreAlike list copies = (path : List ℕ) → kind_at list path ≡ kind_at copies path

-- an entry that joins those before it, of which these are the copies
pub record IsNext (copies : List Entry) (e : Entry) : Type 0 where
  pub params : Params
  pub before : List Entry
  pub alike : AreAlike before copies
  pub added : IsAdded params before e
