-- What is known of the entry that a command appends.
use Rattle.std.specs.Prelude.{ℕ, ◌≡◌, ◌≢◌, ◌/◌, ◌%◌, ◌^◌, ◌<◌, ◌≤◌, ⊤, IsTrue, List, length, Option, Some, None}
use Rattle.std.specs.FinMap as finmap
use Rattle.std.specs.Int.{div_ceil}
use Rattle.fam_base.specs.declared.cmd.Attr.{Attr}
use Rattle.fam_base.specs.declared.cmd.Stripe.{Stripe}
use Rattle.fam_base.specs.declared.entry.Params.{Params}
use Rattle.fam_base.specs.declared.entry.Entry.{Entry}
use Rattle.fam_base.specs.declared.entry.Kind.{Kind}
use Rattle.fam_base.specs.declared.entry.Kind.TheVariants.{File, Directory}
use Rattle.fam_base.specs.Commands.{mode_limit}
use Rattle.fam_base.specs.ExtentLists.{extent_limit}
use Rattle.fam_base.specs.Paths.{is_path, parent_of}
use Rattle.fam_format.specs.Layout.{device_units, geometry}
use Rattle.fam_format.specs.Params.{first_number}
use Rattle.fam_format.specs.ReadingLaws.{HasParent}
use Rattle.fam_format.specs.Slot.{Proper}
use Rattle.fam_format.specs.Tree.{replay, join_fault}
use Rattle.fam_format.specs.Units.{is_used}
use Rattle.fam_rules.specs.declared.answers.Refused.{Refused}
use Rattle.fam_rules.specs.declared.answers.Refused.TheVariants.{NotMaster, LongPath, BadStripe, Exists, NoParent, ParentIsFile, LogFull, NoSpace}
use Rattle.fam_rules.specs.Decide.{Wish, bucket_limit, strip_length}
use Rattle.fam_rules.specs.Room.{Fits, buckets_with_room}

-- a chunk that fits a word; the counts are bounded where the stripe is tested
abbrev pub IsStripeOfWords : Option Stripe → Type 0
IsStripeOfWords None = ⊤
IsStripeOfWords (Some s) = s.chunk < 2 ^ 64

-- mode, user and group in their ranges
pub record IsAttr (attr : Attr) : Type 0 where
  pub mode : attr.mode ≤ mode_limit
  pub uid : attr.uid < 2 ^ 32
  pub gid : attr.gid < 2 ^ 32

-- what a command within its limits wants: a path, numbers that fit their words, and no bytes for a directory
pub record IsSoundWish (w : Wish) : Type 0 where
  pub path : IsTrue (is_path w.path)
  pub size : w.size < 2 ^ 64
  pub bare : w.kind ≡ Directory → w.size ≡ 0
  pub attr : IsAttr w.attr
  pub stripe : IsStripeOfWords w.stripe

-- an entry has what was wished for
pub record IsAsWished (w : Wish) (e : Entry) : Type 0 where
  pub kind : e.kind ≡ w.kind
  pub path : e.path ≡ w.path
  pub size : e.size ≡ w.size
  pub mode : e.mode ≡ w.attr.mode
  pub uid : e.uid ≡ w.attr.uid
  pub gid : e.gid ≡ w.attr.gid

-- a host may append an entry behind a list: it is the master, a slot is left, and the entry is proper and joins
pub record MayAppend (p : Params) (me : List ℕ) (list : List Entry) (e : Entry) : Type 0 where
  pub master : me ≡ p.master
  pub left : length list < p.slots
  pub proper : Proper p e
  pub joins : join_fault p list e ≡ None

-- Refusals.

-- a stripe that may be asked for
pub record IsGoodStripe (p : Params) (s : Stripe) : Type 0 where
  pub chunk : 0 < s.chunk
  pub whole : s.chunk % p.unit ≡ 0
  pub some : 0 < s.nstrips
  pub few : s.nstrips ≤ extent_limit
  pub spread : s.nstrips ≤ s.nbuckets
  pub buckets : s.nbuckets ≤ bucket_limit

-- no stripe, or one that may be asked for
abbrev pub HasGoodStripe : Params → Option Stripe → Type 0
HasGoodStripe p None = ⊤
HasGoodStripe p (Some s) = IsGoodStripe p s

-- a slot has room for the path: in the first format up to a limit, and else for every path, which has 512 bytes at most
abbrev pub FitsSlot : Params → List ℕ → Type 0
FitsSlot p path = p.format ≡ first_number → length path ≤ (geometry p).path_limit

-- the master of a file system of the first format asks, with a path for which a slot has no room
pub record IsTooLong (p : Params) (me : List ℕ) (w : Wish) (limit : ℕ) : Type 0 where
  pub format : p.format ≡ first_number
  pub master : me ≡ p.master
  pub limit_is : limit ≡ (geometry p).path_limit
  pub long : limit < length w.path

-- the master asks, with a path that fits and a good stripe where there is one
pub record IsGoodRequest (p : Params) (me : List ℕ) (w : Wish) : Type 0 where
  pub master : me ≡ p.master
  pub short : FitsSlot p w.path
  pub stripe : HasGoodStripe p w.stripe

-- and nothing stands at the path
pub record IsNew (p : Params) (me : List ℕ) (list : List Entry) (w : Wish) : Type 0 where
  pub asked : IsGoodRequest p me w
  pub absent : finmap.get (replay list) w.path ≡ None

-- and its parent is the root or a directory
pub record HasFolder (p : Params) (me : List ℕ) (list : List Entry) (w : Wish) : Type 0 where
  pub new : IsNew p me list w
  pub parent : HasParent (replay list) (parent_of w.path)

-- and a slot is left
pub record HasFreeSlot (p : Params) (me : List ℕ) (list : List Entry) (w : Wish) : Type 0 where
  pub folder : HasFolder p me list w
  pub left : length list < p.slots

-- something of this kind stands at the path
abbrev pub StandsThere : List Entry → List ℕ → Kind → Type 0
StandsThere list path kind = (old : Entry) × (finmap.get (replay list) path ≡ Some old) × (old.kind ≡ kind)

-- the parent is no root and missing
abbrev pub LacksParent : List Entry → List ℕ → Type 0
LacksParent list path = (parent : List ℕ) × (parent_of path ≡ Some parent) × (finmap.get (replay list) parent ≡ None)

-- the parent is a file
abbrev pub HasFileAsParent : List Entry → List ℕ → Type 0
HasFileAsParent list path = (parent : List ℕ) × (parent_of path ≡ Some parent) × StandsThere list parent File

-- no k units in a row are free, or too few buckets have k units in a row
abbrev pub LacksRoom : Params → List Entry → ℕ → Option Stripe → ℕ → Type 0
LacksRoom p list size None k =
    (k ≡ div_ceil size p.unit) × ((s : ℕ) → Fits (is_used p list) (device_units p) k s → ⊥)
LacksRoom p list size (Some s) k =
    (k ≡ strip_length p size s) × (buckets_with_room (is_used p list) (device_units p / s.nbuckets) k s.nbuckets (length list) s.nbuckets < s.nstrips)

-- exactly where each refusal comes: the first cause in this order
abbrev pub IsFirstRefusal : Params → List ℕ → List Entry → Wish → Refused → Type 0
IsFirstRefusal p me list w (NotMaster host master) = (host ≡ me) × (master ≡ p.master) × (me ≢ p.master)
IsFirstRefusal p me list w (LongPath limit) = IsTooLong p me w limit
IsFirstRefusal p me list w BadStripe = (me ≡ p.master) × FitsSlot p w.path × (HasGoodStripe p w.stripe → ⊥)
IsFirstRefusal p me list w (Exists kind) = IsGoodRequest p me w × StandsThere list w.path kind
IsFirstRefusal p me list w NoParent = IsNew p me list w × LacksParent list w.path
IsFirstRefusal p me list w ParentIsFile = IsNew p me list w × HasFileAsParent list w.path
IsFirstRefusal p me list w (LogFull slots) = HasFolder p me list w × (slots ≡ p.slots) × (p.slots ≤ length list)
IsFirstRefusal p me list w (NoSpace k) = HasFreeSlot p me list w × (0 < w.size) × LacksRoom p list w.size w.stripe k
