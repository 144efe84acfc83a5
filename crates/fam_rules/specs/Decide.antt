-- Which entry a command appends, or why it appends none. docs/MODEL.md, "Decide".
use Rattle.std.specs.Prelude.{ℕ, ◌-◌, ◌*◌, ◌/◌, ◌%◌, ◌^◌, ◌==◌, ◌&&◌, Bool, true, nat_le, if◌then◌else◌, min, List, [], ◌∷◌, length, map, Option, Some, None, option_map, Result, Ok, Err}
use Rattle.std.specs.FinMap as finmap
use Rattle.std.specs.Int.{div_ceil}
use Rattle.fam_base.specs.declared.cmd.Attr.{Attr}
use Rattle.fam_base.specs.declared.cmd.Stripe.{Stripe}
use Rattle.fam_base.specs.declared.cmd.Cmd.{Cmd}
use Rattle.fam_base.specs.declared.cmd.Cmd.TheVariants.{Logplay, Mount, Mkdir, Creat, Cp, Verify, Read, Check, Fsck}
use Rattle.fam_base.specs.declared.entry.Params.{Params}
use Rattle.fam_base.specs.declared.entry.Entry.{Entry}
use Rattle.fam_base.specs.declared.entry.Kind.{Kind}
use Rattle.fam_base.specs.declared.entry.Kind.TheVariants as kind
use Rattle.fam_base.specs.declared.entry.MapKind.{MapKind}
use Rattle.fam_base.specs.declared.entry.MapKind.TheVariants as mapped
use Rattle.fam_base.specs.declared.extents.Extent.{Extent}
use Rattle.fam_base.specs.ExtentLists.{extent_limit}
use Rattle.fam_base.specs.Paths.{parent_of}
use Rattle.fam_base.specs.PathOrder.{path_eq}
use Rattle.fam_base.specs.Units.{strip_bytes}
use Rattle.fam_format.specs.Layout.{device_units, geometry}
use Rattle.fam_format.specs.Params.{first_number}
use Rattle.fam_format.specs.Stop.{stop}
use Rattle.fam_format.specs.Tree.{Tree, replay}
use Rattle.fam_format.specs.Units.{is_used}
use Rattle.fam_rules.specs.declared.answers.Refused.{Refused}
use Rattle.fam_rules.specs.declared.answers.Refused.TheVariants.{NotMaster, LongPath, BadStripe, Exists, NoParent, ParentIsFile, LogFull, NoSpace}
use Rattle.fam_rules.specs.Room.{room, strips}

-- what a command wants to append: a directory has no bytes
pub record Wish : Type 0 where
  pub kind : Kind
  pub path : List ℕ
  pub size : ℕ
  pub attr : Attr
  pub stripe : Option Stripe

-- the commands that append, and what they want; the others want nothing
abbrev pub wish_of : Cmd → Option Wish
wish_of Logplay = None
wish_of Mount = None
wish_of (Mkdir path attr) = Some (record { kind = kind.Directory; path = path; size = 0; attr = attr; stripe = None })
wish_of (Creat path size attr stripe fill) = Some (record { kind = kind.File; path = path; size = size; attr = attr; stripe = stripe })
wish_of (Cp path attr stripe bytes) = Some (record { kind = kind.File; path = path; size = length bytes; attr = attr; stripe = stripe })
wish_of (Verify path against) = None
wish_of (Read path offset count) = None
wish_of (Check listing) = None
wish_of Fsck = None

-- another host appends
abbrev pub master_refusal : Params → List ℕ → Option Refused
master_refusal p me = if path_eq me p.master then None else Some (NotMaster me p.master)

-- a slot has room for the path: in the first format up to a limit, and else for every path, which has 512 bytes at most
abbrev pub path_fits : Params → List ℕ → Bool
path_fits p path = if p.format == first_number then nat_le (length path) (geometry p).path_limit else true

-- the path is longer than a slot has room for
abbrev pub length_refusal : Params → List ℕ → Option Refused
length_refusal p path = if path_fits p path then None else Some (LongPath (geometry p).path_limit)

-- the first of two refusals
abbrev pub first_refusal : Option Refused → Option Refused → Option Refused
first_refusal (Some refused) behind = Some refused
first_refusal None behind = behind

-- what is refused as soon as the superblock is read: another host appends, or the path is too long
abbrev pub early_refusal : Params → List ℕ → List ℕ → Option Refused
early_refusal p me path = first_refusal (master_refusal p me) (length_refusal p path)

-- the most buckets of a stripe
abbrev pub bucket_limit : ℕ
bucket_limit = 64

-- a chunk of whole units, and no more strips than places for extents or buckets
abbrev pub is_stripe : Params → Stripe → Bool
is_stripe p s =
    nat_le 1 s.chunk && (s.chunk % p.unit == 0) && nat_le 1 s.nstrips && nat_le s.nstrips extent_limit && nat_le s.nstrips s.nbuckets && nat_le s.nbuckets bucket_limit

-- a stripe out of these bounds
abbrev pub stripe_refusal : Params → Option Stripe → Option Refused
stripe_refusal p None = None
stripe_refusal p (Some s) = if is_stripe p s then None else Some BadStripe

-- something stands at the path
abbrev pub exists_refusal : Option Entry → Option Refused
exists_refusal None = None
exists_refusal (Some old) = Some (Exists old.kind)

-- a file has nothing below it
abbrev pub file_refusal : Kind → Option Refused
file_refusal kind.File = Some ParentIsFile
file_refusal kind.Directory = None

-- the parent is missing, or a file
abbrev pub found_refusal : Option Entry → Option Refused
found_refusal None = Some NoParent
found_refusal (Some parent) = file_refusal parent.kind

-- a path of one component has the root as its parent, which always exists
abbrev pub parent_refusal : Tree → Option (List ℕ) → Option Refused
parent_refusal tree None = None
parent_refusal tree (Some parent) = found_refusal (finmap.get tree parent)

-- all slots hold entries
abbrev pub full_refusal : Params → List Entry → Option Refused
full_refusal p list = if nat_le p.slots (length list) then Some (LogFull p.slots) else None

-- where a new file's bytes shall stand, by a map and its extents
pub record Room : Type 0 where
  pub map : MapKind
  pub extents : List Extent

-- k units from unit s on
abbrev pub extent_from : ℕ → ℕ → ℕ → Extent
extent_from unit k s = record { offset = s * unit; length = k * unit }

-- no bytes, and no extents
abbrev pub no_room_needed : Room
no_room_needed = record { map = mapped.Empty; extents = [] }

-- one extent of k units, from unit s on
abbrev pub one_extent : ℕ → ℕ → ℕ → Room
one_extent unit k s = record { map = mapped.Simple; extents = extent_from unit k s ∷ [] }

-- a strip of k units from each of these units on
abbrev pub strip_extents : ℕ → ℕ → ℕ → List ℕ → Room
strip_extents unit chunk k starts = record { map = mapped.Striped chunk; extents = map (extent_from unit k) starts }

-- room, or how many units there is none for
abbrev pub room_or : ℕ → Option Room → Result Room Refused
room_or k None = Err (NoSpace k)
room_or k (Some found) = Ok found

-- the units of one strip. 2 ^ 64 - 1 stands for any larger number, which no file of a unit of 4,096 bytes has
abbrev pub strip_length : Params → ℕ → Stripe → ℕ
strip_length p size s = min (strip_bytes size s.chunk s.nstrips / p.unit) (2 ^ 64 - 1)

-- the lowest free units in a row that hold the bytes
abbrev pub simple_room : Params → List Entry → ℕ → Result Room Refused
simple_room p list size =
    room_or (div_ceil size p.unit) (option_map (one_extent p.unit (div_ceil size p.unit)) (room (is_used p list) 0 (device_units p) (div_ceil size p.unit)))

-- a strip in each of the first buckets with room, which are tried in turn from the entry's number on
abbrev pub striped_room : Params → List Entry → ℕ → Stripe → Result Room Refused
striped_room p list size s =
    room_or (strip_length p size s) (option_map (strip_extents p.unit s.chunk (strip_length p size s)) (strips (is_used p list) (device_units p) (strip_length p size s) s.nstrips s.nbuckets (length list)))

-- by the stripe, where there is one
abbrev pub room_by : Params → List Entry → ℕ → Option Stripe → Result Room Refused
room_by p list size None = simple_room p list size
room_by p list size (Some s) = striped_room p list size s

-- a directory and a file of no bytes need none
unfoldable pub room_for : Params → List Entry → Wish → Result Room Refused
room_for p list w = if w.size == 0 then Ok no_room_needed else room_by p list w.size w.stripe

-- the entry that stands for a wish in this room
abbrev pub entry_for : Wish → Room → Entry
entry_for w r =
    record { kind = w.kind; path = w.path; size = w.size; mode = w.attr.mode; uid = w.attr.uid; gid = w.attr.gid; map = r.map; extents = r.extents }

-- the entry, where there is room
abbrev pub entry_or : Wish → Result Room Refused → Result Entry Refused
entry_or w (Ok found) = Ok (entry_for w found)
entry_or w (Err refused) = Err refused

-- the first refusal in this order, or the entry
unfoldable pub decide_wish : Params → List ℕ → List Entry → Wish → Result Entry Refused
decide_wish p me list w =
    stop (early_refusal p me w.path) (stop (stripe_refusal p w.stripe) (stop (exists_refusal (finmap.get (replay list) w.path)) (stop (parent_refusal (replay list) (parent_of w.path)) (stop (full_refusal p list) (entry_or w (room_for p list w))))))

-- what a host's command appends behind the entries of a list, or why nothing. None: the command doesn't append
abbrev pub decide : Params → List ℕ → List Entry → Cmd → Option (Result Entry Refused)
decide p me list cmd = option_map (decide_wish p me list) (wish_of cmd)
