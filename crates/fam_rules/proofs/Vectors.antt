-- Worked values, computed.
use Rattle.std.proofs.Common.{◌≡◌, ℕ, Bool, true, nat_lt, if◌then◌else◌, ◌==◌, List, [], ◌∷◌, replicate, ◌++◌, length, map, ◌*◌, Option, Some, None, Ok, Err, refl}
use Rattle.std.specs.FinMap as finmap
use Rattle.std.proofs.lemmas.Cmp.{nat_list_cmp_total}
use Rattle.fam_base.specs.PathOrder.{path_cmp}
use Rattle.fam_base.specs.declared.cmd.Attr.{Attr}
use Rattle.fam_base.specs.declared.cmd.Stripe.{Stripe}
use Rattle.fam_base.specs.declared.cmd.Cmd.{Cmd}
use Rattle.fam_base.specs.declared.cmd.Cmd.TheVariants.{Mkdir, Creat}
use Rattle.fam_base.specs.declared.cmd.Content.TheVariants as content
use Rattle.fam_base.specs.declared.entry.Params.{Params}
use Rattle.fam_base.specs.declared.entry.Entry.{Entry}
use Rattle.fam_base.specs.declared.entry.Kind.TheVariants as kind
use Rattle.fam_base.specs.declared.entry.MapKind.{MapKind}
use Rattle.fam_base.specs.declared.entry.MapKind.TheVariants as mapped
use Rattle.fam_base.specs.declared.extents.Extent.{Extent}
use Rattle.fam_format.specs.Layout.{shape_of}
use Rattle.fam_rules.specs.declared.answers.Refused.TheVariants.{NotMaster, LongPath, BadStripe, Exists, NoParent, NoSpace}
use Rattle.fam_rules.specs.Asks.{verified, file_bytes_from}
use Rattle.fam_rules.specs.Reply.{Same, Differs, Length}
use Rattle.fam_rules.specs.Reports.{Survey, overlap_of, report_by}
use Rattle.fam_rules.specs.Decide.{Wish, early_refusal, decide, decide_wish, room_for}
use Rattle.fam_rules.specs.Room.{room, offer, strips}

-- On small numbers: units 0 to 2 and unit 5 are used.
abbrev small : ℕ → Bool
small u = if nat_lt u 3 then true else u == 5

-- the first three units in a row come behind unit 5
row_of_three : room small 0 10 3 ≡ Some 6
unfolding room
row_of_three = refl

-- two stand before it
row_of_two : room small 0 10 2 ≡ Some 3
unfolding room
row_of_two = refl

-- five nowhere
no_row_of_five : room small 0 10 5 ≡ None
unfolding room
no_row_of_five = refl

-- buckets 0 to 2, 3 to 5, 6 to 8 and 9 to 11, tried from bucket 1 on
two_strips : strips small 12 2 2 4 1 ≡ Some (3 ∷ 6 ∷ [])
unfolding strips offer room
two_strips = refl

-- from bucket 3 on
three_strips : strips small 12 2 3 4 3 ≡ Some (9 ∷ 3 ∷ 6 ∷ [])
unfolding strips offer room
three_strips = refl

-- bucket 0 has no room for two units
no_four_strips : strips small 12 2 4 4 0 ≡ None
unfolding strips offer room
no_four_strips = refl

-- On real ones: 1,024 units of 4,096 bytes, of which 0 to 527 belong to superblock and log.

-- a UUID that ends in a byte
abbrev uuid_of : ℕ → List ℕ
uuid_of last = replicate 15 0 ++ last ∷ []

-- a device of so many bytes
abbrev params_of : ℕ → Params
params_of device = record { format = 1; log_length = 65536; slots = 127; unit = 4096; device = device; fs = replicate 16 17; master = uuid_of 1 }

abbrev attr : Attr
attr = record { mode = 420; uid = 0; gid = 0 }

-- paths of one letter
abbrev e_path : List ℕ
e_path = 101 ∷ []

abbrev p_path : List ℕ
p_path = 112 ∷ []

abbrev q_path : List ℕ
q_path = 113 ∷ []

-- a file with this map and these extents
abbrev file : List ℕ → ℕ → MapKind → List Extent → Entry
file path size map extents = record { kind = kind.File; path = path; size = size; mode = 420; uid = 0; gid = 0; map = map; extents = extents }

-- a creat of so many bytes
abbrev creat : List ℕ → ℕ → Option Stripe → Cmd
creat path size stripe = Creat path size attr stripe content.Zero

-- what it wants
abbrev wish : List ℕ → ℕ → Option Stripe → Wish
wish path size stripe = record { kind = kind.File; path = path; size = size; attr = attr; stripe = stripe }

-- the list of no entries
abbrev none : List Entry
none = []

-- an empty file has no extents
empty_file : room_for (params_of 4194304) none (wish e_path 0 None) ≡ Ok (record { map = mapped.Empty; extents = [] })
unfolding room_for
empty_file = refl

-- a file of all 496 free units
abbrev big : Entry
big = file p_path 2031616 mapped.Simple (record { offset = 2162688; length = 2031616 } ∷ [])

-- it is found by its size
big_file : room_for (params_of 4194304) none (wish p_path 2031616 None) ≡ Ok (record { map = mapped.Simple; extents = record { offset = 2162688; length = 2031616 } ∷ [] })
unfolding room_for room
big_file = refl

-- behind it no unit is left
one_byte_more : room_for (params_of 4194304) (big ∷ []) (wish q_path 1 None) ≡ Err (NoSpace 1)
unfolding room_for room
one_byte_more = refl

-- unit 776 is used: units 528 to 775 and 777 to 1023 are free
abbrev middle : Entry
middle = file p_path 1 mapped.Simple (record { offset = 3178496; length = 4096 } ∷ [])

-- neither run has 249 units
no_249_units : room_for (params_of 4194304) (middle ∷ []) (wish q_path 1019904 None) ≡ Err (NoSpace 249)
unfolding room_for room
no_249_units = refl

-- the first one has 248
but_248_units : room_for (params_of 4194304) (middle ∷ []) (wish q_path 1015808 None) ≡ Ok (record { map = mapped.Simple; extents = record { offset = 2162688; length = 1015808 } ∷ [] })
unfolding room_for room
but_248_units = refl

-- three strips of four units in the last three of four buckets of 512 units: the first bucket has no room
abbrev three : Stripe
three = record { nstrips = 3; nbuckets = 4; chunk = 8192 }

striped_file :
    room_for (params_of 8388608) none (wish e_path 40000 (Some three))
    ≡ Ok (record {
      map = mapped.Striped 8192;
      extents = record { offset = 2162688; length = 16384 } ∷ record { offset = 4194304; length = 16384 }
          ∷ record { offset = 6291456; length = 16384 } ∷ [];
    })
unfolding room_for strips offer room
striped_file = refl

-- of the smaller device's four buckets two have room
too_few_buckets : room_for (params_of 4194304) none (wish e_path 40000 (Some three)) ≡ Err (NoSpace 4)
unfolding room_for strips offer room
too_few_buckets = refl

-- another host, even with a bad stripe
other_host : decide (params_of 4194304) (uuid_of 2) none (creat e_path 0 (Some (record { nstrips = 0; nbuckets = 0; chunk = 0 }))) ≡ Some (Err (NotMaster (uuid_of 2) (uuid_of 1)))
unfolding decide_wish
other_host = refl

-- a path of a byte more than a slot of the first format has room for, even with a bad stripe
long_path : decide (params_of 4194304) (uuid_of 1) none (creat (replicate 169 101) 0 (Some (record { nstrips = 0; nbuckets = 0; chunk = 0 }))) ≡ Some (Err (LongPath 168))
unfolding decide_wish shape_of
long_path = refl

-- the same host's path of 168 bytes
fitting_path : early_refusal (params_of 4194304) (uuid_of 1) (replicate 168 101) ≡ None
unfolding shape_of
fitting_path = refl

-- in the second format 512 bytes fit
longer_path : early_refusal (record (params_of 4194304) { format = 2 }) (uuid_of 1) (replicate 512 101) ≡ None
unfolding shape_of
longer_path = refl

-- and more aren't refused here: a path has no more
longest_path : early_refusal (record (params_of 4194304) { format = 2 }) (uuid_of 1) (replicate 513 101) ≡ None
longest_path = refl

-- more strips than buckets, also for no bytes
more_strips_than_buckets : decide (params_of 4194304) (uuid_of 1) none (creat e_path 0 (Some (record { nstrips = 3; nbuckets = 2; chunk = 8192 }))) ≡ Some (Err BadStripe)
unfolding decide_wish shape_of
more_strips_than_buckets = refl

-- a chunk that is no multiple of the unit
uneven_chunk : decide (params_of 4194304) (uuid_of 1) none (creat e_path 40000 (Some (record { nstrips = 3; nbuckets = 4; chunk = 5000 }))) ≡ Some (Err BadStripe)
unfolding decide_wish shape_of
uneven_chunk = refl

-- Decisions that look into the tree.

-- the entry of an empty file
decided_file : decide (params_of 4194304) (uuid_of 1) none (creat e_path 0 None) ≡ Some (Ok (file e_path 0 mapped.Empty []))
unfolding decide_wish room_for shape_of
decided_file = rw (finmap.get-empty {X = Entry} path_cmp e_path) refl

-- its parent is missing
no_parent : decide (params_of 4194304) (uuid_of 1) none (creat (101 ∷ 47 ∷ 113 ∷ []) 0 None) ≡ Some (Err NoParent)
unfolding decide_wish room_for shape_of
no_parent = rw (finmap.get-empty {X = Entry} path_cmp (101 ∷ 47 ∷ 113 ∷ []), finmap.get-empty {X = Entry} path_cmp e_path) refl

-- it stands already
stands_already : decide (params_of 4194304) (uuid_of 1) (big ∷ []) (Mkdir p_path attr) ≡ Some (Err (Exists kind.File))
unfolding decide_wish shape_of
stands_already = rw (finmap.get-insert nat_list_cmp_total (finmap.empty {X = Entry}) p_path big p_path) refl

-- Reports.

-- a file of these units
abbrev of_units : List ℕ → Entry
of_units units = file e_path (4096 * length units) mapped.Simple (map (λ u. record { offset = 4096 * u; length = 4096 }) units)

-- a survey that found these entries below the gate, all of which applied
abbrev survey_of : List (ℕ × Entry) → Survey
survey_of found = record { found = found; applied = map (λ f. f.1) found; bad = None; past = 0 }

-- entries 1 and 2 share unit 529, as entries 0 and 3 share unit 528: the least second number decides
first_overlap_of_two : overlap_of 4096 ((0, of_units (528 ∷ [])) ∷ (1, of_units (529 ∷ [])) ∷ (2, of_units (530 ∷ 529 ∷ [])) ∷ (3, of_units (528 ∷ [])) ∷ []) ≡ Some (1, 2)
first_overlap_of_two = refl

-- entry 2 shares units with entries 0 and 1: the least first number decides
first_of_two_others : overlap_of 4096 ((0, of_units (528 ∷ [])) ∷ (1, of_units (529 ∷ [])) ∷ (2, of_units (529 ∷ 528 ∷ [])) ∷ []) ≡ Some (0, 2)
first_of_two_others = refl

-- entry 3 has unit 530 twice
own_overlap : overlap_of 4096 ((0, of_units (528 ∷ [])) ∷ (3, of_units (530 ∷ 531 ∷ 530 ∷ [])) ∷ (4, of_units (528 ∷ [])) ∷ []) ≡ Some (3, 3)
own_overlap = refl

-- a unit that two entries share counts once
counted_once : (report_by (params_of 4194304) 2 (survey_of ((0, of_units (528 ∷ 529 ∷ [])) ∷ (1, of_units (529 ∷ 530 ∷ [])) ∷ []))).used ≡ 531
unfolding report_by
counted_once = refl

-- Questions about bytes.

-- the first difference, with the file's byte and the content's
first_byte_differs : verified 1 (1 ∷ 2 ∷ 3 ∷ []) (content.Bytes (1 ∷ 9 ∷ 8 ∷ [])) ≡ Differs 1 1 2 9
first_byte_differs = refl

-- another count of bytes
other_count : verified 1 (1 ∷ 2 ∷ 3 ∷ []) (content.Bytes (1 ∷ 2 ∷ [])) ≡ Length 1 3 2
other_count = refl

-- a content of zeros has any size
zeros : verified 1 (0 ∷ 0 ∷ []) content.Zero ≡ Same 1
zeros = refl

-- none past the size
at_the_end : file_bytes_from 2 4096 (1 ∷ 2 ∷ 3 ∷ []) ≡ 3 ∷ []
at_the_end = refl

-- and none from past the end
past_the_end : file_bytes_from 8 1 (1 ∷ 2 ∷ 3 ∷ []) ≡ []
past_the_end = refl
