-- Each refusal comes exactly where its cause is the first.
use Rattle.std.proofs.Common.{◌≡◌, ℕ, ◌/◌, ◌<◌, List, length, Option, Some, None, Result, Ok, Err, refl, sym, ap, ap₂, subst, ◌∙◌, inl, inr, arith}
use Rattle.std.specs.FinMap as finmap
use Rattle.std.specs.Int.{div_ceil}
use Rattle.std.specs.Option.{option_map}
use Rattle.std.proofs.lemmas.Bool.{cases_eq, eq-eqb, ne_eqb, le-leb, lt-leb, cases_lt}
use Rattle.fam_base.specs.declared.cmd.Stripe.{Stripe}
use Rattle.fam_base.specs.declared.entry.Params.{Params}
use Rattle.fam_base.specs.declared.entry.Entry.{Entry}
use Rattle.fam_base.specs.declared.entry.Kind.{Kind}
use Rattle.fam_base.specs.Paths.{parent_of}
use Rattle.fam_format.specs.Layout.{device_units, geometry}
use Rattle.fam_format.specs.Stop.{stop}
use Rattle.fam_format.specs.Tree.{replay}
use Rattle.fam_format.specs.Units.{is_used}
use Rattle.fam_rules.specs.declared.answers.Refused.{Refused}
use Rattle.fam_rules.specs.declared.answers.Refused.TheVariants.{NotMaster, LongPath, BadStripe, Exists, NoParent, ParentIsFile, LogFull, NoSpace}
use Rattle.fam_rules.specs.Decide.{Wish, Room, one_extent, strip_extents, no_room_needed, room_or, strip_length, early_refusal, stripe_refusal, exists_refusal, file_refusal, found_refusal, parent_refusal, full_refusal, room_by, room_for, entry_for, entry_or, decide_wish}
use Rattle.fam_rules.specs.DecideLaws.{FitsSlot, IsGoodRequest, IsNew, HasFolder, HasFreeSlot, LacksRoom, IsFirstRefusal}
use Rattle.fam_rules.specs.Room.{Fits, IsRoom, IsStrips, room, strips, buckets_with_room}
use Rattle.fam_rules.proofs.RoomLaws.{room_least, room_only, strips_first, strips_only}
use Rattle.fam_rules.proofs.RefusalTests.{none_early, early_master, early_limit, EarlyCases, may_ask, another, too_long, early_cases, none_stripe, some_stripe, StripeCases, good, bad, stripe_cases, ParentCases, stands, missing, is_file, parent_cases, parent_passes}

-- How far a decision goes.

-- a test that refuses
refuses : {T : Type 0} (refused : Option Refused) (next : Result T Refused) (r : Refused) → refused ≡ Some r → stop refused next ≡ Err r
refuses {T} refused next r is = ap (λ (o : Option Refused). stop {T = T} o next) is

-- a test that passes
passes : {T : Type 0} (refused : Option Refused) (next : Result T Refused) → refused ≡ None → stop refused next ≡ next
passes {T} refused next is = ap (λ (o : Option Refused). stop {T = T} o next) is

module _ (p : Params) (me : List ℕ) (list : List Entry) (w : Wish) where
  -- what comes of the room
  in_room : Result Entry Refused
  in_room = entry_or w (room_for p list w)

  -- of the slots
  by_slots : Result Entry Refused
  by_slots = stop (full_refusal p list) in_room

  -- of the parent
  by_parent : Result Entry Refused
  by_parent = stop (parent_refusal (replay list) (parent_of w.path)) by_slots

  -- of the path
  by_path : Result Entry Refused
  by_path = stop (exists_refusal (finmap.get (replay list) w.path)) by_parent

  -- of the stripe
  by_stripe : Result Entry Refused
  by_stripe = stop (stripe_refusal p w.stripe) by_path

  -- in this order, behind the tests for the master and the length of its path
  from_early : decide_wish p me list w ≡ stop (early_refusal p me w.path) by_stripe
  unfolding decide_wish by_stripe by_path by_parent by_slots in_room
  from_early = refl

  -- the master with a path that fits goes on to the stripe
  early_goes : me ≡ p.master → FitsSlot p w.path → decide_wish p me list w ≡ by_stripe
  early_goes same short = from_early ∙ passes (early_refusal p me w.path) by_stripe (none_early p me w.path same short)

  -- with a good one to the path
  asked_goes : IsGoodRequest p me w → decide_wish p me list w ≡ by_path
  unfolding by_stripe
  asked_goes asked = early_goes asked.master asked.short ∙ passes (stripe_refusal p w.stripe) by_path (none_stripe p w.stripe asked.stripe)

  -- with a new one to the parent
  new_goes : IsNew p me list w → decide_wish p me list w ≡ by_parent
  unfolding by_path
  new_goes new = asked_goes new.asked ∙ passes (exists_refusal (finmap.get (replay list) w.path)) by_parent (ap exists_refusal new.absent)

  -- with a folder to the slots
  folder_goes : HasFolder p me list w → decide_wish p me list w ≡ by_slots
  unfolding by_parent
  folder_goes folder = new_goes folder.new ∙ passes (parent_refusal (replay list) (parent_of w.path)) by_slots (parent_passes (replay list) (parent_of w.path) folder.parent)

  -- and with a slot to the room
  slot_goes : HasFreeSlot p me list w → decide_wish p me list w ≡ in_room
  unfolding by_slots
  slot_goes slot = folder_goes slot.folder ∙ passes (full_refusal p list) in_room (rw (lt-leb p.slots (length list) slot.left) refl)

-- Room.

-- some, or none
data RoomCases (p : Params) (list : List Entry) (w : Wish) : Type 0 where
  given : (r : Room) → room_for p list w ≡ Ok r → RoomCases p list w
  lacking : (k : ℕ) → 0 < w.size → LacksRoom p list w.size w.stripe k → RoomCases p list w

-- what was found by the stripe
data FoundCases (p : Params) (list : List Entry) (size : ℕ) (stripe : Option Stripe) : Type 0 where
  found : (r : Room) → room_by p list size stripe ≡ Ok r → FoundCases p list size stripe
  nowhere : (k : ℕ) → LacksRoom p list size stripe k → FoundCases p list size stripe

-- units in a row
by_row : (p : Params) (list : List Entry) (size : ℕ) (o : Option ℕ) → room (is_used p list) 0 (device_units p) (div_ceil size p.unit) ≡ o → FoundCases p list size None
by_row p list size None is =
    let lacks : IsRoom (is_used p list) 0 (device_units p) (div_ceil size p.unit) None =
    subst (IsRoom (is_used p list) 0 (device_units p) (div_ceil size p.unit)) is
    (room_least (is_used p list) 0 (device_units p) (div_ceil size p.unit)) in
    nowhere (div_ceil size p.unit) (refl, λ s fits. lacks s (omega arith) fits)
by_row p list size (Some s) is = found (one_extent p.unit (div_ceil size p.unit) s) (ap (λ (o : Option ℕ). room_or (div_ceil size p.unit) (option_map (one_extent p.unit (div_ceil size p.unit)) o)) is)

-- strips
by_strips : (p : Params) (list : List Entry) (size : ℕ) (s : Stripe) (o : Option (List ℕ))
    → strips (is_used p list) (device_units p) (strip_length p size s) s.nstrips s.nbuckets (length list) ≡ o → FoundCases p list size (Some s)
by_strips p list size s None is =
    nowhere (strip_length p size s) (
      refl,
      subst (IsStrips (is_used p list) (device_units p / s.nbuckets) (strip_length p size s) s.nstrips s.nbuckets (length list)) is
          (strips_first (is_used p list) (device_units p) (strip_length p size s) s.nstrips s.nbuckets (length list)),
    )
by_strips p list size s (Some starts) is = found (strip_extents p.unit s.chunk (strip_length p size s) starts)
    (ap (λ (o : Option (List ℕ)). room_or (strip_length p size s) (option_map (strip_extents p.unit s.chunk (strip_length p size s)) o)) is)

-- either
found_cases : (p : Params) (list : List Entry) (size : ℕ) (stripe : Option Stripe) → FoundCases p list size stripe
found_cases p list size None = by_row p list size (room (is_used p list) 0 (device_units p) (div_ceil size p.unit)) refl
found_cases p list size (Some s) = by_strips p list size s (strips (is_used p list) (device_units p) (strip_length p size s) s.nstrips s.nbuckets (length list)) refl

-- bytes need room by the stripe
bytes_need : (p : Params) (list : List Entry) (w : Wish) → (w.size ≡ 0 → ⊥) → room_for p list w ≡ room_by p list w.size w.stripe
unfolding room_for
bytes_need p list w some = rw (ne_eqb w.size 0 some) refl

-- no bytes need none
none_needed : (p : Params) (list : List Entry) (w : Wish) → w.size ≡ 0 → room_for p list w ≡ Ok no_room_needed
unfolding room_for
none_needed p list w none = rw (eq-eqb w.size 0 none) refl

-- for a wish
by_found : (p : Params) (list : List Entry) (w : Wish) → (w.size ≡ 0 → ⊥) → FoundCases p list w.size w.stripe → RoomCases p list w
by_found p list w some (found r is) = given r (bytes_need p list w some ∙ is)
by_found p list w some (nowhere k lacks) = lacking k (omega arith) lacks

-- there is room, or it is lacking
room_cases : (p : Params) (list : List Entry) (w : Wish) → RoomCases p list w
room_cases p list w = elim (cases_eq w.size 0) [
  | inl empty ↦ given no_room_needed (none_needed p list w empty)
  | inr some ↦ by_found p list w some (found_cases p list w.size w.stripe)
]

-- where room is lacking, it is refused
lacks_by : (p : Params) (list : List Entry) (size : ℕ) (stripe : Option Stripe) (k : ℕ) → LacksRoom p list size stripe k → room_by p list size stripe ≡ Err (NoSpace k)
lacks_by p list size None k (is, lacks) =
    let units : ℕ = div_ceil size p.unit in
    let unfit : IsRoom (is_used p list) 0 (device_units p) units None = λ s low fits. lacks s (subst (λ (n : ℕ). Fits (is_used p list) (device_units p) n s) (sym is) fits) in
    ap (λ (o : Option ℕ). room_or units (option_map (one_extent p.unit units) o)) (sym (room_only (is_used p list) 0 (device_units p) units None unfit))
    ∙ ap (λ (n : ℕ). Err (NoSpace n)) (sym is)
lacks_by p list size (Some s) k (is, few) =
    let units : ℕ = strip_length p size s in
    let short : IsStrips (is_used p list) (device_units p / s.nbuckets) units s.nstrips s.nbuckets (length list) None =
    subst (λ (n : ℕ). buckets_with_room (is_used p list) (device_units p / s.nbuckets) n s.nbuckets (length list) s.nbuckets < s.nstrips) is few in
    ap (λ (o : Option (List ℕ)). room_or units (option_map (strip_extents p.unit s.chunk units) o))
    (sym (strips_only (is_used p list) (device_units p) units s.nstrips s.nbuckets (length list) None short))
    ∙ ap (λ (n : ℕ). Err (NoSpace n)) (sym is)

-- Each refusal where its cause is the first.

-- the cause of a refusal brings it
pub refused_there : (p : Params) (me : List ℕ) (list : List Entry) (w : Wish) (r : Refused) → IsFirstRefusal p me list w r → decide_wish p me list w ≡ Err r
unfolding by_stripe by_path by_parent by_slots in_room
refused_there p me list w (NotMaster host master) (is_me, is_master, other) =
    from_early p me list w ∙ refuses (early_refusal p me w.path) _ (NotMaster me p.master) (early_master p me w.path other)
    ∙ ap₂ (λ (x y : List ℕ). Err (NotMaster x y)) (sym is_me) (sym is_master)
refused_there p me list w (LongPath limit) is = from_early p me list w ∙ refuses (early_refusal p me w.path) _ (LongPath limit) (early_limit p me w limit is)
refused_there p me list w BadStripe (same, short, out) = early_goes p me list w same short ∙ refuses (stripe_refusal p w.stripe) _ BadStripe (some_stripe p w.stripe out)
refused_there p me list w (Exists kind) (asked, (old, at, is)) =
    asked_goes p me list w asked ∙ refuses (exists_refusal (finmap.get (replay list) w.path)) _ (Exists old.kind) (ap exists_refusal at) ∙ ap (λ (k : Kind). Err (Exists k)) is
refused_there p me list w NoParent (new, (parent, is, none)) =
    new_goes p me list w new ∙ refuses (parent_refusal (replay list) (parent_of w.path)) _ NoParent (ap (parent_refusal (replay list)) is ∙ ap found_refusal none)
refused_there p me list w ParentIsFile (new, (parent, is, (file, at, kind))) =
    new_goes p me list w new ∙ refuses (parent_refusal (replay list) (parent_of w.path)) _ ParentIsFile (ap (parent_refusal (replay list)) is ∙ ap found_refusal at ∙ ap file_refusal kind)
refused_there p me list w (LogFull slots) (folder, is, full) =
    folder_goes p me list w folder ∙ refuses (full_refusal p list) _ (LogFull p.slots) (rw (le-leb p.slots (length list) full) refl) ∙ ap (λ (n : ℕ). Err (LogFull n)) (sym is)
refused_there p me list w (NoSpace k) (slot, bytes, lacks) =
    slot_goes p me list w slot ∙ ap (entry_or w) (bytes_need p list w (λ none. omega arith) ∙ lacks_by p list w.size w.stripe k lacks)

-- Each wish is refused for such a cause, or granted.

-- a refusal with its cause, or an entry
data Outcome (p : Params) (me : List ℕ) (list : List Entry) (w : Wish) : Type 0 where
  refused : (r : Refused) → IsFirstRefusal p me list w r → Outcome p me list w
  granted : (e : Entry) → decide_wish p me list w ≡ Ok e → Outcome p me list w

module _ (p : Params) (me : List ℕ) (list : List Entry) (w : Wish) where
  -- with a slot it goes by the room
  room_outcome : HasFreeSlot p me list w → RoomCases p list w → Outcome p me list w
  unfolding in_room
  room_outcome slot (given r is) = granted (entry_for w r) (slot_goes p me list w slot ∙ ap (entry_or w) is)
  room_outcome slot (lacking k bytes lacks) = refused (NoSpace k) (slot, bytes, lacks)

  -- with a folder by the slots
  slot_outcome : HasFolder p me list w → Outcome p me list w
  slot_outcome folder = elim (cases_lt (length list) p.slots) [
    | inl left ↦ room_outcome (record { folder = folder; left = left }) (room_cases p list w)
    | inr full ↦ refused (LogFull p.slots) (folder, refl, full)
  ]

  -- with a new path by its parent
  parent_outcome : IsNew p me list w → ParentCases (replay list) (parent_of w.path) → Outcome p me list w
  parent_outcome new (stands passed parent) = slot_outcome (record { new = new; parent = parent })
  parent_outcome new (missing parent is none refusal) = refused NoParent (new, (parent, is, none))
  parent_outcome new (is_file parent file is at kind refusal) = refused ParentIsFile (new, (parent, is, (file, at, kind)))

  -- with a good stripe by what stands at the path
  path_outcome : IsGoodRequest p me w → (there : Option Entry) → finmap.get (replay list) w.path ≡ there → Outcome p me list w
  path_outcome asked None at = parent_outcome (record { asked = asked; absent = at }) (parent_cases (replay list) (parent_of w.path))
  path_outcome asked (Some old) at = refused (Exists old.kind) (asked, (old, at, refl))

  -- for the master with a path that fits by the stripe
  stripe_outcome : me ≡ p.master → FitsSlot p w.path → StripeCases p w.stripe → Outcome p me list w
  stripe_outcome same short (good is) = path_outcome (record { master = same; short = short; stripe = is }) (finmap.get (replay list) w.path) refl
  stripe_outcome same short (bad out) = refused BadStripe (same, short, out)

  -- by the host and its path
  early_outcome : EarlyCases p me w.path → Outcome p me list w
  early_outcome (may_ask same short passed) = stripe_outcome same short (stripe_cases p w.stripe)
  early_outcome (another other refusal) = refused (NotMaster me p.master) (refl, refl, other)
  early_outcome (too_long first same long refusal) = refused (LongPath (geometry p).path_limit) (record { format = first; master = same; limit_is = refl; long = long })

  -- so each wish has its outcome
  outcome : Outcome p me list w
  outcome = early_outcome (early_cases p me w.path)

-- a refusal that came has its cause
cause_of : (p : Params) (me : List ℕ) (list : List Entry) (w : Wish) (r : Refused) → decide_wish p me list w ≡ Err r → Outcome p me list w → IsFirstRefusal p me list w r
cause_of p me list w r is (refused other cause) = let same : other ≡ r = (let e = refused_there p me list w other cause in cc) in subst (IsFirstRefusal p me list w) same cause
cause_of p me list w r is (granted e ok) = absurd (cc)

-- each refusal has its cause
pub refused_for : (p : Params) (me : List ℕ) (list : List Entry) (w : Wish) (r : Refused) → decide_wish p me list w ≡ Err r → IsFirstRefusal p me list w r
refused_for p me list w r is = cause_of p me list w r is (outcome p me list w)
