-- The entry that is decided is proper and joins the list.
use Rattle.std.proofs.Common.{◌≡◌, ℕ, ◌*◌, ◌%◌, ◌^◌, ◌<◌, ◌≤◌, ◌==◌, ◌&&◌, ◌||◌, IsTrue, Bool, true, nat_le, nat_lt, List, [], ◌∷◌, length, map, Option, Some, None, Result, Ok, Err, refl, sym, ap, subst, ◌∙◌, inl, inr, arith, ◌/◌}
use Rattle.std.specs.FinMap as finmap
use Rattle.std.specs.Int.{div_ceil}
use Rattle.std.specs.List.{list_all, sum_by}
use Rattle.std.specs.Option.{option_map}
use Rattle.std.proofs.lemmas.Bool.{cases_Bool, cases_eq, eq-eqb, eqb-true, ne_eqb, leb-false, lt-ltb}
use Rattle.std.proofs.lemmas.List.{length-map}
use Rattle.std.proofs.lemmas.List.Elements.{All-map}
use Rattle.std.proofs.lemmas.List.Sums.{list_all-from_AllPass, sum_by-cons}
use Rattle.fam_base.specs.declared.cmd.Stripe.{Stripe}
use Rattle.fam_base.specs.declared.entry.Params.{Params}
use Rattle.fam_base.specs.declared.entry.Entry.{Entry}
use Rattle.fam_base.specs.declared.entry.Kind.{Kind}
use Rattle.fam_base.specs.declared.entry.Kind.TheVariants.{File, Directory}
use Rattle.fam_base.specs.declared.entry.MapKind.TheVariants.{Empty, Simple, Striped}
use Rattle.fam_base.specs.declared.extents.Extent.{Extent}
use Rattle.fam_base.specs.ExtentLists.{extent_limit}
use Rattle.fam_base.specs.Paths.{is_path, parent_of, path_limit}
use Rattle.fam_base.proofs.PathLemmas.{parts_of_path}
use Rattle.fam_base.specs.Units.{strip_bytes}
use Rattle.fam_format.specs.Layout.{device_units, geometry, shape_of}
use Rattle.fam_format.specs.Params.{SoundParams, first_number, second_number}
use Rattle.fam_format.specs.Slot.{Proper, is_map, fits_map, has_extents, adds_up, is_striped, is_placed}
use Rattle.fam_format.specs.Stop.{stop}
use Rattle.fam_format.specs.Tree.{replay}
use Rattle.fam_format.specs.Units.{units_in, is_used}
use Rattle.fam_format.specs.ReadingLaws.{AreFree, HasParent}
use Rattle.fam_format.proofs.JoinLaws.{joins_back}
use Rattle.fam_rules.specs.declared.answers.Refused.{Refused}
use Rattle.fam_rules.specs.declared.answers.Refused.TheVariants.{LogFull}
use Rattle.fam_rules.specs.Decide.{Wish, Room, extent_from, one_extent, strip_extents, no_room_needed, room_or, strip_length, early_refusal, stripe_refusal, exists_refusal, parent_refusal, full_refusal, room_by, room_for, entry_for, entry_or, decide_wish}
use Rattle.fam_rules.specs.DecideLaws.{IsGoodStripe, HasGoodStripe, FitsSlot, IsStripeOfWords, IsSoundWish, IsAsWished, MayAppend}
use Rattle.fam_rules.specs.Room.{IsRoom, IsStrips, room, strips}
use Rattle.fam_rules.proofs.FilePlaces.{unit_some}
use Rattle.fam_rules.proofs.RoomLaws.{room_least, strips_first}
use Rattle.fam_rules.proofs.RefusalTests.{early_none, stripe_none, parent_none}
use Rattle.fam_rules.proofs.RoomMaps.{IsStripCount, all_placed, extents_pass, units_some, strip_count}
use Rattle.fam_rules.proofs.Spans.{AreRuns, units_of_starts, runs_free, runs_of_room, runs_of_strips}

-- Room for a wish.

-- the entry keeps the map rule, and its units are free
record SuitsMap (p : Params) (list : List Entry) (w : Wish) (r : Room) : Type 0 where
  map : is_map p (entry_for w r) ≡ true
  units : AreFree (is_used p list) (units_in p.unit r.extents)

-- what has bytes is a file
file_by : (kind : Kind) (size : ℕ) → (kind ≡ Directory → size ≡ 0) → 0 < size → kind ≡ File
file_by File size bare bytes = refl
file_by Directory size bare bytes = absurd (omega (arith, bare refl))

-- an entry without bytes
bare_map : (p : Params) (e : Entry) (kind : Kind) → e.size ≡ 0 → e.extents ≡ [] → fits_map p e kind Empty ≡ true
bare_map p e File none empty = rw (eq-eqb e.size 0 none, eq-eqb (length e.extents) 0 (ap length empty)) refl
bare_map p e Directory none empty = rw (eq-eqb e.size 0 none, eq-eqb (length e.extents) 0 (ap length empty)) refl

-- a wish without bytes needs no room
none_suits : (p : Params) (list : List Entry) (w : Wish) → w.size ≡ 0 → SuitsMap p list w no_room_needed
unfolding is_map
none_suits p list w none = record {
  map = bare_map p (entry_for w no_room_needed) w.kind none refl;
  units = record { free = λ k below. absurd (omega arith); once = λ i j less below same. absurd (omega arith) };
}

-- extents of free runs: the units are free
runs_units : (p : Params) (list : List Entry) (k : ℕ) (starts : List ℕ) → SoundParams p → AreRuns (is_used p list) (device_units p) k starts
    → AreFree (is_used p list) (units_in p.unit (map (extent_from p.unit k) starts))
runs_units p list k starts sound runs =
    subst (AreFree (is_used p list)) (sym (units_of_starts p.unit k starts (unit_some p sound))) (runs_free (is_used p list) (device_units p) k starts runs)

-- and the extents are placed
runs_extents : (p : Params) (list : List Entry) (e : Entry) (k : ℕ) (starts : List ℕ) → SoundParams p
    → AreRuns (is_used p list) (device_units p) k starts → 0 < k → e.extents ≡ map (extent_from p.unit k) starts → 0 < e.size → 0 < length starts
    → length starts ≤ extent_limit → has_extents p e ≡ true
runs_extents p list e k starts sound runs some is bytes first few =
    let count : length e.extents ≡ length starts = ap length is ∙ length-map starts (extent_from p.unit k) in
    extents_pass p e (record {
      size = bytes;
      some = omega arith;
      few = omega arith;
      placed = ap (list_all (is_placed p)) is ∙ all_placed p list k starts sound some runs.fits;
    })

-- both tests of a map
both_pass : (a b : Bool) → a ≡ true → b ≡ true → (a && b) ≡ true
both_pass a b e f = rw (e, f) refl

-- one extent for all bytes
simple_suits : (p : Params) (list : List Entry) (w : Wish) (s : ℕ) → SoundParams p → IsSoundWish w → 0 < w.size
    → AreRuns (is_used p list) (device_units p) (div_ceil w.size p.unit) (s ∷ []) → SuitsMap p list w (one_extent p.unit (div_ceil w.size p.unit) s)
unfolding is_map
simple_suits p list w s sound wish bytes runs =
    let k : ℕ = div_ceil w.size p.unit in
    let r : Room = one_extent p.unit k s in
    let e : Entry = entry_for w r in
    let some : 0 < k = units_some w.size p.unit bytes (unit_some p sound) in
    let total : sum_by (λ x. x.length) e.extents ≡ div_ceil e.size p.unit * p.unit = omega (arith, sum_by-cons (λ (x : Extent). x.length) (extent_from p.unit k s) []) in
    record {
      map = ap (λ (kind : Kind). fits_map p e kind Simple) (file_by w.kind w.size wish.bare bytes)
          ∙ both_pass (has_extents p e) (adds_up p e)
          (runs_extents p list e k (s ∷ []) sound runs some refl bytes (omega arith) (omega arith))
          (eq-eqb (sum_by (λ x. x.length) e.extents) (div_ceil e.size p.unit * p.unit) total);
      units = runs_units p list k (s ∷ []) sound runs;
    }

-- Strips.

-- strips of one length
lengths_pass : (unit k bytes : ℕ) (starts : List ℕ) → k * unit ≡ bytes → list_all (λ x. x.length == bytes) (map (extent_from unit k) starts) ≡ true
lengths_pass unit k bytes starts is =
    list_all-from_AllPass (λ x. x.length == bytes) (map (extent_from unit k) starts)
    (All-map (λ x. (x.length == bytes) ≡ true) (extent_from unit k) starts (λ i d below. eq-eqb (k * unit) bytes is))

-- three tests of a striped map
striped_pass : (p : Params) (e : Entry) (s : Stripe) (k : ℕ) (starts : List ℕ) → IsGoodStripe p s → e.extents ≡ map (extent_from p.unit k) starts
    → length starts ≡ s.nstrips → k * p.unit ≡ strip_bytes e.size s.chunk s.nstrips → is_striped p e s.chunk ≡ true
striped_pass p e s k starts is extents count bytes =
    let nstrips : length e.extents ≡ s.nstrips = ap length extents ∙ length-map starts (extent_from p.unit k) ∙ count in
    let each : list_all (λ x. x.length == strip_bytes e.size s.chunk (length e.extents)) e.extents ≡ true =
    ap (λ (n : ℕ). list_all (λ x. x.length == strip_bytes e.size s.chunk n) e.extents) nstrips
    ∙ ap (λ (xs : List Extent). list_all (λ x. x.length == strip_bytes e.size s.chunk s.nstrips) xs) extents
    ∙ lengths_pass p.unit k (strip_bytes e.size s.chunk s.nstrips) starts bytes in
    both_pass (nat_lt 0 s.chunk && (s.chunk % p.unit == 0)) (list_all (λ x. x.length == strip_bytes e.size s.chunk (length e.extents)) e.extents)
    (both_pass (nat_lt 0 s.chunk) (s.chunk % p.unit == 0) (lt-ltb 0 s.chunk is.chunk) (eq-eqb (s.chunk % p.unit) 0 is.whole)) each

-- a strip in each of several buckets
striped_suits : (p : Params) (list : List Entry) (w : Wish) (s : Stripe) (starts : List ℕ) → SoundParams p → IsSoundWish w → 0 < w.size
    → s.chunk < 2 ^ 64 → IsGoodStripe p s → length starts ≡ s.nstrips → AreRuns (is_used p list) (device_units p) (strip_length p w.size s) starts
    → SuitsMap p list w (strip_extents p.unit s.chunk (strip_length p w.size s) starts)
unfolding is_map
striped_suits p list w s starts sound wish bytes chunk_fits is count runs =
    let k : ℕ = strip_length p w.size s in
    let r : Room = strip_extents p.unit s.chunk k starts in
    let e : Entry = entry_for w r in
    let strip : IsStripCount w.size p.unit s.chunk s.nstrips k = strip_count p w.size s.chunk s.nstrips sound bytes wish.size chunk_fits is.chunk is.whole is.some in
    record {
      map = ap (λ (kind : Kind). fits_map p e kind (Striped s.chunk)) (file_by w.kind w.size wish.bare bytes)
          ∙ both_pass (has_extents p e) (is_striped p e s.chunk)
          (runs_extents p list e k starts sound runs strip.some refl bytes (omega (arith, count, is.some)) (omega (arith, count, is.few)))
          (striped_pass p e s k starts is refl count strip.bytes);
      units = runs_units p list k starts sound runs;
    }

-- Room that was found.

-- there is some
room_given : (k : ℕ) (o : Option Room) (r : Room) → room_or k o ≡ Ok r → o ≡ Some r
room_given k None r h = absurd (cc)
room_given k (Some found) r h = cc

-- of it one extent is made
simple_given : (p : Params) (list : List Entry) (w : Wish) (o : Option ℕ) (r : Room) → SoundParams p → IsSoundWish w → 0 < w.size
    → room (is_used p list) 0 (device_units p) (div_ceil w.size p.unit) ≡ o → option_map (one_extent p.unit (div_ceil w.size p.unit)) o ≡ Some r
    → SuitsMap p list w r
simple_given p list w None r sound wish bytes found h = absurd (cc)
simple_given p list w (Some s) r sound wish bytes found h =
    let k : ℕ = div_ceil w.size p.unit in
    let is : IsRoom (is_used p list) 0 (device_units p) k (Some s) = subst (IsRoom (is_used p list) 0 (device_units p) k) found (room_least (is_used p list) 0 (device_units p) k) in
    let same : one_extent p.unit k s ≡ r = cc in
    subst (SuitsMap p list w) same (simple_suits p list w s sound wish bytes (runs_of_room (is_used p list) 0 (device_units p) k s is))

-- or several
striped_given : (p : Params) (list : List Entry) (w : Wish) (s : Stripe) (o : Option (List ℕ)) (r : Room) → SoundParams p → IsSoundWish w → 0 < w.size
    → s.chunk < 2 ^ 64 → IsGoodStripe p s → strips (is_used p list) (device_units p) (strip_length p w.size s) s.nstrips s.nbuckets (length list) ≡ o
    → option_map (strip_extents p.unit s.chunk (strip_length p w.size s)) o ≡ Some r → SuitsMap p list w r
striped_given p list w s None r sound wish bytes chunk_fits is found h = absurd (cc)
striped_given p list w s (Some starts) r sound wish bytes chunk_fits is found h =
    let k : ℕ = strip_length p w.size s in
    let used : ℕ → Bool = is_used p list in
    let units : ℕ = device_units p in
    let are : IsStrips used (units / s.nbuckets) k s.nstrips s.nbuckets (length list) (Some starts) =
    subst (IsStrips used (units / s.nbuckets) k s.nstrips s.nbuckets (length list)) found
    (strips_first used units k s.nstrips s.nbuckets (length list)) in
    let same : strip_extents p.unit s.chunk k starts ≡ r = cc in
    subst (SuitsMap p list w) same (striped_suits p list w s starts sound wish bytes chunk_fits is are.0 (runs_of_strips used units k s.nstrips s.nbuckets (length list) starts are))

-- by the stripe, where there is one
by_stripe : (p : Params) (list : List Entry) (w : Wish) (stripe : Option Stripe) (r : Room) → SoundParams p → IsSoundWish w → 0 < w.size
    → IsStripeOfWords stripe → HasGoodStripe p stripe → room_by p list w.size stripe ≡ Ok r → SuitsMap p list w r
by_stripe p list w None r sound wish bytes fits good h =
    simple_given p list w (room (is_used p list) 0 (device_units p) (div_ceil w.size p.unit)) r sound wish bytes refl (room_given (div_ceil w.size p.unit) _ r h)
by_stripe p list w (Some s) r sound wish bytes fits good h =
    striped_given p list w s (strips (is_used p list) (device_units p) (strip_length p w.size s) s.nstrips s.nbuckets (length list)) r sound wish
    bytes fits good refl (room_given (strip_length p w.size s) _ r h)

-- room that was found suits the wish
room_suits : (p : Params) (list : List Entry) (w : Wish) (r : Room) → SoundParams p → IsSoundWish w → HasGoodStripe p w.stripe → room_for p list w ≡ Ok r → SuitsMap p list w r
unfolding room_for
room_suits p list w r sound wish good h =
    elim (cases_eq w.size 0) [
      | inl none ↦
          let e : room_for p list w ≡ Ok no_room_needed = rw (eq-eqb w.size 0 none) refl in
          let same : no_room_needed ≡ r = cc in
          subst (SuitsMap p list w) same (none_suits p list w none)
      | inr other ↦
          let e : room_for p list w ≡ room_by p list w.size w.stripe = rw (ne_eqb w.size 0 other) refl in
          by_stripe p list w w.stripe r sound wish (omega arith) wish.stripe good (sym e ∙ h)
    ]

-- What no refusal says.

-- the first test passes, and the rest goes on
record Unrefused {T : Type 0} (refused : Option Refused) (next : Result T Refused) (x : T) : Type 0 where
  none : refused ≡ None
  rest : next ≡ Ok x

-- so it is where a result comes
unrefused : {T : Type 0} (refused : Option Refused) (next : Result T Refused) (x : T) → stop refused next ≡ Ok x → Unrefused refused next x
unrefused (Some refused) next x h = absurd (cc)
unrefused None next x h = record { none = refl; rest = h }

-- nothing stands at the path
is_absent : (there : Option Entry) → exists_refusal there ≡ None → there ≡ None
is_absent None h = refl
is_absent (Some old) h = absurd (cc)

-- a slot is left
slot_left : (p : Params) (list : List Entry) → full_refusal p list ≡ None → length list < p.slots
slot_left p list h = elim (cases_Bool (nat_le p.slots (length list))) [
  | inl pass ↦ absurd (let e : full_refusal p list ≡ Some (LogFull p.slots) = rw pass refl in cc)
  | inr fail ↦ leb-false p.slots (length list) fail
]

-- the entry stands in the room that was found
record InRoom (w : Wish) (found : Result Room Refused) (e : Entry) : Type 0 where
  room : Room
  given : found ≡ Ok room
  entry : entry_for w room ≡ e

-- so it does
in_room : (w : Wish) (found : Result Room Refused) (e : Entry) → entry_or w found ≡ Ok e → InRoom w found e
in_room w (Err refused) e h = absurd (cc)
in_room w (Ok r) e h = record { room = r; given = refl; entry = cc }

-- all that a decided entry is
record Decided (p : Params) (me : List ℕ) (list : List Entry) (w : Wish) (e : Entry) : Type 0 where
  master : me ≡ p.master
  short : FitsSlot p w.path
  left : length list < p.slots
  absent : finmap.get (replay list) w.path ≡ None
  parent : HasParent (replay list) (parent_of w.path)
  room : Room
  suits : SuitsMap p list w room
  entry : entry_for w room ≡ e

-- by the tests in their order
decided : (p : Params) (me : List ℕ) (list : List Entry) (w : Wish) (e : Entry) → SoundParams p → IsSoundWish w → decide_wish p me list w ≡ Ok e → Decided p me list w e
unfolding decide_wish
decided p me list w e sound wish h =
    let early = unrefused (early_refusal p me w.path) _ e h in
    let stripe = unrefused (stripe_refusal p w.stripe) _ e early.rest in
    let exists = unrefused (exists_refusal (finmap.get (replay list) w.path)) _ e stripe.rest in
    let parent = unrefused (parent_refusal (replay list) (parent_of w.path)) _ e exists.rest in
    let full = unrefused (full_refusal p list) (entry_or w (room_for p list w)) e parent.rest in
    let stands = in_room w (room_for p list w) e full.rest in
    let asked = early_none p me w.path early.none in
    record {
      master = asked.0;
      short = asked.1;
      left = slot_left p list full.none;
      absent = is_absent (finmap.get (replay list) w.path) exists.none;
      parent = parent_none (replay list) (parent_of w.path) parent.none;
      room = stands.room;
      suits = room_suits p list w stands.room sound wish (stripe_none p w.stripe stripe.none) stands.given;
      entry = stands.entry;
    }

-- a slot of either format has room for a path that isn't refused
slot_has_room : (p : Params) (path : List ℕ) → SoundParams p → IsTrue (is_path path) → FitsSlot p path → length path ≤ (geometry p).path_limit
unfolding shape_of
slot_has_room p path sound is short = elim (cases_Bool (p.format == first_number)) [
  | inl first ↦ short (eqb-true p.format first_number first)
  | inr other ↦
      let second : (p.format == second_number) ≡ true = subst (λ (b : Bool). (b || (p.format == second_number)) ≡ true) other sound.format in
      let limit : (geometry p).path_limit ≡ path_limit = rw second refl in
      let fits : length path ≤ path_limit = (parts_of_path path is).fits in
      omega (arith, limit, fits)
]

-- the entry in its room is proper
proper_in : (p : Params) (w : Wish) (r : Room) → SoundParams p → IsSoundWish w → FitsSlot p w.path → is_map p (entry_for w r) ≡ true → Proper p (entry_for w r)
proper_in p w r sound wish short map = record {
  path = wish.path;
  short = slot_has_room p w.path sound wish.path short;
  mode = wish.attr.mode;
  uid = wish.attr.uid;
  gid = wish.attr.gid;
  map = map;
}

-- a decided entry has what was wished for
pub as_wished : (p : Params) (me : List ℕ) (list : List Entry) (w : Wish) (e : Entry) → SoundParams p → IsSoundWish w → decide_wish p me list w ≡ Ok e → IsAsWished w e
as_wished p me list w e sound wish h =
    let d = decided p me list w e sound wish h in
    subst (IsAsWished w) d.entry (record { kind = refl; path = refl; size = refl; mode = refl; uid = refl; gid = refl })

-- and may be appended
pub may_append : (p : Params) (me : List ℕ) (list : List Entry) (w : Wish) (e : Entry) → SoundParams p → IsSoundWish w → decide_wish p me list w ≡ Ok e → MayAppend p me list e
may_append p me list w e sound wish h =
    let d = decided p me list w e sound wish h in
    subst (MayAppend p me list) d.entry (record {
      master = d.master;
      left = d.left;
      proper = proper_in p w d.room sound wish d.short d.suits.map;
      joins = joins_back p list (entry_for w d.room) (record { absent = d.absent; parent = d.parent; units = d.suits.units });
    })
