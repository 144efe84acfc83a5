-- What is decided, and the room that is found for it.
use Rattle.std.proofs.Common.{◌≡◌, ℕ, ◌+◌, ◌-◌, ◌*◌, ◌/◌, ◌<◌, ◌≤◌, ◌^◌, Bool, List, length, min, Option, Some, Result, Ok, Err, sym, ap, subst, ◌∙◌, arith}
use Rattle.std.specs.Int.{div_ceil}
use Rattle.std.specs.List.{All}
use Rattle.std.specs.Option.{option_map}
use Rattle.std.specs.Result.{IfOk}
use Rattle.std.proofs.lemmas.List.Elements.{All-weaker}
use Rattle.std.proofs.Math.Nat.{div-mul-le_self, mul-le-mul_right}
use Rattle.fam_base.specs.declared.cmd.Cmd.{Cmd}
use Rattle.fam_base.specs.declared.cmd.Stripe.{Stripe}
use Rattle.fam_base.specs.declared.entry.Entry.{Entry}
use Rattle.fam_base.specs.Units.{strip_bytes}
use Rattle.fam_format.specs.Layout.{device_units}
use Rattle.fam_format.specs.Tree.{Tree}
use Rattle.fam_format.specs.Units.{is_used}
use Rattle.fam_rules.specs.declared.answers.Refused.{Refused}
use Rattle.fam_rules.specs.Decide.{Wish, Room, decide, decide_wish, wish_of, one_extent, strip_extents, strip_length, room_or, simple_room, striped_room}
use Rattle.fam_rules.specs.DecideLaws.{IsSoundWish, IsGoodStripe}
use Rattle.fam_rules.specs.Room.{Fits, IsRoom, IsStrips, room, strips}
use Rattle.fam_rules.proofs.DecideProofs.{may_append}
use Rattle.fam_rules.proofs.RoomMaps.{strip_count}
use Rattle.fam_rules.proofs.RoomLaws.{room_least, strips_first}
use Rattle.fam_rules.proofs.RoomSame.{room_same, strips_same}
use Rattle.fam_rules.proofs.Spans.{runs_of_strips}
use Rattle.fam_alloc.specs.Taken.{is_taken}
use Rattle.fam_plan.specs.State.{PlanState, IsHistory, IsPlan, MayBeAdded}

-- a decision of an appending command is that of its wish
wish_decided : (s : PlanState) (me : List ℕ) (w : Wish) (e : Entry) (o : Option (Result Entry Refused))
    → o ≡ Some (decide_wish s.params me s.entries w) → o ≡ Some (Ok e) → decide_wish s.params me s.entries w ≡ Ok e
wish_decided s me w e o is given =
    let h : ◌≡◌ {A = Option (Result Entry Refused)} (Some (decide_wish s.params me s.entries w)) (Some (Ok e)) = sym is ∙ given in cc h

pub decided_added : (s : PlanState) (me : List ℕ) (cmd : Cmd) (w : Wish) (e : Entry) → IsHistory s → wish_of cmd ≡ Some w → IsSoundWish w
    → decide s.params me s.entries cmd ≡ Some (Ok e) → MayBeAdded s e
decided_added s me cmd w e h wants sound given =
    let may = may_append s.params me s.entries w e h.params sound
    (wish_decided s me w e (decide s.params me s.entries cmd) (ap (λ (o : Option Wish). option_map (decide_wish s.params me s.entries) o) wants) given) in record {
      left = may.left;
      added = record { proper = may.proper; joins = may.joins };
    }

-- what is decided for a sound wish may be added
pub may_of : (s : PlanState) (me : List ℕ) (w : Wish) (r : Result Entry Refused) → IsHistory s → IsSoundWish w → r ≡ decide_wish s.params me s.entries w → IfOk r (λ e. MayBeAdded s e)
may_of s me w (Ok e) h sound is =
    let may = may_append s.params me s.entries w e h.params sound (sym is) in record {
      left = may.left;
      added = record { proper = may.proper; joins = may.joins };
    }
may_of s me w (Err refused) h sound is = tt

-- The map and the list find the same room.
module _ (s now : PlanState) (held : Tree) (map : List Bool) (plan : IsPlan s held map) (view : s ≡ now) where
  plan_now : IsPlan now held map
  plan_now = subst (λ (t : PlanState). IsPlan t held map) view plan

  pub room_of_list : (k : ℕ) → room (is_taken map) 0 (length map) k ≡ room (is_used now.params now.entries) 0 (device_units now.params) k
  room_of_list k =
      ap (λ (n : ℕ). room (is_taken map) 0 n k) plan_now.units
      ∙ room_same (is_taken map) (is_used now.params now.entries) 0 (device_units now.params) k plan_now.used

  pub strips_of_list : (k n buckets seq : ℕ) → strips (is_taken map) (length map) k n buckets seq ≡ strips (is_used now.params now.entries) (device_units now.params) k n buckets seq
  strips_of_list k n buckets seq =
      ap (λ (m : ℕ). strips (is_taken map) m k n buckets seq) plan_now.units
      ∙ strips_same (is_taken map) (is_used now.params now.entries) (device_units now.params) k n buckets seq plan_now.used

  -- a run that ends in the device's units ends at a byte that fits a word
  pub end_fits : (k i : ℕ) → i + k ≤ length map → (i + k) * s.params.unit < 2 ^ 64
  end_fits k i within =
      let units : i + k ≤ device_units s.params = omega (arith, plan.units, within) in
      omega (arith, mul-le-mul_right s.params.unit units, div-mul-le_self s.params.device s.params.unit, plan.history.params.device)

  -- the room of the rule, by the count and what the map found
  pub simple_by : (size count : ℕ) (o : Option ℕ) → count ≡ div_ceil size s.params.unit → o ≡ room (is_taken map) 0 (length map) count
      → simple_room now.params now.entries size ≡ room_or count (option_map (one_extent s.params.unit count) o)
  simple_by size count o counted found =
      let given : ℕ → Option ℕ → Result Room Refused = λ k r. room_or k (option_map (one_extent now.params.unit k) r) in
      let is : count ≡ div_ceil size now.params.unit = counted ∙ ap (λ (t : PlanState). div_ceil size t.params.unit) view in
      sym (ap (λ (k : ℕ). given k (room (is_used now.params now.entries) 0 (device_units now.params) k)) is)
      ∙ ap (given count) (sym (found ∙ room_of_list count))
      ∙ ap (λ (t : PlanState). room_or count (option_map (one_extent t.params.unit count) o)) (sym view)

  -- and the strips of the rule
  pub striped_by : (size : ℕ) (x : Stripe) (count seq : ℕ) (o : Option (List ℕ))
      → count ≡ min (strip_bytes size x.chunk x.nstrips / s.params.unit) (2 ^ 64 - 1) → seq ≡ length now.entries
      → o ≡ strips (is_taken map) (length map) count x.nstrips x.nbuckets seq
      → striped_room now.params now.entries size x ≡ room_or count (option_map (strip_extents s.params.unit x.chunk count) o)
  striped_by size x count seq o counted number found =
      let given : ℕ → Option (List ℕ) → Result Room Refused = λ k r. room_or k (option_map (strip_extents now.params.unit x.chunk k) r) in
      let is : count ≡ strip_length now.params size x = counted ∙ ap (λ (t : PlanState). strip_length t.params size x) view in
      sym (ap (λ (k : ℕ). given k (strips (is_used now.params now.entries) (device_units now.params) k x.nstrips x.nbuckets (length now.entries))) is)
      ∙ ap (given count) (sym (found ∙ strips_of_list count x.nstrips x.nbuckets seq
      ∙ ap (λ (n : ℕ). strips (is_used now.params now.entries) (device_units now.params) count x.nstrips x.nbuckets n) number))
      ∙ ap (λ (t : PlanState). room_or count (option_map (strip_extents t.params.unit x.chunk count) o)) (sym view)

  -- a stripe that may be asked for, by the plan's own parameters
  pub stripe_here : (x : Stripe) → IsGoodStripe now.params x → IsGoodStripe s.params x
  stripe_here x good = subst (λ (t : PlanState). IsGoodStripe t.params x) (sym view) good

  -- each of its strips has some units
  pub strip_some : (size : ℕ) (x : Stripe) (count : ℕ) → IsGoodStripe s.params x → 0 < size → size < 2 ^ 64 → x.chunk < 2 ^ 64
      → count ≡ min (strip_bytes size x.chunk x.nstrips / s.params.unit) (2 ^ 64 - 1) → 0 < count
  strip_some size x count good bytes size_fits chunk_fits is =
      omega (arith, is, (strip_count s.params size x.chunk x.nstrips plan.history.params bytes size_fits chunk_fits good.chunk good.whole good.some).some)

-- room that is found ends within the units
pub room_within : (used : ℕ → Bool) (end k i : ℕ) → Some i ≡ room used 0 end k → i + k ≤ end
room_within used end k i is = (subst (IsRoom used 0 end k) (sym is) (room_least used 0 end k)).1.within

-- and so does each strip
pub strips_within : (used : ℕ → Bool) (units k n buckets seq : ℕ) (starts : List ℕ) → Some starts ≡ strips used units k n buckets seq → All (λ i. i + k ≤ units) starts
strips_within used units k n buckets seq starts is =
    All-weaker (Fits used units k) (λ i. i + k ≤ units) (λ i fits. fits.within) starts
    (runs_of_strips used units k n buckets seq starts (subst (IsStrips used (units / buckets) k n buckets seq) (sym is) (strips_first used units k n buckets seq))).fits

-- the extents of strips whose runs end within the units
pub ends_fit : (s now : PlanState) (held : Tree) (map : List Bool) (plan : IsPlan s held map) (view : s ≡ now) (k n buckets seq : ℕ) (starts : List ℕ)
    → Some starts ≡ strips (is_taken map) (length map) k n buckets seq → All (λ i. (i + k) * s.params.unit < 2 ^ 64) starts
ends_fit s now held map plan view k n buckets seq starts is =
    All-weaker (λ i. i + k ≤ length map) (λ i. (i + k) * s.params.unit < 2 ^ 64) (λ i within. end_fits s now held map plan view k i within) starts
    (strips_within (is_taken map) (length map) k n buckets seq starts is)
