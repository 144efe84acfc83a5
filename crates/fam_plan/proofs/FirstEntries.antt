-- What is against the first entry of a log, and against the first wish for one.
use Rattle.std.proofs.Common.{◌≡◌, ℕ, ◌<◌, ◌≤◌, ◌+◌, ◌*◌, ◌%◌, ◌==◌, Bool, true, false, cond, nat_lt, List, [], Option, Some, None, Result, Ok, Err, refl, ap, sym, subst, ◌∙◌, mod-eq_of_lt, inl, inr, arith}
use Rattle.std.specs.FinMap as finmap
use Rattle.std.specs.Option.{is_some}
use Rattle.std.specs.Result.{IfErr, MatchResult, OnOk}
use Rattle.std.proofs.lemmas.Bool.{cases_lt, true≢false}
use Rattle.std.proofs.lemmas.Bool.Decides.{nat_tests}
use Rattle.std.proofs.lemmas.List.Elements.{All-weaker}
use Rattle.fam_base.specs.declared.cmd.Stripe.{Stripe}
use Rattle.fam_base.specs.declared.entry.Params.{Params}
use Rattle.fam_base.specs.declared.entry.Entry.{Entry}
use Rattle.fam_base.specs.Paths.{parent_of}
use Rattle.fam_base.specs.PathOrder.{path_cmp}
use Rattle.fam_format.specs.EntryLaws.{IsInDevice}
use Rattle.fam_format.specs.Layout.{device_units, head_units}
use Rattle.fam_format.specs.Params.{SoundParams}
use Rattle.fam_format.specs.Slot.{Proper}
use Rattle.fam_format.specs.Stop.{or_else, stop}
use Rattle.fam_format.specs.Tree.{exists_fault, parent_fault, replay, join_fault, root_fault, overlap_fault}
use Rattle.fam_format.specs.Units.{units_in, is_used, first_overlap}
use Rattle.fam_format.specs.declared.faults.Reason.TheVariants as reason
use Rattle.fam_format.proofs.Formats.{slots_some}
use Rattle.fam_format.proofs.UnitPowers.{unit_told}
use Rattle.fam_format.proofs.EntryLawsProofs.{proper_inside}
use Rattle.fam_rules.specs.declared.answers.Refused.{Refused}
use Rattle.fam_rules.specs.declared.answers.Refused.TheVariants as refused
use Rattle.fam_rules.specs.Decide.{Room, Wish, decide_wish, early_refusal, entry_or, exists_refusal, found_refusal, full_refusal, no_room_needed, parent_refusal, room_by, room_for, room_or, stripe_refusal}
use Rattle.fam_alloc.specs.Taken.{LieWithin}
use Rattle.fam_alloc.proofs.OverlapLemmas.{or_false, overlap_same}
use Rattle.fam_plan.specs.Needs.{NeedsRoom}

-- the extents of a proper entry lie within the units of the device
pub lies_in_device : (p : Params) (e : Entry) → Proper p e → LieWithin p.unit (device_units p) e.extents
lies_in_device p e proper =
    All-weaker (IsInDevice p) (λ x. x.offset + x.length ≤ device_units p * p.unit) (λ x is. omega (arith, is.before)) e.extents (proper_inside p e proper)

-- where no entry stands: a parent other than the root is missing, and superblock and log alone are used
pub fault_of_first : (p : Params) (e : Entry)
    → join_fault p [] e ≡ or_else (root_fault (replay []) (parent_of e.path))
    (overlap_fault (first_overlap (λ u. nat_lt u (head_units p)) (units_in p.unit e.extents)))
unfolding join_fault
fault_of_first p e =
    ap (λ (o : Option Entry). or_else (or_else (exists_fault o) (root_fault (replay []) (parent_of e.path)))
    (overlap_fault (first_overlap (is_used p []) (units_in p.unit e.extents)))) (finmap.get-empty path_cmp e.path)
    ∙ ap (λ (o : Option ℕ). or_else (root_fault (replay []) (parent_of e.path)) (overlap_fault o))
    (overlap_same (is_used p []) (λ u. nat_lt u (head_units p)) (units_in p.unit e.extents) (λ u. sym (or_false (nat_lt u (head_units p)))))

-- a parent other than the root
pub missing_parent : (p : Params) (e : Entry) (parent : List ℕ) → parent_of e.path ≡ Some parent → Some reason.NoParent ≡ join_fault p [] e
missing_parent p e parent is =
    sym (fault_of_first p e
    ∙ ap (λ (o : Option (List ℕ)). or_else (root_fault (replay []) o) (overlap_fault (first_overlap (λ u. nat_lt u (head_units p)) (units_in p.unit e.extents)))) is
    ∙ ap (λ (o : Option Entry). or_else (parent_fault o) (overlap_fault (first_overlap (λ u. nat_lt u (head_units p)) (units_in p.unit e.extents)))) (finmap.get-empty path_cmp parent))

-- no wish has anything at its path, and a parent other than the root is missing
pub missing_refused : (path parent : List ℕ) → parent_of path ≡ Some parent → parent_refusal (replay []) (parent_of path) ≡ Some refused.NoParent
missing_refused path parent is =
    ap (parent_refusal (replay [])) is ∙ ap found_refusal (finmap.get-empty path_cmp parent)

-- right below the root
pub units_alone : (p : Params) (e : Entry) (o : Option ℕ) → parent_of e.path ≡ None → o ≡ first_overlap (λ u. nat_lt u (head_units p)) (units_in p.unit e.extents) → overlap_fault o ≡ join_fault p [] e
units_alone p e o root found =
    ap overlap_fault found
    ∙ sym (fault_of_first p e ∙ ap (λ (o : Option (List ℕ)). or_else (root_fault (replay []) o) (overlap_fault (first_overlap (λ u. nat_lt u (head_units p)) (units_in p.unit e.extents)))) root)

-- Wishes.

-- a log has a slot
has_slot : (p : Params) → SoundParams p → 0 < p.slots
has_slot p sound =
    let least = (unit_told p.unit sound.unit).least in
    let some : 0 < p.log_length = grind (arith, nat_tests, sound.log_length) in
    let whole : p.log_length % p.unit ≡ 0 = grind (arith, nat_tests, sound.log_length) in
    let long : p.unit ≤ p.log_length = elim (cases_lt p.log_length p.unit) [ inl below ↦ absurd (omega (arith, mod-eq_of_lt below, whole, some)) | inr past ↦ past ] in
    omega (arith, sound.slots, slots_some p.format p.log_length (omega (arith, long, least)))

room_asked : (w : Wish) (k : ℕ) (o : Option Room) → NeedsRoom (entry_or w (room_or k o))
room_asked w k None = tt
room_asked w k (Some found) = tt

room_by_asked : (p : Params) (w : Wish) (size : ℕ) (s : Option Stripe) → NeedsRoom (entry_or w (room_by p [] size s))
room_by_asked p w size None = room_asked w _ _
room_by_asked p w size (Some s) = room_asked w _ _

room_for_asked : (p : Params) (w : Wish) → NeedsRoom (entry_or w (room_for p [] w))
unfolding room_for
room_for_asked p w = by_size (w.size == 0)
  where
    by_size : (b : Bool) → NeedsRoom (entry_or w (cond b (Ok no_room_needed) (room_by p [] w.size w.stripe)))
    by_size true = tt
    by_size false = room_by_asked p w w.size w.stripe

-- what is against a wish, in the order of the tests
wish_by : (p : Params) (me : List ℕ) (w : Wish) → SoundParams p → early_refusal p me w.path ≡ None → stripe_refusal p w.stripe ≡ None
    → decide_wish p me [] w ≡ stop (parent_refusal (replay []) (parent_of w.path)) (entry_or w (room_for p [] w))
unfolding decide_wish
wish_by p me w sound early stripe =
    let full : full_refusal p [] ≡ None = grind (arith, nat_tests, has_slot p sound) in
    let free : exists_refusal (finmap.get (replay []) w.path) ≡ None = ap exists_refusal (finmap.get-empty path_cmp w.path) in
    rw (early, stripe, free, full) refl

-- by what is said of its parent
abbrev IsRootTest : Wish → Result Unit Refused → Type 0
IsRootTest w r =
    MatchResult r (λ _. parent_refusal (replay []) (parent_of w.path) ≡ None) (λ refused. parent_refusal (replay []) (parent_of w.path) ≡ Some refused)

module _ (p : Params) (me : List ℕ) (w : Wish) (sound : SoundParams p) (early : early_refusal p me w.path ≡ None) (stripe : stripe_refusal p w.stripe ≡ None) where
  pub wish_refused : (r : Result Unit Refused) → IsRootTest w r → IfErr r (λ refused. decide_wish p me [] w ≡ Err refused)
  wish_refused (Ok x) told = tt
  wish_refused (Err refused) told =
      wish_by p me w sound early stripe ∙ ap (λ (o : Option Refused). stop o (entry_or w (room_for p [] w))) told

  -- with nothing else against it, a wish gives an entry or wants room
  pub wish_asks : (r : Result Unit Refused) → IsRootTest w r → OnOk r (NeedsRoom (decide_wish p me [] w))
  wish_asks (Ok x) told =
      subst NeedsRoom (sym (wish_by p me w sound early stripe ∙ ap (λ (o : Option Refused). stop o (entry_or w (room_for p [] w))) told)) (room_for_asked p w)
  wish_asks (Err refused) told = tt

-- Options by their tests.

pub some_of_true : {A : Type 0} (o : Option A) → true ≡ is_some o → (x : A) × (o ≡ Some x)
some_of_true None is = absurd (true≢false is)
some_of_true (Some x) is = (x, refl)

pub none_of_false : {A : Type 0} (o : Option A) → false ≡ is_some o → o ≡ None
none_of_false None is = refl
none_of_false (Some x) is = absurd (true≢false (sym is))
