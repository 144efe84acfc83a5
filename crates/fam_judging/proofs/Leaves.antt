-- Endings of candidates are those of a reply.
use Rattle.std.proofs.Common.{◌≡◌, ◌⊎◌, ◌↔◌, ◌*◌, inl, inr, ℕ, Bool, true, false, IsTrue, Option, Some, None, refl, ap, sym, ◌∙◌, subst}
use Rattle.std.specs.Prelude.{IfOk, option_map, Result, Ok, Err}
use Rattle.std.proofs.lemmas.Bool.{true≢false}
use Rattle.std.proofs.lemmas.Option.{same_Some}
use Rattle.fam_base.specs.declared.entry.Params.{Params}
use Rattle.fam_base.specs.Image.{Image, line_at}
use Rattle.fam_format.specs.declared.faults.LogFault.{LogFault}
use Rattle.fam_format.specs.declared.faults.LogFault.TheVariants.{BadLog}
use Rattle.fam_format.specs.declared.faults.LogField.{LogField}
use Rattle.fam_format.specs.declared.faults.LogField.TheVariants as field
use Rattle.fam_format.specs.declared.faults.Reason.{Reason}
use Rattle.fam_format.specs.declared.faults.SuperFault.{SuperFault}
use Rattle.fam_format.specs.Reading.{super_in}
use Rattle.fam_history.specs.declared.command.ToldCommand.{ToldCommand}
use Rattle.fam_journal.specs.Legal.{DamagedSuper, damaged_master, master_read}
use Rattle.fam_journal.specs.Past as past
use Rattle.fam_journal.specs.Past.{Bad, Damage, State}
use Rattle.fam_journal.specs.Shapes.{Begun, Marked}
use Rattle.fam_journal.specs.Notes.{Answer, Replied}
use Rattle.fam_judge.specs.Formed.{FaultPlace, FieldPlace}
use Rattle.fam_lines.specs.declared.host.SeenHost.{SeenHost}
use Rattle.fam_lines.specs.Lines.{untold_of}
use Rattle.fam_rules.specs.declared.answers.Refused.{Refused as Cause}
use Rattle.fam_rules.specs.Place.{line_bytes}
use Rattle.fam_rules.specs.Reply as reply
use Rattle.fam_rules.specs.Reply.{Reply}
use Rattle.fam_judging.specs.Candidates.{past_damage, settled_state, stage_shape}
use Rattle.fam_judging.specs.declared.candidate.Settled.{Settled}
use Rattle.fam_judging.specs.declared.candidate.Settled.TheVariants as settled
use Rattle.fam_judging.specs.declared.candidate.Track.{Track}
use Rattle.fam_judging.specs.declared.given.GivenImage.{GivenImage}
use Rattle.fam_judging.specs.declared.lefts.Left.{Left}
use Rattle.fam_judging.specs.declared.lefts.Lefts.{Lefts}
use Rattle.fam_judging.specs.Lefts.{IsOfLefts, LeavesEndings, first, only, second}
use Rattle.fam_judging.specs.Replies.{EndingState, MayEnd}
use Rattle.fam_judging.specs.Going.{HasGiven}
use Rattle.fam_judging.specs.ReplyKinds.{AreParamsOf, DeclinesEarly, DeclinesMet, FailsGate, FailsHeader, FailsSlot, FailsSuper}
use Rattle.fam_judging.specs.ReplyKinds.{IsDecidedCause, asker_of, damage_in, damage_of_state, ending_left, params_in, point_of}
use Rattle.fam_judging.proofs.ReplyKinds.{bad_header, bad_slot, declined, declines_early, fails_gate, fails_header, fails_slot, fails_super, no_superblock}

-- The superblock and the damage.

module _ (start : Image) where
  none_master : (damage : Damage) → ((p : Params) → DamagedSuper p (past.Given start) damage → ⊥) → damaged_master (past.Given start) damage ≡ None
  none_master (past.FewLines lines) none = refl
  none_master (past.NoSuperblock fault) none = refl
  none_master (past.BadHeader fault) none = by (super_in (line_at start) (line_bytes * Rattle.std.proofs.Common.length start)) none
    where
      by : (r : Result Params SuperFault) → ((p : Params) → r ≡ Ok p → ⊥) → master_read r ≡ None
      by (Ok p) none = absurd (none p refl)
      by (Err fault) none = refl
  none_master (past.BadSlot i reason) none = by (super_in (line_at start) (line_bytes * Rattle.std.proofs.Common.length start)) none
    where
      by : (r : Result Params SuperFault) → ((p : Params) → r ≡ Ok p → ⊥) → master_read r ≡ None
      by (Ok p) none = absurd (none p refl)
      by (Err fault) none = refl

  some_master : (damage : Damage) (p : Params) → DamagedSuper p (past.Given start) damage → damaged_master (past.Given start) damage ≡ Some p.master
  some_master (past.FewLines lines) p is = absurd is
  some_master (past.NoSuperblock fault) p is = absurd is
  some_master (past.BadHeader fault) p is = ap master_read is
  some_master (past.BadSlot i reason) p is = ap master_read is

  given_master : (damage : Damage) (params : Option Params) → ((p : Params) → DamagedSuper p (past.Given start) damage → params ≡ Some p)
      → ((p : Params) → params ≡ Some p → DamagedSuper p (past.Given start) damage) → damaged_master (past.Given start) damage ≡ option_map (λ (p : Params). p.master) params
  given_master damage None some has = none_master damage (λ p is. let e = some p is in absurd cc)
  given_master damage (Some p) some has = some_master damage p (has p refl)

  module _ (given : GivenImage) where
    -- the parameters of a candidate's state
    pub params_are : (s : Settled) → HasGiven start given s → AreParamsOf (params_in given s) (settled_state start s)
    params_are (settled.Log log) own = record { some = λ p e. ap Some (sym e); has = λ p e. sym (same_Some log.params p e); master = refl }
    params_are settled.Given own =
        subst (AreParamsOf given.params) (sym own.state)
        (record { some = own.super; has = own.params; master = given_master (past_damage given.damage) given.params own.super own.params })
    params_are settled.Halted own = record { some = λ p e. absurd e; has = λ p e. absurd cc; master = refl }

    -- its damage
    pub damage_is : (s : Settled) → HasGiven start given s → damage_in given s ≡ damage_of_state (settled_state start s)
    damage_is (settled.Log log) own = refl
    damage_is settled.Given own = sym (ap damage_of_state own.state)
    damage_is settled.Halted own = refl

-- One ending.

-- what a call leaves is this
pub ok_is : {T E : Type 0} (r : Result T E) (x : T) (Q : T → Type 0) → IfOk r (λ y. y ≡ x) → Q x → IfOk r Q
ok_is (Ok y) x Q is holds = subst Q (sym is) holds
ok_is (Err e) x Q is holds = tt

-- it is left where it may stand
pub only_left : (start : Image) (b : Bool) (s : Settled) (t : Track) (P : Type 0) → (IsTrue b ↔ P) → (e : EndingState) → IsOfLefts start (only b s t) e ↔ (P × (e ≡ ending_left start s t))
only_left start true s t P is e = (λ left. (is.0 refl, (out left)), λ both. first (record { settled = s; track = t }) refl both.1)
  where
    out : IsOfLefts start (only true s t) e → e ≡ ending_left start s t
    out (first l there same) = same ∙ ap (λ (k : Left). ending_left start k.settled k.track) (sym (same_Some _ _ there))
    out (second l there same) = absurd cc
only_left start false s t P is e = (λ left. absurd (out left), λ both. absurd (true≢false (sym (is.1 both.0))))
  where
    out : IsOfLefts start (only false s t) e → ⊥
    out (first l there same) = absurd cc
    out (second l there same) = absurd cc

-- what follows from what is ensured of what a call leaves
pub ok_map : {T E : Type 0} (r : Result T E) (P Q : T → Type 0) → IfOk r P → ((x : T) → P x → Q x) → IfOk r Q
ok_map (Ok x) P Q is f = f x is
ok_map (Err e) P Q is f = tt

module _ (given : GivenImage) (seen : SeenHost) (cmd : ToldCommand) (s : Settled) (t : Track) where
  -- so it is one that a reply leaves
  pub only_leaves : (reply : Reply) (b : Bool) (next : Track) (P : Type 0) → (IsTrue b ↔ P)
      → ((start : Image) → HasGiven start given s → (e : EndingState) → MayEnd (asker_of seen cmd) (point_of start s t) reply e ↔ (P × (e ≡ ending_left start s next)))
      → LeavesEndings given seen cmd s t reply (only b s next)
  only_leaves reply b next P is ends start own e =
      let left = only_left start b s next P is e in let end = ends start own e in (λ l. end.1 (left.0 l), λ k. left.1 (end.0 k))

  -- a refusal that the superblock tells
  pub early_leaves : (why : Cause) (b : Bool) → (IsTrue b ↔ DeclinesEarly (params_in given s) seen.uuid (untold_of cmd) (stage_shape t.stage) why) → (IsDecidedCause why → ⊥)
      → LeavesEndings given seen cmd s t (reply.NotAppended why) (only b s (record t { floor = None }))
  early_leaves why b is early = only_leaves (reply.NotAppended why) b (record t { floor = None }) _ is (λ start own e. (
    λ ends. out start e (declined (asker_of seen cmd) (point_of start s t) e (params_in given s) (params_are start given s own) why ends),
    λ both. declines_early (asker_of seen cmd) (point_of start s t) e (params_in given s) (params_are start given s own) why both.0 both.1,
  ))
    where
      out : (start : Image) (e : EndingState) → (DeclinesEarly (params_in given s) seen.uuid (untold_of cmd) (stage_shape t.stage) why × (e ≡ ending_left start s
          (record t { floor = None }))) ⊎ DeclinesMet (asker_of seen cmd) (point_of start s t) why e
          → DeclinesEarly (params_in given s) seen.uuid (untold_of cmd) (stage_shape t.stage) why × (e ≡ ending_left start s (record t { floor = None }))
      out start e (inl is) = is
      out start e (inr is) = absurd (early is.decided)

  -- no superblock
  pub super_leaves : (fault : SuperFault) (b : Bool) → (IsTrue b ↔ FailsSuper (damage_in given s) (untold_of cmd) (stage_shape t.stage) fault)
      → LeavesEndings given seen cmd s t (reply.NoSuperblock fault) (only b s (record t { floor = None }))
  super_leaves fault b is = only_leaves (reply.NoSuperblock fault) b (record t { floor = None }) _ is (λ start own e. (
    no_superblock (asker_of seen cmd) (point_of start s t) e (damage_in given s) (damage_is start given s own) fault,
    λ both. fails_super (asker_of seen cmd) (point_of start s t) e (damage_in given s) (damage_is start given s own) fault both.0 both.1,
  ))

  field_apart : (f : LogField) → FieldPlace f Begun → FieldPlace f Marked → ⊥
  field_apart field.Gate begun mark = Rattle.fam_judging.proofs.ReplyPlaces.begun_marked begun
  field_apart field.Magic begun mark = Rattle.fam_judging.proofs.ReplyPlaces.marked_begun mark
  field_apart field.Crc begun mark = Rattle.fam_judging.proofs.ReplyPlaces.marked_begun mark
  field_apart field.Length begun mark = Rattle.fam_judging.proofs.ReplyPlaces.marked_begun mark
  field_apart field.Slots begun mark = Rattle.fam_judging.proofs.ReplyPlaces.marked_begun mark
  field_apart field.Uuid begun mark = Rattle.fam_judging.proofs.ReplyPlaces.marked_begun mark
  field_apart field.Rest begun mark = Rattle.fam_judging.proofs.ReplyPlaces.marked_begun mark

  apart : (f : LogFault) → FaultPlace f Begun → FaultPlace f Marked → ⊥
  apart (BadLog f found wanted) = field_apart f

  -- a bad header
  pub header_leaves : (fault : LogFault) (b : Bool) → (IsTrue b ↔ FailsHeader (damage_in given s) (untold_of cmd) (stage_shape t.stage) fault) → (FaultPlace fault Marked → ⊥)
      → LeavesEndings given seen cmd s t (reply.BadHeader fault) (only b s (record t { floor = None }))
  header_leaves fault b is other = only_leaves (reply.BadHeader fault) b (record t { floor = None }) _ is (λ start own e. (
    λ ends. out start e (bad_header (asker_of seen cmd) (point_of start s t) e (damage_in given s) (damage_is start given s own) fault ends),
    λ both. fails_header (asker_of seen cmd) (point_of start s t) e (damage_in given s) (damage_is start given s own) fault both.0 both.1,
  ))
    where
      out : (start : Image) (e : EndingState) → (FailsHeader (damage_in given s) (untold_of cmd) (stage_shape t.stage) fault × (e ≡ ending_left start s (record t { floor = None })))
          ⊎ (FailsGate (damage_in given s) (untold_of cmd) (stage_shape t.stage) fault × (e ≡ ending_left start s t))
          → FailsHeader (damage_in given s) (untold_of cmd) (stage_shape t.stage) fault × (e ≡ ending_left start s (record t { floor = None }))
      out start e (inl is) = is
      out start e (inr is) = absurd (other is.0.place)

  -- a bad gate
  pub gate_leaves : (fault : LogFault) (b : Bool) → (IsTrue b ↔ FailsGate (damage_in given s) (untold_of cmd) (stage_shape t.stage) fault) → FaultPlace fault Marked
      → LeavesEndings given seen cmd s t (reply.BadHeader fault) (only b s t)
  gate_leaves fault b is place = only_leaves (reply.BadHeader fault) b t _ is (λ start own e. (
    λ ends. out start e (bad_header (asker_of seen cmd) (point_of start s t) e (damage_in given s) (damage_is start given s own) fault ends),
    λ both. fails_gate (asker_of seen cmd) (point_of start s t) e (damage_in given s) (damage_is start given s own) fault both.0 both.1,
  ))
    where
      out : (start : Image) (e : EndingState) → (FailsHeader (damage_in given s) (untold_of cmd) (stage_shape t.stage) fault × (e ≡ ending_left start s (record t { floor = None })))
          ⊎ (FailsGate (damage_in given s) (untold_of cmd) (stage_shape t.stage) fault × (e ≡ ending_left start s t))
          → FailsGate (damage_in given s) (untold_of cmd) (stage_shape t.stage) fault × (e ≡ ending_left start s t)
      out start e (inl is) = absurd (apart fault is.0.place place)
      out start e (inr is) = is

  -- a bad slot
  pub slot_leaves : (i : ℕ) (reason : Reason) (b : Bool) → (IsTrue b ↔ FailsSlot (damage_in given s) (untold_of cmd) (stage_shape t.stage) i reason)
      → LeavesEndings given seen cmd s t (reply.BadSlot i reason) (only b s t)
  slot_leaves i reason b is = only_leaves (reply.BadSlot i reason) b t _ is (λ start own e. (
    bad_slot (asker_of seen cmd) (point_of start s t) e (damage_in given s) (damage_is start given s own) i reason,
    λ both. fails_slot (asker_of seen cmd) (point_of start s t) e (damage_in given s) (damage_is start given s own) i reason both.0 both.1,
  ))

-- a reply is the one that an answer tells
pub replied_leaves : (given : GivenImage) (seen : SeenHost) (cmd : ToldCommand) (s : Settled) (t : Track) (lefts : Lefts) (a : Answer) (r q : Reply) → a ≡ Replied r → a ≡ Replied q
    → LeavesEndings given seen cmd s t r lefts → LeavesEndings given seen cmd s t q lefts
replied_leaves given seen cmd s t lefts a r q own other is = subst (λ (k : Reply). LeavesEndings given seen cmd s t k lefts) same is
  where
    same : r ≡ q
    same = cc
