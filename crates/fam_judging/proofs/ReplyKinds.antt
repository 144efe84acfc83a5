-- What a reply that shows nothing comes to, by its kind.
use Rattle.std.proofs.Common.{◌≡◌, ◌⊎◌, inl, inr, ℕ, ◌+◌, List, [], ◌∷◌, ◌++◌, length, Bool, true, false, ◌==◌, Option, Some, None, refl, ap, sym, ◌∙◌, subst, arith}
use Rattle.std.specs.Prelude.{if◌then◌else◌, option_map, slice_get, Result, Err}
use Rattle.std.proofs.lemmas.List.{length-append}
use Rattle.std.proofs.lemmas.Option.{same_Some}
use Rattle.fam_base.specs.declared.cmd.Cmd.{Cmd}
use Rattle.fam_base.specs.declared.entry.Entry.{Entry}
use Rattle.fam_base.specs.declared.entry.Params.{Params}
use Rattle.fam_commands.specs.Appends.{HasWish}
use Rattle.fam_format.specs.declared.faults.LogFault.{LogFault}
use Rattle.fam_format.specs.declared.faults.LogFault.TheVariants.{BadLog}
use Rattle.fam_format.specs.declared.faults.LogField.{LogField}
use Rattle.fam_format.specs.declared.faults.LogField.TheVariants as field
use Rattle.fam_format.specs.declared.faults.Reason.{Reason}
use Rattle.fam_format.specs.declared.faults.SuperFault.{SuperFault}
use Rattle.fam_rules.specs.declared.answers.Refused.{Refused as Cause}
use Rattle.fam_rules.specs.declared.answers.Refused.TheVariants as cause
use Rattle.fam_rules.specs.Asks.{File}
use Rattle.fam_rules.specs.Decide.{Wish, decide_wish, wish_of}
use Rattle.fam_rules.specs.Reply as reply
use Rattle.fam_journal.specs.Legal.{AppendedAllowed, CauseAllowed, DamageAllowed, DecideAllowed, FoundBad, HasParams, WritesAllowed}
use Rattle.fam_journal.specs.Past as past
use Rattle.fam_journal.specs.Past.{Bad, Damage, HostPast, Sound, State, acknowledges, finds, pends}
use Rattle.fam_journal.specs.Shapes.{Begun, CauseShape, CommandStage, HasMet, HasReadGate, IsHead, Marked, Met, Named}
use Rattle.fam_judge.specs.Formed.{CausePlace, FaultPlace, FieldPlace, SlotPlace}
use Rattle.fam_settled.proofs.Choices.{chosen}
use Rattle.fam_judging.specs.ReplyKinds.{AcknowledgesNamed, AppendsNew, AreParamsOf, DeclinesEarly, DeclinesMet, FailsGate, FailsHeader}
use Rattle.fam_judging.specs.ReplyKinds.{FailsSlot, FailsSuper, IsDecidedCause, MayMark, damage_of_state, same_ending, unmarked_ending}
use Rattle.fam_judging.specs.Replies.{Asker, EndingState, MayEnd, MeetsAtPoint, Point, ending_at, found_at, meets, names, stands, told, told_at, unmarked, untold}
use Rattle.fam_judging.proofs.ReplyPlaces.{begun_of, comes_marked, has_met, marked_begun, marked_of, met_begun, met_of, named_of}

-- Refusals.

-- the rules decide it
decided_allowed : (why : Cause) (host : HostPast) (s : State) → IsDecidedCause why → CauseAllowed why host s → DecideAllowed host (Err why) s
decided_allowed (cause.NotMaster own master) host s ruled is = absurd ruled
decided_allowed (cause.LongPath limit) host s ruled is = absurd ruled
decided_allowed why host s ruled is = is

allowed_decided : (why : Cause) (host : HostPast) (s : State) → IsDecidedCause why → DecideAllowed host (Err why) s → CauseAllowed why host s
allowed_decided (cause.NotMaster own master) host s ruled is = absurd ruled
allowed_decided (cause.LongPath limit) host s ruled is = absurd ruled
allowed_decided why host s ruled is = is

decided_met : (why : Cause) (me : List ℕ) (stage : CommandStage) → IsDecidedCause why → CauseShape me stage why → HasMet stage
decided_met (cause.NotMaster own master) me stage ruled is = absurd ruled
decided_met (cause.LongPath limit) me stage ruled is = absurd ruled
decided_met why me stage ruled is = is

met_decided : (why : Cause) (me : List ℕ) (stage : CommandStage) → IsDecidedCause why → HasMet stage → CauseShape me stage why
met_decided (cause.NotMaster own master) me stage ruled is = absurd ruled
met_decided (cause.LongPath limit) me stage ruled is = absurd ruled
met_decided why me stage ruled is = is

decided_place : (why : Cause) (stage : CommandStage) → IsDecidedCause why → CausePlace why stage
decided_place (cause.NotMaster own master) stage ruled = absurd ruled
decided_place (cause.LongPath limit) stage ruled = absurd ruled
decided_place why stage ruled = tt

wish_by : {A : Type 0} (f : Wish → A) (o : Option Wish) (a : A) → option_map f o ≡ Some a → (w : Wish) × (o ≡ Some w)
wish_by f None a e = absurd cc
wish_by f (Some w) a e = (w, refl)

-- it wants to append
pub decides_wish : (who : Asker) (at : Point) (r : Result Entry Cause) (s : State) → DecideAllowed (told_at who at) r s → HasWish who.cmd
decides_wish who at r (Bad origin damage gate) is = absurd is
decides_wish who at r (Sound p history pending) is =
    let same : who.cmd ≡ is.cmd = same_Some who.cmd is.cmd is.told in
    wish_by (decide_wish p who.uuid _) (wish_of who.cmd) r (ap (λ (c : Cmd). Rattle.fam_rules.specs.Decide.decide p who.uuid (Rattle.fam_rules.specs.Asks.entries_of history) c) same ∙ is.is)

met_stage : (who : Asker) (at met : Point) → MeetsAtPoint who at met → HasMet met.stage
met_stage who at met (told n is e) = subst HasMet (sym (ap (λ (q : Point). q.stage) e ∙ is)) tt
met_stage who at met (untold n head wish found e) = subst HasMet (sym (ap (λ (q : Point). q.stage) e)) tt

module _ (who : Asker) (at : Point) (e : EndingState) where
  module _ (params : Option Params) (own : AreParamsOf params at.state) where
    of_ruled : (why : Cause) → IsDecidedCause why → MayEnd who at (reply.NotAppended why) e → DeclinesMet who at why e
    of_ruled why ruled ends = record {
      met = ends.now;
      meets = met_of who at ends.now ends.reached (decided_met why who.uuid ends.now.stage ruled ends.answered.shape.1);
      decided = ruled;
      decides = decided_allowed why (told_at who ends.now) ends.now.state ruled ends.answered.fits;
      is = ends.is;
    }

    -- a refusal stands right behind the start, or behind what was found
    pub declined : (why : Cause) → MayEnd who at (reply.NotAppended why) e
        → (DeclinesEarly params who.uuid who.cmd at.stage why × (e ≡ unmarked_ending at)) ⊎ DeclinesMet who at why e
    declined (cause.NotMaster me master) ends =
        let begun = begun_of who at ends.now ends.reached ends.answered.place in
        let state : ends.now.state ≡ at.state = ap (λ (p : Point). p.state) begun.1 in
        inl (
          record {
            begun = begun.0;
            wish = ends.answered.shape.0;
            cause = record {
              own_is = ends.answered.shape.1.0;
              other = ends.answered.shape.1.1;
              master_is = sym own.master ∙ ap Rattle.fam_journal.specs.Legal.master_of (sym state) ∙ ends.answered.fits.master_is;
            };
          },
          ends.is ∙ ap (ending_at (reply.NotAppended (cause.NotMaster me master))) begun.1,
        )
    declined (cause.LongPath limit) ends =
        let begun = begun_of who at ends.now ends.reached ends.answered.place in
        let state : ends.now.state ≡ at.state = ap (λ (p : Point). p.state) begun.1 in
        let fits = ends.answered.fits in
        let same : fits.names.cmd ≡ who.cmd = sym (same_Some who.cmd fits.names.cmd fits.names.told) in
        inl (
          record {
            begun = begun.0;
            wish = ends.answered.shape.0;
            cause = record {
              p = fits.params;
              params_are = own.some fits.params (subst (HasParams fits.params) state fits.super);
              wish = fits.names.wish;
              wished = ap wish_of (sym same) ∙ fits.names.wished;
              long = fits.names.is;
            };
          },
          ends.is ∙ ap (ending_at (reply.NotAppended (cause.LongPath limit))) begun.1,
        )
    declined why ends = inr (of_ruled why tt ends)

    -- and where it does it may be given
    pub declines_early : (why : Cause) → DeclinesEarly params who.uuid who.cmd at.stage why → e ≡ unmarked_ending at → MayEnd who at (reply.NotAppended why) e
    declines_early (cause.NotMaster me master) is left = record {
      now = record at { floor = None };
      reached = unmarked is.begun refl;
      answered = record {
        shape = (is.wish, (is.cause.own_is, is.cause.other, inl is.begun));
        place = is.begun;
        fits = record { me_is = is.cause.own_is; master_is = own.master ∙ is.cause.master_is; other = is.cause.other };
      };
      is = left;
    }
    declines_early (cause.LongPath limit) is left = record {
      now = record at { floor = None };
      reached = unmarked is.begun refl;
      answered = record {
        shape = (is.wish, inl is.begun);
        place = is.begun;
        fits = record {
          params = is.cause.p;
          super = own.has is.cause.p is.cause.params_are;
          names = record { cmd = who.cmd; told = refl; wish = is.cause.wish; wished = is.cause.wished; is = is.cause.long };
        };
      };
      is = left;
    }
    declines_early why is left = absurd is.cause

  -- and where it is decided behind what was found it may be given
  pub declines_met : (why : Cause) → DeclinesMet who at why e → MayEnd who at (reply.NotAppended why) e
  declines_met why is = record {
    now = is.met;
    reached = meets is.meets;
    answered = record {
      shape = (decides_wish who is.met (Err why) is.met.state is.decides, met_decided why who.uuid is.met.stage is.decided (met_stage who at is.met is.meets));
      place = decided_place why is.met.stage is.decided;
      fits = allowed_decided why (told_at who is.met) is.met.state is.decided is.decides;
    };
    is = is.is;
  }

  -- Entries that are appended.

  -- an entry is acknowledged that was named, or is named by now
  pub appended : (seq : ℕ) → MayEnd who at (reply.Appended seq) e → AcknowledgesNamed who at seq e ⊎ AppendsNew who at seq e
  appended seq ends = by (named_of who at ends.now seq ends.reached ends.answered.shape)
    where
      by : ((at.stage ≡ Named seq) × (ends.now ≡ at)) ⊎ Rattle.fam_judging.proofs.ReplyPlaces.NamedNow who at ends.now seq → AcknowledgesNamed who at seq e ⊎ AppendsNew who at seq e
      by (inl is) = inl (record {
        named = is.0;
        allowed = subst (λ (p : Point). AppendedAllowed seq (told_at who p) (acknowledges seq p.state)) is.1 ends.answered.fits;
        is = ends.is ∙ ap (ending_at (reply.Appended seq)) is.1;
      })
      by (inr is) = inr (record { now = ends.now; names = is.names; number = is.number; is = ends.is })

  -- one that was named may be acknowledged
  pub appends_named : (seq : ℕ) → AcknowledgesNamed who at seq e → MayEnd who at (reply.Appended seq) e
  appends_named seq is = record {
    now = at;
    reached = stands (λ begun. Rattle.fam_judging.proofs.ReplyPlaces.named_begun seq (sym is.named ∙ begun)) refl;
    answered = record { shape = is.named; place = tt; fits = is.allowed };
    is = is.is;
  }

  last_is : (xs : List File) (f : File) → slice_get (xs ++ f ∷ []) (length xs) ≡ Some f
  last_is [] f = refl
  last_is (x ∷ xs) f = last_is xs f

  acknowledged : (s : State) (seq : ℕ) (entry : Entry) (host behind : HostPast) (f : File) → f.entry ≡ entry → behind.wrote ≡ Some (record { seq = seq; entry = entry })
      → WritesAllowed seq entry host s → AppendedAllowed seq behind (acknowledges seq (pends f s))
  acknowledged (Bad origin damage gate) seq entry host behind f own wrote is = absurd is
  acknowledged (Sound p history pending) seq entry host behind f own wrote is =
      subst (AppendedAllowed seq behind) (chosen seq (length history) (Sound p (history ++ f ∷ []) None) (Sound p history (Some f)) is.0) (record {
        entry = entry;
        named = wrote;
        count = let long : length (history ++ f ∷ []) ≡ length history + 1 = length-append history (f ∷ []) in let seq_is : seq ≡ length history = is.0 in omega (arith, long, seq_is);
        last = ap (λ (n : ℕ). option_map (λ (g : File). g.entry) (slice_get (history ++ f ∷ []) n)) is.0
            ∙ ap (option_map (λ (g : File). g.entry)) (last_is history f) ∙ ap Some own;
      })

  -- so may one that is named by now
  pub appends_new : (seq : ℕ) → AppendsNew who at seq e → MayEnd who at (reply.Appended seq) e
  appends_new seq is = record {
    now = is.now;
    reached = names is.names;
    answered = record {
      shape = ap (λ (p : Point). p.stage) is.names.is ∙ ap Named is.number;
      place = tt;
      fits = subst (λ (n : ℕ). AppendedAllowed n (told_at who is.now) (acknowledges n is.now.state)) is.number
          (subst (λ (p : Point). AppendedAllowed is.names.seq (told_at who p) (acknowledges is.names.seq p.state)) (sym is.names.is)
          (acknowledged is.names.met.state is.names.seq is.names.entry (told_at who is.names.met) _ _ refl refl is.names.writes));
    };
    is = is.is;
  }

  -- Damage.

  damage_told : (d : Damage) (s : State) → DamageAllowed d s → damage_of_state s ≡ Some d
  damage_told d (Bad origin damage gate) is = ap Some (sym is)
  damage_told d (Sound p history pending) is = absurd is

  told_damage : (d : Damage) (s : State) → damage_of_state s ≡ Some d → DamageAllowed d s
  told_damage d (Bad origin damage gate) is = sym (same_Some damage d is)
  told_damage d (Sound p history pending) is = absurd cc

  module _ (damage : Option Damage) (own : damage ≡ damage_of_state at.state) where
    of_now : (d : Damage) (now : Point) → now.state ≡ at.state → DamageAllowed d now.state → damage ≡ Some d
    of_now d now same is = own ∙ damage_told d at.state (subst (DamageAllowed d) same is)

    at_now : (d : Damage) → damage ≡ Some d → DamageAllowed d at.state
    at_now d is = told_damage d at.state (sym own ∙ is)

    -- a missing superblock is told right behind the start
    pub no_superblock : (fault : SuperFault) → MayEnd who at (reply.NoSuperblock fault) e → FailsSuper damage who.cmd at.stage fault × (e ≡ unmarked_ending at)
    no_superblock fault ends =
        let begun = begun_of who at ends.now ends.reached ends.answered.shape.1 in (
          record {
            begun = begun.0;
            other = ends.answered.shape.0;
            damage_is = of_now (past.NoSuperblock fault) ends.now (ap (λ (p : Point). p.state) begun.1) ends.answered.fits;
          },
          ends.is ∙ ap (ending_at (reply.NoSuperblock fault)) begun.1,
        )

    -- and where it is missing it may be told
    pub fails_super : (fault : SuperFault) → FailsSuper damage who.cmd at.stage fault → e ≡ unmarked_ending at → MayEnd who at (reply.NoSuperblock fault) e
    fails_super fault is left = record {
      now = record at { floor = None };
      reached = unmarked is.begun refl;
      answered = record { shape = (is.other, is.begun); place = tt; fits = at_now (past.NoSuperblock fault) is.damage_is };
      is = left;
    }

    field_stage : (f : LogField) (stage : CommandStage) → FieldPlace f stage → ((stage ≡ Begun) × FieldPlace f Begun) ⊎ ((stage ≡ Marked) × FieldPlace f Marked)
    field_stage field.Gate stage is = inr (is, refl)
    field_stage f stage is = inl (is, refl)

    fault_stage : (f : LogFault) (stage : CommandStage) → FaultPlace f stage → ((stage ≡ Begun) × FaultPlace f Begun) ⊎ ((stage ≡ Marked) × FaultPlace f Marked)
    fault_stage (BadLog f found wanted) stage is = field_stage f stage is

    -- a bad header is told right behind the start, and a bad gate behind the mark
    pub bad_header : (fault : LogFault) → MayEnd who at (reply.BadHeader fault) e
        → (FailsHeader damage who.cmd at.stage fault × (e ≡ unmarked_ending at)) ⊎ (FailsGate damage who.cmd at.stage fault × (e ≡ same_ending at))
    bad_header fault ends = by (fault_stage fault ends.now.stage ends.answered.place)
      where
        by : ((ends.now.stage ≡ Begun) × FaultPlace fault Begun) ⊎ ((ends.now.stage ≡ Marked) × FaultPlace fault Marked)
            → (FailsHeader damage who.cmd at.stage fault × (e ≡ unmarked_ending at)) ⊎ (FailsGate damage who.cmd at.stage fault × (e ≡ same_ending at))
        by (inl is) =
            let begun = begun_of who at ends.now ends.reached is.0 in
            inl (
              record {
                begun = begun.0;
                place = is.1;
                other = ends.answered.shape.0;
                damage_is = of_now (past.BadHeader fault) ends.now (ap (λ (p : Point). p.state) begun.1) ends.answered.fits;
              },
              ends.is ∙ ap (ending_at (reply.BadHeader fault)) begun.1,
            )
        by (inr is) =
            let here = marked_of who at ends.now ends.reached is.0 in
            inr (
              record {
                marks = here.0;
                place = is.1;
                other = ends.answered.shape.0;
                damage_is = of_now (past.BadHeader fault) ends.now (ap (λ (p : Point). p.state) here.1) ends.answered.fits;
              },
              ends.is ∙ ap (ending_at (reply.BadHeader fault)) here.1,
            )

    -- and where the header is bad it may be told
    pub fails_header : (fault : LogFault) → FailsHeader damage who.cmd at.stage fault → e ≡ unmarked_ending at → MayEnd who at (reply.BadHeader fault) e
    fails_header fault is left = record {
      now = record at { floor = None };
      reached = unmarked is.begun refl;
      answered = record {
        shape = (is.other, subst IsHead (sym is.begun) tt);
        place = subst (FaultPlace fault) (sym is.begun) is.place;
        fits = at_now (past.BadHeader fault) is.damage_is;
      };
      is = left;
    }

    -- so may a bad gate
    pub fails_gate : (fault : LogFault) → FailsGate damage who.cmd at.stage fault → e ≡ same_ending at → MayEnd who at (reply.BadHeader fault) e
    fails_gate fault is left = record {
      now = record at { stage = Marked };
      reached = comes_marked who at _ is.marks refl;
      answered = record { shape = (is.other, tt); place = is.place; fits = at_now (past.BadHeader fault) is.damage_is };
      is = left;
    }

    -- what was found where a slot is bad leaves the state
    bad_found : (n i : ℕ) (reason : Reason) (s : State) → DamageAllowed (past.BadSlot i reason) s → finds n s ≡ s
    bad_found n i reason (Bad origin d gate) is = refl
    bad_found n i reason (Sound p history pending) is = absurd is

    sound_found : (n i : ℕ) (reason : Reason) (p : Params) (history : List File) (pending : Option File) → DamageAllowed (past.BadSlot i reason) (finds n (Sound p history pending)) → ⊥
    sound_found n i reason p history pending is = both (n == length history) _ _ (λ none. none) (both (n == length history + 1) _ _ (λ none. none) (λ none. none)) is
      where
        both : (b : Bool) (s t : State) → (DamageAllowed (past.BadSlot i reason) s → ⊥) → (DamageAllowed (past.BadSlot i reason) t → ⊥)
            → DamageAllowed (past.BadSlot i reason) (if b then s else t) → ⊥
        both true s t no_s no_t is = no_s is
        both false s t no_s no_t is = no_t is

    found_bad : (n i : ℕ) (reason : Reason) (s : State) → DamageAllowed (past.BadSlot i reason) (finds n s) → DamageAllowed (past.BadSlot i reason) s
    found_bad n i reason (Bad origin d gate) is = is
    found_bad n i reason (Sound p history pending) is = absurd (sound_found n i reason p history pending is)

    -- a bad slot is told behind the mark, or behind what was found
    pub bad_slot : (i : ℕ) (reason : Reason) → MayEnd who at (reply.BadSlot i reason) e → FailsSlot damage who.cmd at.stage i reason × (e ≡ same_ending at)
    bad_slot i reason ends = by ends.now.stage refl ends.answered.shape.1
      where
        as_marked : ends.now.stage ≡ Marked → FailsSlot damage who.cmd at.stage i reason × (e ≡ same_ending at)
        as_marked is =
            let here = marked_of who at ends.now ends.reached is in (
              record {
                comes = inl here.0;
                other = ends.answered.shape.0;
                damage_is = of_now (past.BadSlot i reason) ends.now (ap (λ (p : Point). p.state) here.1) ends.answered.fits;
              },
              ends.is ∙ ap (ending_at (reply.BadSlot i reason)) here.1,
            )

        as_met : MeetsAtPoint who at ends.now → FailsSlot damage who.cmd at.stage i reason × (e ≡ same_ending at)
        as_met (told n met same) = (
          record {
            comes = inr (subst HasMet (sym met) tt);
            other = ends.answered.shape.0;
            damage_is = of_now (past.BadSlot i reason) ends.now (ap (λ (p : Point). p.state) same) ends.answered.fits;
          },
          ends.is ∙ ap (ending_at (reply.BadSlot i reason)) same,
        )
        as_met (untold n head wish found same) =
            let bad = found_bad n i reason at.state (subst (DamageAllowed (past.BadSlot i reason)) (ap (λ (p : Point). p.state) same) ends.answered.fits) in (
              record {
                comes = inl (head_marks at.stage head);
                other = ends.answered.shape.0;
                damage_is = own ∙ damage_told (past.BadSlot i reason) at.state bad;
              },
              ends.is ∙ ap (ending_at (reply.BadSlot i reason)) same
                  ∙ ap (λ (s : State). let k : EndingState = record { state = s; floor = at.floor; wrote = at.wrote } in k) (bad_found n i reason at.state bad),
            )
          where
            head_marks : (stage : CommandStage) → IsHead stage → MayMark stage
            head_marks Begun is = inl refl
            head_marks Marked is = inr refl
            head_marks (Met n) is = absurd is
            head_marks (Named seq) is = absurd is

        by : (stage : CommandStage) → ends.now.stage ≡ stage → HasReadGate stage → FailsSlot damage who.cmd at.stage i reason × (e ≡ same_ending at)
        by Begun is gate = absurd gate
        by Marked is gate = as_marked is
        by (Met n) is gate = as_met (met_of who at ends.now ends.reached (subst HasMet (sym is) tt))
        by (Named seq) is gate = absurd gate

    gate_found : (i : ℕ) (reason : Reason) (s : State) → DamageAllowed (past.BadSlot i reason) s → (n : ℕ) × Rattle.fam_journal.specs.Legal.FoundAllowed n s
    gate_found i reason (Bad origin d gate) is = (gate, subst (λ (b : Damage). FoundBad gate b gate) is refl)
    gate_found i reason (Sound p history pending) is = absurd is

    -- and where it is bad it may be told
    pub fails_slot : (i : ℕ) (reason : Reason) → FailsSlot damage who.cmd at.stage i reason → e ≡ same_ending at → MayEnd who at (reply.BadSlot i reason) e
    fails_slot i reason is left = by (wish_of who.cmd) refl is.comes
      where
        bad : DamageAllowed (past.BadSlot i reason) at.state
        bad = at_now (past.BadSlot i reason) is.damage_is

        as_is : (n : ℕ) → at.stage ≡ Met n → MayEnd who at (reply.BadSlot i reason) e
        as_is n met = record {
          now = at;
          reached = stands (λ begun. met_begun n (sym met ∙ begun)) refl;
          answered = record {
            shape = (is.other, subst HasReadGate (sym met) tt);
            place = subst (SlotPlace (wish_of who.cmd)) (sym met) (slot (wish_of who.cmd));
            fits = bad;
          };
          is = left;
        }
          where
            slot : (o : Option Wish) → SlotPlace o (Met n)
            slot None = tt
            slot (Some w) = tt

        by : (o : Option Wish) → wish_of who.cmd ≡ o → MayMark at.stage ⊎ HasMet at.stage → MayEnd who at (reply.BadSlot i reason) e
        by o wished (inr met) = let there = has_met at.stage met in as_is there.0 there.1
        by None wished (inl marks) = record {
          now = record at { stage = Marked };
          reached = comes_marked who at _ marks refl;
          answered = record { shape = (is.other, tt); place = subst (λ (o : Option Wish). SlotPlace o Marked) (sym wished) tt; fits = bad };
          is = left;
        }
        by (Some w) wished (inl marks) =
            let gate = gate_found i reason at.state bad in
            record {
              now = found_at gate.0 at;
              reached = meets (untold gate.0 (head marks) (w, wished) gate.1 refl);
              answered = record {
                shape = (is.other, tt);
                place = subst (λ (o : Option Wish). SlotPlace o (Met gate.0)) (sym wished) tt;
                fits = subst (DamageAllowed (past.BadSlot i reason)) (sym (bad_found gate.0 i reason at.state bad)) bad;
              };
              is = left ∙ ap (λ (s : State). let k : EndingState = record { state = s; floor = at.floor; wrote = at.wrote } in k) (sym (bad_found gate.0 i reason at.state bad));
            }
          where
            head : MayMark at.stage → IsHead at.stage
            head (inl begun) = subst IsHead (sym begun) tt
            head (inr here) = subst IsHead (sym here) tt
