-- A reply leads from a state just where its host's command may be answered so, and to what is left then.
use Prim.Native.Nat.{zero, suc}
use Rattle.std.proofs.Common.{◌≡◌, ℕ, List, [], ◌∷◌, Option, Some, None, refl, ap, ap₂, sym, ◌∙◌, subst}
use Rattle.std.specs.Prelude.{option_map, slice_get}
use Rattle.std.proofs.lemmas.Option.{same_Some}
use Rattle.fam_base.specs.declared.entry.Entry.{Entry}
use Rattle.fam_base.specs.Image.{Image}
use Rattle.fam_commands.specs.Appends.{HasWish}
use Rattle.fam_journal.specs.Legal.{OfHost, WritesAllowed}
use Rattle.fam_journal.specs.Members.{changed_at}
use Rattle.fam_journal.specs.Notes.{Answered, Found, Replied, Writes}
use Rattle.fam_journal.specs.Past as past
use Rattle.fam_journal.specs.Past.{HostPast, State, filled_bytes, pends}
use Rattle.fam_journal.specs.Shapes.{Begun, IsHead, Marked, Met, OfRunning, TaskNote, TaskShape}
use Rattle.fam_judge.specs.Fitting.{AnswerFits}
use Rattle.fam_judge.specs.Formed.{AnswerPlace}
use Rattle.fam_judge.specs.Possible as possible
use Rattle.fam_judge.specs.Possible.{MeetsEntries, Possible, Progress, Reaches, StageIs, StepsTo, Wrote, after_note, past_in, shapes_in, shown_met, left_out_met, after_mark, without_mark}
use Rattle.fam_judge.proofs.Places.{changed_is, changed_twice, of_told, running_at, runs_at, told_at as told_of}
use Rattle.fam_rules.specs.Reply.{Reply}
use Rattle.fam_judging.specs.Replies.{Asker, EndingState, MayEnd, MeetsAtPoint, Point, ReachesPoint, possible_behind_answer, ending_at, found_at, marked}
use Rattle.fam_judging.specs.Replies.{meets, named_at, names, progress_at, progress_behind, stands, told, told_at, unmarked, untold}

-- a member that changes to what doesn't depend on it
changed_to : {A : Type 0} (h : ℕ) (f : A → A) (xs : List A) (x y : A) → slice_get xs h ≡ Some x → f x ≡ y → changed_at h f xs ≡ changed_at h (λ z. y) xs
changed_to h f [] x y is same = refl
changed_to zero f (z ∷ xs) x y is same = ap (λ w. w ∷ xs) (ap f (same_Some z x is) ∙ same)
changed_to (suc h) f (z ∷ xs) x y is same = ap (λ l. z ∷ l) (changed_to h f xs x y is same)

module _ (start : Image) (x : Possible) (h : ℕ) (who : Asker) where
  -- the state where the command has come to this point
  pub record IsNow (p : Point) (now : Possible) : Type 0 where
    pub there : slice_get now.hosts h ≡ Some (progress_at who p)
    pub state : now.state ≡ p.state
    pub others : (q : Progress) → changed_at h (λ z. q) now.hosts ≡ changed_at h (λ z. q) x.hosts

  -- a state whose host changes
  changes : (p : Point) (now : Possible) (f : Progress → Progress) (next : Point) (state : State) → IsNow p now → f (progress_at who p) ≡ progress_at who next → state ≡ next.state
      → IsNow next (record { state = state; hosts = changed_at h f now.hosts })
  changes p now f next state at is same = record {
    there = changed_is h f now.hosts (progress_at who p) at.there ∙ ap Some is;
    state = same;
    others = λ q. changed_twice h f (λ z. q) now.hosts ∙ at.others q;
  }

  -- a fact of the running command
  task_of : (p : Point) (now : Possible) → IsNow p now → (P : List ℕ → TaskShape → Type 0) → OfRunning (slice_get (shapes_in now) h) P → P who.uuid (record { cmd = who.cmd; stage = p.stage })
  task_of p now at P is =
      let runs = running_at now h P is in
      let same : progress_at who p ≡ runs.host = same_Some _ _ (sym at.there ∙ runs.is) in
      let task : record { cmd = who.cmd; stage = p.stage } ≡ runs.task = same_Some _ _ (ap (λ (k : Progress). k.shape.task) same ∙ runs.runs) in
      subst (λ (t : TaskShape). P who.uuid t) (sym task) (subst (λ (k : Progress). P k.shape.uuid runs.task) (sym same) runs.holds)

  task_in : (p : Point) (now : Possible) → IsNow p now → (P : List ℕ → TaskShape → Type 0) → P who.uuid (record { cmd = who.cmd; stage = p.stage }) → OfRunning (slice_get (shapes_in now) h) P
  task_in p now at P is = runs_at now h P (progress_at who p) (record { cmd = who.cmd; stage = p.stage }) at.there refl is

  past_of : (p : Point) (now : Possible) → IsNow p now → (P : HostPast → State → Type 0) → OfHost (slice_get (past_in start now).hosts h) (λ host. P host now.state) → P (told_at who p) p.state
  past_of p now at P is = subst (P (told_at who p)) at.state (told_of start now h (λ host. P host now.state) (progress_at who p) at.there is)

  past_is : (p : Point) (now : Possible) → IsNow p now → (P : HostPast → State → Type 0) → P (told_at who p) p.state → OfHost (slice_get (past_in start now).hosts h) (λ host. P host now.state)
  past_is p now at P is = of_told start now h (λ host. P host now.state) (progress_at who p) at.there (subst (P (told_at who p)) (sym at.state) is)

  -- found entries
  finds_now : (n : ℕ) (p : Point) (now : Possible) → IsNow p now → IsNow (found_at n p) (after_note start now (Found h n))
  finds_now n p now at = changes p now _ (found_at n p) _ at refl (ap (past.finds n) at.state)

  -- a named entry
  pends_now : (seq : ℕ) (entry : Entry) (p : Point) (now : Possible) → IsNow p now → IsNow (named_at who seq entry p) (after_note start now (Writes h seq entry))
  pends_now seq entry p now at = changes p now _ (named_at who seq entry p) _ at refl
      (ap₂ (λ (c : Option Rattle.fam_base.specs.declared.cmd.Cmd.Cmd) (s : State). pends (record { entry = entry; bytes = filled_bytes c entry.size }) s)
      (ap past.cmd_of (Rattle.std.proofs.lemmas.Option.slice_get-map (λ (k : Progress). k.told) now.hosts h ∙ ap (option_map (λ (k : Progress). k.told)) at.there)) at.state)

  module _ (at : Point) (own : IsNow at x) where
    -- a point of these facts, and its state
    record MetNow (met : Possible) : Type 0 where
      pub point : Point
      pub meets : MeetsAtPoint who at point
      pub now : IsNow point met

    met_of : (met : Possible) → MeetsEntries start h x met → MetNow met
    met_of met (shown_met n is e) = record {
      point = at;
      meets = told n (task_of at x own (λ me t. t.stage ≡ Met n) is) refl;
      now = subst (IsNow at) (sym e) own;
    }
    met_of met (left_out_met n head wish found e) = record {
      point = found_at n at;
      meets = untold n (task_of at x own (λ me t. IsHead t.stage) head) (task_of at x own (λ me t. HasWish t.cmd) wish) (subst (Rattle.fam_journal.specs.Legal.FoundAllowed n) own.state found) refl;
      now = subst (IsNow (found_at n at)) (sym e) (finds_now n at x own);
    }

    record MetState (point : Point) : Type 0 where
      pub met : Possible
      pub meets : MeetsEntries start h x met
      pub now : IsNow point met

    met_is : (point : Point) → MeetsAtPoint who at point → MetState point
    met_is point (told n is e) = record {
      met = x;
      meets = shown_met n (task_in at x own (λ me t. t.stage ≡ Met n) is) refl;
      now = subst (λ (p : Point). IsNow p x) (sym e) own;
    }
    met_is point (untold n head wish found e) = record {
      met = after_note start x (Found h n);
      meets = left_out_met n (task_in at x own (λ me t. IsHead t.stage) head) (task_in at x own (λ me t. HasWish t.cmd) wish) (subst (Rattle.fam_journal.specs.Legal.FoundAllowed n)
          (sym own.state) found) refl;
      now = subst (λ (p : Point). IsNow p (after_note start x (Found h n))) (sym e) (finds_now n at x own);
    }

    record ReachedNow (now : Possible) : Type 0 where
      pub point : Point
      pub reached : ReachesPoint who at point
      pub is : IsNow point now

    reached_of : (now : Possible) → Reaches start h x now → ReachedNow now
    reached_of now (possible.unmarked begun e) = record {
      point = record at { floor = None };
      reached = unmarked (task_of at x own (λ me t. t.stage ≡ Begun) begun) refl;
      is = subst (IsNow _) (sym e) (changes at x _ (record at { floor = None }) _ own refl own.state);
    }
    reached_of now (possible.marked begun e) = record {
      point = record at { stage = Marked };
      reached = marked (task_of at x own (λ me t. t.stage ≡ Begun) begun) refl;
      is = subst (IsNow _) (sym e) (changes at x _ (record at { stage = Marked }) _ own refl own.state);
    }
    reached_of now (possible.stands e none) = record {
      point = at;
      reached = stands (λ begun. none (task_in at x own (λ me t. t.stage ≡ Begun) begun)) refl;
      is = subst (IsNow at) (sym e) own;
    }
    reached_of now (possible.meets is) = let met = met_of now is in record { point = met.point; reached = meets met.meets; is = met.now }
    reached_of now (possible.wrote is) =
        let met = met_of is.met is.meets in
        let may = task_of met.point is.met met.now (λ me t. TaskNote h me t (Writes h is.seq is.entry)) is.may in
        record {
          point = named_at who is.seq is.entry met.point;
          reached = names (record {
            met = met.point;
            meets = met.meets;
            seq = is.seq;
            entry = is.entry;
            shape = may.1;
            stage = may.2;
            writes = past_of met.point is.met met.now (λ host state. WritesAllowed is.seq is.entry host state) is.fits;
            is = refl;
          });
          is = subst (IsNow _) (sym is.is) (pends_now is.seq is.entry met.point is.met met.now);
        }

    record ReachedState (point : Point) : Type 0 where
      pub now : Possible
      pub reaches : Reaches start h x now
      pub is : IsNow point now

    reached_is : (point : Point) → ReachesPoint who at point → ReachedState point
    reached_is point (unmarked begun e) = record {
      now = without_mark h x;
      reaches = possible.unmarked (task_in at x own (λ me t. t.stage ≡ Begun) begun) refl;
      is = subst (λ (p : Point). IsNow p (without_mark h x)) (sym e) (changes at x _ (record at { floor = None }) _ own refl own.state);
    }
    reached_is point (marked begun e) = record {
      now = after_mark h x;
      reaches = possible.marked (task_in at x own (λ me t. t.stage ≡ Begun) begun) refl;
      is = subst (λ (p : Point). IsNow p (after_mark h x)) (sym e) (changes at x _ (record at { stage = Marked }) _ own refl own.state);
    }
    reached_is point (stands none e) = record {
      now = x;
      reaches = possible.stands refl (λ begun. none (task_of at x own (λ me t. t.stage ≡ Begun) begun));
      is = subst (λ (p : Point). IsNow p x) (sym e) own;
    }
    reached_is point (meets is) = let met = met_is point is in record { now = met.met; reaches = possible.meets met.meets; is = met.now }
    reached_is point (names is) =
        let met = met_is is.met is.meets in
        record {
          now = after_note start met.met (Writes h is.seq is.entry);
          reaches = possible.wrote (record {
            met = met.met;
            meets = met.meets;
            seq = is.seq;
            entry = is.entry;
            may = task_in is.met met.met met.now (λ me t. TaskNote h me t (Writes h is.seq is.entry)) (refl, is.shape, is.stage);
            fits = past_is is.met met.met met.now (λ host state. WritesAllowed is.seq is.entry host state) is.writes;
            is = refl;
          });
          is = subst (λ (p : Point). IsNow p (after_note start met.met (Writes h is.seq is.entry))) (sym is.is) (pends_now is.seq is.entry is.met met.met met.now);
        }

    module _ (given : Reply) where
      -- what is left
      left : (p : Point) (now : Possible) → IsNow p now → after_note start now (Answered h (Replied given)) ≡ possible_behind_answer x h who given (ending_at given p)
      left p now is =
          ap₂ (λ (s : State) (hosts : List Progress). let y : Possible = record { state = s; hosts = hosts } in y) (ap (past.replied given) is.state)
          (changed_to h _ now.hosts (progress_at who p) (progress_behind who given (ending_at given p)) is.there refl ∙ is.others (progress_behind who given (ending_at given p)))

      -- what a reply leads to
      pub record LeftBehind (z : Possible) : Type 0 where
        pub ending : EndingState
        pub ends : MayEnd who at given ending
        pub is : z ≡ possible_behind_answer x h who given ending

      -- a step of a reply ends the command
      pub step_ends : (z : Possible) → StepsTo start x (Answered h (Replied given)) z → LeftBehind z
      step_ends z steps =
          let r = reached_of steps.now steps.reaches in
          record {
            ending = ending_at given r.point;
            ends = record {
              now = r.point;
              reached = r.reached;
              answered = record {
                shape = (task_of r.point steps.now r.is (λ me t. TaskNote h me t (Answered h (Replied given))) steps.may.0).1;
                place = task_of r.point steps.now r.is (λ me t. AnswerPlace t.cmd t.stage (Replied given)) steps.may.1;
                fits = past_of r.point steps.now r.is (λ host state. AnswerFits (Replied given) host state) steps.fits;
              };
              is = refl;
            };
            is = steps.is ∙ left r.point steps.now r.is;
          }

      -- and where it may be answered so there is one
      pub ends_step : (e : EndingState) → MayEnd who at given e → StepsTo start x (Answered h (Replied given)) (possible_behind_answer x h who given e)
      ends_step e ends =
          let r = reached_is ends.now ends.reached in
          record {
            now = r.now;
            reaches = r.reaches;
            may = (
              task_in ends.now r.now r.is (λ me t. TaskNote h me t (Answered h (Replied given))) (refl, ends.answered.shape),
              task_in ends.now r.now r.is (λ me t. AnswerPlace t.cmd t.stage (Replied given)) ends.answered.place,
            );
            fits = past_is ends.now r.now r.is (λ host state. AnswerFits (Replied given) host state) ends.answered.fits;
            is = ap (possible_behind_answer x h who given) ends.is ∙ sym (left ends.now r.now r.is);
          }
