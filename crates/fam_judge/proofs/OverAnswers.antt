-- A reply that follows what a journal comes to follows a state that allows no less.
use Rattle.std.proofs.Common.{◌≡◌, ◌⊎◌, inl, inr, ℕ, List, Some, None, refl, ap, sym, ◌∙◌, subst}
use Rattle.std.specs.Prelude.{option_map, slice_get}
use Rattle.fam_base.specs.declared.cmd.Cmd.{Cmd}
use Rattle.fam_base.specs.Image.{Image}
use Rattle.fam_rules.specs.declared.answers.Refused.{Refused as Cause}
use Rattle.fam_rules.specs.Reply as reply
use Rattle.fam_rules.specs.Reply.{Reply}
use Rattle.fam_journal.specs.Members.{changed_at}
use Rattle.fam_journal.specs.Notes.{Answer, Replied, Answered, Found}
use Rattle.fam_journal.specs.Past.{State, reply_count}
use Rattle.fam_journal.specs.Shapes.{Begun, CommandStage, HasMet, IsHead, Marked, Met, Named, OfRunning, ReplyShape, TaskNote, TaskShape, with_stage}
use Rattle.fam_judge.specs.Covering.{Direct, FloorUnder, StagesOver, StateOver, same}
use Rattle.fam_judge.specs.Fitting.{AnswerFits, FitsNext, ReplyFits}
use Rattle.fam_judge.specs.Formed.{AnswerPlace, HasPlace, ReplyPlace}
use Rattle.fam_judge.specs.Possible.{Possible, Progress, Reaches, after_note, marked, meets, past_in, shapes_in, stands, unmarked, left_out_met, after_mark, without_mark}
use Rattle.fam_judge.proofs.MetReplies.{Target, counted_marked, decided_met, met_target, place_met, shape_met}
use Rattle.fam_judge.proofs.OverFits.{ReplyOver, reply_over}
use Rattle.fam_judge.proofs.OverHosts.{Later, no_later}
use Rattle.fam_judge.proofs.OverOwn.{Both, found_later, marked_begun, met_begun, named_begun, not_begun}
use Rattle.fam_judge.proofs.Places.{changed_is, of_told, runs_at}
use Rattle.fam_judge.proofs.Replies.{IsDecline}
use Rattle.fam_commands.specs.Appends.{HasWish}
use Rattle.fam_judge.proofs.Members.{changed_same}

-- How far a command has come.

-- a change of a host that leaves who it is
pub record Same (f : Progress → Progress) : Type 0 where
  pub names : (p : Progress) → (f p).shape.name ≡ p.shape.name
  pub uuids : (p : Progress) → (f p).shape.uuid ≡ p.shape.uuid
  pub keeps : (p : Progress) → (f p).shape.keeps ≡ p.shape.keeps
  pub own : (p : Progress) → (f p).told.uuid ≡ p.told.uuid
  pub cmds : (p : Progress) → (f p).told.cmd ≡ p.told.cmd

-- the first state with the command as far as in the second one
pub record Comes (start : Image) (x c : Possible) (h : ℕ) (me : List ℕ) (answer : Answer) : Type 0 where
  pub now : Possible
  pub reaches : Reaches start h x now
  pub change : Progress → Progress
  pub same : Same change
  pub hosts : now.hosts ≡ changed_at h change x.hosts
  pub state : StateOver now.state c.state
  pub later : Later x.state now.state
  pub may : OfRunning (slice_get (shapes_in now) h) (λ me t. TaskNote h me t (Answered h answer))
  pub placed : HasPlace (shapes_in now) (Answered h answer)
  pub fits : FitsNext (past_in start now) (Answered h answer)

module _ (start : Image) (x c : Possible) (d : Direct x c) (h : ℕ) (given : Reply)
    (both : Both x c h (λ me t. TaskNote h me t (Answered h (Replied given))))
    (place : ReplyPlace both.other_task.cmd both.other_task.stage given) (fits : ReplyFits given both.other.told c.state) where
  abbrev me : List ℕ
  me = both.other.shape.uuid

  -- the answer of a command that has come to a stage
  module _ (now : Possible) (f : Progress → Progress) (like : Same f) (there : slice_get now.hosts h ≡ Some (f both.host)) (task : TaskShape)
      (runs : (f both.host).shape.task ≡ Some task) (cmd : task.cmd ≡ both.task.cmd) where
    shape_there : ReplyShape me both.other_task.cmd task.stage given → OfRunning (slice_get (shapes_in now) h) (λ me t. TaskNote h me t (Answered h (Replied given)))
    shape_there shape =
        runs_at now h (λ me t. TaskNote h me t (Answered h (Replied given))) (f both.host) task there runs (
          refl,
          subst (λ (k : Cmd). ReplyShape (f both.host).shape.uuid k task.stage given) (sym (cmd ∙ both.cmd))
              (subst (λ (u : List ℕ). ReplyShape u both.other_task.cmd task.stage given) (sym (like.uuids both.host ∙ both.over.uuid)) shape),
        )

    place_there : ReplyPlace both.other_task.cmd task.stage given → HasPlace (shapes_in now) (Answered h (Replied given))
    place_there place =
        runs_at now h (λ me t. AnswerPlace t.cmd t.stage (Replied given)) (f both.host) task there runs
        (subst (λ (k : Cmd). ReplyPlace k task.stage given) (sym (cmd ∙ both.cmd)) place)

    fits_there : StateOver now.state c.state → ReplyOver (f both.host).told both.other.told ((like.cmds both.host) ∙ both.over.told_cmd) given now.state c.state
        → FitsNext (past_in start now) (Answered h (Replied given))
    fits_there over needs =
        of_told start now h (λ host. AnswerFits (Replied given) host now.state) (f both.host) there
        (reply_over (f both.host).told both.other.told (like.cmds both.host ∙ both.over.told_cmd) given now.state c.state over (like.own both.host ∙ both.over.told_uuid) needs fits)

  shape : ReplyShape me both.other_task.cmd both.other_task.stage given
  shape = both.holds.1

  -- nothing is decided before entries are found
  no_decline : (stage : CommandStage) → both.other_task.stage ≡ stage → (HasMet stage → ⊥) → (why : Cause) → given ≡ reply.NotAppended why → IsDecline why → c.state ≡ c.state
      → ⊥
  no_decline stage is none why e decline same_state =
      none (subst HasMet is (decided_met me both.other_task.stage why decline (subst (λ (r : Reply). ReplyShape me both.other_task.cmd both.other_task.stage r) e shape).1))

  no_append : (stage : CommandStage) → both.other_task.stage ≡ stage → ((seq : ℕ) → stage ≡ Named seq → ⊥) → (seq : ℕ) → given ≡ reply.Appended seq → ⊥
  no_append stage is none seq e = none seq (sym is ∙ subst (λ (r : Reply). ReplyShape me both.other_task.cmd both.other_task.stage r) e shape)

  no_count : (stage : CommandStage) → both.other_task.stage ≡ stage → (stage ≡ Marked → ⊥) → (m : ℕ) → reply_count given ≡ Some m → ⊥
  no_count stage is none m e = none (sym is ∙ counted_marked me both.other_task.cmd both.other_task.stage given m shape e)

  begun_named : (seq : ℕ) → Begun ≡ Named seq → ⊥
  begun_named seq e = cc

  marked_named : (seq : ℕ) → Marked ≡ Named seq → ⊥
  marked_named seq e = cc

  met_named : (n seq : ℕ) → Met n ≡ Named seq → ⊥
  met_named n seq e = cc

  begun_marked : Begun ≡ Marked → ⊥
  begun_marked e = cc

  met_marked : (n : ℕ) → Met n ≡ Marked → ⊥
  met_marked n e = cc

  named_marked : (n : ℕ) → Named n ≡ Marked → ⊥
  named_marked n e = cc

  same_id : Same (λ p. p)
  same_id = record { names = λ p. refl; uuids = λ p. refl; keeps = λ p. refl; own = λ p. refl; cmds = λ p. refl }

  -- it has begun
  from_begun : both.task.stage ≡ Begun → both.other_task.stage ≡ Begun → Comes start x c h me (Replied given)
  from_begun begun is =
      let f : Progress → Progress = λ p. record p { told = record p.told { floor = None } } in
      let like : Same f = record { names = λ p. refl; uuids = λ p. refl; keeps = λ p. refl; own = λ p. refl; cmds = λ p. refl } in
      let now = without_mark h x in
      let there : slice_get now.hosts h ≡ Some (f both.host) = changed_is h f x.hosts both.host both.is in
      record {
        now = now;
        reaches = unmarked (runs_at x h (λ me t. t.stage ≡ Begun) both.host both.task both.is both.runs begun) refl;
        change = f;
        same = like;
        hosts = refl;
        state = d.state;
        later = no_later x.state;
        may = shape_there now f like there both.task both.runs refl (subst (λ (s : CommandStage). ReplyShape me both.other_task.cmd s given) (is ∙ sym begun) shape);
        placed = place_there now f like there both.task both.runs refl (subst (λ (s : CommandStage). ReplyPlace both.other_task.cmd s given) (is ∙ sym begun) place);
        fits = fits_there now f like there both.task both.runs refl d.state (record {
          wrote = λ seq e. absurd (no_append Begun is begun_named seq e);
          decided = λ why e decline. absurd (no_decline Begun is (λ none. none) why e decline refl);
          under = λ m e. absurd (no_count Begun is begun_marked m e);
        });
      }

  -- the mark was told, or not
  from_mark : (now : Possible) (f : Progress → Progress) → Same f → now.hosts ≡ changed_at h f x.hosts → now.state ≡ x.state → slice_get now.hosts h ≡ Some (f both.host)
      → (task : TaskShape) → (f both.host).shape.task ≡ Some task → task.cmd ≡ both.task.cmd → task.stage ≡ Marked → Reaches start h x now
      → both.other_task.stage ≡ Marked → FloorUnder (f both.host).told.floor both.other.told.floor → Comes start x c h me (Replied given)
  from_mark now f like hosts state there task runs cmd at_mark reaches is under = record {
    now = now;
    reaches = reaches;
    change = f;
    same = like;
    hosts = hosts;
    state = subst (λ (s : State). StateOver s c.state) (sym state) d.state;
    later = subst (λ (s : State). Later x.state s) (sym state) (no_later x.state);
    may = shape_there now f like there task runs cmd (subst (λ (s : CommandStage). ReplyShape me both.other_task.cmd s given) (is ∙ sym at_mark) shape);
    placed = place_there now f like there task runs cmd (subst (λ (s : CommandStage). ReplyPlace both.other_task.cmd s given) (is ∙ sym at_mark) place);
    fits = fits_there now f like there task runs cmd (subst (λ (s : State). StateOver s c.state) (sym state) d.state) (record {
      wrote = λ seq e. absurd (no_append Marked is marked_named seq e);
      decided = λ why e decline. absurd (no_decline Marked is (λ none. none) why e decline refl);
      under = λ m e. under;
    });
  }

  -- it has found entries
  from_met : (n : ℕ) (now : Possible) (f : Progress → Progress) → Same f → now.hosts ≡ changed_at h f x.hosts → now.state ≡ c.state → Later x.state now.state
      → slice_get now.hosts h ≡ Some (f both.host)
      → (task : TaskShape) → (f both.host).shape.task ≡ Some task → task.cmd ≡ both.task.cmd → (m : ℕ) → task.stage ≡ Met m → Reaches start h x now
      → both.other_task.stage ≡ Met n → Comes start x c h me (Replied given)
  from_met n now f like hosts state later there task runs cmd m met reaches is =
      record {
        now = now;
        reaches = reaches;
        change = f;
        same = like;
        hosts = hosts;
        state = same (sym state);
        later = later;
        may = shape_there now f like there task runs cmd
            (subst (λ (s : CommandStage). ReplyShape me both.other_task.cmd s given) (sym met)
            (shape_met me both.other_task.cmd m n given (subst (λ (s : CommandStage). ReplyShape me both.other_task.cmd s given) is shape)));
        placed = place_there now f like there task runs cmd
            (subst (λ (s : CommandStage). ReplyPlace both.other_task.cmd s given) (sym met)
            (place_met both.other_task.cmd m n given (subst (λ (s : CommandStage). ReplyPlace both.other_task.cmd s given) is place)));
        fits = fits_there now f like there task runs cmd (same (sym state)) (record {
          wrote = λ seq e. absurd (no_append (Met n) is (met_named n) seq e);
          decided = λ why e decline. sym state;
          under = λ k e. absurd (no_count (Met n) is (met_marked n) k e);
        });
      }

  target : (n : ℕ) → both.other_task.stage ≡ Met n → Target both.other.told x.state c.state
  target n is =
      met_target me both.other_task.cmd n given both.other.told x.state c.state (subst (λ (s : CommandStage). ReplyShape me both.other_task.cmd s given) is shape)
      (subst (λ (s : CommandStage). ReplyPlace both.other_task.cmd s given) is place) fits d.state

  -- it wants to append, since it found entries: what it is answered says so
  met_wishes : (n : ℕ) → both.other_task.stage ≡ Met n → HasWish both.other_task.cmd → both.task.stage ≡ Begun ⊎ (both.task.stage ≡ Marked)
      → Comes start x c h me (Replied given)
  met_wishes n is wish head =
      let t = target n is in
      let f : Progress → Progress = λ p. record p { shape = with_stage (Met t.count) p.shape } in
      let like : Same f = record { names = λ p. refl; uuids = λ p. refl; keeps = λ p. refl; own = λ p. refl; cmds = λ p. refl } in
      let now = after_note start x (Found h t.count) in
      let there : slice_get now.hosts h ≡ Some (f both.host) = changed_is h f x.hosts both.host both.is in
      from_met n now f like refl t.comes (found_later t.count x.state t.found) there (record both.task { stage = Met t.count })
      (ap (option_map (λ (k : TaskShape). record k { stage = Met t.count })) both.runs) refl t.count refl
      (meets (left_out_met t.count (runs_at x h (λ me t. IsHead t.stage) both.host both.task both.is both.runs (heads head))
      (runs_at x h (λ me t. HasWish t.cmd) both.host both.task both.is both.runs (subst HasWish (sym both.cmd) wish)) t.found refl)) is
    where
      heads : both.task.stage ≡ Begun ⊎ (both.task.stage ≡ Marked) → IsHead both.task.stage
      heads (inl e) = subst IsHead (sym e) tt
      heads (inr e) = subst IsHead (sym e) tt

  stands_by : (both.task.stage ≡ Begun → ⊥) → Reaches start h x x
  stands_by ne = stands refl (not_begun x h both.host both.task both.is both.runs ne)

  -- it has named an entry
  from_named : (k : ℕ) → both.task.stage ≡ Named k → both.other_task.stage ≡ Named k → both.host.told.wrote ≡ both.other.told.wrote → Comes start x c h me (Replied given)
  from_named k named is wrote = record {
    now = x;
    reaches = stands_by (λ e. named_begun k (sym named ∙ e));
    change = λ p. p;
    same = same_id;
    hosts = sym (unchanged h x.hosts);
    state = d.state;
    later = no_later x.state;
    may = shape_there x (λ p. p) same_id both.is both.task both.runs refl (subst (λ (s : CommandStage). ReplyShape me both.other_task.cmd s given) (is ∙ sym named) shape);
    placed = place_there x (λ p. p) same_id both.is both.task both.runs refl (subst (λ (s : CommandStage). ReplyPlace both.other_task.cmd s given) (is ∙ sym named) place);
    fits = fits_there x (λ p. p) same_id both.is both.task both.runs refl d.state (record {
      wrote = λ seq e. wrote;
      decided = λ why e decline. absurd (no_decline (Named k) is (λ none. none) why e decline refl);
      under = λ m e. absurd (no_count (Named k) is (named_marked k) m e);
    });
  }
    where
      unchanged : (h : ℕ) (xs : List Progress) → changed_at h (λ p. p) xs ≡ xs
      unchanged h xs = changed_same h (λ p. p) xs (λ p is. refl)

  at_begun : (a : CommandStage) → both.task.stage ≡ a → both.other_task.stage ≡ Begun → StagesOver x.state a Begun both.host.told both.other.told
      → Comes start x c h me (Replied given)
  at_begun Begun e is stages = from_begun e is
  at_begun Marked e is stages = absurd stages
  at_begun (Met n) e is stages = absurd stages
  at_begun (Named seq) e is stages = absurd stages

  at_marked : (a : CommandStage) → both.task.stage ≡ a → both.other_task.stage ≡ Marked → StagesOver x.state a Marked both.host.told both.other.told
      → Comes start x c h me (Replied given)
  at_marked Begun e is stages =
      let f : Progress → Progress = λ p. record p { shape = with_stage Marked p.shape } in
      let like : Same f = record { names = λ p. refl; uuids = λ p. refl; keeps = λ p. refl; own = λ p. refl; cmds = λ p. refl } in
      from_mark (after_mark h x) f like refl refl (changed_is h f x.hosts both.host both.is) (record both.task { stage = Marked })
      (ap (option_map (λ (k : TaskShape). record k { stage = Marked })) both.runs) refl refl
      (marked (runs_at x h (λ me t. t.stage ≡ Begun) both.host both.task both.is both.runs e) refl) is stages
  at_marked Marked e is stages =
      from_mark x (λ p. p) same_id (sym (changed_same h (λ p. p) x.hosts (λ p is. refl))) refl both.is both.task both.runs refl e
      (stands_by (λ begun. marked_begun (sym e ∙ begun))) is stages
  at_marked (Met n) e is stages = absurd stages
  at_marked (Named seq) e is stages = absurd stages

  at_met : (n : ℕ) (a : CommandStage) → both.task.stage ≡ a → both.other_task.stage ≡ Met n → HasWish both.other_task.cmd
      → StagesOver x.state a (Met n) both.host.told both.other.told → Comes start x c h me (Replied given)
  at_met n Begun e is wish stages = met_wishes n is wish (inl e)
  at_met n Marked e is wish stages = met_wishes n is wish (inr e)
  at_met n (Met m) e is wish stages =
      let state : x.state ≡ c.state = (target n is).alone (λ master. stages.1 (master ∙ ap Some (sym both.over.told_uuid))) in
      from_met n x (λ p. p) same_id (sym (changed_same h (λ p. p) x.hosts (λ p is. refl))) state (no_later x.state) both.is both.task both.runs refl m e
      (stands_by (λ begun. met_begun m (sym e ∙ begun))) is
  at_met n (Named k) e is wish stages = absurd stages

  at_named : (k : ℕ) (a : CommandStage) → both.task.stage ≡ a → both.other_task.stage ≡ Named k → StagesOver x.state a (Named k) both.host.told both.other.told
      → Comes start x c h me (Replied given)
  at_named k Begun e is stages = absurd stages
  at_named k Marked e is stages = absurd stages
  at_named k (Met n) e is stages = absurd stages
  at_named k (Named j) e is stages = from_named k (e ∙ ap Named stages.0) is stages.1

  -- by how far the command has come
  pub comes : ((n : ℕ) → both.other_task.stage ≡ Met n → HasWish both.other_task.cmd) → Comes start x c h me (Replied given)
  comes wish = by both.other_task.stage refl both.stages
    where
      by : (b : CommandStage) → both.other_task.stage ≡ b → StagesOver x.state both.task.stage b both.host.told both.other.told → Comes start x c h me (Replied given)
      by Begun is stages = at_begun both.task.stage refl is stages
      by Marked is stages = at_marked both.task.stage refl is stages
      by (Met n) is stages = at_met n both.task.stage refl is (wish n is) stages
      by (Named k) is stages = at_named k both.task.stage refl is stages
