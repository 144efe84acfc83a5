-- A line that tells nothing of an entry that was named follows a state that hasn't named it yet: it needn't name it there.
use Rattle.std.proofs.Common.{◌≡◌, ◌≢◌, ◌⊎◌, ◌+◌, ◌≤◌, inl, inr, ℕ, Bool, true, false, List, [], ◌∷◌, ◌++◌, length, map, Option, Some, None, refl, ap, sym, ◌∙◌, subst, arith}
use Rattle.std.specs.Prelude.{is_some, option_map, slice_get}
use Rattle.std.proofs.lemmas.Bool.{cases_eq}
use Rattle.std.proofs.lemmas.Option.{same_Some, slice_get-map, slice_get_within}
use Rattle.fam_base.specs.declared.cmd.Cmd.{Cmd}
use Rattle.fam_base.specs.Image.{Image}
use Rattle.fam_rules.specs.Asks.{File}
use Rattle.fam_journal.specs.declared.refusal.Refusal.{Refusal}
use Rattle.fam_journal.specs.Legal.{FoundAllowed, WritesAllowed}
use Rattle.fam_journal.specs.Members.{changed_at}
use Rattle.fam_journal.specs.Notes.{Answer, Note, Host, Made, Cut, Start, Mark, Found, Writes, Answered, Stop, Halt, Umount, Refused}
use Rattle.fam_journal.specs.Past.{HostPast, Sound, State, cmd_of, ended_state, finds, pends, settled_length, shows_count}
use Rattle.fam_journal.specs.Shapes.{Begun, CommandStage, HostShape, Marked, Met, Named, TaskNote, TaskShape, with_stage}
use Rattle.fam_journal.proofs.Calls.Members.{changed_here, changed_other}
use Rattle.fam_judge.specs.Covering.{Direct, FloorUnder, HostOver, Late, StagesOver, StateOver, TasksOver, late}
use Rattle.fam_judge.specs.Fitting.{AnswerFits, FitsNext}
use Rattle.fam_judge.specs.Formed.{AnswerPlace}
use Rattle.fam_judge.specs.Possible.{Elsewhere, Possible, Progress, StepsTo, after_note, new_progress, past_in, answer_settles, shapes_in}
use Rattle.fam_judge.specs.Standing.{Face, MayStand, OfFace, engaged_in, face, faces, is_own}
use Rattle.fam_judge.proofs.Completing.{over_apart}
use Rattle.fam_judge.proofs.Folding.{shape_in}
use Rattle.fam_judge.proofs.Goodness.{Each, Wishful}
use Rattle.fam_judge.proofs.Members.{changed_append, changed_apart, changed_same, front_member, map_changed}
use Rattle.fam_judge.proofs.Over.{over_hidden, over_settled}
use Rattle.fam_judge.proofs.OverHidden.{one_side, task_of}
use Rattle.fam_judge.proofs.OverHosts.{IsApart, one_place}
use Rattle.fam_judge.proofs.OverLate.{late_writes, naming, other_runs, own_at, runs_pre, says, task_there, there, at_other}
use Rattle.fam_judge.proofs.OverLines.{MetWish, line_follows}
use Rattle.fam_judge.proofs.OverOwn.{FollowsIn}
use Rattle.fam_judge.proofs.OverPlain.{all_idle}
use Rattle.fam_judge.proofs.OverWrites.{cmd_at, named_file}
use Rattle.fam_judge.proofs.Places.{Running, changed_twice, of_told, running_at, runs_at, told_at}
use Rattle.fam_judge.proofs.Sizes.{ended_is}
use Rattle.fam_judge.proofs.Standing.Alike.{stands_seen}
use Rattle.fam_judge.proofs.States.{counts_none, finds_none}
use Rattle.fam_judge.proofs.StayingFits.{Behind, answer_first, behind, found_first, settled_is, settles_none}

-- Floors.

-- a floor of the second state that is raised
abbrev raised : ℕ → Progress → Progress
raised high q = record q { told = record q.told { floor = Some high } }

module _ (s : State) (low high : ℕ) (up : low ≤ high) where
  under_raised : (a b : Option ℕ) → b ≡ Some low → FloorUnder a b → FloorUnder a (Some high)
  under_raised a b is under =
      let less : under.0 ≤ under.1 = under.4 in
      let one : under.1 ≡ low = same_Some under.1 low (sym under.3 ∙ is) in (under.0, high, under.2, refl, omega (arith, less, one, up))

  stages_raised : (a b : CommandStage) (p q r : HostPast) → q.floor ≡ Some low → r.floor ≡ Some high → r.wrote ≡ q.wrote
      → StagesOver s a b p q → StagesOver s a b p r
  stages_raised Begun Marked p q r is next wrote over = subst (FloorUnder p.floor) (sym next) (under_raised p.floor q.floor is over)
  stages_raised Marked Marked p q r is next wrote over = subst (FloorUnder p.floor) (sym next) (under_raised p.floor q.floor is over)
  stages_raised (Named k) (Named seq) p q r is next wrote over = (over.0, over.1 ∙ sym wrote)
  stages_raised (Met m) (Met n) p q r is next wrote over = over
  stages_raised a b p q r is next wrote over = over

  tasks_raised : (a b : Option TaskShape) (p q : HostPast) → q.floor ≡ Some low → TasksOver s a b p q → TasksOver s a b p (record q { floor = Some high })
  tasks_raised None None p q is over = tt
  tasks_raised None (Some b) p q is over = absurd over
  tasks_raised (Some a) None p q is over = absurd over
  tasks_raised (Some a) (Some b) p q is over = (over.0, stages_raised a.stage b.stage p q (record q { floor = Some high }) is refl refl over.1)

  -- a higher floor allows no more
  host_raised : (p q : Progress) → q.told.floor ≡ Some low → HostOver s p q → HostOver s p (raised high q)
  host_raised p q is over = record {
    name = over.name;
    uuid = over.uuid;
    keeps = over.keeps;
    own = over.own;
    told_uuid = over.told_uuid;
    told_cmd = over.told_cmd;
    task = tasks_raised p.shape.task q.shape.task p.told q.told is over.task;
  }

-- What stays.

-- the line leads from x to a state that hasn't named it either: the same host has named the same entry behind c
pub record Stays (start : Image) (x c : Possible) (l : Late start x c) (line : Note) : Type 0 where
  pub next : Possible
  pub leads : StepsTo start x line next
  pub late : Late start next (after_note start c line)
  pub host : late.host ≡ l.host
  pub seq : late.seq ≡ l.seq
  pub entry : late.entry ≡ l.entry

module _ (start : Image) (x c : Possible) (l : Late start x c) where
  -- the state behind the entry
  abbrev named_state : State
  named_state = (after_note start l.pre (Writes l.host l.seq l.entry)).state

  -- its host stands where it stood, and may name it still
  stays_at : (y : Note) (next : Possible) → StepsTo start x y next → (pre : Possible) → Direct next pre → pre.state ≡ l.pre.state
      → slice_get pre.hosts l.host ≡ Some (runs_pre start x c l).host
      → (after_note start c y).hosts ≡ changed_at l.host (naming start x c l) pre.hosts → StateOver named_state (after_note start c y).state → Stays start x c l y
  stays_at y next leads pre first state is hosts over = record {
    next = next;
    leads = leads;
    late = record {
      host = l.host;
      pre = pre;
      direct = first;
      seq = l.seq;
      entry = l.entry;
      may = runs_at pre l.host (λ me t. TaskNote l.host me t (Writes l.host l.seq l.entry)) r.host r.task is r.runs r.holds;
      fits = of_told start pre l.host (λ host. WritesAllowed l.seq l.entry host pre.state) r.host is
          (subst (λ (s : State). WritesAllowed l.seq l.entry r.host.told s) (sym state)
          (told_at start l.pre l.host (λ host. WritesAllowed l.seq l.entry host l.pre.state) r.host r.is l.fits));
      hosts = hosts;
      state = subst (λ (s : State). StateOver s (after_note start c y).state) pends_same over;
    };
    host = refl;
    seq = refl;
    entry = refl;
  }
    where
      r : Running l.pre l.host (λ me t. TaskNote l.host me t (Writes l.host l.seq l.entry))
      r = runs_pre start x c l

      pends_same : named_state ≡ (after_note start pre (Writes l.host l.seq l.entry)).state
      pends_same =
          ap (λ (cmd : Option Cmd). pends (named_file cmd l.entry) l.pre.state) (cmd_at start l.pre l.host r.host r.is ∙ sym (cmd_at start pre l.host r.host is))
          ∙ ap (pends (named_file (cmd_of (slice_get (past_in start pre).hosts l.host)) l.entry)) (sym state)

  -- What is before the entry.

  abbrev file : File
  file = named_file (cmd_of (slice_get (past_in start l.pre).hosts l.host)) l.entry

  abbrev history : List File
  history = (says start x c l).history

  before : l.pre.state ≡ Sound (says start x c l).params history None
  before = (says start x c l).is

  came : Behind (says start x c l).params history file c.state
  came = behind (says start x c l).params history file c.state (subst (λ (s : State). StateOver s c.state) (ap (pends file) before) l.state)

  count_is : l.seq + 1 ≡ length history + 1
  count_is = ap (λ (n : ℕ). n + 1) (says start x c l).count

  -- so the hosts look
  -- the hosts look so before it, too
  pub faces_pre : faces (shapes_in c) ≡ faces (shapes_in l.pre)
  faces_pre =
      ap (λ (hosts : List Progress). faces (map shape_in hosts)) l.hosts
      ∙ ap faces (map_changed shape_in l.host (naming start x c l) (with_stage (Named l.seq)) (λ p. refl) l.pre.hosts)
      ∙ map_changed face l.host (with_stage (Named l.seq)) (λ f. f) same_face (shapes_in l.pre)
      ∙ changed_same l.host (λ f. f) (faces (shapes_in l.pre)) (λ f is. refl)
    where
      runs : (o : Option TaskShape) → is_some (option_map (λ (t : TaskShape). record t { stage = Named l.seq }) o) ≡ is_some o
      runs None = refl
      runs (Some t) = refl

      same_face : (host : HostShape) → face (with_stage (Named l.seq) host) ≡ face host
      same_face host = ap (λ (b : Bool). let f : Face = record { name = host.name; uuid = host.uuid; runs = b; keeps = host.keeps } in f) (runs host.task)

  -- the host of the entry runs a command
  idle_not : engaged_in (faces (shapes_in c)) ≡ None → ⊥
  idle_not idle = let none = all_idle c idle l.host _ (there start x c l) in let some = task_there start x c l in cc

  unmounted_not : OfFace (slice_get (faces (shapes_in c)) l.host) (λ f. (f.runs ≡ false) × (f.keeps ≡ true)) → ⊥
  unmounted_not is =
      let here : slice_get (faces (shapes_in c)) l.host ≡ Some (face (naming start x c l (runs_pre start x c l).host).shape) =
      slice_get-map face (shapes_in c) l.host ∙ ap (option_map face) (slice_get-map shape_in c.hosts l.host ∙ ap (option_map shape_in) (there start x c l)) in
      let idle = (subst (λ (o : Option Face). OfFace o (λ f. (f.runs ≡ false) × (f.keeps ≡ true))) here is).0 in
      let runs : is_some (naming start x c l (runs_pre start x c l).host).shape.task ≡ true = ap is_some (task_there start x c l) in
      cc

  -- another host isn't the master
  not_master : IsApart c → (j : ℕ) → j ≢ l.host → (q : Progress) → slice_get c.hosts j ≡ Some q → q.told.uuid ≢ (says start x c l).params.master
  not_master apart j ne q is e =
      let r = runs_pre start x c l in
      ne (one_place c apart j l.host q (naming start x c l r.host) is (there start x c l)
      (sym (own_at start x c l j ne j q (sym (at_other start x c l j ne) ∙ is)) ∙ e ∙ sym (says start x c l).master ∙ own_at start x c l j ne l.host r.host r.is))

  module _ (apart : IsApart c) (wishes : Each Wishful c.hosts) where
    wish_pre : MetWish l.pre
    wish_pre h p t n is runs met = elim (cases_eq h l.host) [
      | inl e ↦
          let here : slice_get l.pre.hosts l.host ≡ Some p = subst (λ (k : ℕ). slice_get l.pre.hosts k ≡ Some p) e is in
          let shape = (task_of l.pre l.host (λ me t. TaskNote l.host me t (Writes l.host l.seq l.entry)) p t l.may here runs).1 in (shape.0, shape.1)
      | inr ne ↦ wishes h p (at_other start x c l h ne ∙ is) t n runs met
    ]

    -- the line leads on from before the entry
    follows : (y : Note) → MayStand (length start) (shapes_in l.pre) y → FitsNext (past_in start l.pre) y → FollowsIn start x l.pre y
    follows y may fits = line_follows start x l.pre l.direct (over_apart start x c (late l) apart) wish_pre y may fits

    seen : (y : Note) → is_own y ≡ false → MayStand (length start) (shapes_in c) y → FitsNext (past_in start l.pre) y → FollowsIn start x l.pre y
    seen y own may fits = follows y (stands_seen (length start) (shapes_in c) (shapes_in l.pre) y faces_pre own may) fits

    -- another host changes
    moves : (y : Note) (j : ℕ) (f : Progress → Progress) → j ≢ l.host → (after_note start l.pre y).hosts ≡ changed_at j f l.pre.hosts
        → (after_note start c y).hosts ≡ changed_at j f c.hosts → (after_note start l.pre y).state ≡ l.pre.state
        → StateOver named_state (after_note start c y).state → FollowsIn start x l.pre y → Stays start x c l y
    moves y j f ne first second state over n =
        stays_at y n.next n.leads (after_note start l.pre y) n.over state
        (ap (λ (hosts : List Progress). slice_get hosts l.host) first ∙ changed_other j l.host f l.pre.hosts (λ e. ne (sym e)) ∙ (runs_pre start x c l).is)
        (second ∙ ap (changed_at j f) l.hosts ∙ changed_apart j l.host f (naming start x c l) l.pre.hosts ne
        ∙ ap (changed_at l.host (naming start x c l)) (sym first)) over

    -- Lines.

    declares : (name uuid : List ℕ) → MayStand (length start) (shapes_in c) (Host name uuid) → Stays start x c l (Host name uuid)
    declares name uuid may =
        let n = seen (Host name uuid) refl may tt in
        let new = new_progress name uuid in
        let within = slice_get_within l.pre.hosts l.host (runs_pre start x c l).host (runs_pre start x c l).is in
        stays_at (Host name uuid) n.next n.leads (after_note start l.pre (Host name uuid)) n.over refl
        (front_member l.host l.pre.hosts new within ∙ (runs_pre start x c l).is)
        (ap (λ (hosts : List Progress). hosts ++ new ∷ []) l.hosts ∙ sym (changed_append l.host (naming start x c l) l.pre.hosts new within)) l.state

    refused : (name : List ℕ) (cause : Refusal) → MayStand (length start) (shapes_in c) (Refused name cause) → Stays start x c l (Refused name cause)
    refused name cause may =
        let n = seen (Refused name cause) refl may tt in
        stays_at (Refused name cause) n.next n.leads (after_note start l.pre (Refused name cause)) n.over refl (runs_pre start x c l).is l.hosts l.state

    -- a mark's floor is higher behind the entry than before it, where the entry is settled
    marked_line : (j : ℕ) → j ≢ l.host → MayStand (length start) (shapes_in c) (Mark j) → Stays start x c l (Mark j)
    marked_line j ne may =
        let n = follows (Mark j) (other_runs start x c l j ne (λ me t. TaskNote j me t (Mark j)) may) tt in
        let low = settled_length l.pre.state in
        let high = settled_length c.state in
        let g : Progress → Progress = λ p. record { told = record p.told { floor = Some high }; shape = with_stage Marked p.shape } in
        let pre : Possible = record { state = l.pre.state; hosts = changed_at j (raised high) (after_note start l.pre (Mark j)).hosts } in
        let is : pre.hosts ≡ changed_at j g l.pre.hosts = changed_twice j _ (raised high) l.pre.hosts in
        stays_at (Mark j) n.next n.leads pre
        (record {
          state = n.over.state;
          hosts = one_side n.next (after_note start l.pre (Mark j)) n.over j (raised high)
              (λ p q at over. let was = floor_is q (slice_get l.pre.hosts j) (sym (changed_here j _ l.pre.hosts) ∙ at) in
              host_raised n.next.state low high higher p q was over);
        })
        refl
        (ap (λ (hosts : List Progress). slice_get hosts l.host) is ∙ changed_other j l.host g l.pre.hosts (λ e. ne (sym e)) ∙ (runs_pre start x c l).is)
        (ap (changed_at j g) l.hosts ∙ changed_apart j l.host g (naming start x c l) l.pre.hosts ne ∙ ap (changed_at l.host (naming start x c l)) (sym is))
        l.state
      where
        marking : Progress → Progress
        marking p = record { told = record p.told { floor = Some (settled_length l.pre.state) }; shape = with_stage Marked p.shape }

        floor_is : (q : Progress) (o : Option Progress) → option_map marking o ≡ Some q → q.told.floor ≡ Some (settled_length l.pre.state)
        floor_is q None e = absurd cc
        floor_is q (Some p) e = sym (ap (λ (z : Progress). z.told.floor) (same_Some (marking p) q e))

        higher : settled_length l.pre.state ≤ settled_length c.state
        higher =
            let a : settled_length l.pre.state ≡ length history = ap settled_length before in
            let b : settled_length named_state ≡ length history = ap (λ (s : State). settled_length (pends file s)) before in
            let d = over_settled named_state c.state l.state in omega (arith, a, b, d)

    found_line : (j n : ℕ) → j ≢ l.host → n ≢ l.seq + 1 → MayStand (length start) (shapes_in c) (Found j n) → FoundAllowed n c.state → Stays start x c l (Found j n)
    found_line j n ne other may found =
        let is = found_first (says start x c l).params history file c.state came n (λ e. other (e ∙ sym count_is)) found in
        moves (Found j n) j _ ne refl refl
        (ap (finds n) before ∙ finds_none n (says start x c l).params history ∙ sym before)
        (over_hidden n named_state c.state l.state found)
        (follows (Found j n) (other_runs start x c l j ne (λ me t. TaskNote j me t (Found j n)) may)
        (subst (FoundAllowed n) (sym before) is))

    answered_line : (j : ℕ) (answer : Answer) → j ≢ l.host → answer_settles answer ≢ Some (l.seq + 1) → MayStand (length start) (shapes_in c) (Answered j answer)
        → FitsNext (past_in start c) (Answered j answer) → Stays start x c l (Answered j answer)
    answered_line j answer ne other may fits =
        let p = (says start x c l).params in
        let q = running_at c j (λ me t. TaskNote j me t (Answered j answer)) may.0 in
        let more : answer_settles answer ≢ Some (length history + 1) = (λ e. other (e ∙ ap Some (sym count_is))) in
        let fit : AnswerFits answer q.host.told c.state = told_at start c j (λ host. AnswerFits answer host c.state) q.host q.is fits in
        let first = answer_first p history file q.host.told (not_master apart j ne q.host q.is) c.state came answer more fit in
        let none : (s : State) → shows_count (answer_settles answer) s ≡ s → ended_state answer s ≡ s =
        (λ s e. ended_is answer s ∙ ap (λ (o : Option ℕ). shows_count o s) (sym (settled_is answer)) ∙ e) in
        moves (Answered j answer) j _ ne refl refl
        (none l.pre.state (ap (shows_count (answer_settles answer)) before ∙ counts_none (answer_settles answer) p history ∙ sym before))
        (subst (StateOver named_state) (sym (none c.state (settles_none p history file c.state came (answer_settles answer) more))) l.state)
        (follows (Answered j answer) (
          other_runs start x c l j ne (λ me t. TaskNote j me t (Answered j answer)) may.0,
          other_runs start x c l j ne (λ me t. AnswerPlace t.cmd t.stage answer) may.1,
        )
        (of_told start l.pre j (λ host. AnswerFits answer host l.pre.state) q.host (sym (at_other start x c l j ne) ∙ q.is)
        (subst (λ (s : State). AnswerFits answer q.host.told s) (sym before) first)))

    umount_line : (j : ℕ) → (j ≡ l.host) ⊎ (j ≢ l.host) → MayStand (length start) (shapes_in c) (Umount j) → Stays start x c l (Umount j)
    umount_line j (inl e) may =
        absurd (unmounted_not (subst (λ (k : ℕ). OfFace (slice_get (faces (shapes_in c)) k) (λ f. (f.runs ≡ false) × (f.keeps ≡ true))) e may))
    umount_line j (inr ne) may = moves (Umount j) j _ ne refl refl refl l.state (seen (Umount j) refl may tt)

    -- a line that tells nothing of an entry that was named: x follows it without naming the entry
    pub late_stays : (y : Note) → Elsewhere l.host l.seq y → MayStand (length start) (shapes_in c) y → FitsNext (past_in start c) y → Stays start x c l y
    late_stays (Host name uuid) other may fits = declares name uuid may
    late_stays (Made h p) other may fits = absurd (idle_not may.0)
    late_stays (Cut h k) other may fits = absurd (idle_not may.0.1)
    late_stays (Start j cmd) ne may fits = moves (Start j cmd) j _ ne refl refl refl l.state (seen (Start j cmd) refl may tt)
    late_stays (Mark j) ne may fits = marked_line j ne may
    late_stays (Found j n) other may fits = found_line j n other.0 other.1 may fits
    late_stays (Writes j seq e) other may fits = absurd (late_writes start x c l apart j seq e may fits (cases_eq j l.host))
    late_stays (Answered j answer) other may fits = answered_line j answer other.0 other.1 may fits
    late_stays (Stop j) ne may fits = moves (Stop j) j _ ne refl refl refl l.state (seen (Stop j) refl may tt)
    late_stays (Halt j) ne may fits = moves (Halt j) j _ ne refl refl refl l.state (seen (Halt j) refl may tt)
    late_stays (Umount j) other may fits = umount_line j (cases_eq j l.host) may
    late_stays (Refused name cause) other may fits = refused name cause may
