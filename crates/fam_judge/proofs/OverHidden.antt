-- Notes that a history leaves out, behind what a journal comes to: the state that allows no less stays one.
use Rattle.std.proofs.Common.{◌≡◌, ◌≤◌, ℕ, List, Option, Some, None, refl, ap, sym, ◌∙◌, subst, arith}
use Rattle.std.specs.Prelude.{option_map, slice_get}
use Rattle.std.proofs.lemmas.Option.{same_Some}
use Rattle.fam_base.specs.Image.{Image}
use Rattle.fam_journal.specs.Legal.{FoundAllowed}
use Rattle.fam_journal.specs.Members.{changed_at}
use Rattle.fam_journal.specs.Notes.{Mark, Found, Writes}
use Rattle.fam_journal.specs.Past.{HostPast, State, settled_length}
use Rattle.fam_journal.specs.Shapes.{Begun, CommandStage, Marked, Met, Named, OfRunning, Pairs, TaskNote, TaskShape, with_stage}
use Rattle.fam_judge.specs.Covering.{Direct, FloorUnder, HasFloor, HostOver, Late, StagesOver, StateOver, TasksOver}
use Rattle.fam_judge.specs.Possible.{Possible, Progress, Wrote, after_note, progress_after, shapes_in}
use Rattle.fam_judge.proofs.Members.{changed_same}
use Rattle.fam_judge.proofs.Over.{over_hidden, over_settled}
use Rattle.fam_judge.proofs.OverHosts.{IsApart, no_later}
use Rattle.fam_judge.proofs.OverWrites.{writes_in}
use Rattle.fam_judge.proofs.Places.{once_pairs, running_at}

-- of the host's command this holds
pub task_of : (c : Possible) (h : ℕ) (P : List ℕ → TaskShape → Type 0) (q : Progress) (t : TaskShape) → OfRunning (slice_get (shapes_in c) h) P → slice_get c.hosts h ≡ Some q
    → q.shape.task ≡ Some t → P q.shape.uuid t
task_of c h P q t may is runs =
    let r = running_at c h P may in
    let one : r.host ≡ q = same_Some r.host q (sym r.is ∙ is) in
    let task : r.task ≡ t = same_Some r.task t (sym r.runs ∙ ap (λ (p : Progress). p.shape.task) one ∙ runs) in
    subst (λ (p : Progress). P p.shape.uuid t) one (subst (λ (k : TaskShape). P r.host.shape.uuid k) task r.holds)

module _ (x c : Possible) (d : Direct x c) (h : ℕ) where
  -- the second state changes alone
  pub one_side : (k : Progress → Progress) → ((p q : Progress) → slice_get c.hosts h ≡ Some q → HostOver x.state p q → HostOver x.state p (k q))
      → Pairs (HostOver x.state) x.hosts (changed_at h k c.hosts)
  one_side k mine =
      subst (λ (xs : List Progress). Pairs (HostOver x.state) xs (changed_at h k c.hosts)) (changed_same h (λ p. p) x.hosts (λ p is. refl))
      (once_pairs x c d h x.state (λ p. p) k (no_later x.state) (λ p q is other over. mine p q other over))

  -- Marks.

  module _ (n : ℕ) (low : settled_length x.state ≤ n) (may : OfRunning (slice_get (shapes_in c) h) (λ me t. TaskNote h me t (Mark h))) where
    under : (s : Option ℕ) → HasFloor (settled_length x.state) s → FloorUnder s (Some n)
    under s has = let less = has.2 in (has.0, n, has.1, refl, omega (arith, less, low))

    mark_stage : (a : CommandStage) (p q r : HostPast) → r.floor ≡ Some n → StagesOver x.state a Begun p q → StagesOver x.state a Marked p r
    mark_stage Begun p q r e over = subst (FloorUnder p.floor) (sym e) (under p.floor over)
    mark_stage Marked p q r e over = absurd over
    mark_stage (Met m) p q r e over = absurd over
    mark_stage (Named seq) p q r e over = absurd over

    mark_task : (p q : Progress) → slice_get c.hosts h ≡ Some q → (a b : Option TaskShape) → q.shape.task ≡ b → TasksOver x.state a b p.told q.told
        → TasksOver x.state a (option_map (λ (t : TaskShape). record t { stage = Marked }) b) p.told (record q.told { floor = Some n })
    mark_task p q is None None e tasks = tt
    mark_task p q is None (Some b) e tasks = absurd tasks
    mark_task p q is (Some a) None e tasks = absurd tasks
    mark_task p q is (Some a) (Some b) e tasks =
        let stage : b.stage ≡ Begun = (task_of c h (λ me t. TaskNote h me t (Mark h)) q b may is e).1 in
        (tasks.0, mark_stage a.stage p.told q.told (record q.told { floor = Some n }) refl (subst (λ (s : CommandStage). StagesOver x.state a.stage s p.told q.told) stage tasks.1))

    -- the mark of a command, with a floor that isn't lower than what is settled
    pub hidden_mark : Pairs (HostOver x.state) x.hosts (progress_after n c.hosts (Mark h))
    hidden_mark = one_side _ (λ p q is over. record {
      name = over.name;
      uuid = over.uuid;
      keeps = over.keeps;
      own = over.own;
      told_uuid = over.told_uuid;
      told_cmd = over.told_cmd;
      task = mark_task p q is p.shape.task q.shape.task refl over.task;
    })

  -- Counts that are found.

  module _ (n : ℕ) (may : OfRunning (slice_get (shapes_in c) h) (λ me t. TaskNote h me t (Found h n))) where
    found_stage : (a : CommandStage) (p q : HostPast) → StagesOver x.state a Marked p q → StagesOver x.state a (Met n) p q
    found_stage Begun p q over = tt
    found_stage Marked p q over = tt
    found_stage (Met m) p q over = absurd over
    found_stage (Named seq) p q over = absurd over

    found_task : (p q : Progress) → slice_get c.hosts h ≡ Some q → (a b : Option TaskShape) → q.shape.task ≡ b → TasksOver x.state a b p.told q.told
        → TasksOver x.state a (option_map (λ (t : TaskShape). record t { stage = Met n }) b) p.told q.told
    found_task p q is None None e tasks = tt
    found_task p q is None (Some b) e tasks = absurd tasks
    found_task p q is (Some a) None e tasks = absurd tasks
    found_task p q is (Some a) (Some b) e tasks =
        let stage : b.stage ≡ Marked = (task_of c h (λ me t. TaskNote h me t (Found h n)) q b may is e).2 in
        (tasks.0, found_stage a.stage p.told q.told (subst (λ (s : CommandStage). StagesOver x.state a.stage s p.told q.told) stage tasks.1))

    -- the count that a command found
    pub hidden_found : Pairs (HostOver x.state) x.hosts (changed_at h (λ (p : Progress). record p { shape = with_stage (Met n) p.shape }) c.hosts)
    hidden_found = one_side _ (λ p q is over. record {
      name = over.name;
      uuid = over.uuid;
      keeps = over.keeps;
      own = over.own;
      told_uuid = over.told_uuid;
      told_cmd = over.told_cmd;
      task = found_task p q is p.shape.task q.shape.task refl over.task;
    })

module _ (start : Image) (x c : Possible) (d : Direct x c) where
  -- so a mark is passed over
  pub over_mark : (h : ℕ) → OfRunning (slice_get (shapes_in c) h) (λ me t. TaskNote h me t (Mark h)) → Direct x (after_note start c (Mark h))
  over_mark h may = record { state = d.state; hosts = hidden_mark x c d h (settled_length c.state) (over_settled x.state c.state d.state) may }

  -- and a count
  pub over_found : (h n : ℕ) → OfRunning (slice_get (shapes_in c) h) (λ me t. TaskNote h me t (Found h n)) → FoundAllowed n c.state → Direct x (after_note start c (Found h n))
  over_found h n may found = record { state = over_hidden n x.state c.state d.state found; hosts = hidden_found x c d h n may }

-- An entry that was named, where the first state hasn't named it yet.

-- a state that has named it
pub record NamedNow (start : Image) (x c : Possible) (host seq : ℕ) : Type 0 where
  pub now : Possible
  pub wrote : Wrote start host x now
  pub number : wrote.seq ≡ seq
  pub direct : Direct now c

-- it names it where that is told of
pub late_now : (start : Image) (x c : Possible) → IsApart x → (late : Late start x c) → NamedNow start x c late.host late.seq
late_now start x c apart late =
    let is = writes_in start x late.pre late.direct apart late.host late.seq late.entry late.may late.fits in
    record {
      now = after_note start is.met (Writes late.host late.seq late.entry);
      wrote = record { met = is.met; meets = is.meets; seq = late.seq; entry = late.entry; may = is.may; fits = is.fits; is = refl };
      number = refl;
      direct = record {
        state = subst (λ (s : State). StateOver s c.state) (sym is.state) late.state;
        hosts = subst (λ (l : List Progress). Pairs (HostOver (after_note start is.met (Writes late.host late.seq late.entry)).state)
            (after_note start is.met (Writes late.host late.seq late.entry)).hosts l)
            (sym late.hosts) is.over.hosts;
      };
    }
