-- A line of a host's running command that follows what a journal comes to follows a state that allows no less.
use Rattle.std.proofs.Common.{◌≡◌, ℕ, List, Option, Some, None, refl, ap, sym, ◌∙◌, subst}
use Rattle.std.specs.Prelude.{option_map, slice_get}
use Rattle.std.proofs.lemmas.Option.{same_Some}
use Rattle.fam_base.specs.Image.{Image}
use Rattle.fam_commands.specs.Appends.{HasWish}
use Rattle.fam_journal.specs.Legal.{FoundAllowed}
use Rattle.fam_journal.specs.Notes.{Note, Mark, Found}
use Rattle.fam_journal.specs.Past.{HostPast, State, finds, settled_length}
use Rattle.fam_journal.specs.Shapes.{Begun, CommandStage, Marked, Met, Named, OfRunning, TaskNote, TaskShape, with_stage}
use Rattle.fam_judge.specs.Covering.{Direct, HostOver, StagesOver, StateOver, TasksOver, same}
use Rattle.fam_judge.specs.Possible.{StepsTo, Possible, Progress, StageIs, after_note, after_line, marked, shapes_in, stands, unmarked, after_mark, without_mark}
use Rattle.fam_judge.proofs.Over.{master_finds, none_finds, over_finds, over_settled, settled_finds}
use Rattle.fam_judge.proofs.OverHosts.{Later, no_later}
use Rattle.fam_judge.proofs.Pairing.{paired}
use Rattle.fam_judge.proofs.Places.{Running, changed_is, once_pairs, own_pairs, running_at, runs_at}

-- What follows.

-- the line leads from x to a state that allows no less than the one behind c
pub record FollowsIn (start : Image) (x c : Possible) (line : Note) : Type 0 where
  pub next : Possible
  pub leads : StepsTo start x line next
  pub over : Direct next (after_note start c line)

-- of a host that runs a command in both states
pub record Both (x c : Possible) (h : ℕ) (P : List ℕ → TaskShape → Type 0) : Type 0 where
  pub host : Progress
  pub other : Progress
  pub is : slice_get x.hosts h ≡ Some host
  pub other_is : slice_get c.hosts h ≡ Some other
  pub over : HostOver x.state host other
  pub task : TaskShape
  pub other_task : TaskShape
  pub runs : host.shape.task ≡ Some task
  pub other_runs : other.shape.task ≡ Some other_task
  pub cmd : task.cmd ≡ other_task.cmd
  pub stages : StagesOver x.state task.stage other_task.stage host.told other.told
  pub holds : P other.shape.uuid other_task

module _ (x c : Possible) (d : Direct x c) (h : ℕ) (P : List ℕ → TaskShape → Type 0) where
  by_tasks : (p : Progress) → slice_get x.hosts h ≡ Some p → (r : Running c h P) → HostOver x.state p r.host
      → (a : Option TaskShape) → p.shape.task ≡ a → TasksOver x.state a (Some r.task) p.told r.host.told → Both x c h P
  by_tasks p is r over None e tasks = absurd tasks
  by_tasks p is r over (Some t) e tasks = record {
    host = p;
    other = r.host;
    is = is;
    other_is = r.is;
    over = over;
    task = t;
    other_task = r.task;
    runs = e;
    other_runs = r.runs;
    cmd = tasks.0;
    stages = tasks.1;
    holds = r.holds;
  }

  -- it runs in both
  pub both_run : OfRunning (slice_get (shapes_in c) h) P → Both x c h P
  both_run runs =
      let r = running_at c h P runs in
      let p = paired (HostOver x.state) x.hosts c.hosts h r.host d.hosts r.is in
      by_tasks p.0 p.1 r p.2 p.0.shape.task refl (subst (λ (o : Option TaskShape). TasksOver x.state p.0.shape.task o p.0.told r.host.told) r.runs p.2.task)

-- Stages.

-- a command that begins in the second state begins in the first one
begun_first : (s : State) (a : CommandStage) (p q : HostPast) → StagesOver s a Begun p q → a ≡ Begun
begun_first s Begun p q over = refl
begun_first s Marked p q over = absurd over
begun_first s (Met n) p q over = absurd over
begun_first s (Named seq) p q over = absurd over

-- a command of which the second state has the mark is marked in the first one, or has begun
pub data MarkedFirst (a : CommandStage) (p q : HostPast) : Type 0 where
  no_mark : a ≡ Begun → MarkedFirst a p q
  has_mark : a ≡ Marked → MarkedFirst a p q

marked_first : (s : State) (a : CommandStage) (p q : HostPast) → StagesOver s a Marked p q → MarkedFirst a p q
marked_first s Begun p q over = no_mark refl
marked_first s Marked p q over = has_mark refl
marked_first s (Met n) p q over = absurd over
marked_first s (Named seq) p q over = absurd over

-- two stages
pub marked_begun : Marked ≡ Begun → ⊥
marked_begun e = cc

-- two stages
pub met_begun : (n : ℕ) → Met n ≡ Begun → ⊥
met_begun n e = cc

-- two stages
pub named_begun : (n : ℕ) → Named n ≡ Begun → ⊥
named_begun n e = cc

-- a host's command has one stage
pub not_begun : (x : Possible) (h : ℕ) (host : Progress) (task : TaskShape) → slice_get x.hosts h ≡ Some host → host.shape.task ≡ Some task → (task.stage ≡ Begun → ⊥)
    → StageIs (λ stage. stage ≡ Begun) h x → ⊥
not_begun x h host task is runs ne begun =
    let r = running_at x h (λ me t. t.stage ≡ Begun) begun in
    let one : host ≡ r.host = same_Some host r.host (sym is ∙ r.is) in
    let same_task : task ≡ r.task = same_Some task r.task (sym runs ∙ ap (λ (p : Progress). p.shape.task) one ∙ r.runs) in
    ne (ap (λ (t : TaskShape). t.stage) same_task ∙ r.holds)

-- Marks.

module _ (start : Image) (x c : Possible) (d : Direct x c) (h : ℕ) where
  marked_both : (p q : Progress) → HostOver x.state p q → (a b : Option TaskShape) → TasksOver x.state a b p.told q.told
      → TasksOver x.state (option_map (λ (t : TaskShape). record t { stage = Marked }) a) (option_map (λ (t : TaskShape). record t { stage = Marked }) b)
      (record p.told { floor = Some (settled_length x.state) }) (record q.told { floor = Some (settled_length c.state) })
  marked_both p q over None None tasks = tt
  marked_both p q over None (Some b) tasks = absurd tasks
  marked_both p q over (Some a) None tasks = absurd tasks
  marked_both p q over (Some a) (Some b) tasks = (tasks.0, (settled_length x.state, settled_length c.state, refl, refl, over_settled x.state c.state d.state))

  -- the mark of a command
  pub own_mark : OfRunning (slice_get (shapes_in c) h) (λ me t. TaskNote h me t (Mark h)) → FollowsIn start x c (Mark h)
  own_mark may =
      let both = both_run x c d h (λ me t. TaskNote h me t (Mark h)) may in
      let begun : both.task.stage ≡ Begun =
      begun_first x.state both.task.stage both.host.told both.other.told (subst (λ (b : CommandStage). StagesOver x.state both.task.stage b both.host.told both.other.told) both.holds.1 both.stages) in
      let now = without_mark h x in
      let there : slice_get now.hosts h ≡ Some (record both.host { told = record both.host.told { floor = None } }) = changed_is h _ x.hosts both.host both.is in
      record {
        next = after_line start now (Mark h);
        leads = record {
          now = now;
          reaches = unmarked (runs_at x h (λ me t. t.stage ≡ Begun) both.host both.task both.is both.runs begun) refl;
          may = runs_at now h (λ me t. TaskNote h me t (Mark h)) _ both.task there both.runs (refl, begun);
          fits = tt;
          is = refl;
        };
        over = record {
          state = d.state;
          hosts = own_pairs x c d h x.state _ _ _ (no_later x.state) (λ p q is other over. record {
            name = over.name;
            uuid = over.uuid;
            keeps = over.keeps;
            own = over.own;
            told_uuid = over.told_uuid;
            told_cmd = over.told_cmd;
            task = marked_both p q over p.shape.task q.shape.task over.task;
          });
        };
      }

-- Counts that are found.

-- what is told of it
pub found_later : (n : ℕ) (s : State) → FoundAllowed n s → Later s (finds n s)
found_later n s found = record { settled = settled_finds n s found; master = master_finds n s found; none = λ none. none_finds n s found }

module _ (start : Image) (x c : Possible) (d : Direct x c) (h n : ℕ) (found : FoundAllowed n c.state) where
  found_both : (p q : Progress) → HostOver x.state p q → (a b : Option TaskShape) → TasksOver x.state a b p.told q.told
      → (told_p told_q : HostPast) → TasksOver (finds n x.state) (option_map (λ (t : TaskShape). record t { stage = Met n }) a)
      (option_map (λ (t : TaskShape). record t { stage = Met n }) b) told_p told_q
  found_both p q over None None tasks told_p told_q = tt
  found_both p q over None (Some b) tasks told_p told_q = absurd tasks
  found_both p q over (Some a) None tasks told_p told_q = absurd tasks
  found_both p q over (Some a) (Some b) tasks told_p told_q = (tasks.0, (refl, λ e. none_finds n x.state (over_finds n x.state c.state d.state found).0))

  found_host : (p q : Progress) → HostOver x.state p q
      → HostOver (finds n x.state) (record p { shape = with_stage (Met n) p.shape }) (record q { shape = with_stage (Met n) q.shape })
  found_host p q over = record {
    name = over.name;
    uuid = over.uuid;
    keeps = over.keeps;
    own = over.own;
    told_uuid = over.told_uuid;
    told_cmd = over.told_cmd;
    task = found_both p q over p.shape.task q.shape.task over.task p.told q.told;
  }

  staged_twice : (p q : Progress) → HostOver x.state p q
      → HostOver (finds n x.state) (record p { shape = with_stage (Met n) (with_stage Marked p.shape) }) (record q { shape = with_stage (Met n) q.shape })
  staged_twice p q over = record {
    name = over.name;
    uuid = over.uuid;
    keeps = over.keeps;
    own = over.own;
    told_uuid = over.told_uuid;
    told_cmd = over.told_cmd;
    task = again p.shape.task (option_map (λ (t : TaskShape). record t { stage = Met n }) q.shape.task) (found_both p q over p.shape.task q.shape.task over.task p.told q.told);
  }
    where
      again : (a b : Option TaskShape) → TasksOver (finds n x.state) (option_map (λ (t : TaskShape). record t { stage = Met n }) a) b p.told q.told
          → TasksOver (finds n x.state) (option_map (λ (t : TaskShape). record t { stage = Met n }) (option_map (λ (t : TaskShape). record t { stage = Marked }) a)) b p.told q.told
      again None b over = over
      again (Some a) None over = absurd over
      again (Some a) (Some b) over = over

  over_state : StateOver (finds n x.state) (finds n c.state)
  over_state = same (sym (over_finds n x.state c.state d.state found).1)

  allowed_first : FoundAllowed n x.state
  allowed_first = (over_finds n x.state c.state d.state found).0

  -- a command finds so many entries
  pub own_found : OfRunning (slice_get (shapes_in c) h) (λ me t. TaskNote h me t (Found h n)) → FollowsIn start x c (Found h n)
  own_found may =
      let both = both_run x c d h (λ me t. TaskNote h me t (Found h n)) may in
      by both (marked_first x.state both.task.stage both.host.told both.other.told
      (subst (λ (b : CommandStage). StagesOver x.state both.task.stage b both.host.told both.other.told) both.holds.2 both.stages))
    where
      by : (both : Both x c h (λ me t. TaskNote h me t (Found h n))) → MarkedFirst both.task.stage both.host.told both.other.told → FollowsIn start x c (Found h n)
      by both (no_mark begun) =
          let now = after_mark h x in
          let there = changed_is h (λ (p : Progress). record p { shape = with_stage Marked p.shape }) x.hosts both.host both.is in
          record {
            next = after_line start now (Found h n);
            leads = record {
              now = now;
              reaches = marked (runs_at x h (λ me t. t.stage ≡ Begun) both.host both.task both.is both.runs begun) refl;
              may = runs_at now h (λ me t. TaskNote h me t (Found h n)) _ (record both.task { stage = Marked }) there (ap (option_map (λ (t : TaskShape). record t { stage = Marked })) both.runs)
                  (refl, subst HasWish (sym both.cmd) both.holds.1, refl);
              fits = allowed_first;
              is = refl;
            };
            over = record {
              state = over_state;
              hosts = own_pairs x c d h (finds n x.state) _ _ _ (found_later n x.state allowed_first) (λ p q is other over. staged_twice p q over);
            };
          }
      by both (has_mark is_marked) =
          record {
            next = after_line start x (Found h n);
            leads = record {
              now = x;
              reaches = stands refl (not_begun x h both.host both.task both.is both.runs (λ begun. marked_begun (sym is_marked ∙ begun)));
              may = runs_at x h (λ me t. TaskNote h me t (Found h n)) both.host both.task both.is both.runs (refl, subst HasWish (sym both.cmd) both.holds.1, is_marked);
              fits = allowed_first;
              is = refl;
            };
            over = record {
              state = over_state;
              hosts = once_pairs x c d h (finds n x.state) _ _ (found_later n x.state allowed_first) (λ p q is other over. found_host p q over);
            };
          }
