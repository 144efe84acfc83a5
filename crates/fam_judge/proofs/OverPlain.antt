-- A line that is no reply of a command, behind what a journal comes to, follows a state that allows no less.
use Rattle.std.proofs.Common.{◌≡◌, ℕ, Bool, true, false, List, [], ◌∷◌, length, map, Option, Some, None, refl, ap, ap₂, sym, ◌∙◌, subst, arith}
use Rattle.std.specs.Prelude.{⊤, ◌||◌, if◌then◌else◌, is_some, nat_lt, option_map, slice_get}
use Rattle.std.proofs.lemmas.Option.{slice_get-map}
use Rattle.fam_base.specs.declared.cmd.Cmd.{Cmd}
use Rattle.fam_base.specs.Image.{Image}
use Rattle.fam_machine.specs.Mkfs.{first_sent}
use Rattle.fam_journal.specs.Members.{changed_at}
use Rattle.fam_journal.specs.Notes.{Replied, MediaFault, Note, Host, Made, Cut, Start, Mark, Found, Writes, Answered, Stop, Halt, Umount, Refused}
use Rattle.fam_journal.specs.Past.{Sound, State, halted, settled_length}
use Rattle.fam_journal.specs.Shapes.{Pairs, TaskNote, TaskShape}
use Rattle.fam_journal.proofs.Calls.Declares.{none_passes}
use Rattle.fam_judge.specs.Covering.{Direct, HostOver, StateOver, TasksOver, same}
use Rattle.fam_judge.specs.Possible.{Possible, Progress, after_note, after_line, giver, new_progress, past_in, shapes_in, ReachesFor}
use Rattle.fam_judge.specs.Standing.{Face, MayStand, engaged_in, face, faces, is_own}
use Rattle.fam_judge.proofs.Folding.{shape_in}
use Rattle.fam_judge.proofs.OverHosts.{no_later}
use Rattle.fam_judge.proofs.OverOwn.{FollowsIn, both_run}
use Rattle.fam_judge.proofs.Pairing.{pairs_all, pairs_more}
use Rattle.fam_judge.proofs.Places.{once_pairs, own_pairs, runs_at, of_told}
use Rattle.fam_judge.proofs.Standing.Alike.{stands_seen}
use Rattle.fam_judge.specs.Fitting.{FitsNext}
use Rattle.fam_judge.specs.Formed.{AnswerPlace}

-- Faces.

-- they look alike
face_over : (s : State) (p q : Progress) → HostOver s p q → face p.shape ≡ face q.shape
face_over s p q over =
    let runs : is_some p.shape.task ≡ is_some q.shape.task = by p.shape.task q.shape.task over.task in
    ap (λ (n : List ℕ). let f : Face = record { name = n; uuid = p.shape.uuid; runs = is_some p.shape.task; keeps = p.shape.keeps } in f) over.name
    ∙ ap (λ (u : List ℕ). let f : Face = record { name = q.shape.name; uuid = u; runs = is_some p.shape.task; keeps = p.shape.keeps } in f) over.uuid
    ∙ ap₂ (λ (r k : Bool). let f : Face = record { name = q.shape.name; uuid = q.shape.uuid; runs = r; keeps = k } in f) runs over.keeps
  where
    by : (a b : Option TaskShape) → TasksOver s a b p.told q.told → is_some a ≡ is_some b
    by None None tasks = refl
    by None (Some b) tasks = absurd tasks
    by (Some a) None tasks = absurd tasks
    by (Some a) (Some b) tasks = refl

-- so do all hosts
pub faces_over : (s : State) (xs cs : List Progress) → Pairs (HostOver s) xs cs → faces (map shape_in xs) ≡ faces (map shape_in cs)
faces_over s [] [] pairs = refl
faces_over s [] (q ∷ cs) pairs = absurd pairs
faces_over s (p ∷ xs) [] pairs = absurd pairs
faces_over s (p ∷ xs) (q ∷ cs) pairs = ap₂ (λ (f : Face) (l : List Face). f ∷ l) (face_over s p q pairs.0) (faces_over s xs cs pairs.1)

-- a note that speaks of faces stands behind both
stands_over : (start : Image) (x c : Possible) → Direct x c → (y : Note) → is_own y ≡ false → MayStand (length start) (shapes_in c) y → MayStand (length start) (shapes_in x) y
stands_over start x c d y plain is = stands_seen (length start) (shapes_in c) (shapes_in x) y (sym (faces_over x.state x.hosts c.hosts d.hosts)) plain is

-- Hosts of which none runs a command.

-- one that doesn't run
not_running : (p : Progress) (keeps : Bool) → (is_some p.shape.task || keeps) ≡ false → p.shape.task ≡ None
not_running p keeps e = by p.shape.task e
  where
    by : (o : Option TaskShape) → (is_some o || keeps) ≡ false → o ≡ None
    by None e = refl
    by (Some t) e = absurd cc

-- none runs
pub all_idle : (x : Possible) → engaged_in (faces (shapes_in x)) ≡ None → (k : ℕ) (p : Progress) → slice_get x.hosts k ≡ Some p → p.shape.task ≡ None
all_idle x none k p is =
    not_running p p.shape.keeps
    (none_passes _ (faces (shapes_in x)) 0 none k (face p.shape)
    (slice_get-map face (shapes_in x) k ∙ ap (option_map face) (slice_get-map shape_in x.hosts k ∙ ap (option_map shape_in) is)))

-- Lines.

module _ (start : Image) (x c : Possible) (d : Direct x c) where
  -- a line that speaks of faces leads on, where what it leaves allows no less
  plain_leads : (y : Note) → giver y ≡ None → is_own y ≡ false → FitsNext (past_in start x) y → MayStand (length start) (shapes_in c) y
      → Direct (after_line start x y) (after_note start c y) → FollowsIn start x c y
  plain_leads y none plain fits may over = record {
    next = after_line start x y;
    leads = record {
      now = x;
      reaches = subst (λ (o : Option ℕ). ReachesFor start o x x) (sym none) refl;
      may = stands_over start x c d y plain may;
      fits = fits;
      is = refl;
    };
    over = over;
  }

  -- one host changes, which runs no command then
  ended_over : (f g : Progress → Progress) → ((p q : Progress) → HostOver x.state p q → HostOver x.state (f p) (g q)) → (h : ℕ)
      → Pairs (HostOver x.state) (changed_at h f x.hosts) (changed_at h g c.hosts)
  ended_over f g each h = once_pairs x c d h x.state f g (no_later x.state) (λ p q is other over. each p q over)

  made_over : (s : State) → engaged_in (faces (shapes_in c)) ≡ None → Pairs (HostOver s) x.hosts c.hosts
  made_over s idle =
      pairs_all (HostOver x.state) (HostOver s) x.hosts c.hosts d.hosts (λ i p q is other over. record {
        name = over.name;
        uuid = over.uuid;
        keeps = over.keeps;
        own = over.own;
        told_uuid = over.told_uuid;
        told_cmd = over.told_cmd;
        task = none_over s p q (all_idle x (ap engaged_in (faces_over x.state x.hosts c.hosts d.hosts) ∙ idle) i p is) (all_idle c idle i q other);
      })
    where
      none_over : (s : State) (p q : Progress) → p.shape.task ≡ None → q.shape.task ≡ None → TasksOver s p.shape.task q.shape.task p.told q.told
      none_over s p q a b = subst (λ (o : Option TaskShape). TasksOver s o q.shape.task p.told q.told) (sym a) (subst (λ (o : Option TaskShape). TasksOver s None o p.told q.told) (sym b) tt)

  halted_over : (k : ℕ) (s t : State) → StateOver s t → StateOver (halted k s) (halted k t)
  halted_over k s t over = by (nat_lt k first_sent)
    where
      by : (b : Bool) → StateOver (if b then s else halted first_sent s) (if b then t else halted first_sent t)
      by true = over
      by false = same refl

  started_over : (h : ℕ) (cmd : Cmd) → Pairs (HostOver x.state) (after_line start x (Start h cmd)).hosts (after_note start c (Start h cmd)).hosts
  started_over h cmd = own_pairs x c d h x.state _ _ _ (no_later x.state) (λ p q is other over. record {
    name = over.name;
    uuid = over.uuid;
    keeps = over.keeps;
    own = over.own;
    told_uuid = over.told_uuid;
    told_cmd = refl;
    task = (refl, (settled_length x.state, refl, omega arith));
  })

  -- by the line
  pub plain_follows : (y : Note) → giver y ≡ None → MayStand (length start) (shapes_in c) y → FollowsIn start x c y
  plain_follows (Host name uuid) none may =
      plain_leads (Host name uuid) refl refl tt may (record {
        state = d.state;
        hosts = pairs_more (HostOver x.state) (HostOver x.state) x.hosts c.hosts (new_progress name uuid) (new_progress name uuid) d.hosts (λ i p q is other over. over)
            (record { name = refl; uuid = refl; keeps = refl; own = refl; told_uuid = refl; told_cmd = refl; task = tt });
      })
  plain_follows (Made h p) none may =
      plain_leads (Made h p) refl refl tt may (record { state = same refl; hosts = made_over (Sound p [] None) may.0 })
  plain_follows (Cut h k) none may =
      plain_leads (Cut h k) refl refl tt may (record { state = halted_over k x.state c.state d.state; hosts = made_over (halted k x.state) may.0.1 })
  plain_follows (Start h cmd) none may =
      plain_leads (Start h cmd) refl refl tt may (record { state = d.state; hosts = started_over h cmd })
  plain_follows (Stop h) none may =
      plain_leads (Stop h) refl refl tt may (record {
        state = d.state;
        hosts = ended_over _ _ (λ p q over. record {
          name = over.name;
          uuid = over.uuid;
          keeps = over.keeps;
          own = over.own;
          told_uuid = over.told_uuid;
          told_cmd = over.told_cmd;
          task = tt;
        }) h;
      })
  plain_follows (Halt h) none may =
      plain_leads (Halt h) refl refl tt may (record {
        state = d.state;
        hosts = ended_over _ _ (λ p q over. record {
          name = over.name;
          uuid = over.uuid;
          keeps = refl;
          own = over.own;
          told_uuid = over.told_uuid;
          told_cmd = over.told_cmd;
          task = tt;
        }) h;
      })
  plain_follows (Umount h) none may =
      plain_leads (Umount h) refl refl tt may (record {
        state = d.state;
        hosts = ended_over _ _ (λ p q over. record {
          name = over.name;
          uuid = over.uuid;
          keeps = refl;
          own = over.own;
          told_uuid = over.told_uuid;
          told_cmd = over.told_cmd;
          task = over.task;
        }) h;
      })
  plain_follows (Refused name cause) none may = plain_leads (Refused name cause) refl refl tt may (record { state = d.state; hosts = d.hosts })
  plain_follows (Answered h (MediaFault line)) none may =
      let both = both_run x c d h (λ me t. TaskNote h me t (Answered h (MediaFault line))) may.0 in
      record {
        next = after_line start x (Answered h (MediaFault line));
        leads = record {
          now = x;
          reaches = refl;
          may = (
            runs_at x h (λ me t. TaskNote h me t (Answered h (MediaFault line))) both.host both.task both.is both.runs (refl, tt),
            runs_at x h (λ me t. AnswerPlace t.cmd t.stage (MediaFault line)) both.host both.task both.is both.runs tt,
          );
          fits = of_told start x h (λ host. ⊤) both.host both.is tt;
          is = refl;
        };
        over = record {
          state = d.state;
          hosts = ended_over _ _ (λ p q over. record {
            name = over.name;
            uuid = over.uuid;
            keeps = over.keeps;
            own = over.own;
            told_uuid = over.told_uuid;
            told_cmd = over.told_cmd;
            task = tt;
          }) h;
        };
      }
  plain_follows (Answered h (Replied given)) none may = absurd cc
  plain_follows (Mark h) none may = absurd cc
  plain_follows (Found h n) none may = absurd cc
  plain_follows (Writes h seq e) none may = absurd cc
