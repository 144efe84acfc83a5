-- An entry that a host names behind what a journal comes to is named behind a state that allows no less.
use Rattle.std.proofs.Common.{◌≡◌, ◌≢◌, ◌≤◌, ℕ, List, length, Option, Some, None, refl, ap, sym, ◌∙◌, subst, arith}
use Rattle.std.specs.Prelude.{option_map, slice_get, Ok}
use Rattle.std.proofs.lemmas.Option.{same_Some, slice_get-map}
use Rattle.fam_base.specs.declared.cmd.Cmd.{Cmd}
use Rattle.fam_base.specs.declared.entry.Entry.{Entry}
use Rattle.fam_base.specs.declared.entry.Params.{Params}
use Rattle.fam_base.specs.Image.{Image}
use Rattle.fam_commands.specs.Appends.{HasWish}
use Rattle.fam_rules.specs.Asks.{File, entries_of}
use Rattle.fam_journal.specs.Legal.{FoundAllowed, IsDecided, WritesAllowed, master_of}
use Rattle.fam_journal.specs.Members.{changed_at}
use Rattle.fam_journal.specs.Notes.{Found, Writes}
use Rattle.fam_journal.specs.Past.{Bad, HostPast, Sound, State, cmd_of, filled_bytes, finds, pends, settled_length}
use Rattle.fam_journal.specs.Shapes.{Begun, CommandStage, EntryShape, IsHead, Marked, Met, Named, OfRunning, Pairs, TaskNote, TaskShape, with_stage}
use Rattle.fam_judge.specs.Covering.{Direct, HostOver, StagesOver, StateOver, TasksOver, same}
use Rattle.fam_judge.specs.Possible.{MeetsEntries, NonePends, Possible, Progress, after_note, past_in, shapes_in, shown_met, left_out_met}
use Rattle.fam_judge.proofs.Folding.{told_in}
use Rattle.fam_judge.proofs.Over.{over_met, over_none, over_settled, over_master}
use Rattle.fam_judge.proofs.OverHosts.{IsApart, LaterOf, host_later_of, one_place}
use Rattle.fam_judge.proofs.OverOwn.{Both, both_run}
use Rattle.fam_judge.proofs.Pairing.{pairs_step}
use Rattle.fam_judge.proofs.Places.{changed_is, changed_twice, of_told, runs_at, told_at}
use Rattle.fam_judge.proofs.Replies.{decided_master}
use Rattle.fam_rules.specs.Decide.{decide}
use Rattle.fam_judge.specs.Fitting.{FitsNext}

-- What an entry that is named tells of the state.

-- nothing pends, it is numbered by what is settled, and the host is the master
pub record WriteSays (seq : ℕ) (e : Entry) (host : HostPast) (t : State) : Type 0 where
  pub params : Params
  pub history : List File
  pub is : t ≡ Sound params history None
  pub count : seq ≡ length history
  pub decided : IsDecided params host history None (Ok e)
  pub master : host.uuid ≡ params.master

says_by : (seq : ℕ) (e : Entry) (host : HostPast) (p : Params) (history : List File) (pending : Option File) → pending ≡ None → seq ≡ length history
    → IsDecided p host history pending (Ok e) → WriteSays seq e host (Sound p history pending)
says_by seq e host p history pending none count decided = record {
  params = p;
  history = history;
  is = ap (Sound p history) none;
  count = count;
  decided = subst (λ (o : Option File). IsDecided p host history o (Ok e)) none decided;
  master = decided_master p host.uuid _ decided.cmd (Ok e) decided.is tt;
}

pub write_says : (seq : ℕ) (e : Entry) (host : HostPast) (t : State) → WritesAllowed seq e host t → WriteSays seq e host t
write_says seq e host (Bad origin damage gate) is = absurd is
write_says seq e host (Sound p history pending) is = says_by seq e host p history pending is.1.none is.0 is.1

-- and what allows it
pub may_write : (seq : ℕ) (e : Entry) (host other : HostPast) (t : State) → host.uuid ≡ other.uuid → host.cmd ≡ other.cmd → WriteSays seq e other t → WritesAllowed seq e host t
may_write seq e host other t uuid cmd says =
    subst (WritesAllowed seq e host) (sym says.is) (
      says.count,
      record {
        cmd = says.decided.cmd;
        told = cmd ∙ says.decided.told;
        none = refl;
        is = ap (λ (u : List ℕ). decide says.params u (entries_of says.history) says.decided.cmd) uuid ∙ says.decided.is;
      },
    )

-- the command of a host
pub cmd_at : (start : Image) (x : Possible) (h : ℕ) (p : Progress) → slice_get x.hosts h ≡ Some p → cmd_of (slice_get (past_in start x).hosts h) ≡ p.told.cmd
cmd_at start x h p is = ap cmd_of (slice_get-map told_in x.hosts h ∙ ap (option_map told_in) is)

-- the entry, with its bytes
abbrev pub named_file : Option Cmd → Entry → File
named_file cmd e = record { entry = e; bytes = filled_bytes cmd e.size }

-- Hosts.

-- so of one that isn't the master
pended_later : (s : State) (p : Params) (history : List File) (f : File) (u : List ℕ) → settled_length s ≤ length history → u ≢ p.master
    → LaterOf u s (Sound p history (Some f))
pended_later s p history f u low ne = record { settled = low; none = λ was e. absurd (ne (sym (same_Some p.master u e))) }

-- a command that has named an entry
written : (s left : State) (seq : ℕ) (a b : Option TaskShape) (p q told_p told_q : HostPast) → TasksOver s a b p q → told_p.wrote ≡ told_q.wrote
    → TasksOver left (option_map (λ (t : TaskShape). record t { stage = Named seq }) a) (option_map (λ (t : TaskShape). record t { stage = Named seq }) b) told_p told_q
written s left seq None None p q told_p told_q tasks wrote = tt
written s left seq None (Some b) p q told_p told_q tasks wrote = absurd tasks
written s left seq (Some a) None p q told_p told_q tasks wrote = absurd tasks
written s left seq (Some a) (Some b) p q told_p told_q tasks wrote = (tasks.0, (refl, wrote))

module _ (x c : Possible) (d : Direct x c) (apart : IsApart x) (h : ℕ) (seq : ℕ) (e : Entry) (p q : Progress) (p_is : slice_get x.hosts h ≡ Some p) (q_is : slice_get c.hosts h ≡ Some q)
    (over : HostOver x.state p q) (says : WriteSays seq e q.told c.state) (low : settled_length x.state ≤ length says.history) where
  -- the other hosts aren't the master
  others : (f : File) (i : ℕ) (a b : Progress) → i ≢ h → slice_get x.hosts i ≡ Some a → slice_get c.hosts i ≡ Some b → HostOver x.state a b
      → HostOver (Sound says.params says.history (Some f)) a b
  others f i a b ne a_is b_is there =
      host_later_of x.state (Sound says.params says.history (Some f)) a b
      (pended_later x.state says.params says.history f a.told.uuid low
      (λ master. ne (one_place x apart i h a p a_is p_is (sym there.own ∙ master ∙ sym says.master ∙ sym over.told_uuid ∙ over.own))))
      there

  -- all hosts behind it
  pub written_pairs : (f : File) (g k : Progress → Progress)
      → ((a b : Progress) → slice_get x.hosts h ≡ Some a → slice_get c.hosts h ≡ Some b → HostOver x.state a b → HostOver (Sound says.params says.history (Some f)) (g a) (k b))
      → Pairs (HostOver (Sound says.params says.history (Some f))) (changed_at h g x.hosts) (changed_at h k c.hosts)
  written_pairs f g k mine = pairs_step (HostOver x.state) (HostOver (Sound says.params says.history (Some f))) x.hosts c.hosts h g k d.hosts (others f) mine

-- An entry is named.

module _ (start : Image) (x c : Possible) (d : Direct x c) (apart : IsApart x) (h : ℕ) (seq : ℕ) (e : Entry) where
  -- what the first state comes to
  pub record WritesIn : Type 0 where
    pub met : Possible
    pub meets : MeetsEntries start h x met
    pub may : OfRunning (slice_get (shapes_in met) h) (λ me t. TaskNote h me t (Writes h seq e))
    pub fits : FitsNext (past_in start met) (Writes h seq e)
    pub over : Direct (after_note start met (Writes h seq e)) (after_note start c (Writes h seq e))
    pub state : (after_note start met (Writes h seq e)).state ≡ (after_note start c (Writes h seq e)).state

  module _ (both : Both x c h (λ me t. TaskNote h me t (Writes h seq e))) (says : WriteSays seq e both.other.told c.state) where
    counted : FoundAllowed seq x.state × (finds seq x.state ≡ c.state)
    counted =
        let over : StateOver x.state (Sound says.params says.history None) = subst (StateOver x.state) says.is d.state in
        let met = over_met x.state says.params says.history over in
        (subst (λ (n : ℕ). FoundAllowed n x.state) (sym says.count) met.0, ap (λ (n : ℕ). finds n x.state) says.count ∙ met.1 ∙ sym says.is)

    low : settled_length x.state ≤ length says.history
    low =
        let up = over_settled x.state c.state d.state in
        let long : settled_length c.state ≡ length says.history = ap settled_length says.is in omega (arith, up, long)

    pended : (s : State) (cmd : Option Cmd) → s ≡ c.state → pends (named_file cmd e) s ≡ Sound says.params says.history (Some (named_file cmd e))
    pended s cmd same_state = ap (pends (named_file cmd e)) (same_state ∙ says.is)

    file_is : named_file (cmd_of (slice_get (past_in start c).hosts h)) e ≡ named_file both.host.told.cmd e
    file_is = ap (λ (o : Option Cmd). named_file o e) (cmd_at start c h both.other both.other_is ∙ sym both.over.told_cmd)

    writes_there : (now : Possible) (p : Progress) → slice_get now.hosts h ≡ Some p → p.told.cmd ≡ both.host.told.cmd → p.told.uuid ≡ both.host.told.uuid → now.state ≡ c.state
        → FitsNext (past_in start now) (Writes h seq e)
    writes_there now p is cmd uuid state =
        of_told start now h (λ host. WritesAllowed seq e host now.state) p is
        (subst (λ (s : State). WritesAllowed seq e p.told s) (sym state)
        (may_write seq e p.told both.other.told c.state (uuid ∙ both.over.told_uuid) (cmd ∙ both.over.told_cmd) says))

    next_state : (now : Possible) (p : Progress) → slice_get now.hosts h ≡ Some p → p.told.cmd ≡ both.host.told.cmd → now.state ≡ c.state
        → (after_note start now (Writes h seq e)).state ≡ Sound says.params says.history (Some (named_file both.host.told.cmd e))
    next_state now p is cmd state =
        ap (λ (f : File). pends f now.state) (ap (λ (o : Option Cmd). named_file o e) (cmd_at start now h p is ∙ cmd)) ∙ pended now.state both.host.told.cmd state

    left_state : (after_note start c (Writes h seq e)).state ≡ Sound says.params says.history (Some (named_file both.host.told.cmd e))
    left_state = ap (λ (f : File). pends f c.state) file_is ∙ pended c.state both.host.told.cmd refl

    host_written : (f : Progress → Progress) → ((a : Progress) → (f a).shape.name ≡ a.shape.name) → ((a : Progress) → (f a).shape.uuid ≡ a.shape.uuid)
        → ((a : Progress) → (f a).shape.keeps ≡ a.shape.keeps) → ((a : Progress) → (f a).told ≡ a.told)
        → ((a : Progress) → option_map (λ (t : TaskShape). record t { stage = Named seq }) (f a).shape.task ≡ option_map (λ (t : TaskShape). record t { stage = Named seq }) a.shape.task)
        → (s : State) (a b : Progress) → HostOver x.state a b
        → HostOver s (record (f a) { told = record (f a).told { wrote = Some (record { seq = seq; entry = e }) }; shape = with_stage (Named seq) (f a).shape })
        (record b { told = record b.told { wrote = Some (record { seq = seq; entry = e }) }; shape = with_stage (Named seq) b.shape })
    host_written f names uuids keeps tolds tasks s a b over = record {
      name = names a ∙ over.name;
      uuid = uuids a ∙ over.uuid;
      keeps = keeps a ∙ over.keeps;
      own = ap (λ (t : HostPast). t.uuid) (tolds a) ∙ over.own ∙ sym (uuids a);
      told_uuid = ap (λ (t : HostPast). t.uuid) (tolds a) ∙ over.told_uuid;
      told_cmd = ap (λ (t : HostPast). t.cmd) (tolds a) ∙ over.told_cmd;
      task = subst (λ (o : Option TaskShape). TasksOver s o (option_map (λ (t : TaskShape). record t { stage = Named seq }) b.shape.task)
          (record (f a).told { wrote = Some (record { seq = seq; entry = e }) }) (record b.told { wrote = Some (record { seq = seq; entry = e }) })) (sym (tasks a))
          (written x.state s seq a.shape.task b.shape.task a.told b.told _ _ over.task refl);
    }

    from_head : IsHead both.task.stage → WritesIn
    from_head head =
        let wish : EntryShape both.other_task.cmd e = both.holds.1 in
        let found : Progress → Progress = λ p. record p { shape = with_stage (Met seq) p.shape } in
        let now = after_note start x (Found h seq) in
        let there : slice_get now.hosts h ≡ Some (found both.host) = changed_is h found x.hosts both.host both.is in
        record {
          met = now;
          meets = left_out_met seq (runs_at x h (λ me t. IsHead t.stage) both.host both.task both.is both.runs head)
              (runs_at x h (λ me t. HasWish t.cmd) both.host both.task both.is both.runs (subst HasWish (sym both.cmd) (wish.0, wish.1))) counted.0 refl;
          may = runs_at now h (λ me t. TaskNote h me t (Writes h seq e)) (found both.host) (record both.task { stage = Met seq }) there
              (ap (option_map (λ (t : TaskShape). record t { stage = Met seq })) both.runs) (refl, subst (λ (k : Cmd). EntryShape k e) (sym both.cmd) both.holds.1, refl);
          fits = writes_there now (found both.host) there refl refl counted.1;
          over = record {
            state = same (left_state ∙ sym (next_state now (found both.host) there refl counted.1));
            hosts = subst (λ (s : State). Pairs (HostOver s) (after_note start now (Writes h seq e)).hosts (after_note start c (Writes h seq e)).hosts)
                (sym (next_state now (found both.host) there refl counted.1))
                (subst (λ (l : List Progress). Pairs (HostOver (Sound says.params says.history (Some (named_file both.host.told.cmd e)))) l (after_note start c (Writes h seq e)).hosts)
                (sym (changed_twice h found _ x.hosts))
                (written_pairs x c d apart h seq e both.host both.other both.is both.other_is both.over says low (named_file both.host.told.cmd e) _ _
                (λ a b is other over. host_written found (λ p. refl) (λ p. refl) (λ p. refl) (λ p. refl) (λ p. staged p.shape.task) _ a b over)));
          };
          state = next_state now (found both.host) there refl counted.1 ∙ sym left_state;
        }
      where
        staged : (o : Option TaskShape) → option_map (λ (t : TaskShape). record t { stage = Named seq })
            (option_map (λ (t : TaskShape). record t { stage = Met seq }) o) ≡ option_map (λ (t : TaskShape). record t { stage = Named seq }) o
        staged None = refl
        staged (Some t) = refl

    from_met : both.task.stage ≡ Met seq → (master_of x.state ≡ Some both.host.told.uuid → NonePends x.state) → WritesIn
    from_met met none =
        let master : master_of x.state ≡ Some both.host.told.uuid =
        over_master x.state c.state d.state ∙ ap master_of says.is ∙ ap Some (sym says.master ∙ sym both.over.told_uuid) in
        let state : x.state ≡ c.state = sym (over_none x.state c.state d.state (none master)) in
        record {
          met = x;
          meets = shown_met seq (runs_at x h (λ me t. t.stage ≡ Met seq) both.host both.task both.is both.runs met) refl;
          may = runs_at x h (λ me t. TaskNote h me t (Writes h seq e)) both.host both.task both.is both.runs (refl, subst (λ (k : Cmd). EntryShape k e) (sym both.cmd) both.holds.1, met);
          fits = writes_there x both.host both.is refl refl state;
          over = record {
            state = same (left_state ∙ sym (next_state x both.host both.is refl state));
            hosts = subst (λ (s : State). Pairs (HostOver s) (after_note start x (Writes h seq e)).hosts (after_note start c (Writes h seq e)).hosts)
                (sym (next_state x both.host both.is refl state))
                (written_pairs x c d apart h seq e both.host both.other both.is both.other_is both.over says low (named_file both.host.told.cmd e) _ _
                (λ a b is other over. host_written (λ p. p) (λ p. refl) (λ p. refl) (λ p. refl) (λ p. refl) (λ p. refl) _ a b over));
          };
          state = next_state x both.host both.is refl state ∙ sym left_state;
        }

    by_stage : (a : CommandStage) → both.task.stage ≡ a → StagesOver x.state a (Met seq) both.host.told both.other.told → WritesIn
    by_stage Begun is stages = from_head (subst IsHead (sym is) tt)
    by_stage Marked is stages = from_head (subst IsHead (sym is) tt)
    by_stage (Met m) is stages = from_met (is ∙ ap Met stages.0) stages.1
    by_stage (Named k) is stages = absurd stages

  -- an entry that is named behind the second state is named behind the first one
  pub writes_in : OfRunning (slice_get (shapes_in c) h) (λ me t. TaskNote h me t (Writes h seq e)) → FitsNext (past_in start c) (Writes h seq e)
      → WritesIn
  writes_in may fits =
      let both = both_run x c d h (λ me t. TaskNote h me t (Writes h seq e)) may in
      let says = write_says seq e both.other.told c.state (told_at start c h (λ host. WritesAllowed seq e host c.state) both.other both.other_is fits) in
      by_stage both says both.task.stage refl (subst (λ (b : CommandStage). StagesOver x.state both.task.stage b both.host.told both.other.told) both.holds.2 both.stages)
