-- What is left of a host's command is where the line of its answer leads.
use Prim.Native.Nat.{zero, suc}
use Rattle.std.proofs.Common.{◌≡◌, ◌⊎◌, inl, inr, ℕ, Bool, true, false, List, [], ◌∷◌, Option, Some, None, refl, ap, ap₂, sym, ◌∙◌, subst}
use Rattle.std.specs.Prelude.{⊤, ◌||◌, if◌then◌else◌, option_map, slice_get}
use Rattle.std.proofs.lemmas.Option.{same_Some}
use Rattle.fam_base.specs.Image.{Image}
use Rattle.fam_commands.specs.ReplyClasses.{is_mounted}
use Rattle.fam_history.specs.declared.command.ToldCommand.{ToldCommand}
use Rattle.fam_journal.specs.Members.{changed_at}
use Rattle.fam_journal.specs.Notes.{Answered, Replied}
use Rattle.fam_journal.specs.Shapes.{TaskNote}
use Rattle.fam_judge.specs.Possible as possible
use Rattle.fam_judge.specs.Possible.{MeetsEntries, Possible, Progress, Reaches, StepsTo, shown_met, left_out_met}
use Rattle.fam_judge.proofs.Places.{Running, running_at}
use Rattle.fam_lines.specs.declared.host.SeenHost.{SeenHost}
use Rattle.fam_lines.specs.Lines.{untold_of}
use Rattle.fam_rules.specs.Reply.{Reply}
use Rattle.fam_judging.specs.AnsweredHosts.{KeepsLeft, answered_possible, answered_seen}
use Rattle.fam_judging.specs.Candidates.{named_of, possible_of, progress_list, progress_of, settled_state, stage_shape}
use Rattle.fam_judging.specs.declared.candidate.Candidate.{Candidate}
use Rattle.fam_judging.specs.declared.candidate.Settled.{Settled}
use Rattle.fam_judging.specs.declared.candidate.Track.{Track}
use Rattle.fam_judging.specs.declared.given.GivenImage.{GivenImage}
use Rattle.fam_judging.specs.declared.hosts.Hosts.{Hosts}
use Rattle.fam_judging.specs.declared.lefts.Left.{Left}
use Rattle.fam_judging.specs.declared.lefts.Lefts.{Lefts}
use Rattle.fam_judging.specs.Lefts.{IsOfLefts, LeavesEndings, first, second}
use Rattle.fam_judging.specs.Replies.{EndingState, possible_behind_answer, progress_at, progress_behind}
use Rattle.fam_judging.specs.Going.{HasGiven}
use Rattle.fam_judging.specs.ReplyKinds.{asker_of, ending_left, point_of}
use Rattle.fam_judging.proofs.ReplySteps.{IsNow, ends_step, step_ends}

-- the host of a number
progress_is : (h : ℕ) (seen : List SeenHost) (cmds : List (Option ToldCommand)) (tracks : List Track) (s : SeenHost) (c : Option ToldCommand) (t : Track)
    → slice_get seen h ≡ Some s → slice_get cmds h ≡ Some c → slice_get tracks h ≡ Some t → slice_get (progress_list seen cmds tracks) h ≡ Some (progress_of s c t)
progress_is h [] cmds tracks s c t is_seen is_cmd is_track = absurd cc
progress_is h (s' ∷ seen) [] tracks s c t is_seen is_cmd is_track = absurd cc
progress_is h (s' ∷ seen) (c' ∷ cmds) [] s c t is_seen is_cmd is_track = absurd cc
progress_is zero (s' ∷ seen) (c' ∷ cmds) (t' ∷ tracks) s c t is_seen is_cmd is_track =
    let a : s' ≡ s = same_Some s' s is_seen in let b : c' ≡ c = same_Some c' c is_cmd in let d : t' ≡ t = same_Some t' t is_track in
    ap (λ (x : SeenHost). Some (progress_of x c' t')) a ∙ ap (λ (x : Option ToldCommand). Some (progress_of s x t')) b ∙ ap (λ (x : Track). Some (progress_of s c x)) d
progress_is (suc h) (s' ∷ seen) (c' ∷ cmds) (t' ∷ tracks) s c t is_seen is_cmd is_track = progress_is h seen cmds tracks s c t is_seen is_cmd is_track

-- the hosts behind the answer
list_behind : (h : ℕ) (seen : List SeenHost) (cmds : List (Option ToldCommand)) (tracks : List Track) (s : SeenHost) (c : ToldCommand) (t : Track) (r : Reply) (start : Image) (l : Left)
    → slice_get seen h ≡ Some s → slice_get cmds h ≡ Some (Some c) → slice_get tracks h ≡ Some t
    → progress_list (answered_seen h (Replied r) seen) cmds (changed_at h (λ t. l.track) tracks)
    ≡ changed_at h (λ p. progress_behind (asker_of s c) r (ending_left start l.settled l.track)) (progress_list seen cmds tracks)
list_behind h [] cmds tracks s c t r start l is_seen is_cmd is_track = absurd cc
list_behind h (s' ∷ seen) [] tracks s c t r start l is_seen is_cmd is_track = absurd cc
list_behind h (s' ∷ seen) (c' ∷ cmds) [] s c t r start l is_seen is_cmd is_track = absurd cc
list_behind zero (s' ∷ seen) (c' ∷ cmds) (t' ∷ tracks) s c t r start l is_seen is_cmd is_track =
    let a : s' ≡ s = same_Some s' s is_seen in let b : c' ≡ Some c = same_Some c' (Some c) is_cmd in
    ap (λ (p : Progress). p ∷ progress_list seen cmds tracks)
    (ap (λ (x : SeenHost). progress_of (record x { runs = false; keeps = is_mounted r || x.keeps }) c' l.track) a
    ∙ ap (λ (x : Option ToldCommand). progress_of (record s { runs = false; keeps = is_mounted r || s.keeps }) x l.track) b)
list_behind (suc h) (s' ∷ seen) (c' ∷ cmds) (t' ∷ tracks) s c t r start l is_seen is_cmd is_track =
    ap (λ (ps : List Progress). progress_of s' c' t' ∷ ps) (list_behind h seen cmds tracks s c t r start l is_seen is_cmd is_track)

module _ (start : Image) (hosts : Hosts) (c : Candidate) (h : ℕ) (s : SeenHost) (cmd : ToldCommand) (t : Track) (runs : s.runs ≡ true)
    (is_seen : slice_get hosts.seen.items h ≡ Some s) (is_cmd : slice_get hosts.commands.items h ≡ Some (Some cmd)) (is_track : slice_get c.tracks.items h ≡ Some t) where
  running_is : progress_of s (Some cmd) t ≡ progress_at (asker_of s cmd) (point_of start c.settled t)
  running_is = ap (λ (b : Bool). let p : Progress = record {
    told = record { name = s.name; uuid = s.uuid; cmd = Some (untold_of cmd); floor = t.floor; wrote = option_map named_of t.wrote };
    shape = record { name = s.name; uuid = s.uuid; task = if b then Some (record { cmd = untold_of cmd; stage = stage_shape t.stage }) else None; keeps = s.keeps };
  } in p) runs

  own : IsNow start (possible_of start hosts c) h (asker_of s cmd) (point_of start c.settled t) (possible_of start hosts c)
  own = record {
    there = progress_is h hosts.seen.items hosts.commands.items c.tracks.items s (Some cmd) t is_seen is_cmd is_track ∙ ap Some running_is;
    state = refl;
    others = λ q. refl;
  }

  module _ (given : GivenImage) (is_of : HasGiven start given c.settled) (r : Reply) (lefts : Lefts) (leaves : LeavesEndings given s cmd c.settled t r lefts) where
    -- the state of a candidate that keeps what is left
    put_is : (l : Left) (d : Candidate) → KeepsLeft c h l d
        → possible_behind_answer (possible_of start hosts c) h (asker_of s cmd) r (ending_left start l.settled l.track) ≡ answered_possible start hosts h (Replied r) d
    put_is l d is =
        ap (λ (ps : List Progress). let x : Possible = record { state = settled_state start l.settled; hosts = ps } in x)
        (sym (list_behind h hosts.seen.items hosts.commands.items c.tracks.items s cmd t r start l is_seen is_cmd is_track))
        ∙ ap₂ (λ (k : Settled) (tracks : List Track).
        let x : Possible = record { state = settled_state start k; hosts = progress_list (answered_seen h (Replied r) hosts.seen.items) hosts.commands.items tracks } in x) (sym is.settled)
        (sym is.tracks)

    -- the line leads to it
    pub put_steps : (l : Left) (d : Candidate) → (lefts.first ≡ Some l) ⊎ (lefts.second ≡ Some l) → KeepsLeft c h l d
        → StepsTo start (possible_of start hosts c) (Answered h (Replied r)) (answered_possible start hosts h (Replied r) d)
    put_steps l d there is =
        subst (StepsTo start (possible_of start hosts c) (Answered h (Replied r))) (put_is l d is)
        (ends_step start (possible_of start hosts c) h (asker_of s cmd) (point_of start c.settled t) own r (ending_left start l.settled l.track)
        ((leaves start is_of (ending_left start l.settled l.track)).0 (one_of there)))
      where
        one_of : (lefts.first ≡ Some l) ⊎ (lefts.second ≡ Some l) → IsOfLefts start lefts (ending_left start l.settled l.track)
        one_of (inl there) = first l there refl
        one_of (inr there) = second l there refl

    -- what it leads to
    pub record Keeps (z : Possible) : Type 0 where
      pub l : Left
      pub there : (lefts.first ≡ Some l) ⊎ (lefts.second ≡ Some l)
      pub is : (d : Candidate) → KeepsLeft c h l d → z ≡ answered_possible start hosts h (Replied r) d

    -- and it leads to nothing else
    pub steps_put : (z : Possible) → StepsTo start (possible_of start hosts c) (Answered h (Replied r)) z → Keeps z
    steps_put z steps =
        let left = step_ends start (possible_of start hosts c) h (asker_of s cmd) (point_of start c.settled t) own r z steps in
        by left.ending left.is ((leaves start is_of left.ending).1 left.ends)
      where
        by : (e : EndingState) → z ≡ possible_behind_answer (possible_of start hosts c) h (asker_of s cmd) r e → IsOfLefts start lefts e → Keeps z
        by e is (first l there same) = record { l = l; there = inl there; is = λ d put. is ∙ ap (possible_behind_answer (possible_of start hosts c) h (asker_of s cmd) r) same ∙ put_is l d put }
        by e is (second l there same) = record { l = l; there = inr there; is = λ d put. is ∙ ap (possible_behind_answer (possible_of start hosts c) h (asker_of s cmd) r) same ∙ put_is l d put }

-- a host that is answered runs a command
module _ (start : Image) (x : Possible) (h : ℕ) where
  runs_by : {P : List ℕ → Rattle.fam_journal.specs.Shapes.TaskShape → Type 0} → Running x h P → Running x h (λ me t. ⊤)
  runs_by is = record { host = is.host; is = is.is; task = is.task; runs = is.runs; holds = tt }

  meets_runs : (met : Possible) → MeetsEntries start h x met → Running x h (λ me t. ⊤)
  meets_runs met (shown_met n is e) = runs_by (running_at x h _ is)
  meets_runs met (left_out_met n head wish found e) = runs_by (running_at x h _ head)

  reaches_runs : (r : Reply) (now : Possible) → Reaches start h x now
      → Rattle.fam_journal.specs.Shapes.OfRunning (slice_get (possible.shapes_in now) h) (λ me t. TaskNote h me t (Answered h (Replied r))) → Running x h (λ me t. ⊤)
  reaches_runs r now (possible.unmarked is e) may = runs_by (running_at x h _ is)
  reaches_runs r now (possible.marked is e) may = runs_by (running_at x h _ is)
  reaches_runs r now (possible.stands e none) may =
      runs_by (running_at x h _ (subst (λ (y : Possible). Rattle.fam_journal.specs.Shapes.OfRunning (slice_get (possible.shapes_in y) h) (λ me t. TaskNote h me t (Answered h (Replied r)))) e may))
  reaches_runs r now (possible.meets is) may = meets_runs now is
  reaches_runs r now (possible.wrote is) may = meets_runs is.met is.meets

  -- an answer stands where its host runs a command
  pub answered_runs : (r : Reply) (z : Possible) → StepsTo start x (Answered h (Replied r)) z → Running x h (λ me t. ⊤)
  answered_runs r z steps = reaches_runs r steps.now steps.reaches steps.may.0
