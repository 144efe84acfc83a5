-- The running command of a host, as a candidate has it.
use Rattle.std.proofs.Common.{◌≡◌, ◌↔◌, ℕ, zero, suc, Bool, true, false, IsTrue, List, [], ◌∷◌, map, Option, Some, None, refl, sym, ap, ap₂, subst, ◌∙◌}
use Rattle.std.specs.Prelude.{if◌then◌else◌, option_map, slice_get}
use Rattle.std.proofs.lemmas.Bool.{true≢false}
use Rattle.std.proofs.lemmas.Option.{same_Some}
use Rattle.fam_base.specs.Image.{Image}
use Rattle.fam_history.specs.declared.command.ToldCommand.{ToldCommand}
use Rattle.fam_journal.specs.Shapes.{CommandStage, HostShape, OfRunning, TaskShape}
use Rattle.fam_judge.specs.Possible.{StageIs, shapes_in}
use Rattle.fam_judge.proofs.Folding.{shape_in}
use Rattle.fam_lines.specs.declared.host.SeenHost.{SeenHost}
use Rattle.fam_judging.specs.declared.candidate.Candidate.{Candidate}
use Rattle.fam_judging.specs.declared.candidate.Stage.{Stage}
use Rattle.fam_judging.specs.declared.candidate.Track.{Track}
use Rattle.fam_judging.specs.declared.hosts.Hosts.{Hosts}
use Rattle.fam_judging.specs.Candidates.{possible_of, progress_list, progress_of, stage_shape}
use Rattle.fam_judging.specs.Going.{command_in, running, stage_of_host, stage_in}
use Rattle.fam_judging.proofs.Lists.{task_at}

-- a host that runs a command
abbrev pub shaped : SeenHost → ToldCommand → Track → HostShape
shaped s cmd t = record { name = s.name; uuid = s.uuid; task = Some (task_at (stage_shape t.stage) cmd); keeps = s.keeps }

-- which host runs it, and how far it has come
pub record Owns (seen : List SeenHost) (cmds : List (Option ToldCommand)) (tracks : List Track) (h : ℕ) (cmd : ToldCommand) (t : Track) : Type 0 where
  pub host : SeenHost
  pub is : slice_get seen h ≡ Some host
  pub runs : host.runs ≡ true
  pub told : slice_get cmds h ≡ Some (Some cmd)
  pub there : slice_get (progress_list seen cmds tracks) h ≡ Some (progress_of host (Some cmd) t)
  pub shape : slice_get (map shape_in (progress_list seen cmds tracks)) h ≡ Some (shaped host cmd t)

-- the first host's
first_runs : (runs : Bool) (c : Option ToldCommand) (cmd : ToldCommand) → (if runs then c else None) ≡ Some cmd → (runs ≡ true) × (c ≡ Some cmd)
first_runs true c cmd is = (refl, is)
first_runs false c cmd is = absurd cc

-- a host without a place among the commands runs none
no_command : (o : Option SeenHost) (cmd : ToldCommand) → command_in o None ≡ Some cmd → ⊥
no_command None cmd is = cc
no_command (Some s) cmd is = cc

-- its task
here : (runs : Bool) (c : Option ToldCommand) (cmd : ToldCommand) (k : Track) → runs ≡ true → c ≡ Some cmd
    → (if runs then option_map (task_at (stage_shape k.stage)) c else None) ≡ Some (task_at (stage_shape k.stage) cmd)
here runs c cmd k is told =
    ap (λ (b : Bool). if b then option_map (task_at (stage_shape k.stage)) c else None) is ∙ ap (option_map (task_at (stage_shape k.stage))) told

-- the host's running command
pub owns : (seen : List SeenHost) (cmds : List (Option ToldCommand)) (tracks : List Track) (h : ℕ) (cmd : ToldCommand) (t : Track)
    → running seen cmds h ≡ Some cmd → slice_get tracks h ≡ Some t → Owns seen cmds tracks h cmd t
owns [] cmds tracks h cmd t is at = absurd cc
owns (s ∷ seen) [] tracks zero cmd t is at = absurd cc
owns (s ∷ seen) [] tracks (suc h) cmd t is at = absurd (no_command (slice_get seen h) cmd is)
owns (s ∷ seen) (c ∷ cmds) [] h cmd t is at = absurd cc
owns (s ∷ seen) (c ∷ cmds) (k ∷ tracks) zero cmd t is at =
    let r = first_runs s.runs c cmd is in
    let one : k ≡ t = same_Some k t at in
    record {
      host = s;
      is = refl;
      runs = r.0;
      told = ap Some r.1;
      there = ap₂ (λ (o : Option ToldCommand) (q : Track). Some (progress_of s o q)) r.1 one;
      shape = ap (λ (o : Option TaskShape). Some (let y : HostShape = record { name = s.name; uuid = s.uuid; task = o; keeps = s.keeps } in y)) (here s.runs c cmd k r.0 r.1)
          ∙ ap (λ (q : Track). Some (shaped s cmd q)) one;
    }
owns (s ∷ seen) (c ∷ cmds) (k ∷ tracks) (suc h) cmd t is at =
    let o = owns seen cmds tracks h cmd t is at in
    record { host = o.host; is = o.is; runs = o.runs; told = o.told; there = o.there; shape = o.shape }

-- there is none
pub owns_none : (seen : List SeenHost) (cmds : List (Option ToldCommand)) (tracks : List Track) (h : ℕ) (P : List ℕ → TaskShape → Type 0)
    → stage_in (running seen cmds h) (slice_get tracks h) ≡ None → OfRunning (slice_get (map shape_in (progress_list seen cmds tracks)) h) P → ⊥
owns_none [] cmds tracks h P none r = r
owns_none (s ∷ seen) [] tracks h P none r = r
owns_none (s ∷ seen) (c ∷ cmds) [] h P none r = r
owns_none (s ∷ seen) (c ∷ cmds) (k ∷ tracks) zero P none r = by s.runs c none r
  where
    by : (runs : Bool) (c : Option ToldCommand) → stage_in (if runs then c else None) (Some k) ≡ None
        → Rattle.fam_journal.specs.Shapes.OfTask (if runs then option_map (task_at (stage_shape k.stage)) c else None) (P s.uuid) → ⊥
    by true None none r = r
    by true (Some cmd) none r = cc
    by false c none r = r
owns_none (s ∷ seen) (c ∷ cmds) (k ∷ tracks) (suc h) P none r = owns_none seen cmds tracks h P none r

-- the shapes of the hosts beside which a candidate stands
abbrev pub shapes : Image → Hosts → Candidate → List HostShape
shapes start hosts c = shapes_in (possible_of start hosts c)

-- a command that is running
abbrev pub OwnsAt : Hosts → Candidate → ℕ → ToldCommand → Track → Type 0
OwnsAt hosts c h cmd t = Owns hosts.seen.items hosts.commands.items c.tracks.items h cmd t

module _ (start : Image) (hosts : Hosts) (c : Candidate) (h : ℕ) where
  -- what holds of a command that is running
  pub own_from : (cmd : ToldCommand) (t : Track) (P : List ℕ → TaskShape → Type 0) (o : OwnsAt hosts c h cmd t)
      → OfRunning (slice_get (shapes start hosts c) h) P → P o.host.uuid (task_at (stage_shape t.stage) cmd)
  own_from cmd t P o r = subst (λ (s : Option HostShape). OfRunning s P) o.shape r

  -- and back
  pub own_to : (cmd : ToldCommand) (t : Track) (P : List ℕ → TaskShape → Type 0) (o : OwnsAt hosts c h cmd t)
      → P o.host.uuid (task_at (stage_shape t.stage) cmd) → OfRunning (slice_get (shapes start hosts c) h) P
  own_to cmd t P o p = subst (λ (s : Option HostShape). OfRunning s P) (sym o.shape) p

  -- a stage that a command has come to
  stage_by : (run : Option ToldCommand) (track : Option Track) (s : Stage) (P : CommandStage → Type 0) → running hosts.seen.items hosts.commands.items h ≡ run → slice_get c.tracks.items h ≡ track
      → stage_in run track ≡ Some s → StageIs P h (possible_of start hosts c) ↔ P (stage_shape s)
  stage_by None track s P runs at is = absurd cc
  stage_by (Some cmd) None s P runs at is = absurd cc
  stage_by (Some cmd) (Some t) s P runs at is =
      let o = owns hosts.seen.items hosts.commands.items c.tracks.items h cmd t runs at in
      let same : t.stage ≡ s = same_Some t.stage s is in (
        λ r. subst (λ (k : Stage). P (stage_shape k)) same (own_from cmd t (λ me t. P t.stage) o r),
        λ p. own_to cmd t (λ me t. P t.stage) o (subst (λ (k : Stage). P (stage_shape k)) (sym same) p),
      )

  -- what holds of it
  pub stage_is : (s : Stage) (P : CommandStage → Type 0) → stage_of_host hosts c h ≡ Some s → StageIs P h (possible_of start hosts c) ↔ P (stage_shape s)
  stage_is s P is = stage_by (running hosts.seen.items hosts.commands.items h) (slice_get c.tracks.items h) s P refl refl is

  -- where no command is running nothing does
  pub stage_none : (P : List ℕ → TaskShape → Type 0) → stage_of_host hosts c h ≡ None → OfRunning (slice_get (shapes start hosts c) h) P → ⊥
  stage_none P none r = owns_none hosts.seen.items hosts.commands.items c.tracks.items h P none r

  -- a test of a stage
  pub stage_tests : (o : Option Stage) (P : CommandStage → Type 0) (b : Bool) → stage_of_host hosts c h ≡ o
      → ((s : Stage) → o ≡ Some s → IsTrue b ↔ P (stage_shape s)) → (o ≡ None → b ≡ false) → IsTrue b ↔ StageIs P h (possible_of start hosts c)
  stage_tests None P b is some none =
      (λ yes. absurd (true≢false (sym yes ∙ none refl)), λ r. absurd (stage_none (λ me t. P t.stage) is r))
  stage_tests (Some s) P b is some none =
      let same = stage_is s P is in
      (λ yes. same.1 ((some s refl).0 yes), λ r. (some s refl).1 (same.0 r))
