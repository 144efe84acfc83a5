-- What tests of a host's stage say.
use Rattle.std.proofs.Common.{◌≡◌, ◌↔◌, ℕ, Bool, true, false, IsTrue, Option, Some, None, refl, sym, ap, subst, ◌∙◌, arith}
use Rattle.std.specs.Prelude.{is_some, slice_get}
use Rattle.std.proofs.lemmas.Bool.{true≢false}
use Rattle.std.proofs.lemmas.Bool.Decides.{nat_tests}
use Rattle.fam_base.specs.Image.{Image}
use Rattle.fam_commands.specs.Appends.{HasWish}
use Rattle.fam_history.specs.declared.command.ToldCommand.{ToldCommand}
use Rattle.fam_journal.specs.Shapes.{Begun, CommandStage, IsHead, Met}
use Rattle.fam_judge.specs.Possible.{StageIs, WantsToAppend}
use Rattle.fam_lines.specs.Lines.{untold_of}
use Rattle.fam_rules.specs.Decide.{Wish, wish_of}
use Rattle.fam_judging.specs.declared.candidate.Track.{Track}
use Rattle.fam_judging.specs.declared.candidate.Candidate.{Candidate}
use Rattle.fam_judging.specs.declared.candidate.Stage.{Stage}
use Rattle.fam_judging.specs.declared.candidate.Stage.TheVariants as stage
use Rattle.fam_judging.specs.declared.hosts.Hosts.{Hosts}
use Rattle.fam_judging.specs.Candidates.{possible_of, stage_shape}
use Rattle.fam_judging.specs.Going.{is_appending, is_at_head, is_begun, is_met, running, stage_of_host, stage_in}
use Rattle.fam_judging.proofs.Owning.{OwnsAt, own_from, own_to, owns, stage_tests}

-- a test of stages
tests : (test : Option Stage → Bool) (P : CommandStage → Type 0) → ((s : Stage) → IsTrue (test (Some s)) ↔ P (stage_shape s)) → test None ≡ false
    → (start : Image) (hosts : Hosts) (c : Candidate) (h : ℕ) → IsTrue (test (stage_of_host hosts c h)) ↔ StageIs P h (possible_of start hosts c)
tests test P some none start hosts c h = stage_tests start hosts c h (stage_of_host hosts c h) P (test (stage_of_host hosts c h)) refl
    (λ s is. subst (λ (o : Option Stage). IsTrue (test o) ↔ P (stage_shape s)) (sym is) (some s)) (λ is. ap test is ∙ none)

-- no stage passes
no : {P : Type 0} → (P → ⊥) → IsTrue false ↔ P
no none = (λ h. absurd (true≢false (sym h)), λ p. absurd (none p))

-- it has just begun
pub begun_tests : (start : Image) (hosts : Hosts) (c : Candidate) (h : ℕ) → IsTrue (is_begun (stage_of_host hosts c h)) ↔ StageIs (λ stage. stage ≡ Begun) h (possible_of start hosts c)
begun_tests = tests is_begun (λ s. s ≡ Begun) by refl
  where
    by : (s : Stage) → IsTrue (is_begun (Some s)) ↔ (stage_shape s ≡ Begun)
    by stage.Begun = (λ h. refl, λ p. refl)
    by stage.Marked = no (λ e. cc)
    by (stage.Met n) = no (λ e. cc)
    by (stage.Named n) = no (λ e. cc)

-- it has found nothing yet
pub head_tests : (start : Image) (hosts : Hosts) (c : Candidate) (h : ℕ) → IsTrue (is_at_head (stage_of_host hosts c h)) ↔ StageIs IsHead h (possible_of start hosts c)
head_tests = tests is_at_head IsHead by refl
  where
    by : (s : Stage) → IsTrue (is_at_head (Some s)) ↔ IsHead (stage_shape s)
    by stage.Begun = (λ h. tt, λ p. refl)
    by stage.Marked = (λ h. tt, λ p. refl)
    by (stage.Met n) = no (λ e. e)
    by (stage.Named n) = no (λ e. e)

-- the stage of so many entries
met_stage : (n : ℕ) (s : Stage) → IsTrue (is_met n (Some s)) ↔ (stage_shape s ≡ Met n)
met_stage n stage.Begun = no (λ e. cc)
met_stage n stage.Marked = no (λ e. cc)
met_stage n (stage.Met k) = (λ h. ap Met (grind (arith, nat_tests, h)), λ p. let same : k ≡ n = cc in grind (arith, nat_tests, same))
met_stage n (stage.Named k) = no (λ e. cc)

-- it has found so many entries
pub met_tests : (n : ℕ) (start : Image) (hosts : Hosts) (c : Candidate) (h : ℕ) → IsTrue (is_met n (stage_of_host hosts c h)) ↔ StageIs (λ stage. stage ≡ Met n) h (possible_of start hosts c)
met_tests n = tests (is_met n) (λ s. s ≡ Met n) (met_stage n) refl

-- a wish
wishes_by : (start : Image) (hosts : Hosts) (c : Candidate) (h : ℕ) (run : Option ToldCommand) (track : Option Track)
    → running hosts.seen.items hosts.commands.items h ≡ run → slice_get c.tracks.items h ≡ track
    → (s : Stage) → stage_in run track ≡ Some s → IsTrue (is_appending run) ↔ WantsToAppend h (possible_of start hosts c)
wishes_by start hosts c h None track runs at s is = absurd cc
wishes_by start hosts c h (Some cmd) None runs at s is = absurd cc
wishes_by start hosts c h (Some cmd) (Some t) runs at s is =
    let o = owns hosts.seen.items hosts.commands.items c.tracks.items h cmd t runs at in (
      λ is. own_to start hosts c h cmd t (λ me t. HasWish t.cmd) o (some_wish (wish_of (untold_of cmd)) is),
      λ r. no_wish (wish_of (untold_of cmd)) (own_from start hosts c h cmd t (λ me t. HasWish t.cmd) o r),
    )
  where
    some_wish : (o : Option Wish) → is_some o ≡ true → (w : Wish) × (o ≡ Some w)
    some_wish None h = absurd (true≢false (sym h))
    some_wish (Some w) h = (w, refl)

    no_wish : (o : Option Wish) → (w : Wish) × (o ≡ Some w) → is_some o ≡ true
    no_wish o w = ap (λ (x : Option Wish). is_some x) w.1

-- a command that has a stage
staged : (test : Option Stage → Bool) → test None ≡ false → (o : Option Stage) → test o ≡ true → (s : Stage) × (o ≡ Some s)
staged test none None h = absurd (true≢false (sym h ∙ none))
staged test none (Some s) h = (s, refl)

-- its command appends
pub wishes_tests : (test : Option Stage → Bool) → test None ≡ false → (start : Image) (hosts : Hosts) (c : Candidate) (h : ℕ) → test (stage_of_host hosts c h) ≡ true
    → IsTrue (is_appending (running hosts.seen.items hosts.commands.items h)) ↔ WantsToAppend h (possible_of start hosts c)
wishes_tests test none start hosts c h is =
    let s = staged test none (stage_of_host hosts c h) is in
    wishes_by start hosts c h (running hosts.seen.items hosts.commands.items h) (slice_get c.tracks.items h) refl refl s.0 s.1

-- a command that has found so many entries
pub record MetAt (hosts : Hosts) (c : Candidate) (h n : ℕ) (cmd : ToldCommand) : Type 0 where
  pub track : Track
  pub owns : OwnsAt hosts c h cmd track
  pub stage : stage_shape track.stage ≡ Met n

-- by its place
met_by : (hosts : Hosts) (c : Candidate) (h n : ℕ) (cmd : ToldCommand) (o : Option Track) → running hosts.seen.items hosts.commands.items h ≡ Some cmd → slice_get c.tracks.items h ≡ o
    → is_met n (stage_in (Some cmd) o) ≡ true → MetAt hosts c h n cmd
met_by hosts c h n cmd None runs at is = absurd (true≢false (sym is))
met_by hosts c h n cmd (Some t) runs at is = record {
  track = t;
  owns = owns hosts.seen.items hosts.commands.items c.tracks.items h cmd t runs at;
  stage = (met_stage n t.stage).0 is;
}

-- where it runs
pub met_at : (hosts : Hosts) (c : Candidate) (h n : ℕ) (cmd : ToldCommand) → running hosts.seen.items hosts.commands.items h ≡ Some cmd → is_met n
    (stage_of_host hosts c h) ≡ true → MetAt hosts c h n cmd
met_at hosts c h n cmd runs is =
    met_by hosts c h n cmd (slice_get c.tracks.items h) runs refl (ap (λ (o : Option ToldCommand). is_met n (stage_in o (slice_get c.tracks.items h))) (sym runs) ∙ is)
