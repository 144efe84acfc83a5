-- Lines that a running command gives, together.
use Rattle.std.proofs.Common.{◌≡◌, ◌↔◌, ℕ, Bool, true, false, IsTrue, refl, sym, ap, subst, ◌∙◌, Option}
use Rattle.std.specs.Prelude.{⊤, is_some, slice_get}
use Rattle.std.proofs.lemmas.Bool.{true≢false}
use Rattle.fam_base.specs.declared.entry.Entry.{Entry}
use Rattle.fam_base.specs.Image.{Image}
use Rattle.fam_journal.specs.Members.{changed_at}
use Rattle.fam_journal.specs.Notes.{Answer, Answered, MediaFault, Replied}
use Rattle.fam_journal.specs.Shapes.{TaskNote, keeps_behind}
use Rattle.fam_judge.specs.Formed.{AnswerPlace}
use Rattle.fam_judge.specs.Fitting.{AnswerFits}
use Rattle.fam_judge.specs.Possible.{Possible, StageIs, StepsTo, after_note, shapes_in}
use Rattle.fam_judge.specs.Standing.{is_own}
use Rattle.fam_judge.proofs.Places.{of_told, running_at}
use Rattle.fam_lines.specs.declared.answer.HostAnswer.{HostAnswer}
use Rattle.fam_lines.specs.declared.host.SeenHost.{SeenHost}
use Rattle.fam_lines.specs.declared.line.Line.{Line}
use Rattle.fam_lines.specs.declared.line.Line.TheVariants as line
use Rattle.fam_lines.specs.Lines.{answer_of, note_of_line}
use Rattle.fam_judging.specs.declared.candidate.Candidate.{Candidate}
use Rattle.fam_judging.specs.declared.candidate.Stage.{Stage}
use Rattle.fam_judging.specs.declared.hosts.Hosts.{Hosts}
use Rattle.fam_judging.specs.After.{possible_after}
use Rattle.fam_judging.specs.Candidates.{possible_of, progress_list}
use Rattle.fam_judging.specs.Going.{Goes, stage_of_host}
use Rattle.fam_judging.specs.Plain.{IsFault}
use Rattle.fam_judging.proofs.Goings.{same_possible}
use Rattle.fam_judging.proofs.Lists.{seen_changed}
use Rattle.fam_judging.proofs.Owning.{stage_tests}
use Rattle.fam_judging.proofs.Reaching.{weaker}

-- a command that was answered so leads to the state without it
fault_to : (start : Image) (x : Possible) (h at : ℕ) → StageIs (λ s. ⊤) h x → StepsTo start x (Answered h (MediaFault at)) (after_note start x (Answered h (MediaFault at)))
fault_to start x h at runs =
    let r = running_at x h (λ me t. ⊤) runs in
    record {
      now = x;
      reaches = refl;
      may = (
        weaker (slice_get (shapes_in x) h) (λ me t. ⊤) (λ me t. TaskNote h me t (Answered h (MediaFault at))) (λ me t is. (refl, tt)) runs,
        weaker (slice_get (shapes_in x) h) (λ me t. ⊤) (λ me t. AnswerPlace t.cmd t.stage (MediaFault at)) (λ me t is. tt) runs,
      );
      fits = of_told start x h (λ host. AnswerFits (MediaFault at) host x.state) r.host r.is tt;
      is = refl;
    }

-- and to no other
fault_from : (start : Image) (x z : Possible) (h at : ℕ) → StepsTo start x (Answered h (MediaFault at)) z → StageIs (λ s. ⊤) h x × (z ≡ after_note start x (Answered h (MediaFault at)))
fault_from start x z h at s = (
  subst (λ (y : Possible). StageIs (λ s. ⊤) h y) s.reaches (weaker (slice_get (shapes_in s.now) h) (λ me t. TaskNote h me t (Answered h (MediaFault at))) (λ me t. ⊤) (λ me t is. tt) s.may.0),
  s.is ∙ ap (λ (y : Possible). after_note start y (Answered h (MediaFault at))) s.reaches,
)

-- the candidate without the command
fault_next : (start : Image) (hosts : Hosts) (c : Candidate) (h : ℕ) (a : HostAnswer) (at : ℕ) → answer_of a ≡ MediaFault at
    → possible_after start hosts (line.Answered h a) c ≡ after_note start (possible_of start hosts c) (Answered h (MediaFault at))
fault_next start hosts c h a at is =
    same_possible _ _ _ _ refl
    (ap (λ (k : Answer). progress_list (changed_at h (λ (s : SeenHost). record s { runs = false; keeps = keeps_behind k s.keeps }) hosts.seen.items) hosts.commands.items c.tracks.items) is
    ∙ seen_changed _ _ (λ s c t. refl) h hosts.seen.items hosts.commands.items c.tracks.items)

-- where the host runs one
pub fault_goes : (start : Image) (hosts : Hosts) (c : Candidate) (h : ℕ) (a : HostAnswer) (answer : Answer) (b : Bool) → answer_of a ≡ answer → IsFault answer
    → IsTrue b ↔ StageIs (λ s. ⊤) h (possible_of start hosts c) → Goes (StepsTo start (possible_of start hosts c) (Answered h answer)) (possible_after start hosts (line.Answered h a) c) b
fault_goes start hosts c h a (Replied given) b is fault runs = absurd fault
fault_goes start hosts c h a (MediaFault at) b is fault runs =
    let x = possible_of start hosts c in
    let next = fault_next start hosts c h a at is in
    record {
      sound = λ h'. subst (λ (y : Possible). StepsTo start x (Answered h (MediaFault at)) y) (sym next) (fault_to start x h at (runs.0 h'));
      complete = λ z s. let f = fault_from start x z h at s in (runs.1 f.0, f.1 ∙ sym next);
    }

-- a test of it
pub runs_tests : (start : Image) (hosts : Hosts) (c : Candidate) (h : ℕ) → IsTrue (is_some (stage_of_host hosts c h)) ↔ StageIs (λ s. ⊤) h (possible_of start hosts c)
runs_tests start hosts c h =
    stage_tests start hosts c h (stage_of_host hosts c h) (λ s. ⊤) (is_some (stage_of_host hosts c h)) refl
    (λ s is. (λ k. tt, λ k. ap (λ (o : Option Stage). is_some o) is)) (λ is. ap (λ (o : Option Stage). is_some o) is)

-- a line of another kind
pub rest_goes : (start : Image) (x y : Possible) (l : Line) → is_own (note_of_line l) ≡ true
    → ((h : ℕ) → l ≡ line.Mark h → ⊥) → ((h n : ℕ) → l ≡ line.Found h n → ⊥) → ((h seq : ℕ) (e : Entry) → l ≡ line.Writes h seq e → ⊥)
    → ((h : ℕ) (a : HostAnswer) → l ≡ line.Answered h a → ⊥) → Goes (StepsTo start x (note_of_line l)) y false
rest_goes start x y (line.Host name uuid) own m f w a = absurd (true≢false (sym own))
rest_goes start x y (line.Made h p) own m f w a = absurd (true≢false (sym own))
rest_goes start x y (line.Cut h k) own m f w a = absurd (true≢false (sym own))
rest_goes start x y (line.Start h cmd) own m f w a = absurd (true≢false (sym own))
rest_goes start x y (line.Mark h) own m f w a = absurd (m h refl)
rest_goes start x y (line.Found h n) own m f w a = absurd (f h n refl)
rest_goes start x y (line.Writes h seq e) own m f w a = absurd (w h seq e refl)
rest_goes start x y (line.Answered h answer) own m f w a = absurd (a h answer refl)
rest_goes start x y (line.Stop h) own m f w a = absurd (true≢false (sym own))
rest_goes start x y (line.Halt h) own m f w a = absurd (true≢false (sym own))
rest_goes start x y (line.Umount h) own m f w a = absurd (true≢false (sym own))
rest_goes start x y (line.Refused name why) own m f w a = absurd (true≢false (sym own))
