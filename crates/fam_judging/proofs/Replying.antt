-- What is left of a host's command behind an answer is pushed behind other candidates.
use Rattle.std.proofs.Common.{◌≡◌, ◌⊎◌, inl, inr, ℕ, Bool, true, false, List, [], length, Option, Some, None, refl, ap, ap₂, sym, ◌∙◌, subst}
use Rattle.std.specs.Prelude.{⊤, if◌then◌else◌, ◌==◌, ◌+◌, slice_get}
use Rattle.std.proofs.lemmas.List.{append-nil}
use Rattle.std.proofs.lemmas.Option.{same_Some}
use Rattle.fam_base.specs.Image.{Image}
use Rattle.fam_commands.specs.ReplyClasses.{ReplyClass, reply_class, Appending, Declining, Showing, Reporting, Faulty}
use Rattle.fam_history.specs.declared.command.ToldCommand.{ToldCommand}
use Rattle.fam_journal.specs.Notes.{Answer, Answered, MediaFault, Replied}
use Rattle.fam_journal.specs.Past as past
use Rattle.fam_journal.specs.Past.{Bad, Origin, Sound, State, acknowledges, finds, pends, replied_in, shows, shows_count}
use Rattle.fam_judge.specs.Possible.{Possible, StepsTo}
use Rattle.fam_judge.proofs.Members.{changed_count}
use Rattle.fam_judge.proofs.Places.{runs_at}
use Rattle.fam_lines.specs.declared.answer.HostAnswer.{HostAnswer}
use Rattle.fam_lines.specs.declared.host.SeenHost.{SeenHost}
use Rattle.fam_lines.specs.declared.line.Line.TheVariants as line
use Rattle.fam_lines.specs.Lines.{answer_of, note_of_line}
use Rattle.fam_rules.specs.Asks.{File}
use Rattle.fam_rules.specs.Reply.{Reply}
use Rattle.fam_judging.specs.After.{possible_after, seen_after}
use Rattle.fam_judging.specs.AnsweredHosts.{AllPut, ArePutBehind, KeepsLeft, answered_possible, answered_seen}
use Rattle.fam_judging.specs.Candidates.{IsCandidate, possible_of, progress_list, settled_state}
use Rattle.fam_judging.specs.declared.candidate.Candidate.{Candidate}
use Rattle.fam_judging.specs.declared.candidate.Settled.{Settled}
use Rattle.fam_judging.specs.declared.candidate.Settled.TheVariants as settled
use Rattle.fam_judging.specs.declared.candidate.Track.{Track}
use Rattle.fam_judging.specs.declared.given.GivenImage.{GivenImage}
use Rattle.fam_judging.specs.declared.hosts.Hosts.{Hosts}
use Rattle.fam_judging.specs.declared.lefts.Left.{Left}
use Rattle.fam_judging.specs.declared.lefts.Lefts.{Lefts}
use Rattle.fam_judging.specs.Going.{HasGiven, command_in, running, stage_in}
use Rattle.fam_judging.specs.Lefts.{IsOfLefts, LeavesEndings, first, second}
use Rattle.fam_judging.specs.Plain.{IsFault}
use Rattle.fam_judging.specs.Pushing.{IsFine, Pushes}
use Rattle.fam_judging.specs.Replies.{Asker, EndingState, MayEnd, MeetsAtPoint, Point, ReachesPoint, told, untold, unmarked, marked, stands, meets, names}
use Rattle.fam_judging.specs.ReplyKinds.{asker_of, ending_left, point_of}
use Rattle.fam_judging.specs.Told.{AreToldCommands, IsToldCommand}
use Rattle.fam_judging.proofs.Answered.{answered_runs, put_steps, steps_put}
use Rattle.fam_judging.proofs.Goings.{goes_not, goes_there}
use Rattle.fam_judging.proofs.Owning.{Owns, owns, owns_none}
use Rattle.fam_judging.proofs.Pushes.{push_none, push_one}
use Rattle.fam_judging.proofs.Writtens.{pushes_both}

-- Commands.

-- the place of a running command
commanded : (o : Option SeenHost) (p : Option (Option ToldCommand)) (cmd : ToldCommand) → command_in o p ≡ Some cmd → p ≡ Some (Some cmd)
commanded None p cmd is = absurd cc
commanded (Some s) None cmd is = absurd cc
commanded (Some s) (Some c) cmd is = by s.runs is
  where
    by : (b : Bool) → (if b then c else None) ≡ Some cmd → Some c ≡ Some (Some cmd)
    by true is = ap Some is
    by false is = absurd cc

-- all is told of a running command
pub tells_running : (hosts : Hosts) (h : ℕ) (cmd : ToldCommand) → AreToldCommands hosts → Some cmd ≡ running hosts.seen.items hosts.commands.items h → IsToldCommand cmd
tells_running hosts h cmd all is = all h cmd (commanded (slice_get hosts.seen.items h) (slice_get hosts.commands.items h) cmd (sym is))

-- Where a state comes from.

-- the origin of a damaged state
abbrev origin_of : State → Option Origin
origin_of (Bad origin damage gate) = Some origin
origin_of (Sound p history pending) = None

-- of either state
either : (b : Bool) (s t : State) (o : Option Origin) → origin_of s ≡ o → origin_of t ≡ o → origin_of (if b then s else t) ≡ o
either true s t o one other = one
either false s t o one other = other

shows_origin : (m : ℕ) (s : State) → origin_of (shows m s) ≡ origin_of s
shows_origin m (Bad origin damage gate) = refl
shows_origin m (Sound p history pending) = either (m == length history + 1) _ _ None refl refl

finds_origin : (n : ℕ) (s : State) → origin_of (finds n s) ≡ origin_of s
finds_origin n (Bad origin damage gate) = refl
finds_origin n (Sound p history pending) = either (n == length history) _ _ None refl (shows_origin n (Sound p history pending))

pends_origin : (f : File) (s : State) → origin_of (pends f s) ≡ origin_of s
pends_origin f (Bad origin damage gate) = refl
pends_origin f (Sound p history pending) = refl

acknowledges_origin : (seq : ℕ) (s : State) → origin_of (acknowledges seq s) ≡ origin_of s
acknowledges_origin seq (Bad origin damage gate) = refl
acknowledges_origin seq (Sound p history pending) = either (seq == length history) _ _ None refl refl

count_origin : (o : Option ℕ) (s : State) → origin_of (shows_count o s) ≡ origin_of s
count_origin None s = refl
count_origin (Some m) s = shows_origin m s

replied_origin : (c : ReplyClass) (s : State) → origin_of (replied_in c s) ≡ origin_of s
replied_origin (Appending seq) s = acknowledges_origin seq s
replied_origin (Declining why) s = refl
replied_origin (Showing m) s = shows_origin m s
replied_origin (Reporting report) s = count_origin _ s
replied_origin Faulty s = refl

module _ (who : Asker) (at : Point) where
  meets_origin : (met : Point) → MeetsAtPoint who at met → origin_of met.state ≡ origin_of at.state
  meets_origin met (told n is same) = ap (λ (p : Point). origin_of p.state) same
  meets_origin met (untold n head wish found same) = ap (λ (p : Point). origin_of p.state) same ∙ finds_origin n at.state

  reaches_origin : (now : Point) → ReachesPoint who at now → origin_of now.state ≡ origin_of at.state
  reaches_origin now (unmarked is same) = ap (λ (p : Point). origin_of p.state) same
  reaches_origin now (marked is same) = ap (λ (p : Point). origin_of p.state) same
  reaches_origin now (stands not same) = ap (λ (p : Point). origin_of p.state) same
  reaches_origin now (meets is) = meets_origin now is
  reaches_origin now (names is) = ap (λ (p : Point). origin_of p.state) is.is ∙ pends_origin _ is.met.state ∙ meets_origin is.met is.meets

  -- an answer leaves a state of the same image
  ends_origin : (r : Reply) (e : EndingState) → MayEnd who at r e → origin_of e.state ≡ origin_of at.state
  ends_origin r e ends = ap (λ (k : EndingState). origin_of k.state) ends.is ∙ replied_origin (reply_class r) ends.now.state ∙ reaches_origin ends.now ends.reached

-- What is said of the image that was handed in.

-- what is left is the image that was handed in where it was before
pub left_said : (start : Image) (given : GivenImage) (s : SeenHost) (cmd : ToldCommand) (old : Settled) (t : Track) (r : Reply) (lefts : Lefts) → LeavesEndings given s cmd old t r lefts
    → (l : Left) → (lefts.first ≡ Some l) ⊎ (lefts.second ≡ Some l) → HasGiven start given old → HasGiven start given l.settled
left_said start given s cmd old t r lefts leaves l there has = by old leaves has l.settled refl
  where
    one_of : (e : EndingState) → e ≡ ending_left [] l.settled l.track → (lefts.first ≡ Some l) ⊎ (lefts.second ≡ Some l) → IsOfLefts [] lefts e
    one_of e is (inl there) = first l there is
    one_of e is (inr there) = second l there is

    same : (old : Settled) → LeavesEndings given s cmd old t r lefts → HasGiven [] given old → origin_of (settled_state [] l.settled) ≡ origin_of (settled_state [] old)
    same old leaves own =
        ends_origin (asker_of s cmd) (point_of [] old t) r (ending_left [] l.settled l.track) ((leaves [] own (ending_left [] l.settled l.track)).0 (one_of _ refl there))

    by : (old : Settled) → LeavesEndings given s cmd old t r lefts → HasGiven start given old → (new : Settled) → l.settled ≡ new → HasGiven start given new
    by old leaves has (settled.Log log) is = tt
    by old leaves has settled.Halted is = tt
    by settled.Given leaves has settled.Given is = has
    by (settled.Log log) leaves has settled.Given is =
        let e : Some (past.Given []) ≡ None = sym (ap (λ (k : Settled). origin_of (settled_state [] k)) is) ∙ same (settled.Log log) leaves tt in absurd cc
    by settled.Halted leaves has settled.Given is =
        let e : Some (past.Given []) ≡ Some past.Halted = sym (ap (λ (k : Settled). origin_of (settled_state [] k)) is) ∙ same settled.Halted leaves tt in absurd cc

-- Where no command runs.

-- an answer leads nowhere
runs_none : (start : Image) (hosts : Hosts) (c : Candidate) (h : ℕ) (r : Reply) → running hosts.seen.items hosts.commands.items h ≡ None
    → (z : Possible) → StepsTo start (possible_of start hosts c) (Answered h (Replied r)) z → ⊥
runs_none start hosts c h r none z steps =
    let x = possible_of start hosts c in
    let is = answered_runs start x h r z steps in
    owns_none hosts.seen.items hosts.commands.items c.tracks.items h (λ me t. ⊤)
    (ap (λ (o : Option ToldCommand). stage_in o (slice_get c.tracks.items h)) none)
    (runs_at x h (λ me t. ⊤) is.host is.task is.is is.runs is.holds)

-- What is pushed.

-- where it leads nowhere nothing is
pub none_pushed : (start : Image) (given : GivenImage) (hosts : Hosts) (c : Candidate) (h : ℕ) (a : HostAnswer) (r : Reply) → answer_of a ≡ Replied r
    → ((z : Possible) → StepsTo start (possible_of start hosts c) (Answered h (Replied r)) z → ⊥) → (old : List Candidate)
    → Pushes (StepsTo start (possible_of start hosts c) (note_of_line (line.Answered h a))) (IsFine start given (seen_after hosts.seen.items (line.Answered h a)))
    (possible_after start hosts (line.Answered h a)) old old
none_pushed start given hosts c h a r is none old =
    let x = possible_of start hosts c in
    push_none (StepsTo start x (note_of_line (line.Answered h a))) (IsFine start given (seen_after hosts.seen.items (line.Answered h a))) (possible_after start hosts (line.Answered h a)) old x
    (goes_not x (λ z steps. none z (subst (λ (k : Answer). StepsTo start x (Answered h k) z) is steps)))

-- where no command runs nothing is
pub idle_pushed : (start : Image) (given : GivenImage) (hosts : Hosts) (c : Candidate) (h : ℕ) (a : HostAnswer) (r : Reply) → answer_of a ≡ Replied r
    → running hosts.seen.items hosts.commands.items h ≡ None → (old : List Candidate)
    → Pushes (StepsTo start (possible_of start hosts c) (note_of_line (line.Answered h a))) (IsFine start given (seen_after hosts.seen.items (line.Answered h a)))
    (possible_after start hosts (line.Answered h a)) old old
idle_pushed start given hosts c h a r is idle old = none_pushed start given hosts c h a r is (runs_none start hosts c h r idle) old

module _ (start : Image) (given : GivenImage) (hosts : Hosts) (c : Candidate) (h : ℕ) (s : SeenHost) (cmd : ToldCommand) (t : Track)
    (is_run : Some cmd ≡ running hosts.seen.items hosts.commands.items h) (fits : IsCandidate hosts c) (is_seen : slice_get hosts.seen.items h ≡ Some s)
    (is_track : slice_get c.tracks.items h ≡ Some t) (has : HasGiven start given c.settled) (r : Reply) (lefts : Lefts) (leaves : LeavesEndings given s cmd c.settled t r lefts) where
  abbrev x : Possible
  x = possible_of start hosts c

  abbrev Steps : Possible → Type 0
  Steps = StepsTo start x (Answered h (Replied r))

  abbrev Fine : Candidate → Type 0
  Fine = IsFine start given (answered_seen h (Replied r) hosts.seen.items)

  abbrev see : Candidate → Possible
  see = answered_possible start hosts h (Replied r)

  o : Owns hosts.seen.items hosts.commands.items c.tracks.items h cmd t
  o = owns hosts.seen.items hosts.commands.items c.tracks.items h cmd t (sym is_run) is_track

  host_runs : s.runs ≡ true
  host_runs = ap (λ (k : SeenHost). k.runs) (same_Some s o.host (sym is_seen ∙ o.is)) ∙ o.runs

  -- the line leads there, and a candidate that keeps this is that state
  record Kept (p : Option Left) (z : Possible) : Type 0 where
    steps : Steps z
    l : Left
    there : p ≡ Some l
    is : (d : Candidate) → KeepsLeft c h l d → z ≡ see d

  -- candidates that keep the same are the same state
  alike : (l : Left) (d e : Candidate) → KeepsLeft c h l d → KeepsLeft c h l e → see d ≡ see e
  alike l d e a b =
      ap₂ (λ (k : Settled) (tracks : List Track).
      let y : Possible = record { state = settled_state start k; hosts = progress_list (answered_seen h (Replied r) hosts.seen.items) hosts.commands.items tracks } in y)
      (a.settled ∙ sym b.settled) (a.tracks ∙ sym b.tracks)

  -- the candidate is fine
  fine : (l : Left) (d : Candidate) → (lefts.first ≡ Some l) ⊎ (lefts.second ≡ Some l) → KeepsLeft c h l d → Fine d
  fine l d there keeps = record {
    placed = ap (λ (ts : List Track). length ts) keeps.tracks ∙ changed_count h _ c.tracks.items ∙ fits ∙ sym (changed_count h _ hosts.seen.items);
    said = subst (λ (k : Settled). HasGiven start given k) (sym keeps.settled) (left_said start given s cmd c.settled t r lefts leaves l there has);
  }

  -- one is put
  one_put : (p : Option Left) → ((l : Left) → p ≡ Some l → (lefts.first ≡ Some l) ⊎ (lefts.second ≡ Some l)) → (old new : List Candidate) → ArePutBehind c h p old new
      → Pushes (Kept p) Fine see old new
  one_put None there old new put = record {
    news = [];
    is = put ∙ sym (append-nil old);
    sound = λ k d at. absurd cc;
    fine = λ k d at. absurd cc;
    complete = λ z k. let e : None ≡ Some k.l = k.there in absurd cc;
  }
  one_put (Some l) there old new put =
      push_one (Kept (Some l)) Fine see old put.d new put.added
      (goes_there (see put.d)
      (record {
        steps = put_steps start hosts c h s cmd t host_runs is_seen o.told is_track given has r lefts leaves l put.d (there l refl) put.behind;
        l = l;
        there = refl;
        is = λ d keeps. alike l put.d d put.behind keeps;
      })
      (λ z k. k.is put.d (subst (λ (m : Left). KeepsLeft c h m put.d) (same_Some l k.l k.there) put.behind)))
      (fine l put.d (there l refl) put.behind)

  -- all are
  all_put : (old new : List Candidate) → AllPut c h lefts old new → Pushes Steps Fine see old new
  all_put old new put =
      pushes_both (Kept lefts.first) (Kept lefts.second) Steps Fine see old put.mid new
      (one_put lefts.first (λ l is. inl is) old put.mid put.first) (one_put lefts.second (λ l is. inr is) put.mid new put.second)
      (λ z k. k.steps) (λ z k. k.steps)
      (λ z steps.
      let k = steps_put start hosts c h s cmd t host_runs is_seen o.told is_track given has r lefts leaves z steps in
      elim k.there [
        | inl there ↦ inl (record { steps = steps; l = k.l; there = there; is = k.is })
        | inr there ↦ inr (record { steps = steps; l = k.l; there = there; is = k.is })
      ])

  -- candidates with what is left are pushed, as the states to which the line of the answer leads
  pub lefts_pushed : (a : HostAnswer) → answer_of a ≡ Replied r → (old new : List Candidate) → AllPut c h lefts old new
      → Pushes (StepsTo start x (note_of_line (line.Answered h a))) (IsFine start given (seen_after hosts.seen.items (line.Answered h a))) (possible_after start hosts (line.Answered h a)) old new
  lefts_pushed a is old new put =
      subst (λ (k : Answer). Pushes (StepsTo start x (Answered h k)) (IsFine start given (answered_seen h k hosts.seen.items)) (answered_possible start hosts h k) old new)
      (sym is) (all_put old new put)

-- Replies.

-- an answer other than a fault of the media is a reply
pub no_fault : (a : Answer) → (IsFault a → ⊥) → (r : Reply) × (a ≡ Replied r)
no_fault (Replied r) other = (r, refl)
no_fault (MediaFault at) other = absurd (other tt)
