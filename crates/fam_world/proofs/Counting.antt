-- So many operations of a host's task, one behind another, are steps of the world.
use Rattle.std.proofs.Common.{◌≡◌, ℕ, suc, ◌+◌, ◌<◌, List, length, map, Bool, true, false, Option, Some, None, Result, Ok, Err, refl, ap, ap₂, sym, subst, ◌∙◌, arith, append-nil}
use Rattle.std.specs.Prelude.{IsErrOf, is_some, not, slice_get}
use Rattle.fam_base.specs.Image.{Image, IsNormal}
use Rattle.fam_base.specs.declared.line.OutOfMemory.{OutOfMemory}
use Rattle.fam_machine.specs.Caches.{Cache}
use Rattle.fam_cache.specs.Operations.{word_of}
use Rattle.fam_commands.specs.Task.{Task, op_of}
use Rattle.fam_media.specs.Outside.{IfModelled}
use Rattle.fam_media.specs.States.{MediaChange, MediaState}
use Rattle.fam_tasks.specs.declared.answer.Turn.TheVariants.{Go}
use Rattle.fam_tasks.proofs.Keeping.{go_keeps}
use Rattle.fam_run.specs.Cached as run
use Rattle.fam_run.specs.Cached.{CachedRun}
use Rattle.fam_run.proofs.Cached.{cached_goes, cached_leaves, cached_lines, cached_turned}
use Rattle.fam_run.specs.TaskChange.{TaskChange}
use Rattle.fam_run.proofs.Running.{lines_kept}
use Rattle.fam_journal.specs.declared.refusal.Refusal.TheVariants as why
use Rattle.fam_journal.specs.ByWorld.{number_in, refusal_in, shown_host, shown_task}
use Rattle.fam_journal.specs.Calls as call
use Rattle.fam_journal.specs.Calls.{is_busy_host, when}
use Rattle.fam_journal.specs.CallRecords.{StepCall, heading}
use Rattle.fam_journal.specs.Members.{changed_at}
use Rattle.fam_journal.specs.Notes.{Note}
use Rattle.fam_journal.specs.View.{HostView, WorldView}
use Rattle.fam_journal.proofs.Calls.Members.{changed_alike, changed_at_member}
use Rattle.fam_world.specs.Answers.{IfStepped}
use Rattle.fam_world.specs.Counted.{Ends, HostStanding, HostStep, HostStepsSay, Iterated, SomeSteps, StepsSay, WorldStanding, WorldStep, none, more, told_of}
use Rattle.fam_world.specs.Finishes.{SoFar}
use Rattle.fam_world.specs.declared.fault.Moved.{Moved}
use Rattle.fam_world.specs.declared.fault.Moved.TheVariants as moved
use Rattle.fam_world.specs.declared.fault.WorldFault.{WorldFault}
use Rattle.fam_world.specs.declared.fault.WorldFault.TheVariants as fault
use Rattle.fam_world.proofs.Deciding.{steps_first}
use Rattle.fam_world.proofs.Finishing.{next_so_far, number_same, so_far}
use Rattle.fam_world.proofs.Members.{length_kept, map_at, map_kept, put_own, put_twice}
use Rattle.fam_world.proofs.Stepping.{step_call}
use Rattle.fam_world.proofs.TaskSteps.{Reached, done_step, iterated_both, standing_at}

-- Operations on copies of the host alone.

pub held_steps : (at lines : ℕ) (view : HostView) (notes : List Note) (media : MediaState) → IsNormal media.image
    → IfModelled media.image (λ image. length image ≡ lines) → (t next : Task) (held after : Cache) {n : ℕ} → CachedRun t held next after n
    → t.lines ≡ lines
    → Iterated (HostStep at lines false) (standing_at view (Some t) t.kept held notes media) (standing_at view (Some next) next.kept after notes media) n
held_steps at lines view notes media normal modelled t _ held _ run.none fits = none
held_steps at lines view notes media normal modelled t next held after (run.more {mid = mid} {now = now} before sound within of is turn) fits =
    let goes = cached_goes mid next now after of is turn in
    let b : TaskChange = record { task = mid; next = next; old = now; new = after; lines = lines; media = record { old = media; new = media } } in
    more (held_steps at lines view notes media normal modelled t mid held now before fits)
    (done_step at lines view b Go notes notes
    (record {
      sound = sound;
      within = within;
      leaves = cached_leaves (op_of mid) media.image now after of is;
      goes = goes;
      kept = go_keeps mid next (word_of (op_of mid) after) goes;
      keeps = lines_kept after mid next Go sound goes;
      turned = cached_turned mid next now after of is turn media.image normal;
      own = λ line is. absurd cc;
    }) modelled (cached_lines t mid held now before ∙ fits) (omega arith) (sym (append-nil notes)))

-- some behind others
pub runs_both : (at lines : ℕ) (a b c : HostStanding) {n : ℕ} → SomeSteps at lines a b → Iterated (HostStep at lines false) b c n → SomeSteps at lines a c
runs_both at lines a b c {n} first rest = record { count = first.count + n; goes = iterated_both (HostStep at lines false) a b c first.count n first.goes rest }

pub runs_all : (at lines : ℕ) (a b c : HostStanding) → SomeSteps at lines a b → SomeSteps at lines b c → SomeSteps at lines a c
runs_all at lines a b c first rest = runs_both at lines a b c first rest.goes

pub ends_behind : (at lines : ℕ) (view : HostView) (a b c : HostStanding) → SomeSteps at lines a b → Reached at lines view b true c → Ends at lines a c
ends_behind at lines view a b c first reached =
    record { before = reached.before; runs = runs_both at lines a b reached.before first reached.runs.goes; last = reached.last }

-- The host in its world.

heading_kept : (at lines : ℕ) (a b : HostStanding) {n : ℕ} → Iterated (HostStep at lines false) a b n → heading b.host ≡ heading a.host
heading_kept at lines a _ none = refl
heading_kept at lines a b (more {b = mid} before last) = last.step.host ∙ heading_kept at lines a mid before

module _ (name : List ℕ) (at lines : ℕ) (world : WorldView) (view : HostView) (number : number_in name world ≡ Some at)
    (view_is : slice_get world.hosts at ≡ Some view) (within : at < length world.hosts) where
  -- the world with the host that is told of
  abbrev pub with_host : HostStanding → WorldStanding
  with_host s = record { world = record { hosts = changed_at at (λ v. s.host) world.hosts; journal = s.notes }; media = s.media }

  headings : (s : HostStanding) → heading s.host ≡ heading view → map heading (changed_at at (λ v. s.host) world.hosts) ≡ map heading world.hosts
  headings s same =
      ap (λ (vs : List HostView). map heading vs) (changed_alike at (λ v. s.host) (λ v. record s.host { name = v.name; uuid = v.uuid }) world.hosts view view_is
      (ap₂ (λ (n u : List ℕ). record s.host { name = n; uuid = u }) (ap (λ p. p.0) same) (ap (λ p. p.1) same)))
      ∙ map_kept heading (λ v. record s.host { name = v.name; uuid = v.uuid }) (λ v. refl) at world.hosts

  one_step : (over : Bool) (a b : HostStanding) → heading a.host ≡ heading view → HostStep at lines over a b → WorldStep name lines over (with_host a) (with_host b)
  one_step over a b same x =
      let w : WorldView = (with_host a).world in
      let number_is : number_in name w ≡ Some at = number_same name w world (headings a same) ∙ number in
      let here : slice_get w.hosts at ≡ Some a.host = changed_at_member at (λ v. a.host) world.hosts view view_is in
      let busy : is_busy_host (slice_get (map shown_host w.hosts) at) ≡ true = ap is_busy_host (map_at shown_host w.hosts at a.host here) ∙ ap (λ (o : Option Task). is_some (shown_task o)) x.runs in
      let free : refusal_in (call.Steps name) w lines ≡ None = steps_first w.hosts w.journal name lines (Some at) number_is ∙ ap (λ (b : Bool). when (not b) why.Idle) busy in
      record {
        modelled = x.modelled;
        step = step_call name at lines w a.host x.task number_is free (subst (λ (n : ℕ). at < n) (sym (length_kept (λ v. a.host) at world.hosts)) within) here x.runs
            (with_host b).world b.host a.media.image b.media.image a.media.faults b.media.faults x.modelled (sym (put_twice at a.host b.host world.hosts)) over x.step;
      }

  all_steps : (a b : HostStanding) {n : ℕ} → heading a.host ≡ heading view → Iterated (HostStep at lines false) a b n → Iterated (WorldStep name lines false) (with_host a) (with_host b) n
  all_steps a _ same none = none
  all_steps a b same (more {b = mid} before last) =
      more (all_steps a mid same before) (one_step false mid b (heading_kept at lines a mid before ∙ same) last)

  -- what is said of the steps of a host is said of its world
  said : (most : ℕ) (a b : HostStanding) (r : Result Moved OutOfMemory) → heading a.host ≡ heading view → HostStepsSay at lines most a b r
      → StepsSay name lines most (with_host a) (with_host b) (told_of r)
  said most a b (Ok moved.Going) same x = all_steps a b same x
  said most a b (Ok moved.Answered) same x = record {
    before = with_host x.before;
    count = x.count;
    within = x.within;
    goes = all_steps a x.before same x.goes;
    ends = one_step true x.before b (heading_kept at lines a x.before x.goes ∙ same) x.ends;
  }
  said most a b (Err full) same x = record { count = x.count; within = x.within; goes = all_steps a b same x.goes }

  pub steps_said : (most : ℕ) (media : MediaChange) (new : WorldView) (next : HostView) (r : Result Moved OutOfMemory) → new.hosts ≡ changed_at at (λ v. next) world.hosts
      → HostStepsSay at lines most (record { host = view; notes = world.journal; media = media.old }) (record { host = next; notes = new.journal; media = media.new }) r
      → StepsSay name lines most (record { world = world; media = media.old }) (record { world = new; media = media.new }) (told_of r)
  steps_said most media new next r hosts x =
      let start : HostStanding = record { host = view; notes = world.journal; media = media.old } in
      let end : HostStanding = record { host = next; notes = new.journal; media = media.new } in
      subst (λ (hs : List HostView). StepsSay name lines most (record { world = record { hosts = hs; journal = world.journal }; media = media.old })
      (record { world = new; media = media.new }) (told_of r)) (put_own at view world.hosts view_is)
      (subst (λ (hs : List HostView). StepsSay name lines most (with_host start) (record { world = record { hosts = hs; journal = new.journal }; media = media.new }) (told_of r)) (sym hosts)
      (said most start end r refl x))

  -- Operations up to an answer.

  module _ (told told_now : Option Image) (faults faults_now : ℕ) (new : WorldView) (next : HostView) (hosts : new.hosts ≡ changed_at at (λ v. next) world.hosts) where
    abbrev start : HostStanding
    start = record { host = view; notes = world.journal; media = record { image = told; faults = faults } }

    abbrev end : HostStanding
    end = record { host = next; notes = new.journal; media = record { image = told_now; faults = faults_now } }

    abbrev Reaches : ℕ → Bool → WorldStanding → WorldStanding → Type 0
    Reaches count over a b = SoFar at lines count over a b

    -- so of the world as it was, and as it is
    here : (count : ℕ) (over : Bool) → Reaches count over (with_host start) (with_host end)
        → Reaches count over (record { world = world; media = start.media }) (record { world = new; media = end.media })
    here count over far =
        subst (λ (hs : List HostView). Reaches count over (record { world = record { hosts = hs; journal = world.journal }; media = start.media })
        (record { world = new; media = end.media })) (put_own at view world.hosts view_is)
        (subst (λ (hs : List HostView). Reaches count over (with_host start) (record { world = record { hosts = hs; journal = new.journal }; media = end.media })) (sym hosts) far)

    number_start : number_in name (with_host start).world ≡ Some at
    number_start = ap (λ (hs : List HostView). number_in name (record { hosts = hs; journal = world.journal })) (put_own at view world.hosts view_is) ∙ number

    pub far_runs : (x : SomeSteps at lines start end) → SoFar at lines x.count false (record { world = world; media = start.media }) (record { world = new; media = end.media })
    far_runs x = here x.count false (so_far name at lines (with_host start) (with_host end) number_start (all_steps start end refl x.goes))

    pub far_ends : (x : Ends at lines start end) → SoFar at lines (suc x.runs.count) true (record { world = world; media = start.media }) (record { world = new; media = end.media })
    far_ends x =
        here (suc x.runs.count) true
        (next_so_far (so_far name at lines (with_host start) (with_host x.before) number_start (all_steps start x.before refl x.runs.goes)) number_start
        (one_step true x.before end (heading_kept at lines start x.before x.runs.goes) x.last))

-- One operation.

none_done : {S : Type 0} (R : S → S → Type 0) (a b : S) {n : ℕ} → Iterated R a b n → n ≡ 0 → a ≡ b
none_done R a _ none is = refl
none_done R a b (more before last) is = absurd cc

one_done : {S : Type 0} (R : S → S → Type 0) (a b : S) {n : ℕ} → Iterated R a b n → n ≡ 1 → R a b
one_done R a _ none is = absurd cc
one_done R a b (more {b = mid} {n = n} before last) is = subst (λ z. R z b) (sym (none_done R a mid before (omega (arith, is)))) last

-- what is said of one step
pub one_said : (name : List ℕ) (lines : ℕ) (a b : WorldStanding) (r : Result Moved WorldFault) → StepsSay name lines 1 a b r
    → IfStepped r (λ answered over. StepCall name lines answered over (record { old = a.media; new = b.media }) a.world b.world)
one_said name lines a b (Ok moved.Going) x = (one_done (WorldStep name lines false) a b x refl).step
one_said name lines a b (Ok moved.Answered) x =
    let within = x.within in
    (subst (λ (z : WorldStanding). WorldStep name lines true z b) (sym (none_done (WorldStep name lines false) a x.before x.goes (omega (arith, within)))) x.ends).step
one_said name lines a b (Err (fault.Refused cause)) x = x
one_said name lines a b (Err fault.OutOfMemory) x = tt

pub none_said : (name : List ℕ) (lines : ℕ) (a b : WorldStanding) (r : Result Moved WorldFault) → StepsSay name lines 1 a b r → IsErrOf r fault.OutOfMemory → b ≡ a
none_said name lines a b (Ok done) x is = absurd (let ok = is in cc)
none_said name lines a b (Err (fault.Refused cause)) x is = absurd (let refused = is in cc)
none_said name lines a b (Err fault.OutOfMemory) x is =
    let within = x.within in
    sym (none_done (WorldStep name lines false) a b x.goes (omega (arith, within)))

-- want of memory, as the world answers it

pub told_full : {T : Type 0} (r : Result T OutOfMemory) → IsErrOf (told_of r) fault.OutOfMemory → r ≡ Err record {}
told_full (Ok done) is = absurd (let bad = is in cc)
told_full (Err full) is = refl
