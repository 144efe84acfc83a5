-- Operations of a task, as its cache and its media tell them, are steps of the host that runs it.
use Rattle.std.proofs.Common.{◌≡◌, ℕ, suc, ◌+◌, ◌<◌, ◌≤◌, inl, inr, List, [], ◌∷◌, ◌++◌, length, Bool, true, false, Option, Some, None, Result, Ok, Err, refl, ap, ap₂, sym, subst, ◌∙◌, arith, append-nil}
use Rattle.fam_base.specs.declared.line.LineNo.{LineNo}
use Rattle.fam_base.specs.declared.line.OutOfMemory.{OutOfMemory}
use Rattle.fam_cache.specs.declared.fault.OperationFault.{OperationFault}
use Rattle.fam_cache.specs.declared.fault.OperationFault.TheVariants as fault
use Rattle.fam_cache.proofs.Performed.{left_held}
use Rattle.fam_cache.specs.Operations.{word_of}
use Rattle.fam_commands.specs.Kept.{Kept}
use Rattle.fam_commands.specs.Task.{Task, op_of}
use Rattle.fam_base.specs.Image.{Image}
use Rattle.fam_machine.specs.Caches.{Cache, cell_at}
use Rattle.fam_machine.specs.Operations.{machine, operated}
use Rattle.fam_machine.proofs.OneOperation.{operated_length}
use Rattle.fam_machine.specs.OneLine.{IsHeld}
use Rattle.fam_media.specs.Outside.{IfModelled}
use Rattle.fam_media.specs.States.{MediaState}
use Rattle.fam_tasks.specs.declared.answer.Turn.{Turn}
use Rattle.fam_tasks.specs.declared.answer.Turn.TheVariants.{Go, Note as Notes, Done}
use Rattle.fam_tasks.proofs.Keeping.{go_keeps}
use Rattle.fam_run.specs.Led as led
use Rattle.fam_run.specs.Led.{HasBrokenOff, HasDone, Led}
use Rattle.fam_run.specs.Operation.{IsBroken, IsDone, IsUndone, Operated, ended}
use Rattle.fam_run.specs.TaskChange.{TaskChange}
use Rattle.fam_run.specs.Runs as sends
use Rattle.fam_run.specs.Runs.{HasAdvanced, HasRun, HasRunOff, SendsOne, Sent, later, quiet_change}
use Rattle.fam_run.proofs.Led.{led_lines}
use Rattle.fam_run.proofs.SentLeft.{sent_lines}
use Rattle.fam_run.proofs.Running.{lines_kept}
use Rattle.fam_journal.specs.Notes.{Answered, MediaFault, Note}
use Rattle.fam_journal.specs.View.{HostView}
use Rattle.fam_world.specs.Counted.{HostStanding, HostStep, Iterated, SomeSteps, more, none}
use Rattle.fam_world.specs.Steps.{HostChange}
use Rattle.fam_world.specs.Turns.{IsNoted, ends_task, task_left_by, turn_notes}
use Rattle.fam_world.specs.declared.fault.Moved.{Moved}
use Rattle.fam_world.specs.declared.fault.Moved.TheVariants as moved
use Rattle.fam_world.proofs.Saying.{step_cut, step_served}

-- a host that runs this task, if any, on this cache and keeps this, with these notes, and what the media tells
abbrev pub standing_at : HostView → Option Task → Option Kept → Cache → List Note → MediaState → HostStanding
standing_at view task kept held notes media = record { host = record view { task = task; cache = held; kept = kept }; notes = notes; media = media }

-- What a result of operations tells, once it is noted.

-- the task goes on
pub record Went (at : ℕ) (r : Result Turn OperationFault) (old new : List Note) : Type 0 where
  pub said : Turn
  pub is : r ≡ Ok said
  pub on : ended said ≡ None
  pub noted : new ≡ old ++ turn_notes at said
  pub over : ends_task said ≡ false
  pub kept : (next : Task) → task_left_by said (Some next) ≡ Some next

pub went : (at : ℕ) (r : Result Turn OperationFault) (old new : List Note) (res : Result Moved OutOfMemory) → IsNoted at r old new res → res ≡ Ok moved.Going → Went at r old new
went at (Ok Go) old new res x is = record { said = Go; is = refl; on = refl; noted = x.0; over = refl; kept = λ next. refl }
went at (Ok (Notes note)) old new res x is = record { said = Notes note; is = refl; on = refl; noted = x.0; over = refl; kept = λ next. refl }
went at (Ok (Done answer)) old new res x is = absurd (let over : Ok moved.Answered ≡ Ok moved.Going = sym x.1 ∙ is in cc)
went at (Err (fault.MediaFault line)) old new res x is = absurd (let over : Ok moved.Answered ≡ Ok moved.Going = sym x.1 ∙ is in cc)
went at (Err fault.OutOfMemory) old new res x is = absurd (let full : Err record {} ≡ Ok moved.Going = sym x.1 ∙ is in cc)

-- no memory was found
pub lacked : (at : ℕ) (r : Result Turn OperationFault) (old new : List Note) (res : Result Moved OutOfMemory) (full : OutOfMemory)
    → IsNoted at r old new res → res ≡ Err full → (r ≡ Err fault.OutOfMemory) × (new ≡ old)
lacked at (Ok said) old new res full x is = absurd (let over = sym x.1 ∙ is in cc)
lacked at (Err (fault.MediaFault line)) old new res full x is = absurd (let over = sym x.1 ∙ is in cc)
lacked at (Err fault.OutOfMemory) old new res full x is = (refl, x.0)

-- where nothing was done a host stands as before
pub stands_still : (view : HostView) (b : TaskChange) (notes notes_now : List Note) → IsUndone b → notes_now ≡ notes
    → standing_at view (Some b.next) b.next.kept b.new notes_now b.media.new ≡ standing_at view (Some b.task) b.task.kept b.old notes b.media.old
stands_still view b notes notes_now undone same =
    ap₂ (λ (t : Task) (k : Cache). standing_at view (Some t) t.kept k notes_now b.media.new) undone.task undone.cache
    ∙ ap₂ (λ (n : List Note) (m : MediaState). standing_at view (Some b.task) b.task.kept b.old n m) same undone.media

-- some behind others
pub iterated_both : {S : Type 0} (R : S → S → Type 0) (a b c : S) (n k : ℕ) → Iterated R a b n → Iterated R b c k → Iterated R a c (n + k)
iterated_both R a b _ n _ first none = let same : n ≡ n + 0 = omega arith in subst (Iterated R a b) same first
iterated_both R a b c n _ first (more {b = mid} {n = k} before last) =
    let same : suc (n + k) ≡ n + suc k = omega arith in
    subst (Iterated R a c) same (more (iterated_both R a b mid n k first before) last)

module _ (at lines : ℕ) (view : HostView) where
  -- an operation that was done
  pub done_step : (b : TaskChange) (said : Turn) (notes notes_now : List Note) → IsDone b said
      → IfModelled b.media.old.image (λ image. length image ≡ lines) → b.task.lines ≡ lines → b.media.old.faults ≤ b.media.new.faults
      → notes_now ≡ notes ++ turn_notes at said
      → HostStep at lines (ends_task said) (standing_at view (Some b.task) b.task.kept b.old notes b.media.old)
      (standing_at view (task_left_by said (Some b.next)) b.next.kept b.new notes_now b.media.new)
  done_step b said notes notes_now x modelled fits later noted =
      let a : HostChange = record {
        old = record view { task = Some b.task; cache = b.old; kept = b.task.kept };
        new = record view { task = task_left_by said (Some b.next); cache = b.new; kept = b.next.kept };
        before = notes;
        after = notes_now;
        lines = lines;
        media = b.media;
      } in
      record {
        task = b.task;
        runs = refl;
        modelled = modelled;
        step = step_served at b.task b.next said a (ends_task said) x.goes refl x.kept (Some b.next) refl refl noted refl later refl x.turned x.keeps x.leaves x.within fits;
      }

  -- the media failed in it
  pub broken_step : (b : TaskChange) (line : LineNo) (notes notes_now : List Note) → IsBroken b line
      → IfModelled b.media.old.image (λ image. length image ≡ lines) → b.media.old.faults ≤ b.media.new.faults
      → notes_now ≡ notes ++ Answered at (MediaFault line.0) ∷ []
      → HostStep at lines true (standing_at view (Some b.task) b.task.kept b.old notes b.media.old) (standing_at view None b.next.kept b.new notes_now b.media.new)
  broken_step b line notes notes_now x modelled later noted =
      let a : HostChange = record {
        old = record view { task = Some b.task; cache = b.old; kept = b.task.kept };
        new = record view { task = None; cache = b.new; kept = b.next.kept };
        before = notes;
        after = notes_now;
        lines = lines;
        media = b.media;
      } in
      record {
        task = b.task;
        runs = refl;
        modelled = modelled;
        step = step_cut at b.task a line (ap (λ (t : Task). t.kept) x.task) noted refl later refl (left_held (op_of b.task) b.old b.new x.copies) x.failed x.rose;
      }

  -- operations that leave memory's image
  pub led_runs : (media : MediaState) (notes : List Note) → IfModelled media.image (λ image. length image ≡ lines)
      → (t next : Task) (held after : Cache) → Led media.image t held next after → t.lines ≡ lines
      → SomeSteps at lines (standing_at view (Some t) t.kept held notes media) (standing_at view (Some next) next.kept after notes media)
  led_runs media notes modelled t _ held _ led.none fits = record { count = 0; goes = none }
  led_runs media notes modelled t next held after (led.more {mid = mid} {now = now} before quiet) fits =
      let first = led_runs media notes modelled t mid held now before fits in
      let b : TaskChange = record { task = mid; next = next; old = now; new = after; lines = lines; media = record { old = media; new = media } } in
      let one : IsDone b Go = record {
        sound = quiet.sound;
        within = quiet.within;
        leaves = quiet.leaves;
        goes = quiet.goes;
        kept = go_keeps mid next (word_of (op_of mid) after) quiet.goes;
        keeps = lines_kept after mid next Go quiet.sound quiet.goes;
        turned = quiet.turned;
        own = λ line is. absurd cc;
      } in
      record {
        count = suc first.count;
        goes = more first.goes (done_step b Go notes notes one modelled (led_lines media.image t mid held now before ∙ fits) (omega arith) (sym (append-nil notes)));
      }

  -- some, and one more that was done
  pub record Reached (a : HostStanding) (over : Bool) (c : HostStanding) : Type 0 where
    pub before : HostStanding
    pub runs : SomeSteps at lines a before
    pub last : HostStep at lines over before c

  pub done_reached : (b : TaskChange) (said : Turn) (notes notes_now : List Note) → HasDone b said
      → IfModelled b.media.old.image (λ image. length image ≡ lines) → b.task.lines ≡ lines → b.media.old.faults ≤ b.media.new.faults
      → notes_now ≡ notes ++ turn_notes at said
      → Reached (standing_at view (Some b.task) b.task.kept b.old notes b.media.old) (ends_task said) (standing_at view (task_left_by said (Some b.next)) b.next.kept b.new notes_now b.media.new)
  done_reached b said notes notes_now x modelled fits later noted =
      let last : IsDone (record b { task = x.task; old = x.held }) said = record {
        sound = x.sound;
        within = x.within;
        leaves = x.leaves;
        goes = x.goes;
        kept = x.kept;
        keeps = lines_kept b.new x.task b.next said x.sound x.goes;
        turned = x.turned;
        own = x.own;
      } in
      record {
        before = standing_at view (Some x.task) x.task.kept x.held notes b.media.old;
        runs = led_runs b.media.old notes modelled b.task x.task b.old x.held x.led fits;
        last = done_step (record b { task = x.task; old = x.held }) said notes notes_now last modelled (led_lines b.media.old.image b.task x.task b.old x.held x.led ∙ fits) later noted;
      }

  pub broken_reached : (b : TaskChange) (line : LineNo) (notes notes_now : List Note) → HasBrokenOff b line
      → IfModelled b.media.old.image (λ image. length image ≡ lines) → b.task.lines ≡ lines → b.media.old.faults ≤ b.media.new.faults
      → notes_now ≡ notes ++ Answered at (MediaFault line.0) ∷ []
      → Reached (standing_at view (Some b.task) b.task.kept b.old notes b.media.old) true (standing_at view None b.next.kept b.new notes_now b.media.new)
  broken_reached b line notes notes_now x modelled fits later noted =
      let a : HostChange = record {
        old = record view { task = Some x.task; cache = x.held; kept = x.task.kept };
        new = record view { task = None; cache = b.new; kept = b.next.kept };
        before = notes;
        after = notes_now;
        lines = lines;
        media = b.media;
      } in
      record {
        before = standing_at view (Some x.task) x.task.kept x.held notes b.media.old;
        runs = led_runs b.media.old notes modelled b.task x.task b.old x.held x.led fits;
        last = record {
          task = x.task;
          runs = refl;
          modelled = modelled;
          step = step_cut at x.task a line x.kept noted refl later refl (left_held (op_of x.task) x.held b.new x.copies) x.failed x.rose;
        };
      }

  -- Lines that were sent one behind another.

  -- memory has as many lines behind one of them
  still_lines : (told left : Option Image) (t next : Task) (held after : Cache) → SendsOne told t held left next after
      → IfModelled told (λ image. length image ≡ lines) → IfModelled left (λ image. length image ≡ lines)
  still_lines None left t next held after one modelled now is = absurd (let none : None ≡ Some now = sym (one.unknown refl) ∙ is in cc)
  still_lines (Some image) left t next held after one modelled now is =
      let x = one.done lines 0 in
      let same : now ≡ (operated (op_of x.task) (machine image x.held)).image = some_is now _ (sym is ∙ (x.turned image refl).is.image) in
      ap length same ∙ operated_length (op_of x.task) (machine image x.held) ∙ modelled image refl
    where
      some_is : (x y : Image) → Some x ≡ Some y → x ≡ y
      some_is x y e = cc

  -- some, and that memory has as many lines behind them
  pub record SentRuns (a c : HostStanding) (left : Option Image) : Type 0 where
    pub runs : SomeSteps at lines a c
    pub modelled : IfModelled left (λ image. length image ≡ lines)

  pub sent_runs : (faults : ℕ) (notes : List Note) (told left : Option Image) (t next : Task) (held after : Cache) → Sent told t held left next after
      → IfModelled told (λ image. length image ≡ lines) → t.lines ≡ lines
      → SentRuns (standing_at view (Some t) t.kept held notes (record { image = told; faults = faults }))
      (standing_at view (Some next) next.kept after notes (record { image = left; faults = faults })) left
  sent_runs faults notes told _ t _ held _ sends.none modelled fits = record { runs = record { count = 0; goes = none }; modelled = modelled }
  sent_runs faults notes told left t next held after (sends.more {mid = mid} {here = here} {now = now} first one) modelled fits =
      let before = sent_runs faults notes told mid t here held now first modelled fits in
      let reached = done_reached (quiet_change lines faults mid here now left next after) Go notes notes (one.done lines faults) before.modelled
      (sent_lines told mid t here held now first ∙ fits) (omega arith) (sym (append-nil notes)) in
      record {
        runs = record {
          count = before.runs.count + suc reached.runs.count;
          goes = iterated_both (HostStep at lines false) _ _ _ before.runs.count (suc reached.runs.count) before.runs.goes (more reached.runs.goes reached.last);
        };
        modelled = still_lines mid left here next now after one before.modelled;
      }

  -- behind them, some operations and one more
  reached_behind : (a b : HostStanding) (over : Bool) (c : HostStanding) → SomeSteps at lines a b → Reached b over c → Reached a over c
  reached_behind a b over c first reached = record {
    before = reached.before;
    runs = record {
      count = first.count + reached.runs.count;
      goes = iterated_both (HostStep at lines false) _ _ _ first.count reached.runs.count first.goes reached.runs.goes;
    };
    last = reached.last;
  }

  pub run_reached : (b : TaskChange) (said : Turn) (notes notes_now : List Note) → HasRun b said
      → IfModelled b.media.old.image (λ image. length image ≡ lines) → b.task.lines ≡ lines → b.media.old.faults ≤ b.media.new.faults
      → notes_now ≡ notes ++ turn_notes at said
      → Reached (standing_at view (Some b.task) b.task.kept b.old notes b.media.old) (ends_task said) (standing_at view (task_left_by said (Some b.next)) b.next.kept b.new notes_now b.media.new)
  run_reached b said notes notes_now x modelled fits late noted =
      let first = sent_runs b.media.old.faults notes b.media.old.image x.mid b.task x.task b.old x.held x.sent modelled fits in
      reached_behind _ _ (ends_task said) _ first.runs
      (done_reached (later b x.mid x.task x.held) said notes notes_now x.done first.modelled (sent_lines b.media.old.image x.mid b.task x.task b.old x.held x.sent ∙ fits) late noted)

  pub off_reached : (b : TaskChange) (line : LineNo) (notes notes_now : List Note) → HasRunOff b line
      → IfModelled b.media.old.image (λ image. length image ≡ lines) → b.task.lines ≡ lines → b.media.old.faults ≤ b.media.new.faults
      → notes_now ≡ notes ++ Answered at (MediaFault line.0) ∷ []
      → Reached (standing_at view (Some b.task) b.task.kept b.old notes b.media.old) true (standing_at view None b.next.kept b.new notes_now b.media.new)
  off_reached b line notes notes_now x modelled fits late noted =
      let first = sent_runs b.media.old.faults notes b.media.old.image x.mid b.task x.task b.old x.held x.sent modelled fits in
      reached_behind _ _ true _ first.runs
      (broken_reached (later b x.mid x.task x.held) line notes notes_now x.broken first.modelled (sent_lines b.media.old.image x.mid b.task x.task b.old x.held x.sent ∙ fits) late noted)

  module _ (b : TaskChange) (r : Result Turn OperationFault) (notes notes_now : List Note) (res : Result Moved OutOfMemory)
      (noted : IsNoted at r notes notes_now res) (modelled : IfModelled b.media.old.image (λ image. length image ≡ lines))
      (fits : b.task.lines ≡ lines) (later : b.media.old.faults ≤ b.media.new.faults) where
    -- what stands before and behind
    abbrev pub start : HostStanding
    start = standing_at view (Some b.task) b.task.kept b.old notes b.media.old

    abbrev pub end : Option Task → HostStanding
    end task = standing_at view task b.next.kept b.new notes_now b.media.new

    -- of one operation

    pub one_goes : Operated b r → res ≡ Ok moved.Going → HostStep at lines false start (end (Some b.next))
    one_goes x is =
        let w = went at r notes notes_now res noted is in
        let done : IsDone b w.said = subst (Operated b) w.is x in
        subst (λ (over : Bool). HostStep at lines over start (end (Some b.next))) w.over
        (subst (λ (o : Option Task). HostStep at lines (ends_task w.said) start (end o)) (w.kept b.next)
        (done_step b w.said notes notes_now done modelled fits later w.noted))

    -- of several

    pub all_go : HasAdvanced b r → res ≡ Ok moved.Going → SomeSteps at lines start (end (Some b.next))
    all_go x is =
        let w = went at r notes notes_now res noted is in
        let reached = run_reached b w.said notes notes_now (subst (HasAdvanced b) w.is x) modelled fits later w.noted in
        let last : HostStep at lines false reached.before (end (Some b.next)) =
        subst (λ (over : Bool). HostStep at lines over reached.before (end (Some b.next))) w.over
        (subst (λ (o : Option Task). HostStep at lines (ends_task w.said) reached.before (end o)) (w.kept b.next) reached.last) in
        record { count = suc reached.runs.count; goes = more reached.runs.goes last }

  -- the task is over
  pub one_ends : (b : TaskChange) (r : Result Turn OperationFault) (notes notes_now : List Note) (res : Result Moved OutOfMemory)
      → IsNoted at r notes notes_now res → IfModelled b.media.old.image (λ image. length image ≡ lines) → b.task.lines ≡ lines
      → b.media.old.faults ≤ b.media.new.faults → Operated b r → res ≡ Ok moved.Answered
      → HostStep at lines true (standing_at view (Some b.task) b.task.kept b.old notes b.media.old) (standing_at view None b.next.kept b.new notes_now b.media.new)
  one_ends b (Ok Go) notes notes_now res noted modelled fits later x is = absurd (let on : Ok moved.Going ≡ Ok moved.Answered = sym noted.1 ∙ is in cc)
  one_ends b (Ok (Notes note)) notes notes_now res noted modelled fits later x is = absurd (let on : Ok moved.Going ≡ Ok moved.Answered = sym noted.1 ∙ is in cc)
  one_ends b (Ok (Done answer)) notes notes_now res noted modelled fits later x is = done_step b (Done answer) notes notes_now x modelled fits later noted.0
  one_ends b (Err (fault.MediaFault line)) notes notes_now res noted modelled fits later x is = broken_step b line notes notes_now x modelled later noted.0
  one_ends b (Err fault.OutOfMemory) notes notes_now res noted modelled fits later x is = absurd (let full : Err record {} ≡ Ok moved.Answered = sym noted.1 ∙ is in cc)

  pub all_end : (b : TaskChange) (r : Result Turn OperationFault) (notes notes_now : List Note) (res : Result Moved OutOfMemory)
      → IsNoted at r notes notes_now res → IfModelled b.media.old.image (λ image. length image ≡ lines) → b.task.lines ≡ lines
      → b.media.old.faults ≤ b.media.new.faults → HasAdvanced b r → res ≡ Ok moved.Answered
      → Reached (standing_at view (Some b.task) b.task.kept b.old notes b.media.old) true (standing_at view None b.next.kept b.new notes_now b.media.new)
  all_end b (Ok Go) notes notes_now res noted modelled fits later x is = absurd (let on : Ok moved.Going ≡ Ok moved.Answered = sym noted.1 ∙ is in cc)
  all_end b (Ok (Notes note)) notes notes_now res noted modelled fits later x is = absurd (let on : Ok moved.Going ≡ Ok moved.Answered = sym noted.1 ∙ is in cc)
  all_end b (Ok (Done answer)) notes notes_now res noted modelled fits later x is = run_reached b (Done answer) notes notes_now x modelled fits later noted.0
  all_end b (Err (fault.MediaFault line)) notes notes_now res noted modelled fits later x is = off_reached b line notes notes_now x modelled fits later noted.0
  all_end b (Err fault.OutOfMemory) notes notes_now res noted modelled fits later x is = absurd (let full : Err record {} ≡ Ok moved.Answered = sym noted.1 ∙ is in cc)

-- The lines that a host holds are still those of the media.

step_below : (at lines : ℕ) (a b : HostStanding) → HostStep at lines false a b → ((l : ℕ) → IsHeld (cell_at a.host.cache l) → l < lines) → (l : ℕ) → IsHeld (cell_at b.host.cache l) → l < lines
step_below at lines a b x below l is =
    elim x.step.how [
      | inl served ↦ elim (served.held l is) [ inl less ↦ less | inr was ↦ below l was ]
      | inr cut ↦ below l (cut.held l is)
    ]

pub steps_below : (at lines : ℕ) (a b : HostStanding) {n : ℕ} → Iterated (HostStep at lines false) a b n
    → ((l : ℕ) → IsHeld (cell_at a.host.cache l) → l < lines) → (l : ℕ) → IsHeld (cell_at b.host.cache l) → l < lines
steps_below at lines a _ none below = below
steps_below at lines a b (more {b = mid} before last) below = step_below at lines mid b last (steps_below at lines a mid before below)

pub runs_below : (at lines : ℕ) (a b : HostStanding) → SomeSteps at lines a b → ((l : ℕ) → IsHeld (cell_at a.host.cache l) → l < lines) → (l : ℕ) → IsHeld (cell_at b.host.cache l) → l < lines
runs_below at lines a b runs below = steps_below at lines a b runs.goes below
