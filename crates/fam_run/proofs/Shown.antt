-- What a task that only reads does on a cache that lacks copies which its host has forgotten, it does on one that has all.
use Rattle.std.proofs.Common.{◌≡◌, ℕ, Option, Some, None, Result, Ok, Err, inl, refl, sym, ap, subst, ◌∙◌}
use Rattle.std.specs.Prelude.{false, slice_index, slice_set, unwrap_or}
use Rattle.fam_base.specs.Image.{Image}
use Rattle.fam_base.specs.declared.line.LineNo.{LineNo}
use Rattle.fam_machine.specs.declared.cell.Cell.{Cell}
use Rattle.fam_machine.specs.declared.cell.Cell.TheVariants.{Absent, Dirty}
use Rattle.fam_machine.specs.declared.op.Op.{Op}
use Rattle.fam_machine.specs.declared.op.Op.TheVariants.{Load, Store, WriteBack, Fence, Invalidate, Digest}
use Rattle.fam_machine.specs.Caches.{Cache, cell_at, with_cell}
use Rattle.fam_machine.specs.OneLine.{IsHeld, words_of}
use Rattle.fam_machine.proofs.CacheLemmas.{cell_at-with_cell_same}
use Rattle.fam_cache.specs.declared.fault.OperationFault.{OperationFault}
use Rattle.fam_cache.specs.declared.fault.OperationFault.TheVariants as fault
use Rattle.fam_cache.specs.Operations.{IsOneLine, LeavesFailed, word_of}
use Rattle.fam_cache.specs.Shed.{IsShed, WantsSame}
use Rattle.fam_cache.proofs.Shedding.{HasSame, shed_none, shed_undirty, shown_failed, shown_step, with_shed}
use Rattle.fam_commands.specs.Appends.{IsBeforeWrites}
use Rattle.fam_commands.specs.Stands.{task_after}
use Rattle.fam_commands.specs.Task.{Task, op_of}
use Rattle.fam_commands.specs.Turns.{turn_at, turn_of}
use Rattle.fam_tasks.specs.declared.answer.Turn.{Turn}
use Rattle.fam_tasks.specs.declared.answer.Turn.TheVariants.{Go}
use Rattle.fam_tasks.specs.Tells.{Keeps, Tells}
use Rattle.fam_run.specs.Cached as run
use Rattle.fam_run.specs.Cached.{CachedRun, IsCached, cached_after}
use Rattle.fam_run.specs.Led as led
use Rattle.fam_run.specs.Led.{HasBrokenOff, HasDone, Led}
use Rattle.fam_run.specs.Operation.{ended}
use Rattle.fam_run.specs.Runs as sends
use Rattle.fam_run.specs.Runs.{HasAdvanced, SendsOne, Sent, later}
use Rattle.fam_run.specs.Shows.{OnlyReads, Shows}
use Rattle.fam_run.specs.TaskChange.{TaskChange}
use Rattle.fam_run.proofs.Readers.{reads_on, reads_one, still_reads}
use Rattle.fam_run.proofs.Running.{goes_on}

-- where a task goes on, it does so over both caches
pub record OnBoth (next : Task) (real shown : Cache) : Type 0 where
  pub reads : OnlyReads next
  pub shows : Shows next real shown

-- over one cache
wants_own : (op : Op) (held : Cache) → WantsSame op held held
wants_own (Load line k) held = refl
wants_own (Store line k value) held = refl
wants_own other held = tt

pub on_own : (t : Task) (held : Cache) → OnlyReads t → OnBoth t held held
on_own t held reads = record { reads = reads; shows = record { shed = shed_none held; same = wants_own (op_of t) held } }

-- behind an operation
on_both : (t next : Task) (word : ℕ) (left after : Cache) → OnlyReads t → task_after (turn_at t.phase t word) ≡ Some next → IsShed left after → HasSame (op_of t) left after → OnBoth next left after
on_both t next word left after reads is shed same = record {
  reads = still_reads t next word reads is;
  shows = record { shed = shed; same = (reads_on t next word reads is).wants left after same };
}

-- Operations that leave memory's image.

-- so many were done on the one cache, and so they may have been on the other
record ShownLed (modelled : Option Image) (t next : Task) (left shown : Cache) : Type 0 where
  after : Cache
  led : Led modelled t shown next after
  on : OnBoth next left after

shown_led : (modelled : Option Image) (t next : Task) (real left shown : Cache) → Led modelled t real next left → OnBoth t real shown → ShownLed modelled t next left shown
shown_led modelled t _ real _ shown led.none on = record { after = shown; led = led.none; on = on }
shown_led modelled t next real left shown (led.more {mid = mid} {now = now} first quiet) on =
    let x = shown_led modelled t mid real now shown first on in
    let s = shown_step (op_of mid) (reads_one mid.phase mid x.on.reads.before) modelled now left x.after x.on.shows.shed x.on.shows.same quiet.leaves in
    record {
      after = s.after;
      led = led.more x.led
          (record {
            sound = quiet.sound;
            within = quiet.within;
            leaves = s.leaves;
            goes = subst (λ (w : Option ℕ). Tells (turn_of mid w) Go next) s.word quiet.goes;
            turned = λ image is. record {
              is = s.done image is modelled (quiet.turned image is).is;
              tells = subst (λ (w : Option ℕ). Tells (turn_of mid w) Go next) (s.gives image) (quiet.turned image is).tells;
            };
          });
      on = on_both mid next (unwrap_or (word_of (op_of mid) left) 0) left s.after x.on.reads (goes_on (turn_of mid (word_of (op_of mid) left)) Go next refl quiet.goes) s.shed s.same;
    }

-- One more, which is done, or in which the media fails.

-- on the other cache the same comes of it
abbrev pub over : TaskChange → Cache → Cache → TaskChange
over a shown after = record a { old = shown; new = after }

record ShownDone (a : TaskChange) (turn : Turn) (shown : Cache) : Type 0 where
  after : Cache
  done : HasDone (over a shown after) turn
  on : ended turn ≡ None → OnBoth a.next a.new after

shown_done : (a : TaskChange) (turn : Turn) (shown : Cache) → HasDone a turn → OnBoth a.task a.old shown → ShownDone a turn shown
shown_done a turn shown x on =
    let modelled = a.media.old.image in
    let l = shown_led modelled a.task x.task a.old x.held shown x.led on in
    let s = shown_step (op_of x.task) (reads_one x.task.phase x.task l.on.reads.before) modelled x.held a.new l.after l.on.shows.shed l.on.shows.same x.leaves in
    record {
      after = s.after;
      done = record {
        task = x.task;
        held = l.after;
        led = l.led;
        sound = x.sound;
        within = x.within;
        leaves = s.leaves;
        goes = subst (λ (w : Option ℕ). Tells (turn_of x.task w) turn a.next) s.word x.goes;
        kept = subst (λ (w : Option ℕ). Keeps x.task (turn_of x.task w) a.next) s.word x.kept;
        turned = λ image is. record {
          is = s.done image is a.media.new.image (x.turned image is).is;
          tells = subst (λ (w : Option ℕ). Tells (turn_of x.task w) turn a.next) (s.gives image) (x.turned image is).tells;
        };
        own = x.own;
      };
      on = λ goes. on_both x.task a.next (unwrap_or (word_of (op_of x.task) a.new) 0) a.new s.after l.on.reads
          (goes_on (turn_of x.task (word_of (op_of x.task) a.new)) turn a.next goes x.goes) s.shed s.same;
    }

-- an operation at one line that fails leaves the cache
all_left : (op : Op) → IsOneLine op → (held : Cache) → LeavesFailed op held held
all_left Fence one held = absurd one
all_left other one held = refl

record ShownOff (a : TaskChange) (line : LineNo) (shown : Cache) : Type 0 where
  after : Cache
  broken : HasBrokenOff (over a shown after) line

shown_off : (a : TaskChange) (line : LineNo) (shown : Cache) → HasBrokenOff a line → OnBoth a.task a.old shown → ShownOff a line shown
shown_off a line shown x on =
    let l = shown_led a.media.old.image a.task x.task a.old x.held shown x.led on in
    let one = reads_one x.task.phase x.task l.on.reads.before in
    record {
      after = l.after;
      broken = record {
        task = x.task;
        held = l.after;
        led = l.led;
        sound = x.sound;
        within = x.within;
        kept = x.kept;
        copies = all_left (op_of x.task) one l.after;
        failed = λ image is. shown_failed (op_of x.task) one image x.held a.new l.after line a.media.new.image l.on.shows.shed l.on.shows.same (x.failed image is);
        rose = x.rose;
        inside = x.inside;
      };
    }

-- A task that sends lines of its file has stored already.

never_sent : (told mid left : Option Image) (t here next : Task) (held now after : Cache) → Sent told t held mid here now → SendsOne mid here now left next after → IsBeforeWrites t.phase → ⊥
never_sent told _ left t _ next held _ after sends.none one before = subst IsBeforeWrites one.at before
never_sent told mid left t here next held now after (sends.more {mid = mid_before} {here = here_before} {now = now_before} first prior) one before =
    never_sent told mid_before mid t here_before here held now_before now first prior before

-- so of one that reads none were sent
pub none_sent : (told mid : Option Image) (t task : Task) (held now : Cache) → Sent told t held mid task now → IsBeforeWrites t.phase
    → (P : Option Image → Task → Cache → Type 0) → P mid task now → P told t held
none_sent told _ t _ held _ sends.none before P p = p
none_sent told left t next held after (sends.more {mid = mid} {here = here} {now = now} first one) before P p = absurd (never_sent told mid left t here next held now after first one before)

-- What is done as a whole.

-- the same came of it on the other cache
pub record ShownAdvance (a : TaskChange) (r : Result Turn OperationFault) (shown : Cache) : Type 0 where
  pub after : Cache
  pub advanced : HasAdvanced (over a shown after) r
  pub on : (turn : Turn) → r ≡ Ok turn → ended turn ≡ None → OnBoth a.next a.new after

same_ok : (r : Result Turn OperationFault) (x y : Turn) → r ≡ Ok x → r ≡ Ok y → x ≡ y
same_ok r x y e f = cc

pub shown_advance : (a : TaskChange) (r : Result Turn OperationFault) (shown : Cache) → HasAdvanced a r → OnBoth a.task a.old shown → ShownAdvance a r shown
shown_advance a (Ok turn) shown x on =
    let done : HasDone a turn = none_sent a.media.old.image x.mid a.task x.task a.old x.held x.sent on.reads.before (λ mid task held. HasDone (later a mid task held) turn) x.done in
    let d = shown_done a turn shown done on in
    record {
      after = d.after;
      advanced = record { mid = a.media.old.image; task = a.task; held = shown; sent = sends.none; done = d.done };
      on = λ said is goes. d.on (subst (λ (z : Turn). ended z ≡ None) (same_ok (Ok turn) said turn is refl) goes);
    }
shown_advance a (Err (fault.MediaFault line)) shown x on =
    let broken : HasBrokenOff a line = none_sent a.media.old.image x.mid a.task x.task a.old x.held x.sent on.reads.before (λ mid task held. HasBrokenOff (later a mid task held) line) x.broken in
    let d = shown_off a line shown broken on in
    record {
      after = d.after;
      advanced = record { mid = a.media.old.image; task = a.task; held = shown; sent = sends.none; broken = d.broken };
      on = λ said is goes. absurd cc;
    }
shown_advance a (Err fault.OutOfMemory) shown x on = record {
  after = shown;
  advanced = record { task = x.task; cache = refl; media = x.media };
  on = λ said is goes. absurd cc;
}

-- Operations on copies of the host alone.

-- one of them is such on the other cache
record ShownCopy (op : Op) (real left shown : Cache) : Type 0 where
  cached : IsCached op shown
  shed : IsShed left (cached_after op shown)
  same : HasSame op left (cached_after op shown)
  word : word_of op real ≡ word_of op shown

-- one line of both is set to the same copy
both : (line : ℕ) (a b : Cell) (real left shown : Cache) → a ≡ b → left ≡ with_cell line a real → cell_at left line ≡ cell_at (with_cell line b shown) line
both line a b real left shown same is =
    ap (λ (c : Cache). cell_at c line) is ∙ cell_at-with_cell_same line a real ∙ same ∙ sym (cell_at-with_cell_same line b shown)

shown_copy : (op : Op) (real left shown : Cache) → IsShed real shown → WantsSame op real shown → IsCached op real → left ≡ cached_after op real → ShownCopy op real left shown
shown_copy (Load line k) real left shown shed same of is = record {
  cached = subst IsHeld same of;
  shed = subst (λ (c : Cache). IsShed c shown) (sym is) shed;
  same = subst (λ (c : Cache). cell_at c line.0 ≡ cell_at shown line.0) (sym is) same;
  word = ap (λ (c : Cell). Some (slice_index (words_of c) k)) same;
}
shown_copy (Store line k value) real left shown shed same of is =
    let copy : Cell → Cell = λ c. Dirty false (slice_set (words_of c) k value) in
    let now : copy (cell_at real line.0) ≡ copy (cell_at shown line.0) = ap copy same in
    record {
      cached = subst IsHeld same of;
      shed = subst (λ (c : Cache). IsShed c (cached_after (Store line k value) shown)) (sym is) (with_shed real shown shed line.0 (copy (cell_at real line.0)) (copy (cell_at shown line.0)) (inl now));
      same = both line.0 (copy (cell_at real line.0)) (copy (cell_at shown line.0)) real left shown now is;
      word = refl;
    }
shown_copy (WriteBack line) real left shown shed same of is = absurd of
shown_copy Fence real left shown shed same of is = absurd of
shown_copy (Invalidate line) real left shown shed same of is = record {
  cached = shed_undirty (cell_at real line.0) (cell_at shown line.0) (shed line.0) of;
  shed = subst (λ (c : Cache). IsShed c (with_cell line.0 Absent shown)) (sym is) (with_shed real shown shed line.0 Absent Absent (inl refl));
  same = both line.0 Absent Absent real left shown refl is;
  word = refl;
}
shown_copy Digest real left shown shed same of is = absurd of

-- the same of so many
pub record ShownCached (t next : Task) (left shown : Cache) (n : ℕ) : Type 0 where
  pub after : Cache
  pub ran : CachedRun t shown next after n
  pub on : OnBoth next left after

pub shown_cached : (t next : Task) (real left shown : Cache) {n : ℕ} → CachedRun t real next left n → OnBoth t real shown → ShownCached t next left shown n
shown_cached t _ real _ shown run.none on = record { after = shown; ran = run.none; on = on }
shown_cached t next real left shown (run.more {mid = mid} {now = now} first sound within of is turn) on =
    let x = shown_cached t mid real now shown first on in
    let c = shown_copy (op_of mid) now left x.after x.on.shows.shed x.on.shows.same of is in
    record {
      after = cached_after (op_of mid) x.after;
      ran = run.more x.ran sound within c.cached refl (ap (turn_of mid) (sym c.word) ∙ turn);
      on = on_both mid next (unwrap_or (word_of (op_of mid) now) 0) left (cached_after (op_of mid) x.after) x.on.reads (ap task_after turn) c.shed c.same;
    }
