-- Operations of a task of which nothing was stored lead no further than to its first store, and leave memory.
use Rattle.std.proofs.Common.{◌≡◌, ◌⊎◌, ℕ, ◌<◌, ◌≤◌, List, Option, Some, None, inl, inr, refl, sym, ap, subst, ◌∙◌, arith}
use Rattle.std.specs.Prelude.{map, unwrap_or}
use Rattle.fam_base.specs.Image.{Image, IsNormal, eight, line_at, with_line}
use Rattle.fam_base.proofs.ImageLemmas.{with_line-line_at}
use Rattle.fam_cache.specs.States.{CacheState}
use Rattle.fam_cache.specs.Operations.{word_of}
use Rattle.fam_machine.specs.declared.cell.Cell.TheVariants.{Absent}
use Rattle.fam_machine.specs.Caches.{Cache, IsClean, cell_at, line_changed, with_cell}
use Rattle.fam_machine.specs.OneLine.{brought, sent}
use Rattle.fam_machine.specs.Operations.{machine, operated}
use Rattle.fam_machine.proofs.CleanCaches.{clean_brought, clean_sent, clean_with}
use Rattle.fam_media.specs.Outside.{IfModelled}
use Rattle.fam_commands.specs.Appends.{IsBeforeWrites}
use Rattle.fam_commands.specs.FirstStore.{IsFirstStore, IsUpToStore}
use Rattle.fam_commands.specs.declared.phase.Phase.{Phase}
use Rattle.fam_commands.specs.declared.phase.Phase.TheVariants as at
use Rattle.fam_commands.specs.Task.{Task, op_at, op_of}
use Rattle.fam_commands.specs.Turns as turns
use Rattle.fam_commands.specs.Turns.{turn_of}
use Rattle.fam_commands.proofs.UpToStores.{before_next, up_to_next}
use Rattle.fam_tasks.specs.declared.answer.Turn.{Turn}
use Rattle.fam_tasks.specs.declared.answer.Turn.TheVariants.{Go}
use Rattle.fam_tasks.specs.Tells.{Tells}
use Rattle.fam_run.specs.Cached as run
use Rattle.fam_run.specs.Cached.{CachedRun, IsCached, cached_after}
use Rattle.fam_run.specs.Led as led
use Rattle.fam_run.specs.Led.{HasDone, Led}
use Rattle.fam_run.specs.Operation.{ended}
use Rattle.fam_run.specs.Runs.{HasRun, later}
use Rattle.fam_run.specs.Places.{HasPlaces}
use Rattle.fam_run.specs.TaskChange.{TaskChange}
use Rattle.fam_run.proofs.FirstStores.{first_phase}
use Rattle.fam_run.proofs.Running.{goes_on}
use Rattle.fam_run.proofs.Shown.{none_sent}
use Rattle.fam_world.specs.Places.{IsSafe}

-- a turn that just goes on is told so
tells_goes : (wanted : turns.Turn) (next : Task) → Tells wanted Go next → wanted ≡ turns.Goes next
tells_goes (turns.Goes t) next tells = cc
tells_goes (turns.Marks t) next tells = absurd (let bad = tells.0 in cc)
tells_goes (turns.Finds n t) next tells = absurd (let bad = tells.0 in cc)
tells_goes (turns.Writes seq e t) next tells = absurd (let bad = tells.0 in cc)
tells_goes (turns.Ends reply) next tells = absurd tells

-- One operation before the writes, on a cache that has nothing to send.

module _ (image : Image) (normal : map eight image ≡ image) (held : Cache) (clean : IsClean held) where
  -- to drop a line sends nothing
  drop_leaves : (line : ℕ) → line_changed line (λ words. sent words (cell_at held line)) image ≡ image
  drop_leaves line = ap (λ (words : List ℕ). with_line line words image) (clean_sent (line_at image line) (cell_at held line) (clean line)) ∙ with_line-line_at image normal line

  pub reads_leave : (p : Phase) (t : Task) → IsBeforeWrites p → (operated (op_at t p) (machine image held)).image ≡ image
  reads_leave at.DropMagic t before = drop_leaves _
  reads_leave at.Magic t before = refl
  reads_leave (at.Drop part j) t before = drop_leaves _
  reads_leave (at.Word part j k) t before = refl
  reads_leave at.DropGate t before = drop_leaves _
  reads_leave at.Gate t before = refl
  reads_leave (at.Check i) t before = refl
  reads_leave at.Decide t before = refl
  reads_leave other t before = absurd before

  brings_clean : (line : ℕ) → IsClean (with_cell line (brought (line_at image line) (cell_at held line)) held)
  brings_clean line = clean_with line _ held clean (clean_brought (line_at image line) (cell_at held line) refl (clean line))

  drops_clean : (line : ℕ) → IsClean (with_cell line Absent held)
  drops_clean line = clean_with line Absent held clean tt

  pub reads_clean : (p : Phase) (t : Task) → IsBeforeWrites p → IsClean (operated (op_at t p) (machine image held)).cache
  reads_clean at.DropMagic t before = drops_clean _
  reads_clean at.Magic t before = brings_clean _
  reads_clean (at.Drop part j) t before = drops_clean _
  reads_clean (at.Word part j k) t before = brings_clean _
  reads_clean at.DropGate t before = drops_clean _
  reads_clean at.Gate t before = brings_clean _
  reads_clean (at.Check i) t before = clean
  reads_clean at.Decide t before = clean
  reads_clean other t before = absurd before

-- Several that go on.

led_before : (told : Option Image) (t next : Task) (held after : Cache) → Led told t held next after → IsBeforeWrites t.phase → IsBeforeWrites next.phase
led_before told t _ held _ led.none before = before
led_before told t next held after (led.more {mid = mid} {now = now} first quiet) before =
    before_next mid next (unwrap_or (word_of (op_of mid) after) 0) (led_before told t mid held now first before) (tells_goes (turn_of mid (word_of (op_of mid) after)) next quiet.goes)

led_clean : (image : Image) → map eight image ≡ image → (t next : Task) (held after : Cache) → Led (Some image) t held next after → IsBeforeWrites t.phase → IsClean held → IsClean after
led_clean image normal t _ held _ led.none before clean = clean
led_clean image normal t next held after (led.more {mid = mid} {now = now} first quiet) before clean =
    subst IsClean (sym (quiet.turned image refl).is.cache)
    (reads_clean image normal now (led_clean image normal t mid held now first before clean) mid.phase mid (led_before (Some image) t mid held now first before))

held_before : (t next : Task) (held after : Cache) {n : ℕ} → CachedRun t held next after n → IsBeforeWrites t.phase → IsBeforeWrites next.phase
held_before t _ held _ run.none before = before
held_before t next held after (run.more {mid = mid} {now = now} first sound within of is turn) before =
    before_next mid next (unwrap_or (word_of (op_of mid) now) 0) (held_before t mid held now first before) turn

-- an operation on copies
held_clean_at : (p : Phase) (t : Task) (held : Cache) → IsBeforeWrites p → IsCached (op_at t p) held → IsClean held → IsClean (cached_after (op_at t p) held)
held_clean_at at.DropMagic t held before of clean = clean_with _ Absent held clean tt
held_clean_at at.Magic t held before of clean = clean
held_clean_at (at.Drop part j) t held before of clean = clean_with _ Absent held clean tt
held_clean_at (at.Word part j k) t held before of clean = clean
held_clean_at at.DropGate t held before of clean = clean_with _ Absent held clean tt
held_clean_at at.Gate t held before of clean = clean
held_clean_at (at.Check i) t held before of clean = absurd of
held_clean_at at.Decide t held before of clean = absurd of
held_clean_at other t held before of clean = absurd before

held_clean : (t next : Task) (held after : Cache) {n : ℕ} → CachedRun t held next after n → IsBeforeWrites t.phase → IsClean held → IsClean after
held_clean t _ held _ run.none before clean = clean
held_clean t next held after (run.more {mid = mid} {now = now} first sound within of is turn) before clean =
    subst IsClean (sym is) (held_clean_at mid.phase mid now (held_before t mid held now first before) of (held_clean t mid held now first before clean))

-- a task at its first store reads no more
pub first_behind : (t : Task) → IsFirstStore t → IsBeforeWrites t.phase → ⊥
first_behind t first before = elim (first_phase t first) [
  | inl slot ↦ subst IsBeforeWrites slot before
  | inr file ↦ subst IsBeforeWrites file before
]

pub held_safe : (t next : Task) (cache after : CacheState) (told now : Option Image) (notes room : ℕ) {n : ℕ}
    → CachedRun t cache.lines next after.lines n → (HasPlaces t cache → HasPlaces next after) → (IsFirstStore t → next ≡ t)
    → IsSafe told now t cache notes room → IsSafe told now next after notes room
held_safe t next cache after told now notes room ran places idle (inl (inl before, calm)) =
    inl (
      inl (held_before t next cache.lines after.lines ran before),
      λ image told_is. (let was = calm image told_is in (was.0, λ _. held_clean t next cache.lines after.lines ran before (was.1 before))),
    )
held_safe t next cache after told now notes room ran places idle (inl (inr first, calm)) =
    let first_on : IsFirstStore next = subst IsFirstStore (sym (idle first)) first in
    inl (inr first_on, λ image told_is. ((calm image told_is).0, λ before. absurd (first_behind next first_on before)))
held_safe t next cache after told now notes room ran places idle (inr has) = inr (places has.0, has.1)

-- A turn of the loop.

-- of a task that reads
module _ (b : TaskChange) (said : Turn) (on : ended said ≡ None) (x : HasDone b said) (before : IsBeforeWrites b.task.phase) where
  mid_before : IsBeforeWrites x.task.phase
  mid_before = led_before b.media.old.image b.task x.task b.old x.held x.led before

  next_up_to : IsUpToStore b.next
  next_up_to =
      up_to_next x.task b.next (unwrap_or (word_of (op_of x.task) b.new) 0) mid_before (goes_on (turn_of x.task (word_of (op_of x.task) b.new)) said b.next on x.goes)

  next_calm : (image : Image) → map eight image ≡ image → b.media.old.image ≡ Some image → IsClean b.old → (b.media.new.image ≡ Some image) × IsClean b.new
  next_calm image normal told_is clean =
      let ran : Led (Some image) b.task b.old x.task x.held = subst (λ (o : Option Image). Led o b.task b.old x.task x.held) told_is x.led in
      let clean_mid = led_clean image normal b.task x.task b.old x.held ran before clean in
      let is = (x.turned image told_is).is in (
        is.image ∙ ap Some (reads_leave image normal x.held clean_mid x.task.phase x.task mid_before),
        subst IsClean (sym is.cache) (reads_clean image normal x.held clean_mid x.task.phase x.task mid_before),
      )

safe_on : (b : TaskChange) (said : Turn) (told : Option Image) (cache after : CacheState) (notes_old room_old notes room : ℕ) → ended said ≡ None
    → HasDone b said → IsNormal b.media.old.image → cache.lines ≡ b.old → after.lines ≡ b.new
    → (IsFirstStore b.task ⊎ HasPlaces b.task cache → (said ≡ Go) × HasPlaces b.next after) → (said ≡ Go → notes < room)
    → IsSafe told b.media.old.image b.task cache notes_old room_old → IsSafe told b.media.new.image b.next after notes room
safe_on b said told cache after notes_old room_old notes room on x normal old_is new_is places kept (inl (inl before, calm)) =
    inl (
      next_up_to b said on x before,
      λ image is. (
          let was = calm image is in
          let now = next_calm b said on x before image (subst IsNormal was.0 normal) was.0 (subst IsClean old_is (was.1 before)) in
          (now.0, λ _. subst IsClean (sym new_is) now.1)
          ),
    )
safe_on b said told cache after notes_old room_old notes room on x normal old_is new_is places kept (inl (inr first, calm)) =
    let has = places (inl first) in inr (has.1, kept has.0)
safe_on b said told cache after notes_old room_old notes room on x normal old_is new_is places kept (inr was) =
    let has = places (inr was.0) in inr (has.1, kept has.0)

pub run_safe : (b : TaskChange) (said : Turn) (told : Option Image) (cache after : CacheState) (notes_old room_old notes room : ℕ) → ended said ≡ None
    → HasRun b said → IsNormal b.media.old.image → cache.lines ≡ b.old → after.lines ≡ b.new
    → (IsFirstStore b.task ⊎ HasPlaces b.task cache → (said ≡ Go) × HasPlaces b.next after) → (said ≡ Go → notes < room)
    → IsSafe told b.media.old.image b.task cache notes_old room_old → IsSafe told b.media.new.image b.next after notes room
run_safe b said told cache after notes_old room_old notes room on x normal old_is new_is places kept (inl (inl before, calm)) =
    safe_on b said told cache after notes_old room_old notes room on
    (none_sent b.media.old.image x.mid b.task x.task b.old x.held x.sent before (λ mid task held. HasDone (later b mid task held) said) x.done) normal
    old_is new_is places kept (inl (inl before, calm))
run_safe b said told cache after notes_old room_old notes room on x normal old_is new_is places kept (inl (inr first, calm)) =
    let has = places (inl first) in inr (has.1, kept has.0)
run_safe b said told cache after notes_old room_old notes room on x normal old_is new_is places kept (inr was) =
    let has = places (inr was.0) in inr (has.1, kept has.0)

-- Ends.

-- where no room is left for a note, or the task hasn't its places, memory is as it was
pub full_same : (told now : Option Image) (t : Task) (cache : CacheState) (notes room : ℕ) → room ≤ notes → IsSafe told now t cache notes room → IfModelled told (λ image. now ≡ Some image)
full_same told now t cache notes room full (inl calm) = λ image is. (calm.1 image is).0
full_same told now t cache notes room full (inr has) = absurd (let some = has.1 in omega (arith, some, full))

pub lacks_same : (told now : Option Image) (t : Task) (cache : CacheState) (notes room : ℕ) → ¬ (HasPlaces t cache) → IsSafe told now t cache notes room → IfModelled told (λ image. now ≡ Some image)
lacks_same told now t cache notes room lacks (inl calm) = λ image is. (calm.1 image is).0
lacks_same told now t cache notes room lacks (inr has) = absurd (lacks has.0)
