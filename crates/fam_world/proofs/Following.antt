-- Operations of a host that may forget lines: what is told of them is told of a cache that is shown. It is the host's own where
-- the host forgets none.
use Rattle.std.proofs.Common.{◌≡◌, ℕ, inl, inr, Bool, false, true, List, Some, None, Result, Ok, Err, refl, sym, subst, ◌∙◌}
use Rattle.fam_base.specs.declared.line.OutOfMemory.{OutOfMemory}
use Rattle.fam_cache.specs.declared.fault.OperationFault.{OperationFault}
use Rattle.fam_cache.specs.declared.fault.OperationFault.TheVariants as fault
use Rattle.fam_cache.specs.Operations.{SendsWithin}
use Rattle.fam_cache.specs.States.{CacheState}
use Rattle.fam_cache.proofs.Performed.{sends_one}
use Rattle.fam_commands.specs.Appends.{IsBeforeWrites}
use Rattle.fam_commands.specs.declared.phase.Phase.{Phase}
use Rattle.fam_commands.specs.declared.phase.Phase.TheVariants as at
use Rattle.fam_commands.specs.Task.{Task, op_of}
use Rattle.fam_machine.specs.Caches.{Cache, cell_at}
use Rattle.fam_machine.specs.OneLine.{IsHeld}
use Rattle.fam_media.specs.States.{MediaChange}
use Rattle.fam_tasks.specs.declared.answer.Turn.{Turn}
use Rattle.fam_run.specs.Cached.{CachedRun}
use Rattle.fam_run.specs.Operation.{IsUndone, ended}
use Rattle.fam_run.specs.Places.{HasPlacesAt, KeepsPlaces, PlacesMade}
use Rattle.fam_run.specs.Runs.{HasAdvanced}
use Rattle.fam_run.specs.Shows.{OnlyReads, Shows}
use Rattle.fam_run.specs.TaskChange.{TaskChange}
use Rattle.fam_run.proofs.Readers.{reads_one}
use Rattle.fam_run.proofs.Shown.{OnBoth, on_own, over, shown_advance, shown_cached}
use Rattle.fam_journal.specs.Notes.{Note}
use Rattle.fam_journal.specs.View.{HostView}
use Rattle.fam_world.specs.Concluded.{ShownBy}
use Rattle.fam_world.specs.Counted.{HostStanding, SomeSteps, RunsUp}
use Rattle.fam_world.specs.Steps.{CacheFits}
use Rattle.fam_world.proofs.Sends.{held_sends}
use Rattle.fam_world.proofs.TaskSteps.{standing_at, stands_still}
use Rattle.fam_world.proofs.UpToOn.{first_behind}

-- the host's own cache, and the one that is shown: the same, or, where the host may forget lines, one that has all
abbrev pub Follows : Bool → Task → CacheState → CacheState → Type 0
Follows false t real shown = real ≡ shown
Follows true t real shown = OnBoth t real.lines shown.lines

-- a cache that is shown of the host by now: its task came there by operations, which are told of this cache
pub record FarOver (forgets : Bool) (at lines : ℕ) (start : HostView → HostStanding) (here : HostView → CacheState → HostStanding) (t : Task)
    (real : CacheState) (Safe : CacheState → Type 0) : Type 0 where
  pub shown : CacheState
  pub far : (view : HostView) → SomeSteps at lines (start view) (here view shown)
  pub follows : Follows forgets t real shown
  pub cached : CacheFits lines shown
  pub safe : Safe shown

-- at first nothing is forgotten
pub follows_own : (forgets : Bool) (t : Task) (cache : CacheState) → (forgets ≡ true → OnlyReads t) → Follows forgets t cache cache
follows_own false t cache reads = refl
follows_own true t cache reads = on_own t cache.lines (reads refl)

pub own_shown : (forgets : Bool) (t : Task) (real shown : CacheState) → Follows forgets t real shown → forgets ≡ false → shown ≡ real
own_shown false t real shown same is = sym same
own_shown true t real shown on is = absurd cc

-- before an operation the host may forget lines
pub follows_shed : (forgets tries : Bool) (t : Task) (old new shown : CacheState) → (forgets ≡ false → tries ≡ false)
    → ((k : Cache) → Shows t old.lines k → Shows t new.lines k) → (tries ≡ false → new ≡ old) → Follows forgets t old shown
    → Follows forgets t new shown
follows_shed false tries t old new shown none shows still same = still (none refl) ∙ same
follows_shed true tries t old new shown none shows still on = record { reads = on.reads; shows = shows shown.lines on.shows }

-- a fence sends lines of the media
pub sends_within : (forgets : Bool) (t : Task) (lines : ℕ) (real shown : CacheState) → Follows forgets t real shown → CacheFits lines shown → SendsWithin (op_of t) lines real.lines
sends_within false t lines real shown same fits = held_sends (op_of t) lines real.lines (λ l is. fits.below l (subst (λ (k : CacheState). IsHeld (cell_at k.lines l)) same is))
sends_within true t lines real shown on fits = sends_one (op_of t) lines real.lines (reads_one t.phase t on.reads.before)

-- A task that reads has no places.

reads_lack : (p : Phase) (t : Task) (cache : CacheState) → IsBeforeWrites p → ¬ (HasPlacesAt p t cache)
reads_lack (at.StoreData j k) t cache before has = before
reads_lack (at.SendData j) t cache before has = before
reads_lack (at.StoreSlot i k) t cache before has = before
reads_lack (at.SendSlot i) t cache before has = before
reads_lack at.StoreGate t cache before has = before
reads_lack at.FenceSlot t cache before has = before
reads_lack at.SendGate t cache before has = before
reads_lack at.FenceGate t cache before has = before
reads_lack other t cache before has = has

reads_make : (t next : Task) (cache after : CacheState) (r : Result Turn OperationFault) → IsBeforeWrites t.phase → PlacesMade t cache next after r
reads_make t next cache after (Ok turn) before = λ on has. absurd (elim has [
  | inl first ↦ first_behind t first before
  | inr places ↦ reads_lack t.phase t cache before places
])
reads_make t next cache after (Err (fault.MediaFault line)) before = tt
reads_make t next cache after (Err fault.OutOfMemory) before = reads_lack t.phase t cache before

-- Operations that are done as a whole.

module _ (t next : Task) (old new shown : CacheState) (lines : ℕ) (media : MediaChange) where
  abbrev own_change : TaskChange
  own_change = record { task = t; next = next; old = old.lines; new = new.lines; lines = lines; media = media }

  -- the same came of them on the cache that is shown
  pub record Followed (forgets : Bool) (r : Result Turn OperationFault) : Type 0 where
    pub after : CacheState
    pub advanced : HasAdvanced (over own_change shown.lines after.lines) r
    pub places : PlacesMade t shown next after r
    pub follows : (turn : Turn) → r ≡ Ok turn → ended turn ≡ None → Follows forgets next new after
    pub same : forgets ≡ false → after ≡ new

  pub followed : (forgets : Bool) (r : Result Turn OperationFault) → HasAdvanced own_change r → PlacesMade t old next new r → Follows forgets t old shown → Followed forgets r
  followed false r x places same = record {
    after = new;
    advanced = subst (λ (k : CacheState). HasAdvanced (over own_change k.lines new.lines) r) same x;
    places = subst (λ (k : CacheState). PlacesMade t k next new r) same places;
    follows = λ turn is on. refl;
    same = λ is. refl;
  }
  followed true r x places on =
      let d = shown_advance own_change r shown.lines x on in
      let after : CacheState = record { lines = d.after; spare = 0 } in
      record {
        after = after;
        advanced = d.advanced;
        places = reads_make t next shown after r on.reads.before;
        follows = d.on;
        same = λ is. absurd cc;
      }

-- Operations on copies of the host alone.

pub record FollowedOn (forgets : Bool) (t next : Task) (left shown : CacheState) (n : ℕ) : Type 0 where
  pub after : CacheState
  pub ran : CachedRun t shown.lines next after.lines n
  pub places : KeepsPlaces t shown next after
  pub follows : Follows forgets next left after

pub followed_on : (forgets : Bool) (t next : Task) (real left shown : CacheState) {n : ℕ} → CachedRun t real.lines next left.lines n
    → KeepsPlaces t real next left → Follows forgets t real shown → FollowedOn forgets t next left shown n
followed_on false t next real left shown {n} ran places same = record {
  after = left;
  ran = subst (λ (k : CacheState). CachedRun t k.lines next left.lines n) same ran;
  places = subst (λ (k : CacheState). KeepsPlaces t k next left) same places;
  follows = refl;
}
followed_on true t next real left shown ran places on =
    let y = shown_cached t next real.lines left.lines shown.lines ran on in
    record {
      after = record { lines = y.after; spare = 0 };
      ran = y.ran;
      places = λ has. absurd (reads_lack t.phase t shown on.reads.before has);
      follows = y.on;
    }

-- Ends.

-- where nothing was done, those before led there still
pub runs_still : (at lines : ℕ) (start : HostStanding) (view : HostView) (b : TaskChange) (notes notes_now : List Note) → IsUndone b → notes_now ≡ notes
    → SomeSteps at lines start (standing_at view (Some b.task) b.task.kept b.old notes b.media.old) → SomeSteps at lines start (standing_at view (Some b.next) b.next.kept b.new notes_now b.media.new)
runs_still at lines start view b notes notes_now undone same runs =
    subst (λ (s : HostStanding). SomeSteps at lines start s) (sym (stands_still view b notes notes_now undone same)) runs

-- where the host forgets none, what is told of the cache that is shown is told of its own
pub own_up : {own : CacheState} {at lines : ℕ} {a : HostStanding} {end : CacheState → HostStanding} {said : Result (Unit {0}) OutOfMemory}
    → ShownBy false own at lines a end said → RunsUp at lines a (end own) said
own_up {own} {at} {lines} {a} {end} {said} x = subst (λ (k : CacheState). RunsUp at lines a (end k) said) (x.same refl) x.up.runs
