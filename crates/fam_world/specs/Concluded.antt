-- A call behind which a host's cache isn't told: what a call might have left that forgets no line.
use Rattle.std.specs.Prelude.{ℕ, ◌≡◌, Bool, false, IfSome, IsErrOf, List, Some, Result, slice_get}
use Rattle.fam_base.specs.declared.line.OutOfMemory.{OutOfMemory}
use Rattle.fam_cache.specs.States.{CacheState}
use Rattle.fam_media.specs.States.{MediaChange}
use Rattle.fam_run.specs.Shows.{OnlyReads}
use Rattle.fam_journal.specs.ByWorld.{number_in}
use Rattle.fam_journal.specs.Calls.{Finishes}
use Rattle.fam_journal.specs.CallRecords.{FinishOutOfMemory, MediaCall}
use Rattle.fam_journal.specs.View.{HostView, WorldView}
use Rattle.fam_world.specs.Answers.{IfAnswered}
use Rattle.fam_world.specs.Counted.{HostStanding, RunsUp}
use Rattle.fam_world.specs.declared.fault.WorldFault.{WorldFault}
use Rattle.fam_world.specs.declared.fault.WorldFault.TheVariants as fault

-- a host with this cache
abbrev pub with_cache : HostView → CacheState → HostView
with_cache view cache = record view { cache = cache.lines }

-- operations of a host's task up to its answer, as this was said of them, led to one of these ends: that with the cache shown
pub record ShownUp (at lines : ℕ) (a : HostStanding) (end : CacheState → HostStanding) (said : Result (Unit {0}) OutOfMemory) : Type 0 where
  pub shown : CacheState
  pub runs : RunsUp at lines a (end shown) said

-- so it was said of a call that may forget lines: where it forgets none, the cache shown is the host's own
pub record ShownBy (forgets : Bool) (own : CacheState) (at lines : ℕ) (a : HostStanding) (end : CacheState → HostStanding) (said : Result (Unit {0}) OutOfMemory) : Type 0 where
  pub up : ShownUp at lines a end said
  pub same : forgets ≡ false → up.shown ≡ own

-- the host's task only reads, if it runs any
abbrev pub IsReader : HostView → Type 0
IsReader view = IfSome view.task OnlyReads

-- so it is of the host of a name, as it was numbered
abbrev pub ReadsOf : List ℕ → WorldView → WorldView → Type 0
ReadsOf name numbered world = (at : ℕ) (view : HostView) → number_in name numbered ≡ Some at → slice_get world.hosts at ≡ Some view → IsReader view

-- a finish of the host's task might have left the world that is shown, with the same journal, and answered the same
pub record HasConcluded (name : List ℕ) (lines : ℕ) (media : MediaChange) (old new : WorldView) (answer : Result (Unit {0}) WorldFault) : Type 0 where
  pub shown : WorldView
  pub journal : new.journal ≡ shown.journal
  pub answered : IfAnswered answer (λ answered. MediaCall (Finishes name) lines answered media old shown)
  pub want : IsErrOf answer fault.OutOfMemory → FinishOutOfMemory name lines media old shown
