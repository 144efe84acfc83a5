-- Counts of faults: they never fall, and a failure raises them.
use Rattle.std.specs.Prelude.{ℕ, ◌≡◌, ◌⊎◌, ◌-◌, ◌^◌, ◌<◌, ◌≤◌, Result, OnErr}
use Rattle.fam_media.specs.States.{MediaState, ShelfState}

-- a count of 64 bits rose, or stands at its last value
abbrev pub Rose : ℕ → ℕ → Type 0
Rose before now = (before < now) ⊎ (now ≡ 2 ^ 64 - 1)

-- a media has as many lines as before, and its count of faults did not fall
pub record IsSteady {M : Type 0} (lines : M → ℕ) (state : M → MediaState) (old new : M) : Type 0 where
  pub size : lines new ≡ lines old
  pub later : (state old).faults ≤ (state new).faults

-- a shelf's files are as before, and its counts did not fall
pub record IsShelfSteady (old new : ShelfState) : Type 0 where
  pub same : new.files ≡ old.files
  pub faults_later : old.faults ≤ new.faults
  pub shorts_later : old.shorts ≤ new.shorts

-- the count of faults did not fall during a call, and where the call failed it rose
pub record HasCause {T E : Type 0} (before now : ℕ) (result : Result T E) : Type 0 where
  pub later : before ≤ now
  pub failed : OnErr result (Rose before now)
