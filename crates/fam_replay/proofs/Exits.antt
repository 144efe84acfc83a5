-- What calls for lines of a media leave behind: those that went well, and one that ended in a fault.
use Rattle.std.proofs.Common.{◌≡◌, ℕ, ◌<◌, ◌≤◌, Bool, true, inl, inr, Option, Some, None, ap, ◌∙◌, arith}
use Rattle.std.specs.Prelude.{⊤}
use Rattle.fam_base.specs.declared.line.LineNo.{LineNo}
use Rattle.fam_format.specs.Reading.{Reading}
use Rattle.fam_format.specs.declared.faults.SuperFault.{SuperFault}
use Rattle.fam_format.specs.declared.faults.SuperFault.TheVariants as super
use Rattle.fam_format.specs.declared.faults.LogFault.{LogFault}
use Rattle.fam_format.specs.declared.faults.LogFault.TheVariants as log
use Rattle.fam_format.specs.declared.faults.Reason.{Reason}
use Rattle.fam_media.specs.Causes.{IsSteady, Rose}
use Rattle.fam_media.specs.Plans.{one_more}
use Rattle.fam_media.specs.States.{MediaState}
use Rattle.fam_replay.specs.Sources.{FailsAt, IsCounted, IsReadCaused, Tells, of_log, of_slot, of_super}
use Rattle.fam_replay.specs.declared.fault.ReadFault.{ReadFault}
use Rattle.fam_replay.specs.declared.fault.ReadFault.TheVariants as fault

-- a fault that isn't the media's
abbrev pub IsOther : ReadFault → Type 0
IsOther (fault.NoSuper word) = ⊤
IsOther (fault.BadSuper field found wanted) = ⊤
IsOther (fault.BadLog field found wanted) = ⊤
IsOther (fault.BadEntry seq reason) = ⊤
IsOther (fault.MediaFault line) = ⊥
IsOther fault.OutOfMemory = ⊤

-- it fails at no line
pub fails_nowhere : (At : ℕ → Type 0) (f : ReadFault) → IsOther f → FailsAt At f
fails_nowhere At (fault.NoSuper word) other = tt
fails_nowhere At (fault.BadSuper field found wanted) other = tt
fails_nowhere At (fault.BadLog field found wanted) other = tt
fails_nowhere At (fault.BadEntry seq reason) other = tt
fails_nowhere At (fault.MediaFault line) other = absurd other
fails_nowhere At fault.OutOfMemory other = tt

-- the media's says nothing of the image
pub tells_nothing : (f : ReadFault) (line : LineNo) (read : Reading) → f ≡ fault.MediaFault line → Tells f read
tells_nothing f line read is = rw is tt

-- and fails at its line
pub fails_there : (At : ℕ → Type 0) (f : ReadFault) (line : LineNo) → f ≡ fault.MediaFault line → At line.0 → FailsAt At f
fails_there At f line is at = rw is at

pub caused : (before now : ℕ) (f : ReadFault) (line : LineNo) → f ≡ fault.MediaFault line → Rose before now → IsReadCaused before now f
caused before now f line is rose = rw is rose

rose_later : (first before now : ℕ) → first ≤ before → Rose before now → Rose first now
rose_later first before now le (inl lt) = inl (omega arith)
rose_later first before now le (inr last) = inr last

module _ {M : Type 0} (size : M → ℕ) (state : M → MediaState) (exact : Bool) where
  -- calls that went well
  pub record Held (old new : M) : Type 0 where
    pub quiet : exact ≡ true → (state new).faults ≡ (state old).faults
    pub same : (state new).image ≡ (state old).image
    pub steady : IsSteady size state old new

  -- calls that ended in a fault
  pub record Fell (old new : M) (f : ReadFault) : Type 0 where
    pub cause : IsReadCaused (state old).faults (state new).faults f
    pub counted : exact ≡ true → IsCounted (state old).faults (state new).faults f
    pub line : FailsAt (λ at. at < size old) f
    pub same : (state new).image ≡ (state old).image
    pub steady : IsSteady size state old new

module _ {M : Type 0} (size : M → ℕ) (state : M → MediaState) (exact : Bool) (a b c : M) (first : Held size state exact a b) where
  steady_on : IsSteady size state b c → IsSteady size state a c
  steady_on next = record { size = next.size ∙ first.steady.size; later = omega (arith, first.steady.later, next.later) }

  -- calls that went well, behind others
  pub held_on : Held size state exact b c → Held size state exact a c
  held_on next = record { quiet = λ e. next.quiet e ∙ first.quiet e; same = next.same ∙ first.same; steady = steady_on next.steady }

  -- a fault behind them
  pub fell_on : (f : ReadFault) → Fell size state exact b c f → Fell size state exact a c f
  fell_on (fault.NoSuper word) next = record { cause = tt; counted = λ e. next.counted e ∙ first.quiet e; line = tt; same = next.same ∙ first.same; steady = steady_on next.steady }
  fell_on (fault.BadSuper field found wanted) next = record { cause = tt; counted = λ e. next.counted e ∙ first.quiet e; line = tt; same = next.same ∙ first.same; steady = steady_on next.steady }
  fell_on (fault.BadLog field found wanted) next = record { cause = tt; counted = λ e. next.counted e ∙ first.quiet e; line = tt; same = next.same ∙ first.same; steady = steady_on next.steady }
  fell_on (fault.BadEntry seq reason) next = record { cause = tt; counted = λ e. next.counted e ∙ first.quiet e; line = tt; same = next.same ∙ first.same; steady = steady_on next.steady }
  fell_on (fault.MediaFault line) next = record {
    cause = rose_later (state a).faults (state b).faults (state c).faults first.steady.later next.cause;
    counted = λ e. next.counted e ∙ ap one_more (first.quiet e);
    line = omega (arith, next.line, first.steady.size);
    same = next.same ∙ first.same;
    steady = steady_on next.steady;
  }
  fell_on fault.OutOfMemory next = record { cause = tt; counted = λ e. next.counted e ∙ first.quiet e; line = tt; same = next.same ∙ first.same; steady = steady_on next.steady }

module _ {M : Type 0} (size : M → ℕ) (state : M → MediaState) (exact : Bool) (a b : M) (held : Held size state exact a b) where
  -- another fault than the media's, where all calls went well
  pub stopped : (f : ReadFault) → IsOther f → Fell size state exact a b f
  stopped (fault.NoSuper word) other = record { cause = tt; counted = held.quiet; line = tt; same = held.same; steady = held.steady }
  stopped (fault.BadSuper field found wanted) other = record { cause = tt; counted = held.quiet; line = tt; same = held.same; steady = held.steady }
  stopped (fault.BadLog field found wanted) other = record { cause = tt; counted = held.quiet; line = tt; same = held.same; steady = held.steady }
  stopped (fault.BadEntry seq reason) other = record { cause = tt; counted = held.quiet; line = tt; same = held.same; steady = held.steady }
  stopped (fault.MediaFault line) other = absurd other
  stopped fault.OutOfMemory other = record { cause = tt; counted = held.quiet; line = tt; same = held.same; steady = held.steady }

-- what the read of a line leaves behind where it failed
pub line_failed : {M : Type 0} (size : M → ℕ) (state : M → MediaState) (exact : Bool) (a b : M) (f : ReadFault) (line : LineNo) → f ≡ fault.MediaFault line → Rose (state a).faults (state b).faults
    → (exact ≡ true → IsCounted (state a).faults (state b).faults f) → FailsAt (λ at. at < size a) f → (state b).image ≡ (state a).image → IsSteady size state a b → Fell size state exact a b f
line_failed size state exact a b f line is rose counted at same steady =
    record { cause = caused (state a).faults (state b).faults f line is rose; counted = counted; line = at; same = same; steady = steady }

-- faults of superblock, log and slot aren't the media's
pub super_other : (f : ReadFault) (told : SuperFault) → f ≡ of_super told → IsOther f
super_other f (super.NoSuper word) is = rw is tt
super_other f (super.BadSuper field found wanted) is = rw is tt

pub log_other : (f : ReadFault) (told : LogFault) → f ≡ of_log told → IsOther f
log_other f (log.BadLog field found wanted) is = rw is tt

pub slot_other : (f : ReadFault) (seq : ℕ) (told : Option Reason) → f ≡ of_slot seq told → IsOther f
slot_other f seq (Some reason) is = rw is tt
slot_other f seq None is = rw is tt
