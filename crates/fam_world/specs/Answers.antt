-- What a call of the world has answered.
use Rattle.std.specs.Prelude.{ℕ, ⊤, ◌≡◌, ◌<◌, Bool, true, false, length, Option, Some, None, Result, Ok, Err}
use Rattle.fam_journal.specs.declared.refusal.Refusal.{Refusal}
use Rattle.fam_journal.specs.declared.refusal.Refusal.TheVariants as why
use Rattle.fam_journal.specs.Calls.{Call, asked_name}
use Rattle.fam_journal.specs.ByWorld.{number_in, refusal_in}
use Rattle.fam_journal.specs.Ends.{cause_faults}
use Rattle.fam_journal.specs.Names.{NamesCause}
use Rattle.fam_journal.specs.View.{WorldView}
use Rattle.fam_world.specs.declared.fault.Moved.{Moved}
use Rattle.fam_world.specs.declared.fault.Moved.TheVariants as moved
use Rattle.fam_world.specs.declared.fault.WorldFault.{WorldFault}
use Rattle.fam_world.specs.declared.fault.WorldFault.TheVariants as fault

-- where the call found memory, P holds of the refusal that it gave, if any
abbrev pub IfAnswered : {T : Type 0} → Result T WorldFault → (Option Refusal → Type 0) → Type 0
IfAnswered (Ok x) P = P None
IfAnswered (Err (fault.Refused cause)) P = P (Some cause)
IfAnswered (Err fault.OutOfMemory) P = ⊤

-- whether the task is over behind a step
abbrev pub is_over : Moved → Bool
is_over moved.Going = false
is_over moved.Answered = true

-- where a step found memory, P holds of the refusal that it gave, if any, and of whether the task is over
abbrev pub IfStepped : Result Moved WorldFault → (Option Refusal → Bool → Type 0) → Type 0
IfStepped (Ok moved) P = P None (is_over moved)
IfStepped (Err (fault.Refused cause)) P = P (Some cause) false
IfStepped (Err fault.OutOfMemory) P = ⊤

-- the refusal that is told, if any
abbrev pub refusal_given : {T : Type 0} → Result T Refusal → Option Refusal
refusal_given (Ok x) = None
refusal_given (Err cause) = Some cause

-- a call that the world alone refuses asks nothing of the media, which is then as it was
abbrev pub IsUntouched : {M : Type 0} → Call → ℕ → WorldView → M → M → Type 0
IsUntouched c lines world before behind = (cause : Refusal) → refusal_in c world lines ≡ Some cause → behind ≡ before

-- a cause that is no text of a source
abbrev pub IsPlain : Refusal → Type 0
IsPlain why.NoHost = ⊤
IsPlain (why.SameHost host) = ⊤
IsPlain why.TooManyHosts = ⊤
IsPlain (why.BadGeometry unit log) = ⊤
IsPlain (why.TooSmall need have) = ⊤
IsPlain (why.ImageSmall lines) = ⊤
IsPlain (why.Busy host) = ⊤
IsPlain (why.Dirty host) = ⊤
IsPlain (why.HasSuper uuid) = ⊤
IsPlain why.Idle = ⊤
IsPlain (why.NoLine at lines) = ⊤
IsPlain (why.NoFile name) = ⊥
IsPlain (why.CopyLimit sum) = ⊤
IsPlain (why.BadListing at) = ⊤
IsPlain (why.MediaFault at) = ⊤
IsPlain why.Mounted = ⊤
IsPlain why.NotMounted = ⊤

-- the call is refused at once, for this cause, which is the world's own: it names a declared host, if any
pub record IsRefused (c : Call) (lines : ℕ) (world : WorldView) (cause : Refusal) : Type 0 where
  pub first : refusal_in c world lines ≡ Some cause
  pub plain : IsPlain cause
  pub named : NamesCause (length world.hosts) cause
  pub faultless : cause_faults cause ≡ 0

-- it isn't, and this is the host that it is for
pub record IsFree (c : Call) (lines : ℕ) (world : WorldView) (at : ℕ) : Type 0 where
  pub number : number_in (asked_name c) world ≡ Some at
  pub free : refusal_in c world lines ≡ None
  pub within : at < length world.hosts

-- one or the other
abbrev pub IsPlaced : Call → ℕ → WorldView → Result ℕ Refusal → Type 0
IsPlaced c lines world (Ok at) = IsFree c lines world at
IsPlaced c lines world (Err cause) = IsRefused c lines world cause
