-- The line that a fault names is asked for, and each fault that came is counted and told.
use Rattle.std.proofs.Common.{◌≡◌, ℕ, Bool, Option, Some, refl, sym, subst, inl, inr}
use Rattle.fam_base.specs.declared.entry.Params.{Params}
use Rattle.fam_base.specs.Image.{Image}
use Rattle.fam_dup.specs.declared.fault.DupFault.{DupFault}
use Rattle.fam_dup.specs.declared.fault.DupFault.TheVariants as fault
use Rattle.fam_dup.specs.Ends.{FailsFromAt, FailsToAt, IsAskedIn, IsCausedByFrom, IsCausedByTo, IsCutStep, IsOwn, IsReadAt, IsReadTo, from_counted, to_counted}
use Rattle.fam_dup.specs.Findings.{FailsFrom, FailsTo, FaultClass, Refuses, WantsMemory, fault_class}

module _ (from old : Image) (new : Option Image) (p : Params) (force : Bool) where
  -- FROM alone was asked
  pub asked_from : (f : DupFault) (a b : ℕ) → new ≡ Some old → IsCausedByFrom a b (fault_class f) → FailsFromAt (IsReadAt from) f → IsAskedIn from old new p force f
  asked_from (fault.ImageSmall lines) a b same cause at = tt
  asked_from (fault.NoSuper word) a b same cause at = tt
  asked_from (fault.BadSuper field found wanted) a b same cause at = tt
  asked_from (fault.BadLog field found wanted) a b same cause at = tt
  asked_from (fault.BadEntry seq reason) a b same cause at = tt
  asked_from (fault.TooSmall needed have) a b same cause at = tt
  asked_from (fault.HasSuper fs) a b same cause at = tt
  asked_from (fault.Stopped seq refusal) a b same cause at = tt
  asked_from (fault.FromFault line) a b same cause at = inl (same, at)
  asked_from (fault.ToFault line) a b same cause at = absurd cause
  asked_from fault.OutOfMemory a b same cause at = tt

  -- TO alone was, before anything was written
  pub asked_to : (P : ℕ → Type 0) → ((at : ℕ) → P at → IsReadTo from old p force at) → (f : DupFault) (a b : ℕ) → new ≡ Some old → IsCausedByTo a b (fault_class f) → FailsToAt P f
      → IsAskedIn from old new p force f
  asked_to P reads (fault.ImageSmall lines) a b same cause at = tt
  asked_to P reads (fault.NoSuper word) a b same cause at = tt
  asked_to P reads (fault.BadSuper field found wanted) a b same cause at = tt
  asked_to P reads (fault.BadLog field found wanted) a b same cause at = tt
  asked_to P reads (fault.BadEntry seq reason) a b same cause at = tt
  asked_to P reads (fault.TooSmall needed have) a b same cause at = tt
  asked_to P reads (fault.HasSuper fs) a b same cause at = tt
  asked_to P reads (fault.Stopped seq refusal) a b same cause at = tt
  asked_to P reads (fault.FromFault line) a b same cause at = absurd cause
  asked_to P reads (fault.ToFault line) a b same cause at = inl (same, reads line.0 at)
  asked_to P reads fault.OutOfMemory a b same cause at = tt

  -- none was
  pub asked_none : (f : DupFault) → IsOwn (fault_class f) → IsAskedIn from old new p force f
  asked_none (fault.ImageSmall lines) own = tt
  asked_none (fault.NoSuper word) own = tt
  asked_none (fault.BadSuper field found wanted) own = tt
  asked_none (fault.BadLog field found wanted) own = tt
  asked_none (fault.BadEntry seq reason) own = tt
  asked_none (fault.TooSmall needed have) own = tt
  asked_none (fault.HasSuper fs) own = tt
  asked_none (fault.Stopped seq refusal) own = tt
  asked_none (fault.FromFault line) own = absurd own
  asked_none (fault.ToFault line) own = absurd own
  asked_none fault.OutOfMemory own = tt

  -- nor for want of memory
  pub asked_memory : (f : DupFault) → fault_class f ≡ WantsMemory → IsAskedIn from old new p force f
  asked_memory (fault.ImageSmall lines) is = tt
  asked_memory (fault.NoSuper word) is = tt
  asked_memory (fault.BadSuper field found wanted) is = tt
  asked_memory (fault.BadLog field found wanted) is = tt
  asked_memory (fault.BadEntry seq reason) is = tt
  asked_memory (fault.TooSmall needed have) is = tt
  asked_memory (fault.HasSuper fs) is = tt
  asked_memory (fault.Stopped seq refusal) is = tt
  asked_memory (fault.FromFault line) is = absurd (cc)
  asked_memory (fault.ToFault line) is = absurd (cc)
  asked_memory fault.OutOfMemory is = tt

  -- a copy was cut
  pub asked_cut : (f : DupFault) → IsCutStep from old new p force f → IsAskedIn from old new p force f
  asked_cut (fault.ImageSmall lines) cut = tt
  asked_cut (fault.NoSuper word) cut = tt
  asked_cut (fault.BadSuper field found wanted) cut = tt
  asked_cut (fault.BadLog field found wanted) cut = tt
  asked_cut (fault.BadEntry seq reason) cut = tt
  asked_cut (fault.TooSmall needed have) cut = tt
  asked_cut (fault.HasSuper fs) cut = tt
  asked_cut (fault.Stopped seq refusal) cut = tt
  asked_cut (fault.FromFault line) cut = inr cut
  asked_cut (fault.ToFault line) cut = inr cut
  asked_cut fault.OutOfMemory cut = tt

-- A media that wasn't asked, or didn't fail, has counted nothing.

pub to_unasked : (a b n : ℕ) (class : FaultClass) → IsCausedByFrom a b class → n ≡ to_counted class n
to_unasked a b n (Refuses found) cause = refl
to_unasked a b n FailsFrom cause = refl
to_unasked a b n FailsTo cause = absurd cause
to_unasked a b n WantsMemory cause = refl

pub from_unasked : (a b n : ℕ) (class : FaultClass) → IsCausedByTo a b class → n ≡ from_counted class n
from_unasked a b n (Refuses found) cause = refl
from_unasked a b n FailsFrom cause = absurd cause
from_unasked a b n FailsTo cause = refl
from_unasked a b n WantsMemory cause = refl

pub own_to : (n : ℕ) (class : FaultClass) → IsOwn class → n ≡ to_counted class n
own_to n (Refuses found) own = refl
own_to n FailsFrom own = absurd own
own_to n FailsTo own = absurd own
own_to n WantsMemory own = refl

pub own_from : (n : ℕ) (class : FaultClass) → IsOwn class → n ≡ from_counted class n
own_from n (Refuses found) own = refl
own_from n FailsFrom own = absurd own
own_from n FailsTo own = absurd own
own_from n WantsMemory own = refl

pub to_kept : (n : ℕ) (class : FaultClass) → class ≡ FailsFrom → n ≡ to_counted class n
to_kept n class is = subst (λ (k : FaultClass). n ≡ to_counted k n) (sym is) refl

pub from_kept : (n : ℕ) (class : FaultClass) → class ≡ FailsTo → n ≡ from_counted class n
from_kept n class is = subst (λ (k : FaultClass). n ≡ from_counted k n) (sym is) refl

pub wanted_to : (n : ℕ) (class : FaultClass) → class ≡ WantsMemory → n ≡ to_counted class n
wanted_to n class is = subst (λ (k : FaultClass). n ≡ to_counted k n) (sym is) refl

pub wanted_from : (n : ℕ) (class : FaultClass) → class ≡ WantsMemory → n ≡ from_counted class n
wanted_from n class is = subst (λ (k : FaultClass). n ≡ from_counted k n) (sym is) refl
