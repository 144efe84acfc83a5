-- Calls that take no media: what they make of the world is told by the world alone.
use Rattle.std.proofs.Common.{◌≡◌, ℕ, List, [], ◌∷◌, ◌++◌, Option, Some, None, Err, refl, ap, ap₂, sym, ◌∙◌, subst}
use Rattle.std.specs.Prelude.{IsErrOf}
use Rattle.fam_journal.specs.declared.refusal.Refusal.{Refusal}
use Rattle.fam_journal.specs.Calls as call
use Rattle.fam_journal.specs.Calls.{Call, asked_name, refusal_of}
use Rattle.fam_journal.specs.CallRecords.{WorldCall}
use Rattle.fam_journal.specs.Members.{changed_at}
use Rattle.fam_journal.specs.Notes.{Note, Refused}
use Rattle.fam_journal.specs.View.{HostView, WorldView}
use Rattle.fam_journal.specs.ByWorld.{acted, acted_by, number_in, refusal_in, with_host}
use Rattle.fam_world.specs.declared.fault.WorldFault.{WorldFault}
use Rattle.fam_world.specs.declared.fault.WorldFault.TheVariants as fault
use Rattle.fam_world.specs.Answers.{IfAnswered}

-- a refusal that was noted and given
pub refused_told : (given : WorldFault) (cause : Refusal) (P : Option Refusal → Type 0) → given ≡ fault.Refused cause → P (Some cause) → IfAnswered {T = Unit {0}} (Err given) P
refused_told given cause P is p = subst (λ (z : WorldFault). IfAnswered {T = Unit {0}} (Err z) P) (sym is) p

-- a refusal is no want of memory
pub not_full : {T P : Type 0} (given : WorldFault) (cause : Refusal) → given ≡ fault.Refused cause → IsErrOf {T = T} (Err given) fault.OutOfMemory → P
not_full given cause is full = absurd cc

-- a stop is refused as a step is
pub stops_as_steps : (name : List ℕ) (world : WorldView) (lines : ℕ) (o : Option Refusal) → refusal_in (call.Steps name) world lines ≡ o → refusal_in (call.Stops name) world lines ≡ o
unfolding refusal_of
stops_as_steps name world lines o is = is

-- a cause that is handed in isn't refused
pub refuses_free : (name : List ℕ) (cause : Refusal) (world : WorldView) (lines : ℕ) → refusal_in (call.Refuses name cause) world lines ≡ None
unfolding refusal_of
refuses_free name cause world lines = refl

-- a world is told by its hosts and its journal
pub world_is : (new : WorldView) (hosts : List HostView) (journal : List Note) → new.hosts ≡ hosts → new.journal ≡ journal → new ≡ record { hosts = hosts; journal = journal }
world_is new hosts journal h j = ap₂ (λ (a : List HostView) (b : List Note). record { hosts = a; journal = b }) h j

pub quiet_refused : (c : Call) (lines : ℕ) (old new : WorldView) (cause : Refusal) → refusal_in c old lines ≡ Some cause → new.hosts ≡ old.hosts
    → new.journal ≡ old.journal ++ Refused (asked_name c) cause ∷ [] → WorldCall c lines (Some cause) old new
quiet_refused c lines old new cause first hosts journal = record {
  after = world_is new old.hosts (old.journal ++ Refused (asked_name c) cause ∷ []) hosts journal ∙ ap (λ (o : Option Refusal). acted_by o c lines old) (sym first);
  said = sym first;
}

pub quiet_done : (c : Call) (lines : ℕ) (old new : WorldView) → refusal_in c old lines ≡ None → new ≡ acted c lines old → WorldCall c lines None old new
quiet_done c lines old new free is = record { after = is ∙ ap (λ (o : Option Refusal). acted_by o c lines old) (sym free); said = sym free }

-- one host changes
pub hosted : (name : List ℕ) (at : ℕ) (f : HostView → HostView) (n : ℕ → Note) (old new : WorldView) → number_in name old ≡ Some at
    → new.hosts ≡ changed_at at f old.hosts → new.journal ≡ old.journal ++ n at ∷ [] → new ≡ with_host (number_in name old) f n old
hosted name at f n old new number hosts journal =
    world_is new (changed_at at f old.hosts) (old.journal ++ n at ∷ []) hosts journal ∙ ap (λ (o : Option ℕ). with_host o f n old) (sym number)
