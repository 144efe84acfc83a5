-- Whatever a call does on the machine, its notes stand at their places.
use Rattle.std.proofs.Common.{◌≡◌, inl, inr, ℕ, List, [], ◌∷◌, Option, Some, None, sym, subst}
use Rattle.std.specs.Prelude.{⊤, slice_get}
use Rattle.fam_base.specs.declared.cmd.Cmd.{Cmd}
use Rattle.fam_base.specs.declared.entry.Params.{Params}
use Rattle.fam_journal.specs.declared.refusal.Refusal.{Refusal}
use Rattle.fam_journal.specs.Calls as call
use Rattle.fam_journal.specs.Calls.{Acts, ActsAt, AtNumber, ByRefusal, Call, CutCall, CutsAt, Does, MakesOrHalts, OnHost, asked_name, number_of, refusal_of}
use Rattle.fam_journal.specs.Machines.{HostState, Machines}
use Rattle.fam_journal.specs.Notes.{Note, Host, Made, Cut, Start, Stop, Halt, Umount, Refused}
use Rattle.fam_journal.specs.Shapes.{AreShaped, HostShape}
use Rattle.fam_judge.specs.Formed.{HasPlace, HavePlaces}
use Rattle.fam_judge.proofs.Operating.{AreFit, StartsAs, operates_fit, operation_fit}

-- of a call that begins a command this holds
abbrev pub CallStarts : (Cmd → Type 0) → Call → Type 0
CallStarts S (call.Declares name uuid) = ⊤
CallStarts S (call.Makes name request) = ⊤
CallStarts S (call.Begins name cmd) = S cmd
CallStarts S (call.Steps name) = ⊤
CallStarts S (call.Finishes name) = ⊤
CallStarts S (call.Stops name) = ⊤
CallStarts S (call.Halts name) = ⊤
CallStarts S (call.Umounts name) = ⊤
CallStarts S (call.Moves name line move) = ⊤
CallStarts S (call.Refuses name cause) = ⊤

module _ (S : Cmd → Type 0) (lines : ℕ) (m : Machines) (hosts : List HostShape) (shaped : AreShaped lines m hosts) (notes : List Note) (new : Machines) where
  quiet : notes ≡ [] → AreFit S hosts notes
  quiet e = subst (AreFit S hosts) (sym e) (tt, tt)

  -- one note that is no answer
  one : (note : Note) → HasPlace hosts note → StartsAs S note → notes ≡ note ∷ [] → AreFit S hosts notes
  one note here starts e = subst (AreFit S hosts) (sym e) ((here, tt), (starts, tt))

  make_fit : (h : ℕ) (p : Params) (force : _) (host : HostState) (halt : Option ℕ) → MakesOrHalts halt h p force host m notes new → AreFit S hosts notes
  make_fit h p force host None x = one (Made h p) tt tt x.notes_are
  make_fit h p force host (Some k) x = one (Cut h k) tt tt x.notes_are

  act_fit : (c : Call) → CallStarts S c → (h : ℕ) (host : HostState) → ActsAt c h host m notes new → AreFit S hosts notes
  act_fit (call.Declares name uuid) starts h host x = absurd x
  act_fit (call.Makes name request) starts h host (inl x) = make_fit h _ request.force host request.halt x
  act_fit (call.Makes name request) starts h host (inr x) = one _ tt tt x.notes_are
  act_fit (call.Begins name cmd) starts h host x = one (Start h cmd) tt starts x.0
  act_fit (call.Steps name) starts h host x = operation_fit S lines h m hosts shaped notes new x
  act_fit (call.Finishes name) starts h host x = operates_fit S lines h x.count m hosts shaped notes new x.does
  act_fit (call.Stops name) starts h host x = one (Stop h) tt tt x.0
  act_fit (call.Halts name) starts h host x = one (Halt h) tt tt x.0
  act_fit (call.Umounts name) starts h host x = one (Umount h) tt tt x.0
  act_fit (call.Moves name line move) starts h host (inl x) = quiet x.notes_are
  act_fit (call.Moves name line move) starts h host (inr x) = one _ tt tt x.notes_are
  act_fit (call.Refuses name cause) starts h host x = absurd x

  -- of a declared host
  at_host : (P : HostState → Type 0) (o : Option HostState) → ((host : HostState) → P host → AreFit S hosts notes) → OnHost o P → AreFit S hosts notes
  at_host P None each x = absurd x
  at_host P (Some host) each x = each host x

  at_number : (P : ℕ → HostState → Type 0) (o : Option ℕ) → ((h : ℕ) (host : HostState) → P h host → AreFit S hosts notes) → AtNumber o m P → AreFit S hosts notes
  at_number P None each x = absurd x
  at_number P (Some h) each x = at_host (P h) (slice_get m.hosts h) (each h) x

  acts_of : (c : Call) → CallStarts S c → AtNumber (number_of (asked_name c) m) m (λ h host. ActsAt c h host m notes new) → AreFit S hosts notes
  acts_of c starts x = at_number (λ h host. ActsAt c h host m notes new) (number_of (asked_name c) m) (act_fit c starts) x

  acts_fit : (c : Call) → CallStarts S c → Acts c m notes new → AreFit S hosts notes
  acts_fit (call.Declares name uuid) starts x = one (Host name uuid) tt tt x.0
  acts_fit (call.Refuses name cause) starts x = one (Refused name cause) tt tt x.0
  acts_fit e starts x = acts_of e starts x

  by_refusal : (name : List ℕ) (o : Option Refusal) (A : Type 0) → (A → AreFit S hosts notes) → ByRefusal name o notes m new A → AreFit S hosts notes
  by_refusal name None A acts x = acts x
  by_refusal name (Some cause) A acts x = one (Refused name cause) tt tt x.0

  -- a call after which the run goes on
  pub does_fit : (c : Call) → CallStarts S c → Does c m notes new → AreFit S hosts notes
  does_fit c starts x = by_refusal (asked_name c) (refusal_of c m) (Acts c m notes new) (acts_fit c starts) x

  -- a refusal alone
  pub refused_fit : (name : List ℕ) (cause : Refusal) → notes ≡ Refused name cause ∷ [] → AreFit S hosts notes
  refused_fit name cause e = one (Refused name cause) tt tt e

  cuts_fit : (c : Call) (h : ℕ) (host : HostState) → CutsAt c h host m notes new → AreFit S hosts notes
  cuts_fit (call.Makes name request) h host x = one _ tt tt x.notes_are
  cuts_fit e h host x = absurd x

  -- a mkfs that a media fault cut
  pub cut_fit : (c : Call) → CutCall c m notes new → AreFit S hosts notes
  cut_fit c x = at_number (λ h host. CutsAt c h host m notes new) (number_of (asked_name c) m) (cuts_fit c) x.1

-- whatever commands are
any_call : (c : Call) → CallStarts (λ cmd. ⊤) c
any_call (call.Begins name cmd) = tt
any_call other = tt

-- so of any call
pub call_placed : (lines : ℕ) (m : Machines) (hosts : List HostShape) → AreShaped lines m hosts → (notes : List Note) (new : Machines) (c : Call)
    → Does c m notes new → HavePlaces hosts notes
call_placed lines m hosts shaped notes new c x = (does_fit (λ cmd. ⊤) lines m hosts shaped notes new c (any_call c) x).0
