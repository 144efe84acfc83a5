-- A row of a call, by cases; and places that stay where one host changes.
use Prim.Native.Nat.{zero, suc}
use Rattle.std.proofs.Common.{◌≡◌, ℕ, ◌+◌, Bool, List, [], ◌∷◌, Option, Some, None, refl, ap}
use Rattle.std.specs.Prelude.{if◌then◌else◌, slice_get}
use Rattle.fam_journal.specs.declared.refusal.Refusal.{Refusal}
use Rattle.fam_journal.specs.Calls.{Acts, ActsAt, ActsOf, AtNumber, ByRefusal, Call, Does, OnHost, asked_name, number_of, refusal_of}
use Rattle.fam_journal.specs.Machines.{HostState, Machines}
use Rattle.fam_journal.specs.Members.{changed_at, index_from}
use Rattle.fam_journal.specs.Notes.{Note, Refused}

-- a place by a test of what stays
pub place_same : (test : HostState → Bool) (g : HostState → HostState) → ((z : HostState) → test (g z) ≡ test z) → (h i : ℕ) (hosts : List HostState)
    → index_from i test (changed_at h g hosts) ≡ index_from i test hosts
place_same test g same h i [] = refl
place_same test g same zero i (x ∷ hosts) = ap (λ (t : Bool). if t then Some i else index_from (i + 1) test hosts) (same x)
place_same test g same (suc h) i (x ∷ hosts) = ap (λ (o : Option ℕ). if test x then Some i else o) (place_same test g same h (i + 1) hosts)

-- What a row is, by cases.

pub by_host : {P : Type 0} (c : Call) (old new : Machines) (notes : List Note) → ActsOf c old notes new
    → ((h : ℕ) (host : HostState) → number_of (asked_name c) old ≡ Some h → slice_get old.hosts h ≡ Some host → ActsAt c h host old notes new → P) → P
by_host {P} c old new notes acts each = by_number (number_of (asked_name c) old) refl acts
  where
    at_phase : (h : ℕ) → number_of (asked_name c) old ≡ Some h → (o : Option HostState) → slice_get old.hosts h ≡ o → OnHost o (λ host. ActsAt c h host old notes new) → P
    at_phase h number None is x = absurd x
    at_phase h number (Some host) is x = each h host number is x

    by_number : (o : Option ℕ) → number_of (asked_name c) old ≡ o → AtNumber o old (λ h host. ActsAt c h host old notes new) → P
    by_number None is x = absurd x
    by_number (Some h) is x = at_phase h is (slice_get old.hosts h) refl x

pub by_refusal : {P : Type 0} (c : Call) (old new : Machines) (notes : List Note) → Does c old notes new
    → ((cause : Refusal) → notes ≡ Refused (asked_name c) cause ∷ [] → new ≡ old → P) → (refusal_of c old ≡ None → Acts c old notes new → P) → P
by_refusal {P} c old new notes does refused acts = go (refusal_of c old) refl does
  where
    go : (o : Option Refusal) → refusal_of c old ≡ o → ByRefusal (asked_name c) o notes old new (Acts c old notes new) → P
    go (Some cause) is x = refused cause x.0 x.1
    go None is x = acts is x
