-- A call that does something at a declared host does its row, and a held world is held again.
use Rattle.std.proofs.Common.{◌≡◌, ℕ, List, [], ◌∷◌, ◌++◌, length, Option, Some, None, refl, ap, sym, ◌∙◌, subst}
use Rattle.std.specs.Prelude.{slice_get}
use Rattle.fam_base.specs.Image.{Image}
use Rattle.fam_media.specs.Outside.{IfModelled}
use Rattle.fam_journal.specs.declared.refusal.Refusal.{Refusal}
use Rattle.fam_journal.specs.Calls.{Acts, ActsAt, ActsOf, AtNumber, ByRefusal, Call, Does, OnHost, asked_name, number_of, refusal_of}
use Rattle.fam_journal.specs.CallRecords.{CallKeeps, DoesRow, IsSoundCall}
use Rattle.fam_journal.specs.Kept.{Held}
use Rattle.fam_journal.specs.Machines.{HostState, Machines}
use Rattle.fam_journal.specs.Notes.{Note, Refused}
use Rattle.fam_journal.specs.View.{HostStands, HostStandsAt, HostView, WorldStands, WorldView}
use Rattle.fam_journal.specs.ByWorld.{number_in, refusal_in}
use Rattle.fam_journal.proofs.Calls.Shown.{number_shown, refusal_shown}
use Rattle.fam_journal.proofs.Calls.Stepped.{find_host}
use Rattle.fam_journal.proofs.JournalLaws.{kept_on}

module _ (start : Image) (state : Machines) (old : WorldView) (held : Held start state old state.memory) (c : Call) (lines : ℕ) (lines_are : length state.memory ≡ lines) where
  -- the first refusal is the world's
  pub first_refusal : refusal_of c state ≡ refusal_in c old lines
  first_refusal = refusal_shown (length start) state old c held.stands ∙ ap (refusal_in c old) lines_are

  module _ (at : ℕ) (view : HostView) (number : number_in (asked_name c) old ≡ Some at) (free : refusal_in c old lines ≡ None) (view_is : slice_get old.hosts at ≡ Some view) where
    -- the host of the state that it stands for
    pub found : (host : HostState) × (slice_get state.hosts at ≡ Some host) × HostStands (length start) host view
    found = find_host (length start) view (slice_get state.hosts at) (subst (λ (o : Option HostView). HostStandsAt (length start) (slice_get state.hosts at) o) view_is (held.stands at))

    number_is : number_of (asked_name c) state ≡ Some at
    number_is = number_shown (length start) state old (asked_name c) held.stands ∙ number

    pub row_does : (notes : List Note) (left : Machines) → (ActsOf c state notes left → Acts c state notes left) → ActsAt c at found.0 state notes left → Does c state notes left
    row_does notes left hosted acts =
        subst (λ (o : Option Refusal). ByRefusal (asked_name c) o notes state left (Acts c state notes left)) (sym (first_refusal ∙ free))
        (hosted
        (subst (λ (o : Option ℕ). AtNumber o state (λ h host. ActsAt c h host state notes left)) (sym number_is)
        (subst (λ (o : Option HostState). OnHost o (λ host. ActsAt c at host state notes left)) (sym found.1) acts)))

    pub row_kept : (new : WorldView) (told : Option Image) (notes : List Note) (left : Machines)
        → (ActsOf c state notes left → Acts c state notes left) → ActsAt c at found.0 state notes left → IsSoundCall c
        → told ≡ Some left.memory → new.journal ≡ old.journal ++ notes → WorldStands (length start) left new → DoesRow start told (Does c state) old new
    row_kept new told notes left hosted acts sound told_is joined stands =
        let row = row_does notes left hosted acts in
        record { state = left; notes = notes; row = row; told_is = told_is; joined = joined; held = kept_on start state left old new c notes held sound row stands joined }

-- a refusal at once
pub refused_keeps : (c : Call) (lines : ℕ) (start : Image) (told : Option Image) (old new : WorldView) (cause : Refusal) → IsSoundCall c
    → IfModelled told (λ image. length image ≡ lines) → refusal_in c old lines ≡ Some cause
    → new.hosts ≡ old.hosts → new.journal ≡ old.journal ++ Refused (asked_name c) cause ∷ [] → CallKeeps c start told told old new
refused_keeps c lines start told old new cause sound lines_are first hosts journal state told_is held =
    let notes : List Note = Refused (asked_name c) cause ∷ [] in
    let row : Does c state notes state =
    subst (λ (o : Option Refusal). ByRefusal (asked_name c) o notes state state (Acts c state notes state))
    (sym (first_refusal start state old held c lines (lines_are state.memory told_is) ∙ first)) (refl, refl) in
    let stands : WorldStands (length start) state new = λ h. subst (λ (vs : List HostView). HostStandsAt (length start) (slice_get state.hosts h) (slice_get vs h)) (sym hosts) (held.stands h) in
    record { state = state; notes = notes; row = row; told_is = told_is; joined = journal; held = kept_on start state state old new c notes held sound row stands journal }
