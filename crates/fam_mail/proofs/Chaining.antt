-- One operation more of a host's task, behind some.
use Rattle.std.proofs.Common.{◌≡◌, ℕ, Bool, true, false, List, ◌++◌, refl, sym, ap, subst, ◌∙◌}
use Prim.Native.Nat.{suc}
use Rattle.std.proofs.lemmas.List.{append_assoc}
use Rattle.fam_base.specs.declared.entry.Entry.{Entry}
use Rattle.fam_media.specs.States.{MediaState}
use Rattle.fam_mail.specs.Calls.{HostFinishes, HostNotes, HostStays, HostStepped, IsTold, goes_on}
use Rattle.fam_mail.specs.World.{MailHost}
use Rattle.fam_mail.specs.declared.note.MailNote.{MailNote}

-- some operations with the journal behind them
abbrev Going : ℕ → Entry → List ℕ → MailHost → MediaState → MailHost → MediaState → List MailNote → List MailNote → Type 0
Going lines entry name host first next now before after = HostNotes (HostStays lines entry name host (record { old = first; new = now }) next) before after

module _ (lines : ℕ) (entry : Entry) (name : List ℕ) (host mid next : MailHost) (first now later : MediaState) (before here room after : List MailNote) (is_told : IsTold lines now.image)
    (stays : Going lines entry name host first mid now before here) (same : room ≡ here) where
  -- the journal behind both
  pub joined : (over : Bool) (stepped : HostStepped entry name mid (record { old = now; new = later }) over next room after) → after ≡ before ++ (stays.notes ++ stepped.notes)
  joined over stepped =
      stepped.noted ∙ ap (λ (j : List MailNote). j ++ stepped.notes) (same ∙ stays.noted) ∙ append_assoc before stays.notes stepped.notes

  -- it ends the task
  abbrev pub finishes : HostStepped entry name mid (record { old = now; new = later }) true next room after
      → HostNotes (HostFinishes lines entry name host (record { old = first; new = later }) next) before after
  finishes stepped = record {
    notes = stays.notes ++ stepped.notes;
    does = record { count = stays.does.count; mid = mid; now = now; first = stays.notes; runs = stays.does.runs; last = stepped.notes; is_told = is_told; ends = stepped.does; joined = refl };
    noted = joined true stepped;
  }

  -- or doesn't
  abbrev pub stays_on : HostStepped entry name mid (record { old = now; new = later }) false next room after → Going lines entry name host first next later before after
  stays_on stepped = record {
    notes = stays.notes ++ stepped.notes;
    does = record { count = suc stays.does.count; runs = goes_on stays.does.runs is_told stepped.does };
    noted = joined false stepped;
  }

-- nothing is done any more, for want of memory
pub stays_same : (lines : ℕ) (entry : Entry) (name : List ℕ) (host mid next : MailHost) (first now later : MediaState) (before here after : List MailNote) (P : ℕ → Type 0)
    → (s : Going lines entry name host first mid now before here) × P s.does.count
    → next ≡ mid → later ≡ now → after ≡ here → (s : Going lines entry name host first next later before after) × P s.does.count
stays_same lines entry name host mid next first now later before here after P stays next_is later_is after_is =
    subst (λ (j : List MailNote). (s : Going lines entry name host first next later before j) × P s.does.count) (sym after_is)
    (subst (λ (m : MediaState). (s : Going lines entry name host first next m before here) × P s.does.count) (sym later_is)
    (subst (λ (h : MailHost). (s : Going lines entry name host first h now before here) × P s.does.count) (sym next_is) stays))
