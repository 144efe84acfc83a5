-- What the image reads as behind a mkfs that a media fault cut.
use Rattle.std.proofs.Common.{◌≡◌, ℕ, inl, inr, List, [], ◌∷◌, ◌++◌, length, Option, Some, None, refl, ap, sym, ◌∙◌, subst, arith}
use Rattle.std.specs.Prelude.{slice_get}
use Rattle.std.proofs.lemmas.Option.{same_Some}
use Rattle.fam_base.specs.declared.entry.Params.{Params}
use Rattle.fam_base.specs.declared.line.LineNo.{LineNo}
use Rattle.fam_base.specs.Image.{Image, line_at}
use Rattle.fam_format.specs.Reading.{reading}
use Rattle.fam_machine.specs.declared.request.MkfsRequest.{MkfsRequest}
use Rattle.fam_machine.specs.Cuts.{Cuts}
use Rattle.fam_machine.specs.EightWords.{HasEightWords}
use Rattle.fam_machine.specs.Mkfs.{IsHeadSent, IsOldNoneOrNew, asked, expected_ops}
use Rattle.fam_machine.specs.OneLine.{IsDirty}
use Rattle.fam_machine.specs.Operations.{Machine}
use Rattle.fam_machine.proofs.CutMkfs.{cut_is}
use Rattle.fam_journal.specs.declared.event.Event.{Event}
use Rattle.fam_journal.specs.declared.refusal.Refusal.{Refusal}
use Rattle.fam_journal.specs.declared.event.Event.TheVariants as event
use Rattle.fam_journal.specs.Calls as call
use Rattle.fam_journal.specs.Calls.{AtNumber, CutCall, Call, MakesCut, OnHost, makes_refusal, number_of, on_host, refusal_of, IsSoundRequest, asked_name}
use Rattle.fam_journal.specs.CallRecords.{IsSoundCall}
use Rattle.fam_journal.specs.Ends.{CutCallReads, CutEventReads, CutReads, ReadsAs, StillReads}
use Rattle.fam_journal.specs.Events.{BreaksEvent, Session}
use Rattle.fam_journal.specs.Kept.{Reached, copy_at, hosts_of, settled_of, shared_of}
use Rattle.fam_journal.specs.Laws.{IsValidEvent}
use Rattle.fam_journal.specs.Machines.{HostState, Machines, machine_of}
use Rattle.fam_journal.specs.Notes.{Note, Refused}
use Rattle.fam_journal.specs.Past.{Bad, Given, Halted, Past, Sound, State, first_past, past_of}
use Rattle.fam_journal.specs.View.{HostView}
use Rattle.fam_journal.proofs.Calls.Keeping.{enough_to_make, makes_sound, same_cache}
use Rattle.fam_journal.proofs.Calls.HaltRows.{head_sent}
use Rattle.fam_journal.proofs.Calls.MkfsRows.{whole}
use Rattle.fam_journal.proofs.Calls.Rows.{Declared, declared}
use Rattle.fam_journal.proofs.Runs.Left.{held_reads}
use Rattle.fam_journal.proofs.Settled.Journals.{past_both}

-- an image that reads as one before it, which read as a state
still_reads : (s : State) (old new : Image) → ReadsAs s old → reading new ≡ reading old → StillReads s new
still_reads (Bad (Given image) damage gate) old new is same = same ∙ ap reading is
still_reads (Bad Halted damage gate) old new is same = same ∙ is
still_reads (Sound p history pending) old new (inl is) same = inl (same ∙ is)
still_reads (Sound p history pending) old new (inr is) same = inr (same ∙ is)

cut_reads : (p : Params) (s : State) (old new : Image) → ReadsAs s old → IsOldNoneOrNew p old new → CutReads p s new
cut_reads p s old new is (inl same) = inl (still_reads s old new is same)
cut_reads p s old new is (inr other) = inr other

module _ (start : Image) (state : Machines) (journal : List Note) (kept : Reached start state journal) where
  abbrev s : State
  s = (past_of start journal).state

  module _ (h : ℕ) (d : Declared start state (record { hosts = kept.views; journal = journal }) h) where
    head : IsHeadSent d.host.cache
    head =
        subst IsHeadSent (sym d.stands.cache)
        (λ l below dirty. head_sent (settled_of s (line_at state.memory)) (length start) (hosts_of kept.views (past_of start journal).hosts)
        (shared_of state.memory kept.views) kept.held.invariant.stage h l (omega (arith, below))
        (subst IsDirty (sym (ap (λ (o : Option HostView). copy_at o l) d.view_is)) dirty))

    eight_words : HasEightWords (machine_of state d.host)
    eight_words = subst HasEightWords (sym (same_cache start state journal kept h d)) (whole start state (record { hosts = kept.views; journal = journal }) kept.held h d)

    -- of the maker's machine
    maker_cut : (request : MkfsRequest) → IsSoundRequest request → makes_refusal request.unit request.log h state ≡ None → (line : LineNo) (left : Machine)
        → Cuts (expected_ops request.force request.halt (asked request d.host.uuid (length state.memory)) (machine_of state d.host)) (machine_of state d.host) line left
        → CutReads (asked request d.host.uuid (length state.memory)) s left.image
    maker_cut request good free line left cuts =
        cut_reads (asked request d.host.uuid (length state.memory)) s state.memory left.image
        (held_reads start state (record { hosts = kept.views; journal = journal }) state.memory kept.held)
        (cut_is (asked request d.host.uuid (length state.memory)) (machine_of state d.host) line left (makes_sound start state journal kept h d request good free)
        (enough_to_make start state journal kept h d request.unit request.log free) (omega arith) kept.held.normal eight_words head request.force request.halt cuts)

  -- of a mkfs
  make_cut : (name : List ℕ) (request : MkfsRequest) → IsSoundRequest request → refusal_of (call.Makes name request) state ≡ None → (notes : List Note) (new : Machines)
      → AtNumber (number_of name state) state (λ h host. MakesCut h (asked request host.uuid (length state.memory)) request.force request.halt name host state notes new)
      → CutCallReads (call.Makes name request) state s new.memory
  unfolding refusal_of
  make_cut name request good free notes new x = by_number (number_of name state) refl x
    where
      by_host : (h : ℕ) → number_of name state ≡ Some h → (o : Option HostState) → slice_get state.hosts h ≡ o
          → OnHost o (λ host. MakesCut h (asked request host.uuid (length state.memory)) request.force request.halt name host state notes new)
          → OnHost o (λ host. CutReads (asked request host.uuid (length state.memory)) s new.memory)
      by_host h number None is x = absurd x
      by_host h number (Some host) is x =
          let may : makes_refusal request.unit request.log h state ≡ None = sym (ap (λ (o : Option ℕ). on_host o (λ h. makes_refusal request.unit request.log h state)) number) ∙ free in
          let d = declared start state (record { hosts = kept.views; journal = journal }) state.memory kept.held h host is in
          let own : host ≡ d.host = same_Some host d.host (sym is ∙ d.host_is) in
          let y : MakesCut h (asked request d.host.uuid (length state.memory)) request.force request.halt name d.host state notes new =
          subst (λ (z : HostState). MakesCut h (asked request z.uuid (length state.memory)) request.force request.halt name z state notes new) own x in
          subst (λ (z : HostState). CutReads (asked request z.uuid (length state.memory)) s new.memory) (sym own)
          (subst (λ (m : Machines). CutReads (asked request d.host.uuid (length state.memory)) s m.memory) (sym y.left_is)
          (maker_cut h d request good may y.line y.left y.cuts))

      by_number : (o : Option ℕ) → number_of name state ≡ o
          → AtNumber o state (λ h host. MakesCut h (asked request host.uuid (length state.memory)) request.force request.halt name host state notes new)
          → AtNumber o state (λ h host. CutReads (asked request host.uuid (length state.memory)) s new.memory)
      by_number None is x = absurd x
      by_number (Some h) is x = by_host h is (slice_get state.hosts h) refl x

  no_cut_at : (o : Option HostState) → OnHost o (λ host. ⊥) → ⊥
  no_cut_at None x = x
  no_cut_at (Some host) x = x

  -- no other call is cut
  no_cut : (o : Option ℕ) → AtNumber o state (λ h host. ⊥) → ⊥
  no_cut None x = x
  no_cut (Some h) x = no_cut_at (slice_get state.hosts h) x

  pub call_cut : (c : Call) → IsSoundCall c → (notes : List Note) (new : Machines) → CutCall c state notes new → CutCallReads c state s new.memory
  call_cut (call.Makes name request) sound notes new x = make_cut name request sound x.0 notes new x.1
  call_cut c sound notes new x = no_cut (number_of (asked_name c) state) x.1

-- of an event
pub event_cut : (start : Image) (e : Event) → IsValidEvent e → (old new : Session) (journal notes : List Note) → Reached start old.machines journal
    → BreaksEvent e old notes new → CutEventReads e old (past_of start journal).state new.machines.memory
event_cut start (event.Mkfs name request) sound old new journal notes kept x =
    call_cut start old.machines journal kept (call.Makes name request) sound notes new.machines x.0
event_cut start e sound old new journal notes kept x = absurd x

-- a refusal settles nothing
pub refused_state : (start : Image) (journal notes : List Note) (name : List ℕ) (cause : Refusal) → notes ≡ Refused name cause ∷ []
    → (past_of start (journal ++ notes)).state ≡ (past_of start journal).state
refused_state start journal notes name cause is =
    ap (λ (z : List Note). (past_of start (journal ++ z)).state) is
    ∙ ap (λ (x : Past). x.state) (past_both (first_past start) journal (Refused name cause ∷ []))
