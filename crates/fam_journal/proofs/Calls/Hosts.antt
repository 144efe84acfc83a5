-- The world when one host changes, and what the journal has of it: the parts of what is held.
use Rattle.std.proofs.Common.{◌≡◌, ◌≢◌, ℕ, List, ◌++◌, length, map, Option, Some, inl, inr, refl, ap, ap₂, sym, ◌∙◌, subst}
use Rattle.std.specs.Prelude.{slice_get}
use Rattle.std.proofs.lemmas.Bool.{cases_eq}
use Rattle.fam_base.specs.Image.{Image, eight, line_at}
use Rattle.fam_format.specs.Reading.{Lines}
use Rattle.fam_protocol.specs.Invariant.{Invariant}
use Rattle.fam_journal.specs.View.{HostStands, HostView, HostStandsAt, WorldView}
use Rattle.fam_journal.specs.Kept.{Agrees, HostTold, IfHalted, ToldAt, hosts_of, kept_at, run_at, shared_of, settled_of, uuid_at}
use Rattle.fam_journal.specs.Legal.{LegalBehind}
use Rattle.fam_journal.specs.Machines.{HostState, Machines}
use Rattle.fam_journal.specs.Members.{changed_at}
use Rattle.fam_journal.specs.Notes.{Note}
use Rattle.fam_journal.specs.Past.{HostPast, Past, first_past, past_behind, past_of}
use Rattle.fam_journal.proofs.Settled.Journals.{legal_both, past_both}
use Rattle.fam_journal.proofs.Settled.OverMemory.{over_memory, still_cleared}
use Rattle.fam_journal.proofs.Calls.Members.{changed_at_member, changed_other}

-- what is held, from its parts over the past behind some more notes
pub held_with : (start : Image) (state : Machines) (world : WorldView) (image : Image) (held : Agrees start state world image) (next : Machines)
    (views : List HostView) (notes : List Note) (now : Lines)
    → length next.memory ≡ length start → map eight next.memory ≡ next.memory → LegalBehind (past_of start world.journal) notes
    → ((k : ℕ) → HostStandsAt (length start) (slice_get next.hosts k) (slice_get views k))
    → ((k : ℕ) → ToldAt (slice_get views k) (slice_get (past_behind (past_of start world.journal) notes).hosts k))
    → IfHalted (past_behind (past_of start world.journal) notes).state now
    → Invariant (settled_of (past_behind (past_of start world.journal) notes).state now) (length start)
    (hosts_of views (past_behind (past_of start world.journal) notes).hosts) (shared_of next.memory views)
    → Agrees start next (record { hosts = views; journal = world.journal ++ notes }) next.memory
held_with start state world image held next views notes now lines normal legal stands told halted invariant =
    let x : Past = past_behind (past_of start world.journal) notes in
    let same : past_of start (world.journal ++ notes) ≡ past_behind (past_of start world.journal) notes = past_both (first_past start) world.journal notes in
    record {
      memory = refl;
      lines = lines;
      normal = normal;
      first = held.first;
      limit = held.limit;
      stands = stands;
      told = λ k. subst (λ (z : Past). ToldAt (slice_get views k) (slice_get z.hosts k)) (sym same) (told k);
      legal = legal_both (first_past start) world.journal notes held.legal legal;
      halted = subst (λ (z : Past). IfHalted z.state (line_at next.memory)) (sym same)
          (still_cleared now (length start) (hosts_of views x.hosts) (shared_of next.memory views) x.state invariant halted);
      invariant = subst (λ (z : Past). Invariant (settled_of z.state (line_at next.memory)) (length start) (hosts_of views z.hosts) (shared_of next.memory views)) (sym same)
          (over_memory now (length start) (hosts_of views x.hosts) (shared_of next.memory views) x.state invariant);
    }

-- one host changes, in the machine, in the world and in the past
module _ (h : ℕ) (view : HostView) (views : List HostView) (view_is : slice_get views h ≡ Some view) (f : HostView → HostView) where
  pub stands_changed : (lines : ℕ) (states : List HostState) (host : HostState) → slice_get states h ≡ Some host → (g : HostState → HostState) → HostStands lines (g host) (f view)
      → ((k : ℕ) → HostStandsAt lines (slice_get states k) (slice_get views k)) → (k : ℕ) → HostStandsAt lines (slice_get (changed_at h g states) k) (slice_get (changed_at h f views) k)
  stands_changed lines states host host_is g mine others k =
      elim (cases_eq k h) [
        | inl e ↦
            subst (λ (n : ℕ). HostStandsAt lines (slice_get (changed_at h g states) n) (slice_get (changed_at h f views) n)) (sym e)
            (subst (λ (o : Option HostState). HostStandsAt lines o (slice_get (changed_at h f views) h)) (sym (changed_at_member h g states host host_is))
            (subst (λ (o : Option HostView). HostStandsAt lines (Some (g host)) o) (sym (changed_at_member h f views view view_is)) mine))
        | inr ne ↦
            subst (λ (o : Option HostState). HostStandsAt lines o (slice_get (changed_at h f views) k)) (sym (changed_other h k g states ne))
            (subst (λ (o : Option HostView). HostStandsAt lines (slice_get states k) o) (sym (changed_other h k f views ne)) (others k))
      ]

  pub told_changed : (old new : List HostPast) (told : HostPast) → slice_get new h ≡ Some told → ((k : ℕ) → k ≢ h → slice_get new k ≡ slice_get old k) → HostTold (f view) told
      → ((k : ℕ) → ToldAt (slice_get views k) (slice_get old k)) → (k : ℕ) → ToldAt (slice_get (changed_at h f views) k) (slice_get new k)
  told_changed old new told told_is same mine others k =
      elim (cases_eq k h) [
        | inl e ↦
            subst (λ (n : ℕ). ToldAt (slice_get (changed_at h f views) n) (slice_get new n)) (sym e)
            (subst (λ (o : Option HostView). ToldAt o (slice_get new h)) (sym (changed_at_member h f views view view_is))
            (subst (λ (o : Option HostPast). ToldAt (Some (f view)) o) (sym told_is) mine))
        | inr ne ↦
            subst (λ (o : Option HostView). ToldAt o (slice_get new k)) (sym (changed_other h k f views ne))
            (subst (λ (o : Option HostPast). ToldAt (slice_get views k) o) (sym (same k ne)) (others k))
      ]

  pub uuids_same : (f view).uuid ≡ view.uuid → (k : ℕ) → uuid_at (slice_get (changed_at h f views) k) ≡ uuid_at (slice_get views k)
  uuids_same same k =
      elim (cases_eq k h) [
        | inl e ↦
            subst (λ (n : ℕ). uuid_at (slice_get (changed_at h f views) n) ≡ uuid_at (slice_get views n)) (sym e)
            (ap uuid_at (changed_at_member h f views view view_is) ∙ ap Some same ∙ ap uuid_at (sym view_is))
        | inr ne ↦ ap uuid_at (changed_other h k f views ne)
      ]

  -- what hosts keep
  pub kept_here : kept_at (slice_get (changed_at h f views) h) ≡ (f view).kept
  kept_here = ap kept_at (changed_at_member h f views view view_is)

  pub kept_was : kept_at (slice_get views h) ≡ view.kept
  kept_was = ap kept_at view_is

  pub kept_else : (k : ℕ) → k ≢ h → kept_at (slice_get (changed_at h f views) k) ≡ kept_at (slice_get views k)
  kept_else k ne = ap kept_at (changed_other h k f views ne)

  pub kept_same : (f view).kept ≡ view.kept → (k : ℕ) → kept_at (slice_get (changed_at h f views) k) ≡ kept_at (slice_get views k)
  kept_same same k =
      elim (cases_eq k h) [
        | inl e ↦ subst (λ (n : ℕ). kept_at (slice_get (changed_at h f views) n) ≡ kept_at (slice_get views n)) (sym e) (kept_here ∙ same ∙ sym kept_was)
        | inr ne ↦ kept_else k ne
      ]

  pub runs_else : (old new : List HostPast) → ((k : ℕ) → k ≢ h → slice_get new k ≡ slice_get old k) → (k : ℕ) → k ≢ h
      → run_at (slice_get (changed_at h f views) k) (slice_get new k) ≡ run_at (slice_get views k) (slice_get old k)
  runs_else old new same k ne = ap₂ run_at (changed_other h k f views ne) (same k ne)

  pub run_here : (new : List HostPast) (told : HostPast) → slice_get new h ≡ Some told → run_at (slice_get (changed_at h f views) h) (slice_get new h) ≡ run_at (Some (f view)) (Some told)
  run_here new told told_is = ap₂ run_at (changed_at_member h f views view view_is) told_is
