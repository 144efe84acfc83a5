-- A host is declared: the world is held again.
use Rattle.std.proofs.Common.{◌≡◌, ◌≢◌, ℕ, zero, suc, ◌+◌, Bool, true, false, List, [], ◌∷◌, ◌++◌, length, Option, Some, None, inl, inr, refl, ap, ap₂, sym, ◌∙◌, subst, arith}
use Rattle.std.specs.Prelude.{slice_get, if◌then◌else◌}
use Rattle.std.specs.FinMap as finmap
use Rattle.std.proofs.Math.Path.{fun_ext}
use Rattle.std.proofs.lemmas.Bool.{cases_eq}
use Rattle.std.proofs.lemmas.Option.{slice_get_past}
use Rattle.fam_base.specs.Image.{Image, line_at}
use Rattle.fam_machine.specs.declared.cell.Cell.{Cell}
use Rattle.fam_machine.proofs.CacheLemmas.{cell_at-empty}
use Rattle.fam_protocol.specs.SharedState.{SharedState}
use Rattle.fam_protocol.specs.Invariant.{Invariant}
use Rattle.fam_protocol.proofs.Hosts.Events.{invariant_declared}
use Rattle.fam_journal.specs.View.{HostView, HostStandsAt, WorldView}
use Rattle.fam_journal.specs.Kept.{Agrees, ToldAt, copy_at, hosts_of, kept_at, run_at, shared_of, settled_of, uuid_at}
use Rattle.fam_journal.specs.Machines.{HostState, Machines}
use Rattle.fam_journal.specs.Members.{index_from}
use Rattle.fam_journal.specs.Notes.{Host}
use Rattle.fam_journal.specs.Past.{HostPast, Past, new_host, past_of}
use Rattle.fam_journal.proofs.Calls.Hosts.{held_with}

-- A list with one more member.

pub member_last : {A : Type 0} (xs : List A) (x : A) → slice_get (xs ++ x ∷ []) (length xs) ≡ Some x
member_last [] x = refl
member_last (y ∷ xs) x = member_last xs x

pub member_before : {A : Type 0} (xs : List A) (x : A) (k : ℕ) → k ≢ length xs → slice_get (xs ++ x ∷ []) k ≡ slice_get xs k
member_before [] x zero ne = absurd (ne refl)
member_before [] x (suc k) ne = refl
member_before (y ∷ xs) x zero ne = refl
member_before (y ∷ xs) x (suc k) ne = member_before xs x k (λ e. ne (ap suc e))

-- two lists of which both have a member at each place, or neither has, are equally long
pub same_length : {A B : Type 0} (xs : List A) (ys : List B) (P : Option A → Option B → Type 0) → ((a : A) → P (Some a) None → ⊥)
    → ((b : B) → P None (Some b) → ⊥) → ((k : ℕ) → P (slice_get xs k) (slice_get ys k)) → length xs ≡ length ys
same_length [] [] P more less all = refl
same_length [] (y ∷ ys) P more less all = absurd (less y (all 0))
same_length (x ∷ xs) [] P more less all = absurd (more x (all 0))
same_length (x ∷ xs) (y ∷ ys) P more less all = ap suc (same_length xs ys P more less (λ k. all (suc k)))

-- no member passes
pub none_passes : {A : Type 0} (test : A → Bool) (xs : List A) (i : ℕ) → index_from i test xs ≡ None → (k : ℕ) (x : A) → slice_get xs k ≡ Some x → test x ≡ false
none_passes test [] i none k x is = absurd cc
none_passes test (y ∷ xs) i none zero x is = ap test (sym (Rattle.std.proofs.lemmas.Option.same_Some y x is)) ∙ by_test (test y) none
  where
    by_test : (b : Bool) → (if b then Some i else index_from (i + 1) test xs) ≡ None → b ≡ false
    by_test true e = absurd cc
    by_test false e = refl
none_passes test (y ∷ xs) i none (suc k) x is = none_passes test xs (i + 1) (by_rest (test y) none) k x is
  where
    by_rest : (b : Bool) → (if b then Some i else index_from (i + 1) test xs) ≡ None → index_from (i + 1) test xs ≡ None
    by_rest true none = absurd cc
    by_rest false none = none

module _ (start : Image) (state : Machines) (world : WorldView) (held : Agrees start state world state.memory) (name uuid : List ℕ)
    (other : (k : ℕ) (view : HostView) → slice_get world.hosts k ≡ Some view → view.uuid ≢ uuid) where
  abbrev n : ℕ
  n = length world.hosts

  abbrev x : Past
  x = past_of start world.journal

  abbrev new_view : HostView
  new_view = record { name = name; uuid = uuid; cache = finmap.empty; task = None; kept = None }

  abbrev new_state : HostState
  new_state = record { name = name; uuid = uuid; cache = finmap.empty; task = None; kept = None }

  abbrev views : List HostView
  views = world.hosts ++ new_view ∷ []

  states_count : length state.hosts ≡ n
  states_count = same_length state.hosts world.hosts (λ a b. HostStandsAt (length start) a b) (λ a no. no) (λ b no. no) held.stands

  told_count : length x.hosts ≡ n
  told_count = sym (same_length world.hosts x.hosts (λ a b. ToldAt a b) (λ a no. no) (λ b no. no) held.told)

  view_past : slice_get world.hosts n ≡ None
  view_past = slice_get_past world.hosts n (omega arith)

  state_last : slice_get (state.hosts ++ new_state ∷ []) n ≡ Some new_state
  state_last = subst (λ (k : ℕ). slice_get (state.hosts ++ new_state ∷ []) k ≡ Some new_state) states_count (member_last state.hosts new_state)

  state_before : (k : ℕ) → k ≢ n → slice_get (state.hosts ++ new_state ∷ []) k ≡ slice_get state.hosts k
  state_before k ne = member_before state.hosts new_state k (λ e. ne (e ∙ states_count))

  told_last : slice_get (x.hosts ++ new_host name uuid ∷ []) n ≡ Some (new_host name uuid)
  told_last = subst (λ (k : ℕ). slice_get (x.hosts ++ new_host name uuid ∷ []) k ≡ Some (new_host name uuid)) told_count (member_last x.hosts (new_host name uuid))

  told_before : (k : ℕ) → k ≢ n → slice_get (x.hosts ++ new_host name uuid ∷ []) k ≡ slice_get x.hosts k
  told_before k ne = member_before x.hosts (new_host name uuid) k (λ e. ne (e ∙ told_count))

  shared_same : shared_of state.memory views ≡ shared_of state.memory world.hosts
  shared_same = ap (λ (copy : ℕ → ℕ → Cell). record { memory = line_at state.memory; copy = copy }) (fun_ext (λ k. fun_ext (λ l. copies k l)))
    where
      copies : (k l : ℕ) → copy_at (slice_get views k) l ≡ copy_at (slice_get world.hosts k) l
      copies k l =
          elim (cases_eq k n) [
            | inl e ↦
                subst (λ (i : ℕ). copy_at (slice_get views i) l ≡ copy_at (slice_get world.hosts i) l) (sym e)
                (ap (λ (o : Option HostView). copy_at o l) (member_last world.hosts new_view) ∙ cell_at-empty l ∙ ap (λ (o : Option HostView). copy_at o l) (sym view_past))
            | inr ne ↦ ap (λ (o : Option HostView). copy_at o l) (member_before world.hosts new_view k ne)
          ]

  apart : (k : ℕ) (o : Option HostView) → slice_get world.hosts k ≡ o → uuid_at o ≢ Some uuid
  apart k None is e = absurd cc
  apart k (Some view) is e = other k view is (Rattle.std.proofs.lemmas.Option.same_Some view.uuid uuid e)

  runs : (k : ℕ) → run_at (slice_get views k) (slice_get (x.hosts ++ new_host name uuid ∷ []) k) ≡ run_at (slice_get world.hosts k) (slice_get x.hosts k)
  runs k =
      elim (cases_eq k n) [
        | inl e ↦
            subst (λ (i : ℕ). run_at (slice_get views i) (slice_get (x.hosts ++ new_host name uuid ∷ []) i) ≡ run_at (slice_get world.hosts i) (slice_get x.hosts i)) (sym e)
            (ap₂ run_at (member_last world.hosts new_view) told_last ∙ ap (λ (o : Option HostView). run_at o (slice_get x.hosts n)) (sym view_past))
        | inr ne ↦ ap₂ run_at (member_before world.hosts new_view k ne) (told_before k ne)
      ]

  keeps : (k : ℕ) → kept_at (slice_get views k) ≡ kept_at (slice_get world.hosts k)
  keeps k =
      elim (cases_eq k n) [
        | inl e ↦
            subst (λ (i : ℕ). kept_at (slice_get views i) ≡ kept_at (slice_get world.hosts i)) (sym e)
            (ap kept_at (member_last world.hosts new_view) ∙ ap kept_at (sym view_past))
        | inr ne ↦ ap kept_at (member_before world.hosts new_view k ne)
      ]

  pub declared_held : Agrees start (record { memory = state.memory; hosts = state.hosts ++ new_state ∷ [] }) (record { hosts = views; journal = world.journal ++ Host name uuid ∷ [] }) state.memory
  declared_held =
      held_with start state world state.memory held (record { memory = state.memory; hosts = state.hosts ++ new_state ∷ [] }) views
      (Host name uuid ∷ []) (line_at state.memory) held.lines held.normal (tt, tt) stands told held.halted
      (subst (λ (s : SharedState). Invariant (settled_of x.state (line_at state.memory)) (length start) (hosts_of views (x.hosts ++ new_host name uuid ∷ [])) s) (sym shared_same)
      (invariant_declared (settled_of x.state (line_at state.memory)) (length start) n uuid (hosts_of world.hosts x.hosts)
      (hosts_of views (x.hosts ++ new_host name uuid ∷ [])) (shared_of state.memory world.hosts) held.invariant
      record {
        fresh = ap uuid_at view_past;
        solo = λ k. apart k (slice_get world.hosts k) refl;
        is = ap uuid_at (member_last world.hosts new_view);
        uuids = λ k ne. ap uuid_at (member_before world.hosts new_view k ne);
        runs = runs;
        kept = keeps;
      }))
    where
      stands : (k : ℕ) → HostStandsAt (length start) (slice_get (state.hosts ++ new_state ∷ []) k) (slice_get views k)
      stands k =
          elim (cases_eq k n) [
            | inl e ↦
                subst (λ (i : ℕ). HostStandsAt (length start) (slice_get (state.hosts ++ new_state ∷ []) i) (slice_get views i)) (sym e)
                (subst (λ (o : Option HostState). HostStandsAt (length start) o (slice_get views n)) (sym state_last)
                (subst (λ (o : Option HostView). HostStandsAt (length start) (Some new_state) o) (sym (member_last world.hosts new_view))
                record { name = refl; uuid = refl; cache = refl; task = tt; kept = refl; joined = tt }))
            | inr ne ↦
                subst (λ (o : Option HostState). HostStandsAt (length start) o (slice_get views k)) (sym (state_before k ne))
                (subst (λ (o : Option HostView). HostStandsAt (length start) (slice_get state.hosts k) o) (sym (member_before world.hosts new_view k ne)) (held.stands k))
          ]

      told : (k : ℕ) → ToldAt (slice_get views k) (slice_get (x.hosts ++ new_host name uuid ∷ []) k)
      told k =
          elim (cases_eq k n) [
            | inl e ↦
                subst (λ (i : ℕ). ToldAt (slice_get views i) (slice_get (x.hosts ++ new_host name uuid ∷ []) i)) (sym e)
                (subst (λ (o : Option HostView). ToldAt o (slice_get (x.hosts ++ new_host name uuid ∷ []) n)) (sym (member_last world.hosts new_view))
                (subst (λ (o : Option HostPast). ToldAt (Some new_view) o) (sym told_last)
                record { name = refl; uuid = refl; task = tt }))
            | inr ne ↦
                subst (λ (o : Option HostView). ToldAt o (slice_get (x.hosts ++ new_host name uuid ∷ []) k)) (sym (member_before world.hosts new_view k ne))
                (subst (λ (o : Option HostPast). ToldAt (slice_get world.hosts k) o) (sym (told_before k ne)) (held.told k))
          ]
