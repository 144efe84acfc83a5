-- Notes behind an entry that was named, where the state that allows no less hasn't named it yet.
use Rattle.std.proofs.Common.{◌≡◌, ◌≢◌, ◌⊎◌, ◌≤◌, inl, inr, ℕ, List, length, Option, Some, refl, ap, sym, ◌∙◌, subst, arith}
use Rattle.std.specs.Prelude.{IsTrue, option_map, slice_get}
use Rattle.std.proofs.lemmas.Bool.{cases_eq}
use Rattle.std.proofs.lemmas.Option.{same_Some}
use Rattle.fam_base.specs.declared.cmd.Cmd.{Cmd}
use Rattle.fam_base.specs.declared.entry.Entry.{Entry}
use Rattle.fam_base.specs.Image.{Image}
use Rattle.fam_journal.specs.Legal.{FoundAllowed, WritesAllowed, master_of}
use Rattle.fam_journal.specs.Members.{changed_at}
use Rattle.fam_journal.specs.Notes.{Note, Mark, Found, Writes}
use Rattle.fam_journal.specs.Past.{State, cmd_of, pends, settled_length}
use Rattle.fam_journal.specs.Shapes.{Begun, CommandStage, Marked, Met, Named, OfRunning, TaskNote, TaskShape, with_stage}
use Rattle.fam_judge.specs.Covering.{Direct, HostOver, Late, Over, StateOver, direct, late, same}
use Rattle.fam_judge.specs.Fitting.{FitsNext}
use Rattle.fam_judge.specs.Possible.{Possible, Progress, after_note, past_in, shapes_in}
use Rattle.fam_judge.specs.Shows.{is_inner}
use Rattle.fam_judge.specs.Standing.{MayStand}
use Rattle.fam_judge.proofs.Members.{changed_apart}
use Rattle.fam_judge.proofs.Over.{over_hidden, over_master, over_settled}
use Rattle.fam_judge.proofs.OverHidden.{hidden_found, hidden_mark, over_found, over_mark, task_of}
use Rattle.fam_judge.proofs.OverHosts.{IsApart, one_place}
use Rattle.fam_judge.proofs.Pairing.{paired}
use Rattle.fam_judge.proofs.OverWrites.{WriteSays, cmd_at, named_file, write_says}
use Rattle.fam_judge.proofs.Places.{Running, changed_is, of_told, running_at, runs_at, told_at}
use Rattle.fam_journal.proofs.Calls.Members.{changed_other}

-- The host that named it.

named_met : (m n : ℕ) → Named m ≡ Met n → ⊥
named_met m n e = cc

named_marked : (m : ℕ) → Named m ≡ Marked → ⊥
named_marked m e = cc

named_begun : (m : ℕ) → Named m ≡ Begun → ⊥
named_begun m e = cc

module _ (start : Image) (x c : Possible) (l : Late start x c) where
  -- what becomes of it
  abbrev pub naming : Progress → Progress
  naming p = record { told = record p.told { wrote = Some (record { seq = l.seq; entry = l.entry }) }; shape = with_stage (Named l.seq) p.shape }

  -- its command before
  pub runs_pre : Running l.pre l.host (λ me t. TaskNote l.host me t (Writes l.host l.seq l.entry))
  runs_pre = running_at l.pre l.host _ l.may

  -- where it stands behind that
  pub there : slice_get c.hosts l.host ≡ Some (naming runs_pre.host)
  there = ap (λ (xs : List Progress). slice_get xs l.host) l.hosts ∙ changed_is l.host naming l.pre.hosts runs_pre.host runs_pre.is

  -- its command behind that
  pub task_there : (naming runs_pre.host).shape.task ≡ Some (record runs_pre.task { stage = Named l.seq })
  task_there = ap (option_map (λ (t : TaskShape). record t { stage = Named l.seq })) runs_pre.runs

  -- what the entry tells of the state before
  pub says : WriteSays l.seq l.entry runs_pre.host.told l.pre.state
  says = write_says l.seq l.entry runs_pre.host.told l.pre.state (told_at start l.pre l.host (λ host. WritesAllowed l.seq l.entry host l.pre.state) runs_pre.host runs_pre.is l.fits)

  -- it has no other stage
  stage_is : (P : CommandStage → Type 0) → OfRunning (slice_get (shapes_in c) l.host) (λ me t. P t.stage) → P (Named l.seq)
  stage_is P may = task_of c l.host (λ me t. P t.stage) (naming runs_pre.host) (record runs_pre.task { stage = Named l.seq }) may there task_there

  -- Another host.

  module _ (j : ℕ) (ne : j ≢ l.host) where
    -- it is as it was
    pub at_other : slice_get c.hosts j ≡ slice_get l.pre.hosts j
    at_other = ap (λ (xs : List Progress). slice_get xs j) l.hosts ∙ changed_other l.host j naming l.pre.hosts ne

    -- what may stand behind the second state may stand before the entry was named
    pub other_runs : (P : List ℕ → TaskShape → Type 0) → OfRunning (slice_get (shapes_in c) j) P → OfRunning (slice_get (shapes_in l.pre) j) P
    other_runs P may =
        let r = running_at c j P may in runs_at l.pre j P r.host r.task (sym at_other ∙ r.is) r.runs r.holds

    -- it changes there too
    abbrev moved_pre : (Progress → Progress) → Possible
    moved_pre f = record { state = l.pre.state; hosts = changed_at j f l.pre.hosts }

    kept : (f : Progress → Progress) → slice_get (moved_pre f).hosts l.host ≡ Some runs_pre.host
    kept f = changed_other j l.host f l.pre.hosts (λ e. ne (sym e)) ∙ runs_pre.is

    -- the same entry pends behind it
    pends_same : (f : Progress → Progress) → (after_note start l.pre (Writes l.host l.seq l.entry)).state ≡ (after_note start (moved_pre f) (Writes l.host l.seq l.entry)).state
    pends_same f =
        ap (λ (cmd : Option Cmd). pends (named_file cmd l.entry) l.pre.state) (cmd_at start l.pre l.host runs_pre.host runs_pre.is ∙ sym (cmd_at start (moved_pre f) l.host runs_pre.host (kept f)))

    -- it changes in both, and the entry is named behind that
    pub late_moved : (y d : Possible) (f : Progress → Progress) → Direct y (moved_pre f) → d.hosts ≡ changed_at j f c.hosts
        → StateOver (after_note start l.pre (Writes l.host l.seq l.entry)).state d.state → Late start y d
    late_moved y d f first hosts over = record {
      host = l.host;
      pre = moved_pre f;
      direct = first;
      seq = l.seq;
      entry = l.entry;
      may = runs_at (moved_pre f) l.host (λ me t. TaskNote l.host me t (Writes l.host l.seq l.entry)) runs_pre.host runs_pre.task (kept f) runs_pre.runs runs_pre.holds;
      fits = of_told start (moved_pre f) l.host (λ host. WritesAllowed l.seq l.entry host l.pre.state) runs_pre.host (kept f)
          (told_at start l.pre l.host (λ host. WritesAllowed l.seq l.entry host l.pre.state) runs_pre.host runs_pre.is l.fits);
      hosts = hosts ∙ ap (changed_at j f) l.hosts ∙ changed_apart j l.host f naming l.pre.hosts ne;
      state = subst (λ (s : State). StateOver s d.state) (pends_same f) over;
    }

    -- a host's UUID, by what is known of it
    pub own_at : (i : ℕ) (q : Progress) → slice_get l.pre.hosts i ≡ Some q → q.told.uuid ≡ q.shape.uuid
    own_at i q is = let p = paired (HostOver x.state) x.hosts l.pre.hosts i q l.direct.hosts is in sym p.2.told_uuid ∙ p.2.own ∙ p.2.uuid

    -- it isn't the master, so it names no entry
    pub no_other : IsApart c → (seq : ℕ) (e : Entry) → OfRunning (slice_get (shapes_in c) j) (λ me t. TaskNote j me t (Writes j seq e))
        → FitsNext (past_in start c) (Writes j seq e) → ⊥
    no_other apart seq e may fits =
        let q = running_at c j (λ me t. TaskNote j me t (Writes j seq e)) may in
        let other = write_says seq e q.host.told c.state (told_at start c j (λ host. WritesAllowed seq e host c.state) q.host q.is fits) in
        let first : master_of (after_note start l.pre (Writes l.host l.seq l.entry)).state ≡ Some says.params.master = ap
        (λ (s : State). master_of (pends (named_file (cmd_of (slice_get (past_in start l.pre).hosts l.host)) l.entry) s)) says.is in
        let second : master_of c.state ≡ Some other.params.master = ap master_of other.is in
        let same_master : says.params.master ≡ other.params.master = same_Some says.params.master other.params.master (sym first ∙ over_master _ c.state l.state ∙ second) in
        ne (one_place c apart j l.host q.host (naming runs_pre.host) q.is there
        (sym (own_at j q.host (sym at_other ∙ q.is)) ∙ other.master ∙ sym same_master ∙ sym says.master ∙ own_at l.host runs_pre.host runs_pre.is))

-- Notes that are left out.

module _ (start : Image) (x c : Possible) where
  late_mark : (l : Late start x c) (j : ℕ) → OfRunning (slice_get (shapes_in c) j) (λ me t. TaskNote j me t (Mark j)) → (j ≡ l.host) ⊎ (j ≢ l.host)
      → Late start x (after_note start c (Mark j))
  late_mark l j may (inl e) =
      absurd (named_begun l.seq (stage_is start x c l (λ s. s ≡ Begun) (subst (λ (k : ℕ). OfRunning (slice_get (shapes_in c) k) (λ me t. t.stage ≡ Begun)) e (begins c j may))))
    where
      begins : (c : Possible) (j : ℕ) → OfRunning (slice_get (shapes_in c) j) (λ me t. TaskNote j me t (Mark j))
          → OfRunning (slice_get (shapes_in c) j) (λ me t. t.stage ≡ Begun)
      begins c j may = let r = running_at c j (λ me t. TaskNote j me t (Mark j)) may in runs_at c j (λ me t. t.stage ≡ Begun) r.host r.task r.is r.runs r.holds.1
  late_mark l j may (inr ne) =
      late_moved start x c l j ne x (after_note start c (Mark j)) _
      (record { state = l.direct.state; hosts = hidden_mark x l.pre l.direct j (settled_length c.state) low (other_runs start x c l j ne (λ me t. TaskNote j me t (Mark j)) may) })
      refl l.state
    where
      low : settled_length x.state ≤ settled_length c.state
      low =
          let a = over_settled x.state l.pre.state l.direct.state in
          let s = says start x c l in
          let b : settled_length l.pre.state ≡ length s.history = ap settled_length s.is in
          let d : settled_length (after_note start l.pre (Writes l.host l.seq l.entry)).state ≡ length s.history =
          ap (λ (u : State). settled_length (pends (named_file (cmd_of (slice_get (past_in start l.pre).hosts l.host)) l.entry) u)) s.is in
          let e = over_settled (after_note start l.pre (Writes l.host l.seq l.entry)).state c.state l.state in
          omega (arith, a, b, d, e)

  late_found : (l : Late start x c) (j n : ℕ) → OfRunning (slice_get (shapes_in c) j) (λ me t. TaskNote j me t (Found j n)) → FoundAllowed n c.state
      → (j ≡ l.host) ⊎ (j ≢ l.host)
      → Late start x (after_note start c (Found j n))
  late_found l j n may found (inl e) =
      absurd (named_marked l.seq (stage_is start x c l (λ s. s ≡ Marked) (subst (λ (k : ℕ). OfRunning (slice_get (shapes_in c) k) (λ me t. t.stage ≡ Marked)) e (finds_it c j may))))
    where
      finds_it : (c : Possible) (j : ℕ) → OfRunning (slice_get (shapes_in c) j) (λ me t. TaskNote j me t (Found j n))
          → OfRunning (slice_get (shapes_in c) j) (λ me t. t.stage ≡ Marked)
      finds_it c j may = let r = running_at c j (λ me t. TaskNote j me t (Found j n)) may in runs_at c j (λ me t. t.stage ≡ Marked) r.host r.task r.is r.runs r.holds.2
  late_found l j n may found (inr ne) =
      late_moved start x c l j ne x (after_note start c (Found j n)) _
      (record { state = l.direct.state; hosts = hidden_found x l.pre l.direct j n (other_runs start x c l j ne (λ me t. TaskNote j me t (Found j n)) may) })
      refl (over_hidden n _ c.state l.state found)

  -- no entry is named behind it
  pub late_writes : (l : Late start x c) → IsApart c → (j seq : ℕ) (e : Entry) → OfRunning (slice_get (shapes_in c) j) (λ me t. TaskNote j me t (Writes j seq e))
      → FitsNext (past_in start c) (Writes j seq e)
      → (j ≡ l.host) ⊎ (j ≢ l.host) → ⊥
  late_writes l apart j seq e may fits (inl e_same) =
      named_met l.seq seq (stage_is start x c l (λ s. s ≡ Met seq) (subst (λ (k : ℕ). OfRunning (slice_get (shapes_in c) k) (λ me t. t.stage ≡ Met seq)) e_same (met_it c j may)))
    where
      met_it : (c : Possible) (j : ℕ) → OfRunning (slice_get (shapes_in c) j) (λ me t. TaskNote j me t (Writes j seq e))
          → OfRunning (slice_get (shapes_in c) j) (λ me t. t.stage ≡ Met seq)
      met_it c j may = let r = running_at c j (λ me t. TaskNote j me t (Writes j seq e)) may in runs_at c j (λ me t. t.stage ≡ Met seq) r.host r.task r.is r.runs r.holds.2
  late_writes l apart j seq e may fits (inr ne) = no_other start x c l j ne apart seq e may fits

  -- a note that a history leaves out is passed over
  pub inner_over : IsApart c → Over start x c → (y : Note) → IsTrue (is_inner y) → (lines : ℕ) → MayStand lines (shapes_in c) y → FitsNext (past_in start c) y
      → Over start x (after_note start c y)
  inner_over apart (direct d) (Mark j) inner lines may fits = direct (over_mark start x c d j may)
  inner_over apart (direct d) (Found j n) inner lines may fits = direct (over_found start x c d j n may fits)
  inner_over apart (direct d) (Writes j seq e) inner lines may fits =
      late (record { host = j; pre = c; direct = d; seq = seq; entry = e; may = may; fits = fits; hosts = refl; state = same refl })
  inner_over apart (late l) (Mark j) inner lines may fits = late (late_mark l j may (cases_eq j l.host))
  inner_over apart (late l) (Found j n) inner lines may fits = late (late_found l j n may fits (cases_eq j l.host))
  inner_over apart (late l) (Writes j seq e) inner lines may fits = absurd (late_writes l apart j seq e may fits (cases_eq j l.host))
  inner_over apart over y inner lines may fits = absurd cc
