-- How many entries a command that names one may have found.
use Rattle.std.proofs.Common.{◌≡◌, ◌≢◌, ◌⊎◌, ◌+◌, inl, inr, ℕ, true, List, [], length, Option, Some, None, refl, sym, ap, subst, ◌∙◌, arith}
use Rattle.std.specs.Prelude.{is_some, slice_get}
use Rattle.std.proofs.lemmas.List.{append-nil}
use Rattle.std.proofs.lemmas.Option.{same_Some}
use Rattle.fam_base.specs.declared.entry.Entry.{Entry}
use Rattle.fam_base.specs.Image.{Image}
use Rattle.fam_journal.specs.Legal.{FoundAllowed, FoundPending, OfHost, WritesAllowed}
use Rattle.fam_journal.specs.Notes.{Found}
use Rattle.fam_journal.specs.Past.{Bad, Damage, HostPast, Origin, Sound, State, finds, first_state, settled_length}
use Rattle.fam_journal.specs.Shapes.{IsHead, Met}
use Rattle.fam_judge.specs.Possible.{Possible, StageIs, Wrote, after_note, past_in}
use Rattle.fam_judging.specs.declared.candidate.Candidate.{Candidate}
use Rattle.fam_judging.specs.declared.candidate.Stage.{Stage}
use Rattle.fam_judging.specs.declared.candidate.Stage.TheVariants as stage
use Rattle.fam_judging.specs.declared.hosts.Hosts.{Hosts}
use Rattle.fam_judging.specs.Candidates.{IsGivenImage, possible_of, settled_state, stage_shape}
use Rattle.fam_judging.specs.Going.{NamesByNow, stage_of_host}
use Rattle.fam_judging.specs.Pushing.{IsMore, IsSoundState, Pushes, WrittenAt, first_count}
use Rattle.fam_settled.specs.declared.bytes.Filed.{Filed}
use Rattle.fam_settled.specs.Settled.{SettledLog, filed, settled_files, settled_log_state}
use Rattle.fam_settled.proofs.Files.{length-files_of}
use Rattle.fam_judging.specs.declared.given.GivenImage.{GivenImage}
use Rattle.fam_judging.proofs.Leading.{wrote_from, wrote_to}
use Rattle.fam_judging.proofs.Writtens.{pushes_both}
use Rattle.fam_judging.proofs.Owning.{stage_is, stage_none}

-- nothing is named on a damaged image
none_named : (seq : ℕ) (e : Entry) (o : Option HostPast) (origin : Origin) (damage : Damage) (gate : ℕ) → OfHost o (λ host. WritesAllowed seq e host (finds seq (Bad origin damage gate))) → ⊥
none_named seq e None origin damage gate w = w
none_named seq e (Some host) origin damage gate w = w

-- so many, or one more
counts_by : (seq : ℕ) (e : Entry) (o : Option HostPast) (s : State) → FoundAllowed seq s → OfHost o (λ host. WritesAllowed seq e host (finds seq s)) → (seq ≡ settled_length s) ⊎ IsMore seq s
counts_by seq e o (Bad origin damage gate) found w = absurd (none_named seq e o origin damage gate w)
counts_by seq e o (Sound p history None) found w = inl found
counts_by seq e o (Sound p history (Some f)) found w = elim found [
  | inl same ↦ inl same
  | inr more ↦ inr (record { found = inr more; sound = tt; other = λ same. absurd (omega (arith, more, same)) })
]

module _ (start : Image) (hosts : Hosts) (c : Candidate) (h : ℕ) where
  -- a stage that was told
  first_met : (o : Option Stage) (k seq : ℕ) → stage_of_host hosts c h ≡ o → StageIs (λ s. s ≡ Met seq) h (possible_of start hosts c) → seq ≡ first_count o k
  first_met None k seq is told = absurd (stage_none start hosts c h (λ me t. t.stage ≡ Met seq) is told)
  first_met (Some s) k seq is told = by s ((stage_is start hosts c h s (λ s. s ≡ Met seq) is).0 told)
    where
      by : (s : Stage) → stage_shape s ≡ Met seq → seq ≡ first_count (Some s) k
      by stage.Begun e = absurd cc
      by stage.Marked e = absurd cc
      by (stage.Met n) e = cc
      by (stage.Named n) e = absurd cc

  -- or wasn't
  first_head : (o : Option Stage) (k : ℕ) → stage_of_host hosts c h ≡ o → StageIs IsHead h (possible_of start hosts c) → first_count o k ≡ k
  first_head None k is head = refl
  first_head (Some s) k is head = by s ((stage_is start hosts c h s IsHead is).0 head)
    where
      by : (s : Stage) → IsHead (stage_shape s) → first_count (Some s) k ≡ k
      by stage.Begun e = refl
      by stage.Marked e = refl
      by (stage.Met n) e = absurd e
      by (stage.Named n) e = refl

  -- what was found by its stage, or one more
  pub names_counts : (seq : ℕ) (e : Entry) (z : Possible) → NamesByNow start h seq e (possible_of start hosts c) z
      → (seq ≡ first_count (stage_of_host hosts c h) (settled_length (settled_state start c.settled))) ⊎ IsMore seq (settled_state start c.settled)
  names_counts seq e z n = elim n.meets [
    | inl told ↦ inl (first_met (stage_of_host hosts c h) (settled_length (settled_state start c.settled)) seq refl told.0)
    | inr f ↦
        let s = settled_state start c.settled in
        let w = subst (λ (m : Possible). OfHost (slice_get (past_in start m).hosts h) (λ host. WritesAllowed seq e host m.state)) f.is n.may.fits in
        elim (counts_by seq e (slice_get (past_in start (after_note start (possible_of start hosts c) (Found h seq))).hosts h) s f.found w) [
          | inl same ↦ inl (same ∙ sym (first_head (stage_of_host hosts c h) (settled_length s) refl f.head))
          | inr more ↦ inr more
        ]
  ]

-- one pends then
more_by : (settled m : ℕ) (pending : Option Filed) → FoundPending m settled (filed pending) → m ≢ settled → (is_some pending ≡ true) × (m ≡ settled + 1)
more_by settled m None found other = absurd (other found)
more_by settled m (Some f) found other = elim found [
  | inl same ↦ absurd (other same)
  | inr more ↦ (refl, more)
]

-- of a log
pub more_next : (s : SettledLog) (m : ℕ) → IsMore m (settled_log_state s) → (is_some s.pending ≡ true) × (m ≡ length s.entries + 1)
more_next s m more =
    let r = more_by (length (settled_files s)) m s.pending more.found more.other in
    (r.0, r.1 ∙ ap (λ (n : ℕ). n + 1) (length-files_of s.entries s.bytes))

-- of the image that was handed in there is none
pub more_given : (start : Image) (given : GivenImage) (m : ℕ) → IsGivenImage start given → IsMore m (first_state start) → ⊥
more_given start given m is more = subst IsSoundState is.state more.sound

-- both counts
pub written_both : (start : Image) (hosts : Hosts) (c : Candidate) (h n : ℕ) (o : Option ℕ) (Fine : Candidate → Type 0) (see : Candidate → Possible) (old mid new : List Candidate)
    → n ≡ first_count (stage_of_host hosts c h) (settled_length (settled_state start c.settled)) → ((m : ℕ) → IsMore m (settled_state start c.settled) → o ≡ Some m)
    → Pushes (WrittenAt start h n (possible_of start hosts c)) Fine see old mid
    → Pushes (λ z. (m : ℕ) × (o ≡ Some m) × WrittenAt start h m (possible_of start hosts c) z) Fine see mid new
    → Pushes (Wrote start h (possible_of start hosts c)) Fine see old new
written_both start hosts c h n o Fine see old mid new is more a b =
    let x = possible_of start hosts c in
    pushes_both (WrittenAt start h n x) (λ z. (m : ℕ) × (o ≡ Some m) × WrittenAt start h m x z) (Wrote start h x) Fine see old mid new a b
    (λ z w. wrote_to start h x n w.0 z w.1) (λ z w. wrote_to start h x w.0 w.2.0 z w.2.1)
    (λ z w.
    let names = wrote_from start h x z w in
    elim (names_counts start hosts c h w.seq w.entry z names) [
      | inl same ↦ inl (w.entry, subst (λ (k : ℕ). NamesByNow start h k w.entry x z) (same ∙ sym is) names)
      | inr one ↦ inr (w.seq, more w.seq one, (w.entry, names))
    ])

-- the second count alone
pub second_some : (start : Image) (h m : ℕ) (x : Possible) (Fine : Candidate → Type 0) (see : Candidate → Possible) (mid new : List Candidate)
    → Pushes (WrittenAt start h m x) Fine see mid new → Pushes (λ z. (k : ℕ) × (Some m ≡ Some k) × WrittenAt start h k x z) Fine see mid new
second_some start h m x Fine see mid new a = record {
  news = a.news;
  is = a.is;
  sound = λ k d at. (m, refl, a.sound k d at);
  fine = a.fine;
  complete = λ z w. a.complete z (subst (λ (k : ℕ). WrittenAt start h k x z) (sym (same_Some m w.0 w.1)) w.2);
}

-- or none
pub second_none : (start : Image) (h : ℕ) (x : Possible) (Fine : Candidate → Type 0) (see : Candidate → Possible) (mid : List Candidate)
    → Pushes (λ z. (k : ℕ) × (None ≡ Some k) × WrittenAt start h k x z) Fine see mid mid
second_none start h x Fine see mid = record {
  news = [];
  is = sym (append-nil mid);
  sound = λ k d at. absurd cc;
  fine = λ k d at. absurd cc;
  complete = λ z w. let e : None ≡ Some w.0 = w.1 in absurd cc;
}
