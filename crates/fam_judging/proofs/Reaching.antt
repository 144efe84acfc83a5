-- How far a command may have come where its line wants a stage.
use Rattle.std.proofs.Common.{◌≡◌, ◌⊎◌, inl, inr, ℕ, List, Option, Some, None, refl, sym, ap, subst, ◌∙◌}
use Rattle.std.specs.Prelude.{option_map, slice_get}
use Rattle.fam_base.specs.declared.entry.Entry.{Entry}
use Rattle.fam_base.specs.Image.{Image}
use Rattle.fam_journal.specs.Members.{changed_at}
use Rattle.fam_journal.specs.Notes.{Found, Writes}
use Rattle.fam_journal.specs.Shapes.{Begun, CommandStage, HostShape, Marked, Met, Named, OfRunning, OfTask, TaskShape, with_stage}
use Rattle.fam_judge.specs.Possible.{Possible, MeetsEntries, Reaches, StageIs, Wrote, after_note, meets, marked, shapes_in, stands, shown_met, unmarked, left_out_met, after_mark, without_mark, wrote}
use Rattle.fam_journal.proofs.Calls.Members.{changed_here}
use Rattle.fam_judge.proofs.Folding.{shape_after, shape_in}
use Rattle.fam_judge.proofs.Members.{changed_same, map_changed}
use Rattle.fam_judge.proofs.OverOwn.{marked_begun, met_begun, named_begun}

-- Running commands.

-- what follows from it holds of it
pub weaker : (o : Option HostShape) (P Q : List ℕ → TaskShape → Type 0) → ((me : List ℕ) (t : TaskShape) → P me t → Q me t) → OfRunning o P → OfRunning o Q
weaker None P Q f r = absurd r
weaker (Some host) P Q f r = by host.task r
  where
    by : (task : Option TaskShape) → OfTask task (P host.uuid) → OfTask task (Q host.uuid)
    by None r = absurd r
    by (Some t) r = f host.uuid t r

-- what can't hold
pub never : (o : Option HostShape) (P : List ℕ → TaskShape → Type 0) → ((me : List ℕ) (t : TaskShape) → P me t → ⊥) → OfRunning o P → ⊥
never None P f r = r
never (Some host) P f r = by host.task r
  where
    by : (task : Option TaskShape) → OfTask task (P host.uuid) → ⊥
    by None r = r
    by (Some t) r = f host.uuid t r

-- two that hold both do
pub both : (o : Option HostShape) (P Q : List ℕ → TaskShape → Type 0) → OfRunning o P → OfRunning o Q → OfRunning o (λ me t. P me t × Q me t)
both None P Q p q = p
both (Some host) P Q p q = by host.task p q
  where
    by : (task : Option TaskShape) → OfTask task (P host.uuid) → OfTask task (Q host.uuid) → OfTask task (λ t. P host.uuid t × Q host.uuid t)
    by None p q = p
    by (Some t) p q = (p, q)

-- a command that has come to a stage
staged : (stage : CommandStage) (o : Option HostShape) (P : List ℕ → TaskShape → Type 0)
    → OfRunning (option_map (with_stage stage) o) P → OfRunning o (λ me t. P me (record t { stage = stage }))
staged stage None P r = r
staged stage (Some host) P r = by host.task r
  where
    by : (task : Option TaskShape) → OfTask (option_map (λ (t : TaskShape). record t { stage = stage }) task) (P host.uuid) → OfTask task (λ t. P host.uuid (record t { stage = stage }))
    by None r = r
    by (Some t) r = r

-- and the other way about
staged_back : (stage : CommandStage) (o : Option HostShape) (P : List ℕ → TaskShape → Type 0)
    → OfRunning o (λ me t. P me (record t { stage = stage })) → OfRunning (option_map (with_stage stage) o) P
staged_back stage None P r = r
staged_back stage (Some host) P r = by host.task r
  where
    by : (task : Option TaskShape) → OfTask task (λ t. P host.uuid (record t { stage = stage })) → OfTask (option_map (λ (t : TaskShape). record t { stage = stage }) task) (P host.uuid)
    by None r = r
    by (Some t) r = r

module _ (start : Image) (h : ℕ) (x : Possible) where
  -- what holds behind a change of a stage
  behind : (now : Possible) (stage : CommandStage) (P : List ℕ → TaskShape → Type 0) → shapes_in now ≡ changed_at h (with_stage stage) (shapes_in x)
      → OfRunning (slice_get (shapes_in now) h) P → OfRunning (slice_get (shapes_in x) h) (λ me t. P me (record t { stage = stage }))
  behind now stage P is r =
      staged stage (slice_get (shapes_in x) h) P
      (subst (λ (o : Option HostShape). OfRunning o P) (ap (λ (hosts : List HostShape). slice_get hosts h) is ∙ changed_here h (with_stage stage) (shapes_in x)) r)

  -- behind what it found
  pub behind_found : (n : ℕ) (P : List ℕ → TaskShape → Type 0)
      → OfRunning (slice_get (shapes_in (after_note start x (Found h n))) h) P → OfRunning (slice_get (shapes_in x) h) (λ me t. P me (record t { stage = Met n }))
  behind_found n P r = behind (after_note start x (Found h n)) (Met n) P (shape_after x (Found h n)) r

  -- behind what it named
  pub behind_writes : (seq : ℕ) (e : Entry) (P : List ℕ → TaskShape → Type 0)
      → OfRunning (slice_get (shapes_in (after_note start x (Writes h seq e))) h) P → OfRunning (slice_get (shapes_in x) h) (λ me t. P me (record t { stage = Named seq }))
  behind_writes seq e P r = behind (after_note start x (Writes h seq e)) (Named seq) P (shape_after x (Writes h seq e)) r

  -- the shapes with its mark
  marked_shapes : shapes_in (after_mark h x) ≡ changed_at h (with_stage Marked) (shapes_in x)
  marked_shapes = map_changed shape_in h _ _ (λ p. refl) x.hosts

  -- and without it
  unmarked_shapes : shapes_in (without_mark h x) ≡ shapes_in x
  unmarked_shapes = map_changed shape_in h _ (λ y. y) (λ p. refl) x.hosts ∙ changed_same h (λ y. y) (shapes_in x) (λ y is. refl)

  -- behind its mark
  pub behind_mark : (P : List ℕ → TaskShape → Type 0) → OfRunning (slice_get (shapes_in (after_mark h x)) h) P → OfRunning (slice_get (shapes_in x) h) (λ me t. P me (record t { stage = Marked }))
  behind_mark P r = behind (after_mark h x) Marked P marked_shapes r

  -- so it holds with the mark
  pub with_its_mark : (P : List ℕ → TaskShape → Type 0) → OfRunning (slice_get (shapes_in x) h) (λ me t. P me (record t { stage = Marked })) → OfRunning (slice_get (shapes_in (after_mark h x)) h) P
  with_its_mark P r =
      subst (λ (o : Option HostShape). OfRunning o P) (sym (ap (λ (hosts : List HostShape). slice_get hosts h) marked_shapes ∙ changed_here h (with_stage Marked) (shapes_in x)))
      (staged_back Marked (slice_get (shapes_in x) h) P r)

  -- what holds without it
  pub without : (P : List ℕ → TaskShape → Type 0) → OfRunning (slice_get (shapes_in (without_mark h x)) h) P → OfRunning (slice_get (shapes_in x) h) P
  without P r = subst (λ (hosts : List HostShape). OfRunning (slice_get hosts h) P) unmarked_shapes r

  -- so it holds without it
  pub without_its_mark : (P : List ℕ → TaskShape → Type 0) → OfRunning (slice_get (shapes_in x) h) P → OfRunning (slice_get (shapes_in (without_mark h x)) h) P
  without_its_mark P r = subst (λ (hosts : List HostShape). OfRunning (slice_get hosts h) P) (sym unmarked_shapes) r

-- Stages.

-- a command has one stage
pub one_stage : (h : ℕ) (x : Possible) (a b : CommandStage) → (a ≡ b → ⊥) → StageIs (λ s. s ≡ a) h x → StageIs (λ s. s ≡ b) h x → ⊥
one_stage h x a b other is_a is_b =
    never (slice_get (shapes_in x) h) (λ me t. (t.stage ≡ a) × (t.stage ≡ b)) (λ me t two. other (sym two.0 ∙ two.1))
    (both (slice_get (shapes_in x) h) (λ me t. t.stage ≡ a) (λ me t. t.stage ≡ b) is_a is_b)

module _ (start : Image) (h : ℕ) (x now : Possible) where
  -- the state is another one
  is_at : {y : Possible} (P : List ℕ → TaskShape → Type 0) → now ≡ y → OfRunning (slice_get (shapes_in now) h) P → OfRunning (slice_get (shapes_in y) h) P
  is_at P e r = subst (λ (z : Possible). OfRunning (slice_get (shapes_in z) h) P) e r

  -- what it has met isn't before
  unmet : (s : CommandStage) → ((n : ℕ) → Met n ≡ s → ⊥) → MeetsEntries start h x now → StageIs (λ stage. stage ≡ s) h now → ⊥
  unmet s other (shown_met n met e) is = one_stage h x (Met n) s (other n) met (is_at (λ me t. t.stage ≡ s) e is)
  unmet s other (left_out_met n head wishes found e) is =
      never (slice_get (shapes_in x) h) _ (λ me t same. other n same) (behind_found start h x n (λ me t. t.stage ≡ s) (is_at (λ me t. t.stage ≡ s) e is))

  -- nor what it has named
  unnamed : (s : CommandStage) → ((n : ℕ) → Named n ≡ s → ⊥) → Wrote start h x now → StageIs (λ stage. stage ≡ s) h now → ⊥
  unnamed s other w is =
      never (slice_get (shapes_in w.met) h) _ (λ me t same. other w.seq same) (behind_writes start h w.met w.seq w.entry (λ me t. t.stage ≡ s) (is_at (λ me t. t.stage ≡ s) w.is is))

  -- it has just begun
  pub reach_begun : Reaches start h x now → StageIs (λ stage. stage ≡ Begun) h now → StageIs (λ stage. stage ≡ Begun) h x × (now ≡ without_mark h x)
  reach_begun (unmarked begun e) is = (begun, e)
  reach_begun (marked begun e) is =
      absurd (never (slice_get (shapes_in x) h) _ (λ me t same. marked_begun same) (behind_mark start h x (λ me t. t.stage ≡ Begun) (is_at (λ me t. t.stage ≡ Begun) e is)))
  reach_begun (stands e not) is = absurd (not (is_at (λ me t. t.stage ≡ Begun) e is))
  reach_begun (meets m) is = absurd (unmet Begun met_begun m is)
  reach_begun (wrote w) is = absurd (unnamed Begun named_begun w is)

  -- its mark stands
  pub reach_marked : Reaches start h x now → StageIs (λ stage. stage ≡ Marked) h now
      → (StageIs (λ stage. stage ≡ Begun) h x × (now ≡ after_mark h x)) ⊎ (now ≡ x)
  reach_marked (unmarked begun e) is =
      absurd (one_stage h x Begun Marked (λ same. marked_begun (sym same)) begun (without start h x (λ me t. t.stage ≡ Marked) (is_at (λ me t. t.stage ≡ Marked) e is)))
  reach_marked (marked begun e) is = inl (begun, e)
  reach_marked (stands e not) is = inr e
  reach_marked (meets m) is = absurd (unmet Marked (λ n same. cc) m is)
  reach_marked (wrote w) is = absurd (unnamed Marked (λ n same. cc) w is)

  -- it has found entries
  pub reach_met : (n : ℕ) → Reaches start h x now → StageIs (λ stage. stage ≡ Met n) h now → MeetsEntries start h x now
  reach_met n (unmarked begun e) is =
      absurd (one_stage h x Begun (Met n) (λ same. met_begun n (sym same)) begun (without start h x (λ me t. t.stage ≡ Met n) (is_at (λ me t. t.stage ≡ Met n) e is)))
  reach_met n (marked begun e) is =
      absurd (never (slice_get (shapes_in x) h) _ (λ me t same. absurd cc) (behind_mark start h x (λ me t. t.stage ≡ Met n) (is_at (λ me t. t.stage ≡ Met n) e is)))
  reach_met n (stands e not) is = shown_met n (is_at (λ me t. t.stage ≡ Met n) e is) e
  reach_met n (meets m) is = m
  reach_met n (wrote w) is = absurd (unnamed (Met n) (λ k same. cc) w is)
