-- The hosts of a possible state by their places.
use Prim.Native.Nat.{zero, suc}
use Rattle.std.proofs.Common.{◌≡◌, ℕ, List, [], ◌∷◌, Option, Some, None, refl, ap, sym, ◌∙◌, subst}
use Rattle.std.specs.Prelude.{option_map, slice_get}
use Rattle.std.proofs.lemmas.Option.{same_Some, slice_get-map}
use Rattle.fam_base.specs.Image.{Image}
use Rattle.fam_journal.specs.Legal.{OfHost}
use Rattle.fam_journal.specs.Members.{changed_at}
use Rattle.fam_journal.specs.Past.{HostPast, State}
use Rattle.fam_journal.specs.Shapes.{HostShape, OfRunning, OfTask, Pairs, TaskShape}
use Rattle.fam_judge.specs.Covering.{Direct, HostOver}
use Rattle.fam_judge.specs.Possible.{Possible, Progress, past_in, shapes_in}
use Rattle.fam_judge.proofs.Folding.{shape_in, told_in}
use Rattle.fam_judge.proofs.OverHosts.{Later, host_later}
use Rattle.fam_judge.proofs.Pairing.{pairs_step}

-- a host of this number runs a command, of which this holds
pub record Running (x : Possible) (h : ℕ) (P : List ℕ → TaskShape → Type 0) : Type 0 where
  pub host : Progress
  pub is : slice_get x.hosts h ≡ Some host
  pub task : TaskShape
  pub runs : host.shape.task ≡ Some task
  pub holds : P host.shape.uuid task

task_at : (host : Progress) (P : List ℕ → TaskShape → Type 0) (o : Option TaskShape) → host.shape.task ≡ o → OfTask o (P host.shape.uuid)
    → (task : TaskShape) × (host.shape.task ≡ Some task) × P host.shape.uuid task
task_at host P None e is = absurd is
task_at host P (Some t) e is = (t, e, is)

running_by : (x : Possible) (h : ℕ) (P : List ℕ → TaskShape → Type 0) (o : Option Progress) → slice_get x.hosts h ≡ o → OfRunning (option_map shape_in o) P → Running x h P
running_by x h P None e is = absurd is
running_by x h P (Some host) e is =
    let t = task_at host P host.shape.task refl is in record { host = host; is = e; task = t.0; runs = t.1; holds = t.2 }

-- which one it is
pub running_at : (x : Possible) (h : ℕ) (P : List ℕ → TaskShape → Type 0) → OfRunning (slice_get (shapes_in x) h) P → Running x h P
running_at x h P is = running_by x h P (slice_get x.hosts h) refl (subst (λ (o : Option HostShape). OfRunning o P) (slice_get-map shape_in x.hosts h) is)

-- and the other way about
pub runs_at : (x : Possible) (h : ℕ) (P : List ℕ → TaskShape → Type 0) (host : Progress) (t : TaskShape) → slice_get x.hosts h ≡ Some host → host.shape.task ≡ Some t
    → P host.shape.uuid t → OfRunning (slice_get (shapes_in x) h) P
runs_at x h P host t is runs holds =
    subst (λ (o : Option HostShape). OfRunning o P) (sym (slice_get-map shape_in x.hosts h ∙ ap (option_map shape_in) is))
    (subst (λ (o : Option TaskShape). OfTask o (P host.shape.uuid)) (sym runs) holds)

-- what is known of a host
pub told_at : (start : Image) (x : Possible) (h : ℕ) (P : HostPast → Type 0) (host : Progress) → slice_get x.hosts h ≡ Some host
    → OfHost (slice_get (past_in start x).hosts h) P → P host.told
told_at start x h P host is all = subst (λ (o : Option HostPast). OfHost o P) (slice_get-map told_in x.hosts h ∙ ap (option_map told_in) is) all

-- and the other way about
pub of_told : (start : Image) (x : Possible) (h : ℕ) (P : HostPast → Type 0) (host : Progress) → slice_get x.hosts h ≡ Some host → P host.told
    → OfHost (slice_get (past_in start x).hosts h) P
of_told start x h P host is holds = subst (λ (o : Option HostPast). OfHost o P) (sym (slice_get-map told_in x.hosts h ∙ ap (option_map told_in) is)) holds

-- a host that changes twice
pub changed_twice : {A : Type 0} (h : ℕ) (f g : A → A) (xs : List A) → changed_at h g (changed_at h f xs) ≡ changed_at h (λ x. g (f x)) xs
changed_twice h f g [] = refl
changed_twice zero f g (x ∷ xs) = refl
changed_twice (suc h) f g (x ∷ xs) = ap (λ l. x ∷ l) (changed_twice h f g xs)

-- a host that changes
pub changed_is : {A : Type 0} (h : ℕ) (f : A → A) (xs : List A) (x : A) → slice_get xs h ≡ Some x → slice_get (changed_at h f xs) h ≡ Some (f x)
changed_is h f [] x is = absurd cc
changed_is zero f (y ∷ xs) x is = ap (λ z. Some (f z)) (same_Some y x is)
changed_is (suc h) f (y ∷ xs) x is = changed_is h f xs x is

module _ (x c : Possible) (d : Direct x c) (h : ℕ) where
  -- the host of a line changes in both
  pub own_pairs : (s : State) (f g k : Progress → Progress) → Later x.state s
      → ((p q : Progress) → slice_get x.hosts h ≡ Some p → slice_get c.hosts h ≡ Some q → HostOver x.state p q → HostOver s (g (f p)) (k q))
      → Pairs (HostOver s) (changed_at h g (changed_at h f x.hosts)) (changed_at h k c.hosts)
  own_pairs s f g k later mine =
      subst (λ (xs : List Progress). Pairs (HostOver s) xs (changed_at h k c.hosts)) (sym (changed_twice h f g x.hosts))
      (pairs_step (HostOver x.state) (HostOver s) x.hosts c.hosts h (λ p. g (f p)) k d.hosts (λ i p q ne is other over. host_later x.state s later p q over) mine)

  -- so where the first one changes once
  pub once_pairs : (s : State) (g k : Progress → Progress) → Later x.state s
      → ((p q : Progress) → slice_get x.hosts h ≡ Some p → slice_get c.hosts h ≡ Some q → HostOver x.state p q → HostOver s (g p) (k q))
      → Pairs (HostOver s) (changed_at h g x.hosts) (changed_at h k c.hosts)
  once_pairs s g k later mine = pairs_step (HostOver x.state) (HostOver s) x.hosts c.hosts h g k d.hosts (λ i p q ne is other over. host_later x.state s later p q over) mine
