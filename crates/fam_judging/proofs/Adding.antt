-- A candidate that allows no less than another one is a state that does, and how candidates are put among others.
use Rattle.std.proofs.Common.{◌≡◌, ◌++◌, ◌<◌, ◌⊎◌, inl, inr, ℕ, zero, suc, Bool, true, false, List, [], ◌∷◌, length, map, Option, Some, None}
use Rattle.std.proofs.Common.{refl, sym, ap, subst, ◌∙◌, arith}
use Rattle.std.specs.Prelude.{if◌then◌else◌, option_map}
use Rattle.std.specs.List.{slice_get}
use Rattle.std.proofs.lemmas.Option.{same_Some, slice_get-map}
use Rattle.fam_base.specs.Image.{Image}
use Rattle.fam_history.specs.declared.command.ToldCommand.{ToldCommand}
use Rattle.fam_journal.specs.Notes.{Note}
use Rattle.fam_journal.specs.Shapes.{Pairs, TaskShape}
use Rattle.fam_judge.specs.Covering.{HasBelow, HostBelow, IsBelow, IsOf, StageBelow, TaskBelow}
use Rattle.fam_judge.specs.Possible.{Possible, StepsTo}
use Rattle.fam_lines.specs.declared.host.SeenHost.{SeenHost}
use Rattle.fam_judging.specs.declared.candidate.Candidate.{Candidate}
use Rattle.fam_judging.specs.declared.candidate.Settled.{Settled}
use Rattle.fam_judging.specs.declared.candidate.Stage.{Stage}
use Rattle.fam_judging.specs.declared.candidate.Stage.TheVariants as stage
use Rattle.fam_judging.specs.declared.candidate.Track.{Track}
use Rattle.fam_judging.specs.After.{possible_in}
use Rattle.fam_judging.specs.Among.{StepsAmong}
use Rattle.fam_judging.specs.Below.{AddsAll, AddsOne, AreHostsBelow, AsksNoMore, IsHostBelow, IsIn, IsTrackBelow}
use Rattle.fam_judging.specs.Candidates.{named_of, progress_list, progress_of, settled_state, stage_shape}
use Rattle.fam_judging.specs.Pushing.{Pushes}
use Rattle.fam_judging.proofs.Lists.{task_at}

-- Hosts.

-- at a stage no more is asked
stage_below : (s : SeenHost) (c : Option ToldCommand) (t u : Track) (g : Stage) → AsksNoMore g t u
    → StageBelow (stage_shape g) (progress_of s c t).told (progress_of s c u).told
stage_below s c t u stage.Begun asks = asks
stage_below s c t u stage.Marked asks = asks
stage_below s c t u (stage.Met n) asks = tt
stage_below s c t u (stage.Named seq) asks = ap (λ w. option_map named_of w) asks

-- the same command has come as far
same_task : (runs : Bool) (c : Option ToldCommand) (t u : Track) → (runs ≡ true → IsTrackBelow t u)
    → (if runs then option_map (task_at (stage_shape t.stage)) c else None) ≡ (if runs then option_map (task_at (stage_shape u.stage)) c else None)
same_task true None t u below = refl
same_task true (Some cmd) t u below = ap (λ (g : Stage). Some (task_at (stage_shape g) cmd)) (below refl).stage
same_task false c t u below = refl

-- and no more is asked of it
task_below : (s : SeenHost) (c : Option ToldCommand) (t u : Track) (runs : Bool) (cmd : Option ToldCommand) → (runs ≡ true → IsTrackBelow t u)
    → TaskBelow (if runs then option_map (task_at (stage_shape u.stage)) cmd else None) (progress_of s c t).told (progress_of s c u).told
task_below s c t u true None below = tt
task_below s c t u true (Some cmd) below = stage_below s c t u u.stage (below refl).asks
task_below s c t u false cmd below = tt

-- so of a host, if it runs a command
host_below : (s : SeenHost) (c : Option ToldCommand) (t u : Track) → (s.runs ≡ true → IsTrackBelow t u)
    → HostBelow (progress_of s c t) (progress_of s c u)
host_below s c t u below = record {
  shape = ap (λ (o : Option TaskShape). record { name = s.name; uuid = s.uuid; task = o; keeps = s.keeps }) (same_task s.runs c t u below);
  uuid = refl;
  cmd = refl;
  task = task_below s c t u s.runs c below;
}

-- so of all hosts
hosts_below : (seen : List SeenHost) (cmds : List (Option ToldCommand)) (a b : List Track) → length a ≡ length b
    → ((k : ℕ) → k < length a → IsHostBelow seen a b k) → Pairs HostBelow (progress_list seen cmds a) (progress_list seen cmds b)
hosts_below [] cmds a b long each = tt
hosts_below (s ∷ seen) [] a b long each = tt
hosts_below (s ∷ seen) (c ∷ cmds) [] [] long each = tt
hosts_below (s ∷ seen) (c ∷ cmds) [] (u ∷ b) long each = absurd (omega (arith, long))
hosts_below (s ∷ seen) (c ∷ cmds) (t ∷ a) [] long each = absurd (omega (arith, long))
hosts_below (s ∷ seen) (c ∷ cmds) (t ∷ a) (u ∷ b) long each = (
  host_below s c t u (λ runs. each zero (omega arith) s t u refl runs refl refl),
  hosts_below seen cmds a b (omega (arith, long)) (λ k less. each (suc k) (omega (arith, less))),
)

-- a candidate in which the same is settled, and no more is asked of hosts, is a state that allows no less
pub below_in : (start : Image) (seen : List SeenHost) (cmds : List (Option ToldCommand)) (x y : Candidate) → x.settled ≡ y.settled
    → AreHostsBelow seen x.tracks.items y.tracks.items → IsBelow (possible_in start seen cmds x) (possible_in start seen cmds y)
below_in start seen cmds x y same hosts = record {
  state = ap (λ (s : Settled). settled_state start s) same;
  hosts = hosts_below seen cmds x.tracks.items y.tracks.items hosts.long hosts.each;
}

-- States of candidates.

-- one of the candidates is a state that allows no less
pub below_at : (f : Candidate → Possible) (xs : List Candidate) (k : ℕ) (x : Candidate) (y : Possible) → slice_get xs k ≡ Some x
    → IsBelow (f x) y → HasBelow (map f xs) y
below_at f xs k x y is below = record {
  state = f x;
  is = (k, slice_get-map f xs k ∙ ap (λ o. option_map f o) is);
  below = inr below;
}

-- Candidates of a list, one by one.

-- those of a list are of it with one more
in_front : (xs : List Candidate) (x d : Candidate) → IsIn xs d → IsIn (xs ++ x ∷ []) d
in_front [] x d is = let no = is.1 in absurd cc
in_front (a ∷ xs) x d (zero, e) = (0, e)
in_front (a ∷ xs) x d (suc i, e) = let at = in_front xs x d (i, e) in (suc at.0, at.1)

-- so is that one
in_last : (xs : List Candidate) (x : Candidate) → IsIn (xs ++ x ∷ []) x
in_last [] x = (0, refl)
in_last (a ∷ xs) x = let at = in_last xs x in (suc at.0, at.1)

-- and no others are
in_push : (xs : List Candidate) (x d : Candidate) → IsIn (xs ++ x ∷ []) d → IsIn xs d ⊎ (d ≡ x)
in_push [] x d (zero, e) = inr (sym (same_Some x d e))
in_push [] x d (suc i, e) = absurd cc
in_push (a ∷ xs) x d (zero, e) = inl (0, e)
in_push (a ∷ xs) x d (suc i, e) = elim (in_push xs x d (i, e)) [ inl h ↦ inl (suc h.0, h.1) | inr h ↦ inr h ]

-- no candidates
pub nothing_left : (cs : List Candidate) → length cs ≡ 0 → cs ≡ []
nothing_left [] none = refl
nothing_left (c ∷ cs) none = absurd (omega (arith, none))

-- Candidates that are put behind others.

module _ (see : Candidate → Possible) where
  -- the candidate that a state is
  candidate_at : (cs : List Candidate) (k : ℕ) (z : Possible) → slice_get (map see cs) k ≡ Some z → (d : Candidate) × (slice_get cs k ≡ Some d) × (see d ≡ z)
  candidate_at [] k z is = absurd cc
  candidate_at (c ∷ cs) zero z is = (c, refl, same_Some (see c) z is)
  candidate_at (c ∷ cs) (suc k) z is = candidate_at cs k z is

  -- the state that a candidate is
  state_at : (cs : List Candidate) (k : ℕ) (d : Candidate) → slice_get cs k ≡ Some d → slice_get (map see cs) k ≡ Some (see d)
  state_at [] k d is = absurd cc
  state_at (c ∷ cs) zero d is = ap Some (ap see (same_Some c d is))
  state_at (c ∷ cs) (suc k) d is = state_at cs k d is

  -- a candidate of a list is a state of it
  pub state_in : (cs : List Candidate) (d : Candidate) → IsIn cs d → IsOf (map see cs) (see d)
  state_in cs d is = (is.0, state_at cs is.0 d is.1)

  -- each state of a list is that of a candidate
  pub in_state : (cs : List Candidate) (z : Possible) → IsOf (map see cs) z → (d : Candidate) × IsIn cs d × (see d ≡ z)
  in_state cs z is = let at = candidate_at cs is.0 z is.1 in (at.0, (is.0, at.1), at.2)

  -- where all stay, one that allows no less does
  below_kept : (old new : List Candidate) (z : Possible) → ((d : Candidate) → IsIn old d → IsIn new d) → HasBelow (map see old) z → HasBelow (map see new) z
  below_kept old new z kept below =
      let at = in_state old below.state below.is in
      record { state = below.state; is = subst (IsOf (map see new)) at.2 (state_in new at.0 (kept at.0 at.1)); below = below.below }

  -- one of which another one allows no less isn't put
  pub adds_none : (c : Candidate) (old : List Candidate) → HasBelow (map see old) (see c) → AddsOne see c old old
  adds_none c old below = record { kept = λ d is. is; from = λ d is. inl is; below = below }

  -- each other one is put last
  pub adds_last : (c : Candidate) (old new : List Candidate) → new ≡ old ++ c ∷ [] → AddsOne see c old new
  adds_last c old new is = subst (AddsOne see c old) (sym is) (record {
    kept = λ d at. in_front old c d at;
    from = λ d at. in_push old c d at;
    below = record { state = see c; is = state_in (old ++ c ∷ []) c (in_last old c); below = inl refl };
  })

  -- before the first one
  pub all_first : (old : List Candidate) → AddsAll see [] old old
  all_first old = record { kept = λ d is. is; from = λ d is. inl is; below = λ d is. let no = is.1 in absurd cc }

  -- one more
  pub all_next : (ys : List Candidate) (c : Candidate) (old mid new : List Candidate) → AddsAll see ys old mid → AddsOne see c mid new → AddsAll see (ys ++ c ∷ []) old new
  all_next ys c old mid new a b = record {
    kept = λ d is. b.kept d (a.kept d is);
    from = λ d is. elim (b.from d is) [
      | inl at ↦ elim (a.from d at) [ inl h ↦ inl h | inr h ↦ inr (in_front ys c d h) ]
      | inr same ↦ inr (subst (IsIn (ys ++ c ∷ [])) (sym same) (in_last ys c))
    ];
    below = λ d is. elim (in_push ys c d is) [
      | inl at ↦ below_kept mid new (see d) b.kept (a.below d at)
      | inr same ↦ subst (λ (e : Candidate). HasBelow (map see new) (see e)) (sym same) b.below
    ];
  }

module _ (start : Image) (line : Note) (x : Possible) (Fine : Candidate → Type 0) (see : Candidate → Possible) (news old new : List Candidate)
    (pushes : Pushes (StepsTo start x line) Fine see [] news) (adds : AddsAll see news old new) where
  -- a new candidate is one to which the line leads
  sound_of : (d : Candidate) → IsIn news d → StepsTo start x line (see d)
  sound_of d is = pushes.sound is.0 d (subst (λ (l : List Candidate). slice_get l is.0 ≡ Some d) pushes.is is.1)

  -- all states to which the line leads are put behind others, unless others allow no less
  pub steps_among : StepsAmong start line x Fine see old new
  steps_among = record {
    into = record {
      puts = record {
        kept = λ z is. let at = in_state see old z is in subst (IsOf (map see new)) at.2 (state_in see new at.0 (adds.kept at.0 at.1));
        sound = λ z is. let at = in_state see new z is in elim (adds.from at.0 at.1) [
          | inl h ↦ inl (subst (IsOf (map see old)) at.2 (state_in see old at.0 h))
          | inr h ↦ inr (subst (StepsTo start x line) at.2 (sound_of at.0 h))
        ];
      };
      all = λ z steps. let h = pushes.complete z steps in
          subst (HasBelow (map see new)) (sym h.state)
          (adds.below h.candidate (h.place, subst (λ (l : List Candidate). slice_get l h.place ≡ Some h.candidate) (sym pushes.is) h.is));
    };
    fine = λ all k d is. elim (adds.from d (k, is)) [
      | inl h ↦ all h.0 d h.1
      | inr h ↦ pushes.fine h.0 d (subst (λ (l : List Candidate). slice_get l h.0 ≡ Some d) pushes.is h.1)
    ];
  }
