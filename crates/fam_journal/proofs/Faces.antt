-- Refusals look at faces: over hosts of the same faces a call is refused alike.
use Rattle.std.proofs.Common.{◌≡◌, ℕ, ◌+◌, Bool, List, [], ◌∷◌, length, map, Option, Some, None, refl, ap, sym, ◌∙◌}
use Rattle.std.specs.Prelude.{⊤, slice_get, is_some, not, option_map, ◌==◌, ◌&&◌, ◌||◌, nat_lt, if◌then◌else◌}
use Rattle.std.proofs.lemmas.List.{length-map}
use Rattle.std.proofs.lemmas.Option.{slice_get-map}
use Rattle.fam_base.specs.PathOrder.{path_eq}
use Rattle.fam_commands.specs.Classes.{is_mount}
use Rattle.fam_machine.specs.Caches.{dirty_count}
use Rattle.fam_journal.specs.Calls as call
use Rattle.fam_journal.specs.Calls.{Call, begins_refusal, busy_at, dirty_from, idle_refusal, is_busy_host, is_engaged, is_kept_host, is_same, keeps_at, number_of, on_host, refusal_of}
use Rattle.fam_journal.specs.Machines.{HostState, Machines}
use Rattle.fam_journal.specs.Members.{index_from, index_of}

-- what refusals see of a host, but its dirty lines
pub record Face : Type 0 where
  pub name : List ℕ
  pub uuid : List ℕ
  pub busy : Bool
  pub keeps : Bool

abbrev pub face : HostState → Face
face host = record { name = host.name; uuid = host.uuid; busy = is_some host.task; keeps = is_some host.kept }

-- and how many dirty lines it has, which only a mkfs looks at
abbrev pub dirt : HostState → ℕ
dirt host = dirty_count host.cache

-- a place is found by faces alone
index_map : (t : Face → Bool) (i : ℕ) (xs : List HostState) → index_from i (λ x. t (face x)) xs ≡ index_from i t (map face xs)
index_map t i [] = refl
index_map t i (x ∷ xs) = ap (λ (o : Option ℕ). if t (face x) then Some i else o) (index_map t (i + 1) xs)

-- so is what a host of a place shows
abbrev shows : (Face → Bool) → Option Face → Bool
shows t None = call.is_busy_host None
shows t (Some f) = t f

busy_face : (o : Option HostState) → is_busy_host o ≡ shows (λ f. f.busy) (option_map face o)
busy_face None = refl
busy_face (Some host) = refl

kept_face : (o : Option HostState) → is_kept_host o ≡ shows (λ f. f.keeps) (option_map face o)
kept_face None = refl
kept_face (Some host) = refl

abbrev dirty_in : ℕ → ℕ → List ℕ → Option ℕ
dirty_in maker i [] = None
dirty_in maker i (d ∷ ds) = if not (i == maker) && nat_lt 0 d then Some i else dirty_in maker (i + 1) ds

dirty_map : (maker i : ℕ) (xs : List HostState) → dirty_from maker i xs ≡ dirty_in maker i (map dirt xs)
dirty_map maker i [] = refl
dirty_map maker i (x ∷ xs) = ap (λ (o : Option ℕ). if not (i == maker) && nat_lt 0 (dirt x) then Some i else o) (dirty_map maker (i + 1) xs)

-- all calls but the making of a file system, which looks at dirty lines
abbrev pub IsNoMake : Call → Type 0
IsNoMake (call.Makes name request) = ⊥
IsNoMake c = ⊤

module _ (a b : Machines) (alike : map face a.hosts ≡ map face b.hosts) where
  place : (t : Face → Bool) → index_of (λ x. t (face x)) a.hosts ≡ index_of (λ x. t (face x)) b.hosts
  place t = index_map t 0 a.hosts ∙ ap (index_of t) alike ∙ sym (index_map t 0 b.hosts)

  pub number_same : (name : List ℕ) → number_of name a ≡ number_of name b
  number_same name = place (λ f. path_eq f.name name)

  pub engaged_place : index_of is_engaged a.hosts ≡ index_of is_engaged b.hosts
  engaged_place = place (λ f. f.busy || f.keeps)

  same_place : (name uuid : List ℕ) → index_of (is_same name uuid) a.hosts ≡ index_of (is_same name uuid) b.hosts
  same_place name uuid = place (λ f. path_eq f.name name || path_eq f.uuid uuid)

  at : (h : ℕ) → option_map face (slice_get a.hosts h) ≡ option_map face (slice_get b.hosts h)
  at h = sym (slice_get-map face a.hosts h) ∙ ap (λ (z : List Face). slice_get z h) alike ∙ slice_get-map face b.hosts h

  busy_same : (h : ℕ) → busy_at h a ≡ busy_at h b
  busy_same h = busy_face (slice_get a.hosts h) ∙ ap (shows (λ f. f.busy)) (at h) ∙ sym (busy_face (slice_get b.hosts h))

  kept_same : (h : ℕ) → keeps_at h a ≡ keeps_at h b
  kept_same h = kept_face (slice_get a.hosts h) ∙ ap (shows (λ f. f.keeps)) (at h) ∙ sym (kept_face (slice_get b.hosts h))

  count_same : length a.hosts ≡ length b.hosts
  count_same = sym (length-map a.hosts face) ∙ ap (λ (z : List Face). length z) alike ∙ length-map b.hosts face

  pub step_same : (name : List ℕ) → on_host (number_of name a) (λ h. idle_refusal h a) ≡ on_host (number_of name b) (λ h. idle_refusal h b)
  step_same name = simp (number_same name, busy_same)

  module _ (lines : length a.memory ≡ length b.memory) where
    pub may_same : (name : List ℕ) (mount : Bool) → on_host (number_of name a) (λ h. begins_refusal h mount a) ≡ on_host (number_of name b) (λ h. begins_refusal h mount b)
    may_same name mount = simp (number_same name, lines, busy_same, kept_same)

    pub refusal_looks : (c : Call) → IsNoMake c → refusal_of c a ≡ refusal_of c b
    unfolding refusal_of
    refusal_looks (call.Declares name uuid) other = simp (same_place name uuid, count_same)
    refusal_looks (call.Makes name request) other = absurd other
    refusal_looks (call.Begins name cmd) other = may_same name (is_mount cmd)
    refusal_looks (call.Umounts name) other = simp (number_same name, busy_same, kept_same)
    refusal_looks (call.Moves name line move) other = simp (number_same name, lines)
    refusal_looks (call.Refuses name cause) other = refl
    refusal_looks (call.Halts name) other = simp (number_same name)
    refusal_looks c other = step_same (call.asked_name c)

    pub refusal_same : map dirt a.hosts ≡ map dirt b.hosts → (c : Call) → refusal_of c a ≡ refusal_of c b
    unfolding refusal_of
    refusal_same dirts (call.Makes name request) = simp (number_same name, lines, engaged_place, dirty)
      where
        dirty : (h : ℕ) → dirty_from h 0 a.hosts ≡ dirty_from h 0 b.hosts
        dirty h = dirty_map h 0 a.hosts ∙ ap (dirty_in h 0) dirts ∙ sym (dirty_map h 0 b.hosts)
    refusal_same dirts c = refusal_looks c tt
