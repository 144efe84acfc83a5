-- A command that runs alone is a way with one host.
use Rattle.std.proofs.Common.{ℕ, zero, suc, ◌≡◌, ◌≢◌, ◌*◌, ◌≤◌, Bool, true, false, List, length, Option, Some, None, inl, inr, refl, sym, ◌∙◌, ap, subst, arith}
use Rattle.std.specs.Prelude.{nat_lt, if◌then◌else◌}
use Rattle.std.proofs.lemmas.Bool.Decides.{nat_tests}
use Rattle.std.proofs.lemmas.Option.{same_Some}
use Rattle.fam_base.specs.declared.cmd.Cmd.{Cmd}
use Rattle.fam_base.specs.Image.{Image, line_at}
use Rattle.fam_format.specs.Layout.{device_limit, least_lines}
use Rattle.fam_format.specs.Reading.{reading_of}
use Rattle.fam_machine.specs.declared.cell.Cell.{Cell}
use Rattle.fam_machine.specs.declared.cell.Cell.TheVariants.{Absent}
use Rattle.fam_machine.specs.Caches.{Cache, IsClean, IsCleanCell, cell_at}
use Rattle.fam_machine.specs.Operations.{Machine, operated, IsInImage}
use Rattle.fam_commands.specs.Keeping.{kept_after}
use Rattle.fam_commands.specs.Kept.{Kept}
use Rattle.fam_commands.specs.Solo.{turn_on}
use Rattle.fam_commands.specs.Stands.{turn_given}
use Rattle.fam_commands.specs.Task.{Task, mounted, op_of}
use Rattle.fam_commands.specs.Turns.{Turn}
use Rattle.fam_rules.specs.Place.{line_bytes}
use Rattle.fam_protocol.specs.SharedState.{SharedState}
use Rattle.fam_protocol.specs.Hosted.{ActsAs}
use Rattle.fam_protocol.specs.Tasks.{IsCommand}
use Rattle.fam_protocol.proofs.Hosts.Acts.{operates_by}
use Rattle.fam_protocol.specs.After.{Named, Run}
use Rattle.fam_protocol.specs.Invariant.{AreHosts, Hosts, KeepFronts, KeepsFront, Owner, Rests, Settled, Small, Invariant, shared_with, settled_at_first, settled_by}
use Rattle.fam_protocol.specs.Events.{Starts}
use Rattle.fam_protocol.specs.Steps.{TurnSays, Steps, run_after, settled_count, turn_settles}
use Rattle.fam_solo.proofs.Machine.{same_turn, word_of}
use Rattle.fam_protocol.proofs.Hosts.Begins.{begins_with, nothing_kept}
use Rattle.fam_protocol.proofs.Hosts.Events.{one_or_two, invariant_begun}
use Rattle.fam_protocol.proofs.Hosts.Steps.{invariant_stepped}

-- Host 0, and no other.

-- what host 0 has
abbrev pub only : {X : Type 0} → X → X → ℕ → X
only one none zero = one
only one none (suc h) = none

-- the machine, with its cache as host 0's
abbrev pub shared : Machine → SharedState
shared m = record { memory = line_at m.image; copy = λ h l. only (cell_at m.cache l) Absent h }

abbrev pub hosts_of : Option Kept → List ℕ → Option Run → Hosts
hosts_of kept me run = record { uuid = only (Some me) None; run = only run None; kept = only kept None }

-- a task of host 0
abbrev pub run_of : Task → Option ℕ → Option Named → Run
run_of t floor named = record { task = t; floor = floor; named = named }

-- An operation.

-- no other host has a cache
acts : (m m' : Machine) → ActsAs 0 m m' (shared m) (shared m')
acts m m' = record { before = record { memory = λ l. refl; copies = λ l. refl }; after = record { memory = λ l. refl; copies = λ l. refl }; others = elsewhere }
  where
    elsewhere : (h l : ℕ) → h ≢ 0 → only (cell_at m'.cache l) Absent h ≡ only (cell_at m.cache l) Absent h
    elsewhere zero l other = absurd (other refl)
    elsewhere (suc h) l other = refl

-- what comes of it
pub record Stepped (kept : Option Kept) (settled : Settled) (lines : ℕ) (me : List ℕ) (r : Run) (turn : Turn) (m : Machine) : Type 0 where
  pub says : TurnSays turn r settled lines (hosts_of kept me (Some r))
  pub invariant : Invariant (turn_settles turn settled) lines (hosts_of (kept_after turn r.task kept) me (run_after turn (settled_count settled) r)) (shared m)

module _ (kept : Option Kept) (settled : Settled) (lines : ℕ) (me : List ℕ) (r : Run) (m : Machine)
    (invariant : Invariant settled lines (hosts_of kept me (Some r)) (shared m)) (inside : IsInImage (op_of r.task) m) where
  others_alike : {X : Type 0} (none x y : X) (h : ℕ) → h ≢ 0 → only x none h ≡ only y none h
  others_alike none x y zero other = absurd (other refl)
  others_alike none x y (suc h) other = refl

  step : (turn : Turn) → turn_given r.task (word_of r.task m) ≡ turn
      → Steps 0 (word_of r.task m) settled r (hosts_of kept me (Some r))
      (hosts_of (kept_after turn r.task kept) me (run_after turn (settled_count settled) r)) (shared m) (shared (operated (op_of r.task) m))
  step turn is = record {
    is = refl;
    operates = operates_by 0 m (shared m) (shared (operated (op_of r.task) m)) (op_of r.task) (acts m (operated (op_of r.task) m)) invariant.wide inside;
    uuids = λ h. refl;
    mine = ap (λ (x : Turn). run_after x (settled_count settled) r) (sym is);
    runs = λ h other. others_alike None (run_after turn (settled_count settled) r) (Some r) h other;
    keeps = ap (λ (x : Turn). kept_after x r.task kept) (sym is);
    kept = λ h other. others_alike None (kept_after turn r.task kept) kept h other;
  }

  by_turn : (turn : Turn) → turn_given r.task (word_of r.task m) ≡ turn → Stepped kept settled lines me r turn (operated (op_of r.task) m)
  by_turn turn is =
      let held = invariant_stepped lines 0 (word_of r.task m) settled r (hosts_of kept me (Some r))
      (hosts_of (kept_after turn r.task kept) me (run_after turn (settled_count settled) r)) (shared m)
      (shared (operated (op_of r.task) m)) invariant (step turn is) in
      record {
        says = subst (λ (x : Turn). TurnSays x r settled lines (hosts_of kept me (Some r))) is held.says;
        invariant = subst (λ (x : Turn). Invariant (turn_settles x settled) lines
            (hosts_of (kept_after turn r.task kept) me (run_after turn (settled_count settled) r)) (shared (operated (op_of r.task) m))) is
            held.invariant;
      }

  pub stepped : Stepped kept settled lines me r (turn_on r.task m) (operated (op_of r.task) m)
  stepped = by_turn (turn_on r.task m) (same_turn r.task m)

-- The beginning.

-- host 0 alone, with its cache, and no task
module _ (kept : Option Kept) (me : List ℕ) (image : Image) (cache : Cache) (clean : IsClean cache) where
  copies : ℕ → ℕ → Cell
  copies h l = only (cell_at cache l) Absent h

  clean_copies : (h l : ℕ) → IsCleanCell (copies h l)
  unfolding copies
  clean_copies zero l = clean l
  clean_copies (suc h) l = tt

  -- who has a UUID
  owner : (id : List ℕ) → Owner (hosts_of kept me None) id
  owner id = elim (one_or_two me id) [
    | inl same ↦ record { host = Some 0; is = λ h zeroth. is_host h same (same_Some 0 h zeroth); only = λ h named. ap Some (sym (at_zero h id named)) }
    | inr other ↦ record { host = None; is = λ h none. absurd (cc); only = λ h named. absurd (other (has_me h id named)) }
  ]
    where
      is_host : (h : ℕ) → me ≡ id → 0 ≡ h → only (Some me) None h ≡ Some id
      is_host h same zeroth = ap (only (Some me) None) (sym zeroth) ∙ ap Some same

      at_zero : (h : ℕ) (id : List ℕ) → only (Some me) None h ≡ Some id → h ≡ 0
      at_zero zero id named = refl
      at_zero (suc h) id named = absurd (cc)

      has_me : (h : ℕ) (id : List ℕ) → only (Some me) None h ≡ Some id → me ≡ id
      has_me zero id named = same_Some me id named
      has_me (suc h) id named = absurd (cc)

  declared : AreHosts (hosts_of kept me None) (shared_with image copies)
  unfolding copies
  declared = record { apart = apart; absent = absent; idle = idle; bare = bare }
    where
      apart : (h k : ℕ) (id : List ℕ) → only (Some me) None h ≡ Some id → only (Some me) None k ≡ Some id → h ≡ k
      apart zero zero id one other = refl
      apart zero (suc k) id one other = absurd (cc)
      apart (suc h) k id one other = absurd (cc)

      absent : (h l : ℕ) → only (Some me) None h ≡ None → only (cell_at cache l) Absent h ≡ Absent
      absent zero l none = absurd (cc)
      absent (suc h) l none = refl

      idle : (h : ℕ) → only (Some me) None h ≡ None → only {X = Option Run} None None h ≡ None
      idle zero none = refl
      idle (suc h) none = refl

      bare : (h : ℕ) → only (Some me) None h ≡ None → only kept None h ≡ None
      bare zero none = absurd (cc)
      bare (suc h) none = refl

  all_idle : (h : ℕ) → (hosts_of kept me None).run h ≡ None
  all_idle zero = refl
  all_idle (suc h) = refl

  -- what it keeps is a front where that of host 0 is one
  pub keep_alone : (settled : Settled) → KeepsFront settled kept → KeepFronts settled (hosts_of kept me None)
  keep_alone settled front zero = front
  keep_alone settled front (suc h) = nothing_kept settled

  pub rests_alone : Rests (hosts_of kept me None) (shared (record { image = image; cache = cache }))
  unfolding copies
  rests_alone = record { declared = declared; owner = owner; idle = all_idle; clean = clean_copies }

-- what an image settles at first
pub first_settled : (image : Image) → least_lines ≤ length image → settled_at_first image ≡ settled_by (line_at image) (reading_of (line_at image) (line_bytes * length image))
first_settled image enough = by_test (nat_lt (length image) least_lines) refl
  where
    by_test : (b : Bool) → nat_lt (length image) least_lines ≡ b
        → (if b then Small (line_at image) else settled_by (line_at image) (reading_of (line_at image) (line_bytes * length image)))
        ≡ settled_by (line_at image) (reading_of (line_at image) (line_bytes * length image))
    by_test true is = absurd (grind (arith, nat_tests))
    by_test false is = refl

module _ (kept : Option Kept) (cmd : Cmd) (me : List ℕ) (image : Image) (cache : Cache) (enough : least_lines ≤ length image)
    (limit : line_bytes * length image ≤ device_limit) (clean : IsClean cache) (command : IsCommand cmd)
    (front : KeepsFront (settled_at_first image) kept) where
  starts : Starts 0 cmd (length image) (hosts_of kept me None) (hosts_of kept me (Some (run_of (mounted kept cmd me (length image)) None None)))
  starts = record {
    me = me;
    declared = refl;
    command = command;
    is = refl;
    uuids = λ h. refl;
    runs = λ h other. runs h other;
    kept = λ h. refl;
  }
    where
      runs : (h : ℕ) → h ≢ 0 → only (Some (run_of (mounted kept cmd me (length image)) None None)) None h ≡ only {X = Option Run} None None h
      runs zero other = absurd (other refl)
      runs (suc h) other = refl

  -- the host's cache has nothing to send
  pub invariant_first : Invariant (settled_by (line_at image) (reading_of (line_at image) (line_bytes * length image))) (length image)
      (hosts_of kept me (Some (run_of (mounted kept cmd me (length image)) None None))) (shared (record { image = image; cache = cache }))
  invariant_first =
      subst (λ (x : Settled). Invariant x (length image) (hosts_of kept me (Some (run_of (mounted kept cmd me (length image)) None None)))
      (shared (record { image = image; cache = cache }))) (first_settled image enough)
      (invariant_begun (settled_at_first image) (length image) 0 (hosts_of kept me None)
      (hosts_of kept me (Some (run_of (mounted kept cmd me (length image)) None None))) (shared (record { image = image; cache = cache })) cmd
      enough
      (begins_with image limit (hosts_of kept me None) (λ h l. only (cell_at cache l) Absent h) (rests_alone kept me image cache clean)
      (keep_alone kept me image cache clean (settled_at_first image) front)) starts)
