-- Between whole commands what is settled is what the image reads as.
use Rattle.std.proofs.Common.{◌≡◌, ℕ, ◌*◌, ◌≤◌, Bool, true, false, List, length, Option, Some, None, refl, ap, sym, ◌∙◌, subst, arith}
use Rattle.std.specs.Prelude.{nat_lt, if◌then◌else◌, slice_get}
use Rattle.std.proofs.lemmas.Bool.Decides.{Decides-eqb}
use Rattle.std.proofs.lemmas.Option.{same_Some}
use Rattle.std.specs.Cmp.Lexicographic.{pointwise_decides}
use Rattle.fam_base.specs.declared.entry.Params.{Params}
use Rattle.fam_base.specs.Image.{Image, line_at}
use Rattle.fam_base.specs.PathOrder.{path_eq}
use Rattle.fam_format.specs.declared.faults.SuperFault.{SuperFault}
use Rattle.fam_format.specs.declared.faults.SuperFault.TheVariants as super
use Rattle.fam_format.specs.Layout.{device_limit, least_lines}
use Rattle.fam_format.specs.Reading as read
use Rattle.fam_format.specs.Reading.{Reading, reading}
use Rattle.fam_machine.specs.Caches.{IsClean, IsCleanCell}
use Rattle.fam_commands.specs.Kept.{IsKept, Kept}
use Rattle.fam_commands.specs.Task.{Task}
use Rattle.fam_rules.specs.Asks.{File}
use Rattle.fam_rules.specs.Place.{line_bytes}
use Rattle.fam_protocol.specs.Invariant.{Damaged, Hosts, InvariantBy, KeepFronts, KeepsFront, Known, Owner, Invariant, Settled, Small, settled_at_first}
use Rattle.fam_protocol.specs.Invariant as invariant
use Rattle.fam_protocol.proofs.Hosts.Resting.{rests_settled}
use Rattle.fam_journal.specs.View.{HostView, HostStandsAt, TaskStands}
use Rattle.fam_journal.specs.Kept.{IfHalted, IsCleared, Reached, copy_at, hosts_of, kept_at, run_at, run_with, settled_bad, shared_of, settled_of, uuid_at}
use Rattle.fam_journal.specs.Machines.{HostState, Machines, TaskState}
use Rattle.fam_journal.specs.Members.{index_of}
use Rattle.fam_journal.specs.Notes.{Note}
use Rattle.fam_journal.specs.Past as past
use Rattle.fam_journal.specs.Past.{FewLines, State, Bad, Sound, first_state, past_of, state_read, Given, Halted}
use Rattle.fam_journal.proofs.Settled.BadStates.{bad_own}
use Rattle.fam_journal.proofs.Calls.Begin.{settled_first}
use Rattle.fam_journal.proofs.Calls.Declares.{none_passes}
use Rattle.fam_journal.proofs.Runs.Following.{declared_at}
use Rattle.fam_journal.proofs.Runs.Left.{held_reads}
use Rattle.fam_journal.proofs.Calls.Stepped.{find_host}
use Rattle.fam_journal.proofs.Calls.WorldRows.{place_found}
use Rattle.fam_journal.specs.Ends.{ReadsAs}
use Rattle.fam_whole.specs.Whole.{HasNothingPending, IsStateOf}
use Rattle.fam_whole.proofs.Folds.{first_sure}

-- no host has a task, and no cache has anything to send
pub record HostRests (host : HostState) : Type 0 where
  pub clean : IsClean host.cache
  pub idle : host.task ≡ None

abbrev pub Rested : Machines → Type 0
Rested s = (k : ℕ) (host : HostState) → slice_get s.hosts k ≡ Some host → HostRests host

module _ (start : Image) (s : Machines) (journal : List Note) (kept : Reached start s journal) (rests : Rested s) where
  abbrev hosts : Hosts
  hosts = hosts_of kept.views (past_of start journal).hosts

  view_rests : (k : ℕ) (v : HostView) → slice_get kept.views k ≡ Some v → IsClean v.cache × (v.task ≡ None)
  view_rests k v is =
      let host = find_host (length start) v (slice_get s.hosts k) (subst (λ (o : Option HostView). HostStandsAt (length start) (slice_get s.hosts k) o) is (kept.held.stands k)) in
      let at = rests k host.0 host.1 in
      (subst IsClean host.2.cache at.clean, none v.task (subst (λ (o : Option TaskState). TaskStands (length start) o v.task) at.idle host.2.task))
    where
      none : (o : Option Task) → TaskStands (length start) None o → o ≡ None
      none None stands = refl
      none (Some t) stands = absurd stands

  idle : (h : ℕ) → hosts.run h ≡ None
  idle h = by_view (slice_get kept.views h) refl
    where
      by_view : (o : Option HostView) → slice_get kept.views h ≡ o → run_at o (slice_get (past_of start journal).hosts h) ≡ None
      by_view None is = refl
      by_view (Some v) is = ap (λ (t : Option Task). run_with t (slice_get (past_of start journal).hosts h)) (view_rests h v is).1

  clean : (h l : ℕ) → IsCleanCell (copy_at (slice_get kept.views h) l)
  clean h l = by_view (slice_get kept.views h) refl
    where
      by_view : (o : Option HostView) → slice_get kept.views h ≡ o → IsCleanCell (copy_at o l)
      by_view None is = tt
      by_view (Some v) is = (view_rests h v is).0 l

  -- who has a UUID
  abbrev has : List ℕ → HostView → Bool
  has id v = path_eq v.uuid id

  owner_is : (id : List ℕ) (h : ℕ) → index_of (has id) kept.views ≡ Some h → hosts.uuid h ≡ Some id
  owner_is id h is =
      let at = place_found (has id) kept.views 0 h is in
      let here : at.k ≡ h = (let same = at.at in omega (arith, same)) in
      subst (λ (n : ℕ). uuid_at (slice_get kept.views n) ≡ Some id) here
      (ap uuid_at at.is ∙ ap Some ((pointwise_decides Decides-eqb at.x.uuid id).0 at.passes))

  owner_only : (id : List ℕ) (h : ℕ) → hosts.uuid h ≡ Some id → index_of (has id) kept.views ≡ Some h
  owner_only id h is = by_phase (index_of (has id) kept.views) refl
    where
      by_view : (o : Option HostView) → slice_get kept.views h ≡ o → uuid_at o ≡ Some id → index_of (has id) kept.views ≡ None → ⊥
      by_view None at e none = absurd cc
      by_view (Some v) at e none =
          absurd (let no : path_eq v.uuid id ≡ false = none_passes (has id) kept.views 0 none h v at in
          let yes : path_eq v.uuid id ≡ true = (pointwise_decides Decides-eqb v.uuid id).1 (same_Some v.uuid id e) in cc)

      by_phase : (o : Option ℕ) → index_of (has id) kept.views ≡ o → o ≡ Some h
      by_phase None none = absurd (by_view (slice_get kept.views h) refl is none)
      by_phase (Some k) found = ap Some (kept.held.invariant.declared.apart k h id (owner_is id k found) is)

  owner : (id : List ℕ) → Owner hosts id
  owner id = record { host = index_of (has id) kept.views; is = owner_is id; only = owner_only id }

  at_rest : invariant.Rests hosts (shared_of s.memory kept.views)
  at_rest = record { declared = kept.held.invariant.declared; owner = owner; idle = idle; clean = clean }

  lines : length s.memory ≡ length start
  lines = kept.held.lines

  known_here : (p : Params) (history : List File) → (past_of start journal).state ≡ Sound p history None → settled_at_first s.memory ≡ Known p history (length history)
  known_here p history is =
      rests_settled s.memory hosts (λ h l. copy_at (slice_get kept.views h) l) p history
      (subst (λ (n : ℕ). line_bytes * n ≤ device_limit) (sym lines) kept.held.limit) at_rest
      (subst (λ (n : ℕ). Invariant (Known p history (length history)) n hosts (shared_of s.memory kept.views)) (sym lines)
      (subst (λ (z : State). Invariant (settled_of z (line_at s.memory)) (length start) hosts (shared_of s.memory kept.views)) is kept.held.invariant))

  first_is : (p : Params) (history : List File) (z : State) → HasNothingPending z → settled_of z (line_at s.memory) ≡ Known p history (length history) → Sound p history None ≡ z
  first_is p history (Bad own (FewLines n) gate) sure is = absurd cc
  first_is p history (Bad own (past.NoSuperblock fault) gate) sure is = absurd cc
  first_is p history (Bad own (past.BadHeader fault) gate) sure is = absurd cc
  first_is p history (Bad own (past.BadSlot i reason) gate) sure is = absurd cc
  first_is p history (Sound q other None) sure is = cc
  first_is p history (Sound q other (Some f)) sure is = absurd cc

  -- what is settled is what the image reads as
  state_is : (z : State) → (past_of start journal).state ≡ z → HasNothingPending z → IsStateOf z s.memory
  state_is (Bad Halted damage gate) is sure =
      let cleared : IsCleared damage (line_at s.memory) = subst (λ (z : State). IfHalted z (line_at s.memory)) is kept.held.halted in
      (cleared.damage_is, subst (λ (z : State). ReadsAs z s.memory) is (held_reads start s (record { hosts = kept.views; journal = journal }) s.memory kept.held))
  state_is (Bad (Given own) damage gate) is sure =
      let left : s.memory ≡ own = subst (λ (z : State). ReadsAs z s.memory) is (held_reads start s (record { hosts = kept.views; journal = journal }) s.memory kept.held) in
      sym (bad_own start own damage gate journal is).reads ∙ ap first_state (sym left)
  state_is (Sound p history (Some f)) is sure = absurd cc
  state_is (Sound p history None) is sure = first_is p history (first_state s.memory) (first_sure s.memory) (settled_first s.memory ∙ known_here p history is)

  pub rest_state : HasNothingPending (past_of start journal).state → IsStateOf (past_of start journal).state s.memory
  rest_state sure = state_is (past_of start journal).state refl sure

  -- What a host keeps is a front of what the image reads as.

  front_by : (settled : Settled) → InvariantBy settled (length start) hosts (shared_of s.memory kept.views) → KeepFronts settled hosts
  front_by (Small image) is = is.bare
  front_by (Damaged image) is = is.bare
  front_by (Known p all settled) is = is.kept

  -- of an image without a superblock nothing is kept
  bare_first : (fault : SuperFault) (one : Option Kept) → reading s.memory ≡ read.NoSuperblock fault → one ≡ None → KeepsFront (settled_at_first s.memory) one
  bare_first fault one is none = subst (λ (z : Settled). KeepsFront z one) (settled_first s.memory) (go (nat_lt (length s.memory) least_lines))
    where
      go : (few : Bool) → KeepsFront (settled_of (if few then Bad (Given s.memory) (FewLines (length s.memory)) 0 else state_read s.memory (reading s.memory)) (line_at s.memory)) one
      go true = none
      go false = subst (λ (r : Reading). KeepsFront (settled_of (state_read s.memory r) (line_at s.memory)) one) (sym is) none

  front_first : (z : State) (one : Option Kept) → IsStateOf z s.memory → KeepsFront (settled_of z (line_at s.memory)) one → KeepsFront (settled_at_first s.memory) one
  front_first (Bad Halted damage gate) one is front =
      bare_first (super.NoSuper 0) one is.1 (subst (λ (d : past.Damage). KeepsFront (settled_bad (line_at s.memory) d) one) is.0 front)
  front_first (Bad (Given own) damage gate) one is front = subst (λ (z : Settled). KeepsFront z one) (ap (λ (z : State). settled_of z (line_at s.memory)) is ∙ settled_first s.memory) front
  front_first (Sound p history pending) one is front = subst (λ (z : Settled). KeepsFront z one) (ap (λ (z : State). settled_of z (line_at s.memory)) is ∙ settled_first s.memory) front

  pub keeps_front : HasNothingPending (past_of start journal).state → (h : ℕ) (host : HostState) → slice_get s.hosts h ≡ Some host → KeepsFront (settled_at_first s.memory) host.kept
  keeps_front sure h host is =
      let d = declared_at start s journal kept h host is in
      let same : d.view.kept ≡ host.kept = sym d.stands.kept ∙ ap (λ (z : HostState). z.kept) (same_Some d.host host (sym d.host_is ∙ is)) in
      front_first (past_of start journal).state host.kept (rest_state sure)
      (subst (KeepsFront (settled_of (past_of start journal).state (line_at s.memory))) (ap kept_at d.view_is ∙ same)
      (front_by (settled_of (past_of start journal).state (line_at s.memory)) kept.held.invariant.stage h))

  pub keeps_joined : (h : ℕ) (host : HostState) → slice_get s.hosts h ≡ Some host → IsKept host.kept
  keeps_joined h host is =
      let d = declared_at start s journal kept h host is in
      subst IsKept (sym d.stands.kept ∙ ap (λ (z : HostState). z.kept) (same_Some d.host host (sym d.host_is ∙ is))) d.stands.joined
