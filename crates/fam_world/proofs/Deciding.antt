-- The first refusal of a call, by the number of its host and what is known of that.
use Rattle.std.proofs.Common.{◌≡◌, ℕ, ◌*◌, List, length, map, Bool, false, Option, Some, None, refl, ap, subst}
use Rattle.std.specs.Prelude.{◌&&◌, is_some, slice_get, option_map, nat_le, nat_lt, not}
use Rattle.std.proofs.lemmas.List.{length-replicate}
use Rattle.std.proofs.lemmas.Option.{same_Some}
use Rattle.fam_base.specs.declared.cmd.Cmd.{Cmd}
use Rattle.fam_commands.specs.Classes.{is_mount}
use Rattle.fam_commands.specs.Kept.{Kept}
use Rattle.fam_commands.specs.Task.{Task}
use Rattle.fam_machine.specs.declared.request.MkfsRequest.{MkfsRequest}
use Rattle.fam_format.specs.Layout.{least_lines}
use Rattle.fam_format.specs.Stop.{or_else}
use Rattle.fam_rules.specs.Place.{line_bytes}
use Rattle.fam_machine.specs.HostMoves.{Move}
use Rattle.fam_machine.specs.Mkfs as early
use Rattle.fam_machine.specs.Mkfs.{EarlyRefusal, early_refusal}
use Rattle.fam_journal.specs.declared.refusal.Refusal.{Refusal}
use Rattle.fam_journal.specs.declared.refusal.Refusal.TheVariants as why
use Rattle.fam_journal.specs.Calls as call
use Rattle.fam_journal.specs.Calls.{Call, busy_refusal, cause_of, dirty_from, dirty_refusal, has_name, host_limit, is_busy, is_busy_host, is_engaged, is_kept_host, is_same, on_host, refusal_of, same_refusal, when}
use Rattle.fam_journal.specs.Ends.{cause_faults}
use Rattle.fam_journal.specs.Names.{NamesCause}
use Rattle.fam_journal.specs.Members.{index_of}
use Rattle.fam_journal.specs.Notes.{Note}
use Rattle.fam_journal.specs.View.{HostView, WorldView}
use Rattle.fam_journal.specs.ByWorld.{refusal_in, shown_host}
use Rattle.fam_world.specs.Answers.{IsRefused}
use Rattle.fam_world.specs.declared.hosts.Host.{Host}
use Rattle.fam_world.specs.View.{count_kept, host_view, shown_hosts, views}
use Rattle.fam_world.proofs.Members.{map_at}

-- why a command may not begin on host h, by what is known of the image, the host and the command
abbrev pub begins_by : (small busy mount kept : Bool) (lines h : ℕ) → Option Refusal
begins_by small busy mount kept lines h =
    or_else (when small (why.ImageSmall lines)) (or_else (when busy (why.Busy (record { 0 = h }))) (when (mount && kept) why.Mounted))

-- why host h can't forget what it keeps
abbrev pub umounts_by : (busy kept : Bool) (h : ℕ) → Option Refusal
umounts_by busy kept h = or_else (when busy (why.Busy (record { 0 = h }))) (when (not kept) why.NotMounted)

module _ (hosts : List HostView) (journal : List Note) (name : List ℕ) (lines : ℕ) (o : Option ℕ) (number : index_of (has_name name) (map shown_host hosts) ≡ o) where
  abbrev w : WorldView
  w = record { hosts = hosts; journal = journal }

  pub halts_first : refusal_in (call.Halts name) w lines ≡ on_host o (λ h. None)
  unfolding refusal_of
  halts_first = simp number

  pub steps_first : refusal_in (call.Steps name) w lines ≡ on_host o (λ h. when (not (is_busy_host (slice_get (map shown_host hosts) h))) why.Idle)
  unfolding refusal_of
  steps_first = simp number

  pub moves_first : (line : ℕ) (move : Move) → refusal_in (call.Moves name line move) w lines ≡ on_host o (λ h. when (nat_le lines line) (why.NoLine line lines))
  unfolding refusal_of
  moves_first line move = simp (number, length-replicate)

  pub begins_first : (cmd : Cmd) → refusal_in (call.Begins name cmd) w lines
      ≡ on_host o (λ h. begins_by (nat_lt lines least_lines) (is_busy_host (slice_get (map shown_host hosts) h)) (is_mount cmd) (is_kept_host (slice_get (map shown_host hosts) h)) lines h)
  unfolding refusal_of
  begins_first cmd = simp (number, length-replicate)

  pub umounts_first : refusal_in (call.Umounts name) w lines
      ≡ on_host o (λ h. umounts_by (is_busy_host (slice_get (map shown_host hosts) h)) (is_kept_host (slice_get (map shown_host hosts) h)) h)
  unfolding refusal_of
  umounts_first = simp number

  pub makes_first : (request : MkfsRequest) → refusal_in (call.Makes name request) w lines
      ≡ on_host o (λ h. or_else (option_map cause_of (early_refusal request.unit request.log (line_bytes * lines)))
      (or_else (busy_refusal (index_of is_engaged (map shown_host hosts))) (dirty_refusal (dirty_from h 0 (map shown_host hosts)))))
  unfolding refusal_of
  makes_first request = simp (number, length-replicate)

pub declares_first : (hosts : List HostView) (journal : List Note) (name uuid : List ℕ) (lines : ℕ) (o : Option ℕ) → index_of (is_same name uuid) (map shown_host hosts) ≡ o
    → refusal_in (call.Declares name uuid) (record { hosts = hosts; journal = journal }) lines ≡ or_else (same_refusal o) (when (nat_le host_limit (length (map shown_host hosts))) why.TooManyHosts)
unfolding refusal_of
declares_first hosts journal name uuid lines o is = simp is

-- of the numbers alone: no host is named, and memory wasn't asked
pub early_known : (n : ℕ) (o : Option EarlyRefusal) (cause : Refusal) → option_map cause_of o ≡ Some cause → NamesCause n cause × (cause_faults cause ≡ 0)
early_known n None cause is = absurd cc
early_known n (Some (early.BadGeometry unit log)) cause is = subst (λ (k : Refusal). NamesCause n k × (cause_faults k ≡ 0)) (same_Some (why.BadGeometry unit log) cause is) (tt, refl)
early_known n (Some (early.TooSmall needed have)) cause is = subst (λ (k : Refusal). NamesCause n k × (cause_faults k ≡ 0)) (same_Some (why.TooSmall needed have) cause is) (tt, refl)

-- who is busy, by the host itself
pub busy_read : (items : List Host) (at : ℕ) (x : Host) → slice_get items at ≡ Some x → is_busy_host (slice_get (shown_hosts items) at) ≡ is_busy (shown_host (host_view x))
busy_read items at x is = ap is_busy_host (map_at shown_host (views items) at (host_view x) (map_at host_view items at x is))

-- who keeps something
pub kept_read : (items : List Host) (at : ℕ) (x : Host) → slice_get items at ≡ Some x → is_kept_host (slice_get (shown_hosts items) at) ≡ is_some (host_view x).kept
kept_read items at x is = ap is_kept_host (map_at shown_host (views items) at (host_view x) (map_at host_view items at x is))

-- a host that has no task
pub idle_none : (task : Option Task) → is_some task ≡ false → task ≡ None
idle_none None is = refl
idle_none (Some task) is = absurd cc

-- as many entries are kept, or none
pub some_counted : (kept : Option Kept) → is_some (count_kept kept) ≡ is_some kept
some_counted None = refl
some_counted (Some kept) = refl

-- nobody has the name
pub nobody : (c : Call) (lines : ℕ) (world : WorldView) → refusal_in c world lines ≡ Some why.NoHost → IsRefused c lines world why.NoHost
nobody c lines world first = record { first = first; plain = tt; named = tt; faultless = refl }
