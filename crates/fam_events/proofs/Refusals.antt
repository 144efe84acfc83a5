-- What a call that takes no media notes: it names declared hosts, and tells no fault.
use Rattle.std.proofs.Common.{◌≡◌, ◌⊎◌, ℕ, ◌+◌, ◌<◌, inl, inr, Bool, true, false, List, [], ◌∷◌, ◌++◌, length, Option, Some, None, refl, sym, subst, arith}
use Rattle.std.specs.Prelude.{⊤, ◌&&◌, nat_le, nat_lt, not, if◌then◌else◌}
use Rattle.std.proofs.lemmas.List.{append-nil, length-map}
use Rattle.std.proofs.lemmas.Option.{same_Some}
use Rattle.fam_base.specs.declared.cmd.Cmd.{Cmd}
use Rattle.fam_commands.specs.Classes.{is_mount}
use Rattle.fam_format.specs.Layout.{least_lines}
use Rattle.fam_format.specs.Stop.{or_else}
use Rattle.fam_journal.specs.declared.refusal.Refusal.{Refusal}
use Rattle.fam_journal.specs.declared.refusal.Refusal.TheVariants as why
use Rattle.fam_journal.specs.Calls as call
use Rattle.fam_journal.specs.Calls.{Call, IsOfSource, begins_refusal, busy_at, has_name, keeps_at, umounts_refusal, host_limit, idle_refusal, is_same, asked_name, number_of, on_host, refusal_of, same_refusal, when}
use Rattle.fam_journal.specs.Ends.{cause_faults, faults_of}
use Rattle.fam_journal.specs.Machines.{Machines}
use Rattle.fam_journal.specs.Members.{index_from, index_of}
use Rattle.fam_journal.specs.Names.{AreNamed, NamesCause}
use Rattle.fam_journal.specs.Notes.{Note, Host, Start, Stop, Halt, Umount, Refused}
use Rattle.fam_journal.specs.View.{HostView, WorldView}
use Rattle.fam_journal.specs.ByWorld.{TakesNoMedia, acted, acted_by, number_in, refusal_in, shown_host, shown_state, with_host, world_after}

-- a place in a list
pub index_below : {A : Type 0} (test : A → Bool) (xs : List A) (i h : ℕ) → index_from i test xs ≡ Some h → h < i + length xs
index_below test [] i h is = absurd cc
index_below test (x ∷ xs) i h is = by_test (test x) is (λ e. index_below test xs (i + 1) h e)
  where
    by_test : (t : Bool) → (if t then Some i else index_from (i + 1) test xs) ≡ Some h → (index_from (i + 1) test xs ≡ Some h → h < i + 1 + length xs) → h < i + length (x ∷ xs)
    by_test true e rest = let here : i ≡ h = same_Some i h e in omega (arith, here)
    by_test false e rest = let below = rest e in omega (arith, below)

-- a cause is the world's own: it names one of so many hosts, and is no fault
pub record IsOwn (n : ℕ) (cause : Refusal) : Type 0 where
  pub named : NamesCause n cause
  pub faultless : cause_faults cause ≡ 0

abbrev IfCause : ℕ → Option Refusal → Type 0
IfCause n None = ⊤
IfCause n (Some cause) = IsOwn n cause

own_or : (n : ℕ) (a b : Option Refusal) → IfCause n a → IfCause n b → IfCause n (or_else a b)
own_or n None b na nb = nb
own_or n (Some cause) b na nb = na

own_when : (n : ℕ) (t : Bool) (cause : Refusal) → IsOwn n cause → IfCause n (when t cause)
own_when n true cause is = is
own_when n false cause is = tt

own_same : (n : ℕ) (o : Option ℕ) → ((h : ℕ) → o ≡ Some h → h < n) → IfCause n (same_refusal o)
own_same n None below = tt
own_same n (Some h) below = record { named = below h refl; faultless = refl }

own_on : (n : ℕ) (o : Option ℕ) (f : ℕ → Option Refusal) → ((h : ℕ) → o ≡ Some h → IfCause n (f h)) → IfCause n (on_host o f)
own_on n None f each = record { named = tt; faultless = refl }
own_on n (Some h) f each = each h refl

own_of : (n : ℕ) (o : Option Refusal) (cause : Refusal) → IfCause n o → o ≡ Some cause → IsOwn n cause
own_of n None cause own is = absurd cc
own_of n (Some own) cause is e = subst (IsOwn n) (same_Some own cause e) is

-- calls that look at hosts alone
abbrev pub TakesHostsAlone : Call → Type 0
TakesHostsAlone (call.Declares name uuid) = ⊤
TakesHostsAlone (call.Makes name request) = ⊥
TakesHostsAlone (call.Begins name cmd) = ⊤
TakesHostsAlone (call.Steps name) = ⊤
TakesHostsAlone (call.Finishes name) = ⊥
TakesHostsAlone (call.Stops name) = ⊤
TakesHostsAlone (call.Halts name) = ⊤
TakesHostsAlone (call.Umounts name) = ⊤
TakesHostsAlone (call.Moves name line move) = ⊥
TakesHostsAlone (call.Refuses name cause) = ⊤

module _ (m : Machines) where
  abbrev count : ℕ
  count = length m.hosts

  number_within : (name : List ℕ) (h : ℕ) → number_of name m ≡ Some h → h < count
  number_within name h is = let below = index_below (has_name name) m.hosts 0 h is in omega (arith, below)

  idle_own : (name : List ℕ) → IfCause count (on_host (number_of name m) (λ h. idle_refusal h m))
  idle_own name = own_on count (number_of name m) (λ h. idle_refusal h m) (λ h is. own_when count (not (busy_at h m)) why.Idle record { named = tt; faultless = refl })

  first_own : (c : Call) → TakesHostsAlone c → IfCause count (refusal_of c m)
  unfolding refusal_of
  first_own (call.Declares name uuid) quiet =
      own_or count (same_refusal (index_of (is_same name uuid) m.hosts)) (when (nat_le host_limit count) why.TooManyHosts)
      (own_same count (index_of (is_same name uuid) m.hosts) (λ h is. let below = index_below (is_same name uuid) m.hosts 0 h is in omega (arith, below)))
      (own_when count (nat_le host_limit count) why.TooManyHosts record { named = tt; faultless = refl })
  first_own (call.Makes name request) quiet = absurd quiet
  first_own (call.Begins name cmd) quiet =
      own_on count (number_of name m) (λ h. begins_refusal h (is_mount cmd) m) (λ h is.
      own_or count (when (nat_lt (length m.memory) least_lines) (why.ImageSmall (length m.memory)))
      (or_else (when (busy_at h m) (why.Busy (record { 0 = h }))) (when (is_mount cmd && keeps_at h m) why.Mounted))
      (own_when count (nat_lt (length m.memory) least_lines) (why.ImageSmall (length m.memory)) record { named = tt; faultless = refl })
      (own_or count (when (busy_at h m) (why.Busy (record { 0 = h }))) (when (is_mount cmd && keeps_at h m) why.Mounted)
      (own_when count (busy_at h m) (why.Busy (record { 0 = h })) record { named = number_within name h is; faultless = refl })
      (own_when count (is_mount cmd && keeps_at h m) why.Mounted record { named = tt; faultless = refl })))
  first_own (call.Steps name) quiet = idle_own name
  first_own (call.Finishes name) quiet = absurd quiet
  first_own (call.Stops name) quiet = idle_own name
  first_own (call.Halts name) quiet = own_on count (number_of name m) (λ h. None) (λ h is. none)
    where
      none : IfCause count None
      none = tt
  first_own (call.Umounts name) quiet =
      own_on count (number_of name m) (λ h. umounts_refusal h m) (λ h is.
      own_or count (when (busy_at h m) (why.Busy (record { 0 = h }))) (when (not (keeps_at h m)) why.NotMounted)
      (own_when count (busy_at h m) (why.Busy (record { 0 = h })) record { named = number_within name h is; faultless = refl })
      (own_when count (not (keeps_at h m)) why.NotMounted record { named = tt; faultless = refl }))
  first_own (call.Moves name line move) quiet = absurd quiet
  first_own (call.Refuses name cause) quiet = none
    where
      none : IfCause count None
      none = tt

  own_first : (c : Call) → TakesHostsAlone c → (cause : Refusal) → refusal_of c m ≡ Some cause → IsOwn count cause
  own_first c quiet cause is = own_of count (refusal_of c m) cause (first_own c quiet) is

module _ (lines : ℕ) (old : WorldView) where
  count_shown : length (shown_state old lines).hosts ≡ length old.hosts
  count_shown = length-map old.hosts shown_host

  -- the first refusal of a world is its own
  pub world_own : (c : Call) → TakesHostsAlone c → (cause : Refusal) → refusal_in c old lines ≡ Some cause → IsOwn (length old.hosts) cause
  world_own c quiet cause is = subst (λ (n : ℕ). IsOwn n cause) count_shown (own_first (shown_state old lines) c quiet cause is)

  pub number_below : (name : List ℕ) (h : ℕ) → number_in name old ≡ Some h → h < length old.hosts
  number_below name h is = let below = number_within (shown_state old lines) name h is in let same = count_shown in omega (arith, below, same)

  source_own : (cause : Refusal) → IsOfSource cause → IsOwn (length old.hosts) cause
  source_own (why.NoFile name) is = record { named = tt; faultless = refl }
  source_own (why.CopyLimit sum) is = record { named = tt; faultless = refl }
  source_own (why.BadListing at) is = record { named = tt; faultless = refl }
  source_own other is = absurd is

  -- notes of a call that takes no media
  pub record HostsNotes (c : Call) (new : WorldView) : Type 0 where
    pub notes : List Note
    pub joined : new.journal ≡ old.journal ++ notes
    pub named : AreNamed (length old.hosts) notes
    pub faultless : faults_of notes ≡ 0

  one_refused : (c : Call) (name : List ℕ) (cause : Refusal) (new : WorldView) → IsOwn (length old.hosts) cause → new.journal ≡ old.journal ++ Refused name cause ∷ [] → HostsNotes c new
  one_refused c name cause new own joined =
      record { notes = Refused name cause ∷ []; joined = joined; named = (own.named, tt); faultless = let none = own.faultless in omega (arith, none) }

  at_host : (c : Call) (o : Option ℕ) (change : HostView → HostView) (note : ℕ → Note)
      → ((h : ℕ) → o ≡ Some h → AreNamed (length old.hosts) (note h ∷ [])) → ((h : ℕ) → faults_of (note h ∷ []) ≡ 0)
      → HostsNotes c (with_host o change note old)
  at_host c None change note named clean = record { notes = []; joined = sym (append-nil old.journal); named = tt; faultless = refl }
  at_host c (Some h) change note named clean = record { notes = note h ∷ []; joined = refl; named = named h refl; faultless = clean h }

  acted_notes : (c : Call) → TakesNoMedia c lines old → HostsNotes c (acted c lines old)
  acted_notes (call.Declares name uuid) takes = record { notes = Host name uuid ∷ []; joined = refl; named = (tt, tt); faultless = refl }
  acted_notes (call.Begins name cmd) takes = at_host (call.Begins name cmd) (number_in name old) _ (λ h. Start h cmd) (λ h is. (number_below name h is, tt)) (λ h. refl)
  acted_notes (call.Stops name) takes = at_host (call.Stops name) (number_in name old) _ Stop (λ h is. (number_below name h is, tt)) (λ h. refl)
  acted_notes (call.Halts name) takes = at_host (call.Halts name) (number_in name old) _ Halt (λ h is. (number_below name h is, tt)) (λ h. refl)
  acted_notes (call.Umounts name) takes = at_host (call.Umounts name) (number_in name old) _ Umount (λ h is. (number_below name h is, tt)) (λ h. refl)
  acted_notes (call.Refuses name cause) takes = one_refused (call.Refuses name cause) name cause _ (by_takes takes) refl
    where
      by_takes : IsOfSource cause ⊎ ((cmd : Cmd) × (refusal_in (call.Begins name cmd) old lines ≡ Some cause)) → IsOwn (length old.hosts) cause
      by_takes (inl x) = source_own cause x
      by_takes (inr x) = world_own (call.Begins name x.0) tt cause x.1
  acted_notes other takes = absurd takes

  is_quiet : (c : Call) → TakesNoMedia c lines old → TakesHostsAlone c
  is_quiet (call.Makes name request) takes = takes
  is_quiet (call.Finishes name) takes = takes
  is_quiet (call.Moves name line move) takes = takes
  is_quiet other takes = tt

  pub hosts_notes : (c : Call) → TakesNoMedia c lines old → HostsNotes c (world_after c lines old)
  hosts_notes c takes = by_refusal (refusal_in c old lines) refl
    where
      by_refusal : (o : Option Refusal) → refusal_in c old lines ≡ o → HostsNotes c (acted_by o c lines old)
      by_refusal (Some cause) is = one_refused c (asked_name c) cause _ (world_own c (is_quiet c takes) cause is) refl
      by_refusal None is = acted_notes c takes
