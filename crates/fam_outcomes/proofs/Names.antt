-- Texts of journals, one behind another; their names are those of the world's hosts; and a row's notes name declared hosts.
use Prim.Native.Nat.{zero, suc}
use Rattle.std.proofs.Common.{◌≡◌, ℕ, ◌+◌, ◌-◌, ◌*◌, ◌^◌, ◌<◌, ◌≤◌, inl, inr, Bool, true, false, List, [], ◌∷◌, ◌++◌, length, map, Option, Some, None, refl, ap, sym, ◌∙◌, subst, arith}
use Rattle.std.specs.Prelude.{⊤, slice_get, not, ◌==◌, ◌&&◌, nat_lt, nat_le, min, option_map, if◌then◌else◌}
use Rattle.std.specs.FinMap as finmap
use Rattle.std.proofs.lemmas.List.{append_assoc, length-append, map_push}
use Rattle.std.proofs.lemmas.Option.{same_Some, slice_get_within}
use Rattle.fam_format.specs.Stop.{or_else}
use Rattle.fam_machine.specs.declared.op.Op.{Op}
use Rattle.fam_machine.specs.Caches.{dirty_count}
use Rattle.fam_commands.specs.Table as row
use Rattle.fam_media.specs.Files.{Files}
use Rattle.fam_rules.specs.Place.{line_bytes}
use Rattle.fam_machine.specs.Operations.{Failure}
use Rattle.fam_journal.specs.declared.event.Ask.{Ask}
use Rattle.fam_journal.specs.declared.event.Ask.TheVariants as ask
use Rattle.fam_journal.specs.declared.event.Event.{Event}
use Rattle.fam_journal.specs.declared.event.Event.TheVariants as event
use Rattle.fam_journal.specs.declared.refusal.Refusal.{Refusal}
use Rattle.fam_journal.specs.declared.refusal.Refusal.TheVariants as why
use Rattle.fam_commands.specs.Classes.{is_mount}
use Rattle.fam_base.specs.declared.entry.Params.{Params}
use Rattle.fam_journal.specs.Calls as call
use Rattle.fam_journal.specs.Calls.{Acts, ActsAt, AtNumber, ByRefusal, Call, Does, MakesOrHalts, OnHost, DoesOperations, begins_refusal, busy_at, busy_refusal, cause_of, dirty_from, dirty_refusal, has_name, host_limit, idle_refusal, is_engaged, is_same, keeps_at, line_refusal, makes_refusal, may_begin, asked_name, number_of, on_host, refusal_of, same_refusal, umounts_refusal, when}
use Rattle.fam_journal.specs.Events.{BytesSay, DoesEvent, CommandBegins, RefusesEvent, ListingIs, MayNotStep, Session, SourceSays, Sourced, Unfit, WithinSays, copy_limit, mounts}
use Rattle.fam_journal.specs.Follows.{Follows}
use Rattle.fam_journal.specs.Machines.{Done, Fails, HostState, Machines, Operation, Outcome, Passes, TaskState, cut_task, host_done, notes_of, op_done, operation, served, task_done}
use Rattle.fam_journal.specs.Members.{changed_at, index_from, index_of}
use Rattle.fam_machine.specs.Mkfs.{EarlyRefusal, early_refusal}
use Rattle.fam_machine.specs.Mkfs as early
use Rattle.fam_journal.specs.Names.{AreNamed, NamesHost, NameDeclared, NamesCause, declared_after}
use Rattle.fam_journal.specs.Notes.{Note, Host, Start, Mark, Writes, Refused}
use Rattle.fam_journal.specs.Past.{HostPast, Past, hosts_after, past_after, past_behind}
use Rattle.fam_outcomes.specs.Texts.{names_after, names_behind, note_line, render, render_behind}

-- Texts.

rendered_both : (names : List (List ℕ)) (a b : List Note) → render_behind names (a ++ b) ≡ render_behind names a ++ render_behind (names_behind names a) b
rendered_both names [] b = refl
rendered_both names (note ∷ a) b =
    ap (λ (t : List ℕ). note_line names note ++ t) (rendered_both (names_after names note) a b)
    ∙ sym (append_assoc (note_line names note) (render_behind (names_after names note) a) (render_behind (names_behind (names_after names note) a) b))

-- what is put for some notes more
pub render_more : (a b : List Note) → render (a ++ b) ≡ render a ++ render_behind (names_behind [] a) b
unfolding render
render_more a b = rendered_both [] a b

-- The names are those of the past's hosts.

changed_names : (h : ℕ) (f : HostPast → HostPast) → ((x : HostPast) → (f x).name ≡ x.name) → (xs : List HostPast)
    → map (λ (x : HostPast). x.name) (changed_at h f xs) ≡ map (λ (x : HostPast). x.name) xs
changed_names h f same [] = refl
changed_names zero f same (x ∷ xs) = ap (λ (n : List ℕ). n ∷ map (λ (x : HostPast). x.name) xs) (same x)
changed_names (suc h) f same (x ∷ xs) = ap (λ (ns : List (List ℕ)). x.name ∷ ns) (changed_names h f same xs)

names_one : (x : Past) (note : Note) → names_after (map (λ (y : HostPast). y.name) x.hosts) note ≡ map (λ (y : HostPast). y.name) (hosts_after x note)
names_one x (Host name uuid) = sym (map_push (λ (y : HostPast). y.name) x.hosts (Rattle.fam_journal.specs.Past.new_host name uuid))
names_one x (Start h cmd) = sym (changed_names h _ (λ y. refl) x.hosts)
names_one x (Mark h) = sym (changed_names h _ (λ y. refl) x.hosts)
names_one x (Writes h seq e) = sym (changed_names h _ (λ y. refl) x.hosts)
names_one x e = refl

pub names_of_past : (x : Past) (notes : List Note) → names_behind (map (λ (y : HostPast). y.name) x.hosts) notes ≡ map (λ (y : HostPast). y.name) (past_behind x notes).hosts
names_of_past x [] = refl
names_of_past x (note ∷ notes) = ap (λ (names : List (List ℕ)). names_behind names notes) (names_one x note) ∙ names_of_past (past_after x note) notes

-- Which hosts are named.

Below : ℕ → Option ℕ → Type 0
Below n None = ⊤
Below n (Some h) = h < n

pub Names : ℕ → Option Refusal → Type 0
Names n None = ⊤
Names n (Some cause) = NamesCause n cause

below_or : (n : ℕ) (t : Bool) (i : ℕ) (o : Option ℕ) → i < n → Below n o → Below n (if t then Some i else o)
unfolding Below
below_or n true i o here rest = here
below_or n false i o here rest = rest

place_below : {A : Type 0} (test : A → Bool) (xs : List A) (i n : ℕ) → i + length xs ≤ n → Below n (index_from i test xs)
unfolding Below
place_below test [] i n fits = tt
place_below test (x ∷ xs) i n fits = below_or n (test x) i (index_from (i + 1) test xs) (omega (arith, fits)) (place_below test xs (i + 1) n (omega (arith, fits)))

dirty_below : (maker : ℕ) (xs : List HostState) (i n : ℕ) → i + length xs ≤ n → Below n (dirty_from maker i xs)
unfolding Below
dirty_below maker [] i n fits = tt
dirty_below maker (x ∷ xs) i n fits =
    below_or n (not (i == maker) && nat_lt 0 (dirty_count x.cache)) i (dirty_from maker (i + 1) xs) (omega (arith, fits)) (dirty_below maker xs (i + 1) n (omega (arith, fits)))

names_or : (n : ℕ) (a b : Option Refusal) → Names n a → Names n b → Names n (or_else a b)
unfolding Names
names_or n None b na nb = nb
names_or n (Some cause) b na nb = na

names_when : (n : ℕ) (t : Bool) (cause : Refusal) → NamesCause n cause → Names n (when t cause)
unfolding Names
names_when n true cause named = named
names_when n false cause named = tt

names_early : (n : ℕ) (o : Option EarlyRefusal) → Names n (option_map cause_of o)
unfolding Names
names_early n None = tt
names_early n (Some (early.BadGeometry unit log)) = tt
names_early n (Some (early.TooSmall needed have)) = tt

names_same : (n : ℕ) (o : Option ℕ) → Below n o → Names n (same_refusal o)
unfolding Names Below
names_same n None below = tt
names_same n (Some h) below = below

names_busy : (n : ℕ) (o : Option ℕ) → Below n o → Names n (busy_refusal o)
unfolding Names Below
names_busy n None below = tt
names_busy n (Some h) below = below

names_dirty : (n : ℕ) (o : Option ℕ) → Below n o → Names n (dirty_refusal o)
unfolding Names Below
names_dirty n None below = tt
names_dirty n (Some h) below = below

names_on : (n : ℕ) (o : Option ℕ) (f : ℕ → Option Refusal) → Below n o → ((h : ℕ) → h < n → Names n (f h)) → Names n (on_host o f)
unfolding Names Below
names_on n None f below each = tt
names_on n (Some h) f below each = each h below

module _ (m : Machines) where
  number_below : (name : List ℕ) → Below (length m.hosts) (number_of name m)
  number_below name = place_below (has_name name) m.hosts 0 (length m.hosts) (omega arith)

  names_begins : (h : ℕ) (mount : Bool) → h < length m.hosts → Names (length m.hosts) (begins_refusal h mount m)
  unfolding Names
  names_begins h mount below =
      names_or (length m.hosts) _ _ (names_when (length m.hosts) (nat_lt (length m.memory) Rattle.fam_format.specs.Layout.least_lines) (why.ImageSmall (length m.memory)) tt)
      (names_or (length m.hosts) _ _ (names_when (length m.hosts) (busy_at h m) (why.Busy (record { 0 = h })) below) (names_when (length m.hosts) (mount && keeps_at h m) why.Mounted tt))

  -- where a mount or another command may not begin
  pub may_named : (name : List ℕ) (mount : Bool) → Names (length m.hosts) (may_begin name mount m)
  may_named name mount = names_on (length m.hosts) (number_of name m) (λ h. begins_refusal h mount m) (number_below name) (λ h below. names_begins h mount below)

  -- a refusal names a declared host, or none
  pub refusal_named : (c : Call) → Names (length m.hosts) (refusal_of c m)
  unfolding refusal_of Names
  refusal_named (call.Declares name uuid) =
      names_or (length m.hosts) (same_refusal (index_of (is_same name uuid) m.hosts)) (when (nat_le host_limit (length m.hosts)) why.TooManyHosts)
      (names_same (length m.hosts) (index_of (is_same name uuid) m.hosts) (place_below (is_same name uuid) m.hosts 0 (length m.hosts) (omega arith)))
      (names_when (length m.hosts) (nat_le host_limit (length m.hosts)) why.TooManyHosts tt)
  refusal_named (call.Makes name request) =
      names_on (length m.hosts) (number_of name m) (λ h. makes_refusal request.unit request.log h m) (number_below name) (λ h below.
      names_or (length m.hosts) _ _ (names_early (length m.hosts) (early_refusal request.unit request.log (line_bytes * length m.memory)))
      (names_or (length m.hosts) _ _ (names_busy (length m.hosts) (index_of is_engaged m.hosts) (place_below is_engaged m.hosts 0 (length m.hosts) (omega arith)))
      (names_dirty (length m.hosts) (dirty_from h 0 m.hosts) (dirty_below h m.hosts 0 (length m.hosts) (omega arith)))))
  refusal_named (call.Begins name cmd) = may_named name (is_mount cmd)
  refusal_named (call.Steps name) = names_on (length m.hosts) (number_of name m) (λ h. idle_refusal h m) (number_below name) (λ h below. names_when (length m.hosts) (not (busy_at h m)) why.Idle tt)
  refusal_named (call.Finishes name) = names_on (length m.hosts) (number_of name m) (λ h. idle_refusal h m) (number_below name) (λ h below. names_when (length m.hosts) (not (busy_at h m)) why.Idle tt)
  refusal_named (call.Stops name) = names_on (length m.hosts) (number_of name m) (λ h. idle_refusal h m) (number_below name) (λ h below. names_when (length m.hosts) (not (busy_at h m)) why.Idle tt)
  refusal_named (call.Halts name) = names_on (length m.hosts) (number_of name m) (λ h. None) (number_below name) (λ h below. tt)
  refusal_named (call.Umounts name) =
      names_on (length m.hosts) (number_of name m) (λ h. umounts_refusal h m) (number_below name) (λ h below.
      names_or (length m.hosts) _ _ (names_when (length m.hosts) (busy_at h m) (why.Busy (record { 0 = h })) below) (names_when (length m.hosts) (not (keeps_at h m)) why.NotMounted tt))
  refusal_named (call.Moves name line move) = names_on (length m.hosts) (number_of name m) (λ h. line_refusal line m) (number_below name)
      (λ h below. names_when (length m.hosts) (nat_le (length m.memory) line) (why.NoLine line (length m.memory)) tt)
  refusal_named (call.Refuses name cause) = tt

-- how many hosts are declared behind these notes
abbrev pub declared_behind : ℕ → List Note → ℕ
declared_behind n [] = n
declared_behind n (note ∷ notes) = declared_behind (declared_after n note) notes

-- a task's note names its host
noted_named : (n h : ℕ) (note : row.RowNote) → h < n → NameDeclared n (notes_of h note)
noted_named n h row.Quiet below = tt
noted_named n h e below = (below, tt)

noted_count : (n h : ℕ) (note : row.RowNote) → declared_behind n (notes_of h note) ≡ n
noted_count n h row.Quiet = refl
noted_count n h e = refl

pub named_both : (n : ℕ) (a b : List Note) → NameDeclared n a → NameDeclared (declared_behind n a) b → NameDeclared n (a ++ b)
named_both n [] b first second = second
named_both n (note ∷ a) b first second = (first.0, named_both (declared_after n note) a b first.1 second)

count_both : (n : ℕ) (a b : List Note) → declared_behind n (a ++ b) ≡ declared_behind (declared_behind n a) b
count_both n [] b = refl
count_both n (note ∷ a) b = count_both (declared_after n note) a b

-- More hosts.
cause_more : (n k : ℕ) → n ≤ k → (cause : Refusal) → NamesCause n cause → NamesCause k cause
cause_more n k le (why.SameHost host) is = omega (arith, le, is)
cause_more n k le (why.Busy host) is = omega (arith, le, is)
cause_more n k le (why.Dirty host) is = omega (arith, le, is)
cause_more n k le e is = tt

note_more : (n k : ℕ) → n ≤ k → (note : Note) → NamesHost n note → NamesHost k note
note_more n k le (Host name uuid) is = tt
note_more n k le (Refused name cause) is = cause_more n k le cause is
note_more n k le e is = omega (arith, le, is)

after_more : (n : ℕ) (note : Note) → n ≤ declared_after n note
after_more n (Host name uuid) = omega arith
after_more n e = omega arith

-- notes that name some of these hosts, with more of them declared
named_more : (n k : ℕ) → n ≤ k → (notes : List Note) → AreNamed n notes → NameDeclared k notes
named_more n k le [] are = tt
named_more n k le (note ∷ notes) are = (note_more n k le note are.0, named_more n (declared_after k note) (omega (arith, le, after_more k note)) notes are.1)

-- there are as many names
after_names : (names : List (List ℕ)) (note : Note) → length (names_after names note) ≡ declared_after (length names) note
after_names names (Host name uuid) = length-append names (name ∷ [])
after_names names e = refl

behind_names : (names : List (List ℕ)) (notes : List Note) → length (names_behind names notes) ≡ declared_behind (length names) notes
behind_names names [] = refl
behind_names names (note ∷ notes) = behind_names (names_after names note) notes ∙ ap (λ (n : ℕ). declared_behind n notes) (after_names names note)

-- notes that name the hosts of a journal may stand behind it
pub named_added : (old added : List Note) → NameDeclared 0 old → AreNamed (length (names_behind [] old)) added → NameDeclared 0 (old ++ added)
named_added old added are more =
    named_both 0 old added are (named_more (length (names_behind [] old)) (declared_behind 0 old) (omega (arith, behind_names [] old)) added more)

-- Rows.

length-changed_at : {A : Type 0} (i : ℕ) (f : A → A) (xs : List A) → length (changed_at i f xs) ≡ length xs
length-changed_at i f [] = refl
length-changed_at zero f (x ∷ xs) = refl
length-changed_at (suc i) f (x ∷ xs) = ap suc (length-changed_at i f xs)

-- notes name hosts that are declared before them, and there are as many hosts as they say
pub record Named (old : Machines) (notes : List Note) (new : Machines) : Type 0 where
  pub named : NameDeclared (length old.hosts) notes
  pub count : length new.hosts ≡ declared_behind (length old.hosts) notes

named_as : (old new left : Machines) (notes told : List Note) → notes ≡ told → new ≡ left → Named old told left → Named old notes new
named_as old new left notes told e f is =
    subst (λ (z : Machines). Named old notes z) (sym f) (subst (λ (z : List Note). Named old z left) (sym e) is)

-- of one host, with as many hosts
named_same : (old new : Machines) (notes : List Note) → length new.hosts ≡ length old.hosts → NameDeclared (length old.hosts) notes
    → declared_behind (length old.hosts) notes ≡ length old.hosts → Named old notes new
named_same old new notes same are count = record { named = are; count = same ∙ sym count }

named_cut : (h : ℕ) (m : Machines) (o : Option Failure) (d : Done) → h < length m.hosts → cut_task h m o ≡ Some d → Named m d.notes d.left
named_cut h m None d below is = absurd cc
named_cut h m (Some failure) d below is =
    subst (λ (z : Done). Named m z.notes z.left) (same_Some _ d is) (named_same m _ _ (length-changed_at h _ m.hosts) (below, tt) refl)

named_served : (h : ℕ) (m : Machines) (host : HostState) (t : TaskState) (op : Op) (note : Option row.RowNote) (d : Done) → h < length m.hosts
    → served h m host t op note ≡ Some d → Named m d.notes d.left
named_served h m host t op None d below is = absurd cc
named_served h m host t op (Some note) d below is =
    subst (λ (z : Done). Named m z.notes z.left) (same_Some _ d is) (named_same m _ _ (length-changed_at h _ m.hosts) (noted_named (length m.hosts) h note below) (noted_count (length m.hosts) h note))

named_op : (outcome : Outcome) (h : ℕ) (m : Machines) (host : HostState) (t : TaskState) (op : Option Op) (d : Done) → h < length m.hosts
    → op_done outcome h m host t op ≡ Some d → Named m d.notes d.left
named_op outcome h m host t None d below is = absurd cc
named_op Passes h m host t (Some op) d below is = named_served h m host t op _ d below is
named_op (Fails through) h m host t (Some op) d below is = named_cut h m _ d below is

named_task : (outcome : Outcome) (h : ℕ) (m : Machines) (host : HostState) (t : Option TaskState) (d : Done) → h < length m.hosts → task_done outcome h m host t ≡ Some d → Named m d.notes d.left
named_task outcome h m host None d below is = absurd cc
named_task outcome h m host (Some t) d below is = named_op outcome h m host t _ d below is

operation_named : (h : ℕ) (old : Machines) (notes : List Note) (new : Machines) → Operation h old notes new → Named old notes new
unfolding operation
operation_named h old notes new op = by_host (slice_get old.hosts h) refl op.is
  where
    by_host : (o : Option HostState) → slice_get old.hosts h ≡ o → host_done op.outcome h old o ≡ Some (record { notes = notes; left = new }) → Named old notes new
    by_host None e is = absurd cc
    by_host (Some host) e is = named_task op.outcome h old host host.task (record { notes = notes; left = new }) (slice_get_within old.hosts h host e) is

named_quiet : (old new : Machines) (notes : List Note) → notes ≡ [] → new ≡ old → Named old notes new
named_quiet old new notes e f = named_as old new old notes [] e f (record { named = tt; count = refl })

named_parts : (old mid new : Machines) (a b notes : List Note) → notes ≡ a ++ b → Named old a mid → Named mid b new → Named old notes new
named_parts old mid new a b notes e first second =
    subst (λ (z : List Note). Named old z new) (sym e)
    record {
      named = named_both (length old.hosts) a b first.named (subst (λ (n : ℕ). NameDeclared n b) first.count second.named);
      count = second.count ∙ ap (λ (n : ℕ). declared_behind n b) first.count ∙ sym (count_both (length old.hosts) a b);
    }

operates_named : (h count : ℕ) (old : Machines) (notes : List Note) (new : Machines) → DoesOperations h count old notes new → Named old notes new
operates_named h zero old notes new o = named_quiet old new notes o.0 o.1
operates_named h (suc count) old notes new (inl o) = named_quiet old new notes o.1 o.2
operates_named h (suc count) old notes new (inr o) = named_parts old o.1 new o.2 o.3 notes o.6 (operation_named h old o.2 o.1 o.4) (operates_named h count o.1 o.3 new o.5)

making_named : (halt : Option ℕ) (h : ℕ) (p : Params) (force : Bool) (host : HostState) (old : Machines) (notes : List Note) (new : Machines)
    → h < length old.hosts → MakesOrHalts halt h p force host old notes new → Named old notes new
making_named None h p force host old notes new below x = named_as old new _ notes _ x.notes_are x.left (named_same old _ _ (length-changed_at h _ old.hosts) (below, tt) refl)
making_named (Some k) h p force host old notes new below x = named_as old new _ notes _ x.notes_are x.left (named_same old _ _ (length-changed_at h _ old.hosts) (below, tt) refl)

act_named : (c : Call) (h : ℕ) (host : HostState) (old : Machines) (notes : List Note) (new : Machines) → h < length old.hosts → ActsAt c h host old notes new → Named old notes new
act_named (call.Declares name uuid) h host old notes new below x = absurd x
act_named (call.Makes name request) h host old notes new below (inl x) = making_named request.halt h _ request.force host old notes new below x
act_named (call.Makes name request) h host old notes new below (inr x) = named_as old new _ notes _ x.notes_are x.left (named_same old _ _ (length-changed_at h _ old.hosts) (tt, tt) refl)
act_named (call.Steps name) h host old notes new below x = operation_named h old notes new x
act_named (call.Finishes name) h host old notes new below x = operates_named h x.count old notes new x.does
act_named (call.Moves name line move) h host old notes new below (inl x) = named_as old new _ notes _ x.notes_are x.left (named_same old _ _ (length-changed_at h _ old.hosts) tt refl)
act_named (call.Moves name line move) h host old notes new below (inr x) = named_as old new _ notes _ x.notes_are x.left (named_same old _ _ refl (tt, tt) refl)
act_named (call.Refuses name cause) h host old notes new below x = absurd x
act_named e h host old notes new below x = named_as old new _ notes _ x.0 x.1 (named_same old _ _ (length-changed_at h _ old.hosts) (below, tt) refl)

-- which causes may be given to a refusal
abbrev pub CallNames : Machines → Call → Type 0
CallNames m (call.Refuses name cause) = NamesCause (length m.hosts) cause
CallNames m other = ⊤

module _ (old : Machines) (notes : List Note) (new : Machines) where
  at_host_named : (c : Call) (h : ℕ) (o : Option HostState) → slice_get old.hosts h ≡ o → OnHost o (λ host. ActsAt c h host old notes new) → Named old notes new
  at_host_named c h None e x = absurd x
  at_host_named c h (Some host) e x = act_named c h host old notes new (slice_get_within old.hosts h host e) x

  at_number_named : (c : Call) (o : Option ℕ) → AtNumber o old (λ h host. ActsAt c h host old notes new) → Named old notes new
  at_number_named c None x = absurd x
  at_number_named c (Some h) x = at_host_named c h (slice_get old.hosts h) refl x

  acts_named : (c : Call) → CallNames old c → Acts c old notes new → Named old notes new
  acts_named (call.Declares name uuid) may x =
      named_as old new _ notes _ x.0 x.1 (record { named = (tt, tt); count = length-append old.hosts (record { name = name; uuid = uuid; cache = finmap.empty; task = None; kept = None } ∷ []) })
  acts_named (call.Refuses name cause) may x = named_as old new _ notes _ x.0 x.1 (named_same old old _ refl (may, tt) refl)
  acts_named c may x = at_number_named c (number_of (asked_name c) old) x

  -- the notes of a row name declared hosts
  pub does_named : (c : Call) → CallNames old c → Does c old notes new → Named old notes new
  unfolding Names
  does_named c may does = by_refusal (refusal_of c old) (refusal_named old c) does
    where
      by_refusal : (o : Option Refusal) → Names (length old.hosts) o → ByRefusal (asked_name c) o notes old new (Acts c old notes new) → Named old notes new
      by_refusal (Some cause) names x = named_as old new _ notes _ x.0 x.1 (named_same old old _ refl (names, tt) refl)
      by_refusal None names x = acts_named c may x

-- Events.

unfit_named : (n : ℕ) (given cause : Refusal) (copied after : ℕ) → NamesCause n given → Unfit cause after ≡ Unfit given copied → NamesCause n cause
unfit_named n given cause copied after named e = subst (NamesCause n) (sym same) named
  where
    same : cause ≡ given
    same = cc

within_named : (n : ℕ) (t : Bool) (bytes : List ℕ) (copied : ℕ) (reads : List ℕ → ℕ → Sourced → Type 0) (cause : Refusal) (after : ℕ)
    → ((bytes : List ℕ) (copied : ℕ) → reads bytes copied (Unfit cause after) → NamesCause n cause) → WithinSays t bytes copied reads (Unfit cause after) → NamesCause n cause
within_named n true bytes copied reads cause after each says = each bytes (copied + length bytes) says
within_named n false bytes copied reads cause after each says = unfit_named n (why.CopyLimit (min (copied + length bytes) (2 ^ 64 - 1))) cause copied after tt says

bytes_named : (n : ℕ) (name : List ℕ) (o : Option (List ℕ)) (copied : ℕ) (reads : List ℕ → ℕ → Sourced → Type 0) (cause : Refusal) (after : ℕ)
    → ((bytes : List ℕ) (copied : ℕ) → reads bytes copied (Unfit cause after) → NamesCause n cause) → BytesSay name o copied reads (Unfit cause after) → NamesCause n cause
bytes_named n name None copied reads cause after each says = unfit_named n (why.NoFile name) cause copied after tt says
bytes_named n name (Some bytes) copied reads cause after each says = within_named n (nat_le (copied + length bytes) copy_limit) bytes copied reads cause after each says

listing_named : (n : ℕ) (cause : Refusal) (after : ℕ) (bytes : List ℕ) (copied : ℕ) → ListingIs bytes copied (Unfit cause after) → NamesCause n cause
listing_named n cause after bytes copied (inl x) = absurd (let e = x.2 in cc)
listing_named n cause after bytes copied (inr x) = unfit_named n (why.BadListing x.0) cause copied after tt x.2

source_named : (files : Files) (copied : ℕ) (what : Ask) (n : ℕ) (cause : Refusal) (after : ℕ) → SourceSays files copied what (Unfit cause after) → NamesCause n cause
source_named files copied (ask.Plain c) n cause after says = absurd cc
source_named files copied (ask.Cp source path attr stripe) n cause after says = bytes_named n source (finmap.get files source) copied _ cause after (λ bytes copied says. absurd cc) says
source_named files copied (ask.VerifySource path source) n cause after says = bytes_named n source (finmap.get files source) copied _ cause after (λ bytes copied says. absurd cc) says
source_named files copied (ask.Check source) n cause after says = bytes_named n source (finmap.get files source) copied ListingIs cause after (listing_named n cause after) says

-- what isn't to begin
begin_named : (name : List ℕ) (mount : Bool) (m : Machines) (cause : Refusal) → may_begin name mount m ≡ Some cause → NamesCause (length m.hosts) cause
unfolding Names
begin_named name mount m cause is = subst (Names (length m.hosts)) is (may_named m name mount)

step_named : (name : List ℕ) (m : Machines) (cause : Refusal) → on_host (number_of name m) (λ h. idle_refusal h m) ≡ Some cause → NamesCause (length m.hosts) cause
unfolding Names refusal_of
step_named name m cause is = subst (Names (length m.hosts)) is (refusal_named m (call.Steps name))

one_refusal : (name : List ℕ) (cause : Refusal) (old new : Machines) (notes : List Note) → NamesCause (length old.hosts) cause → notes ≡ Refused name cause ∷ [] → new ≡ old → Named old notes new
one_refusal name cause old new notes named e f = named_as old new old notes _ e f (named_same old old _ refl (named, tt) refl)

module _ (files : Files) where
  begun_named : (name : List ℕ) (what : Ask) (old new : Session) (notes : List Note) → CommandBegins files name what old notes new → Named old.machines notes new.machines
  begun_named name what old new notes x = does_named old.machines notes new.machines (call.Begins name x.cmd) tt x.does

  refused_named : (name : List ℕ) (what : Ask) (old new : Session) (notes : List Note) → RefusesEvent files name what old notes new → Named old.machines notes new.machines
  refused_named name what old new notes (inl x) = one_refusal name x.cause old.machines new.machines notes
      (begin_named name (mounts what) old.machines x.cause x.first) x.notes_are (ap (λ (s : Session). s.machines) x.same)
  refused_named name what old new notes (inr x) = does_named old.machines notes new.machines (call.Refuses name x.cause)
      (source_named files old.copied what (length old.machines.hosts) x.cause x.copied x.says) x.does

  not_step_named : (name : List ℕ) (old new : Session) (notes : List Note) → MayNotStep name old notes new → Named old.machines notes new.machines
  not_step_named name old new notes x = one_refusal name x.cause old.machines new.machines notes (step_named name old.machines x.cause x.first) x.notes_are (ap (λ (s : Session). s.machines) x.same)

  event_named : (e : Event) (old new : Session) (notes : List Note) → DoesEvent files e old notes new → Named old.machines notes new.machines
  event_named (event.Begin name what) old new notes (inl x) = begun_named name what old new notes x
  event_named (event.Begin name what) old new notes (inr x) = refused_named name what old new notes x
  event_named (event.Run name what) old new notes (inl x) =
      named_parts old.machines x.mid.machines new.machines x.first x.rest notes x.joined (begun_named name what old x.mid x.first x.begun)
      (operates_named x.host x.does.count x.mid.machines x.rest new.machines x.does.does)
  event_named (event.Run name what) old new notes (inr x) = refused_named name what old new notes x
  event_named (event.Step name count) old new notes (inl x) = operates_named x.host count old.machines notes new.machines x.does
  event_named (event.Step name count) old new notes (inr x) = not_step_named name old new notes x
  event_named e old new notes x = does_named old.machines notes new.machines _ tt x.0

  -- each note of a journal names a host that is declared before it
  pub follows_named : (events : List Event) (old new : Session) (notes : List Note) → Follows files events old notes new → Named old.machines notes new.machines
  follows_named [] old new notes x = named_quiet old.machines new.machines notes x.0 (ap (λ (s : Session). s.machines) x.1)
  follows_named (e ∷ events) old new notes x =
      named_parts old.machines x.0.machines new.machines x.1 x.2 notes x.5 (event_named e old x.0 x.1 x.3) (follows_named events x.0 new x.2 x.4)
