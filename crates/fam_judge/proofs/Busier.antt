-- Where host h has a task, a line that gives way has the form of the tables as it has where h has none.
use Rattle.std.proofs.Common.{◌≡◌, ◌≢◌, ◌⊎◌, ◌≤◌, ◌*◌, inl, inr, ℕ, Bool, true, false, List, [], ◌∷◌, length, map, Option, Some, None, refl, ap, ap₂, sym, ◌∙◌, subst, arith}
use Rattle.std.specs.Prelude.{⊤, ◌&&◌, not, nat_le, nat_lt, is_some, slice_get, option_map}
use Rattle.std.proofs.lemmas.Bool.{cases_eq}
use Rattle.std.proofs.lemmas.Option.{same_Some, slice_get-map}
use Rattle.fam_base.specs.declared.entry.Params.{Params}
use Rattle.fam_format.specs.Layout.{least_lines}
use Rattle.fam_format.specs.Stop.{or_else}
use Rattle.fam_machine.specs.declared.request.MkfsRequest.{MkfsRequest}
use Rattle.fam_machine.specs.HostMoves.{Evict, Fetch, Leak, Move}
use Rattle.fam_machine.specs.Mkfs.{early_refusal}
use Rattle.fam_rules.specs.Place.{line_bytes}
use Rattle.fam_journal.specs.declared.event.Ask.{Ask}
use Rattle.fam_journal.specs.declared.event.Event.{Event}
use Rattle.fam_journal.specs.declared.event.Event.TheVariants as event
use Rattle.fam_journal.specs.declared.refusal.Refusal.{Refusal}
use Rattle.fam_journal.specs.declared.refusal.Refusal.TheVariants as why
use Rattle.fam_journal.specs.Calls as call
use Rattle.fam_journal.specs.Calls.{begins_refusal, busy_at, busy_refusal, cause_of, host_limit, idle_refusal, is_busy_host, is_engaged, is_kept_host, is_same, line_refusal, may_begin, number_of, on_host, refusal_of, same_refusal, umounts_refusal, when}
use Rattle.fam_journal.specs.Events.{mounts}
use Rattle.fam_journal.specs.EventShapes.{EventShape, NoMore, StartShape, StepsShape, UnfitNotes, UnfitShape}
use Rattle.fam_journal.specs.Laws.{IsValidEvent}
use Rattle.fam_journal.specs.Machines.{HostState, Machines}
use Rattle.fam_journal.specs.Members.{index_of}
use Rattle.fam_journal.specs.Notes.{Note, Host, Start, Mark, Found, Writes, Answered, Stop, Halt, Umount, Refused}
use Rattle.fam_journal.specs.Shapes.{ActsShape, AtShape, CompletesShape, DirtyShape, DoesShape, HostActsShape, HostShape, OfHostShape, OfRunning, OfTask, OperationsShape, ShapeByRefusal, TaskNote, TaskShape, made_note, makes_told, runs_shape, shown_running, shown_shape, shown_shapes}
use Rattle.fam_judge.specs.Formed.{AnswerPlace, HasPlace, IsFormedNote, IsSoundNote}
use Rattle.fam_judge.specs.GivesWay.{BusyGivesWay, GivesWay, RefusalGivesWay, number_named}
use Rattle.fam_judge.proofs.Origins.{none_one, one_note}

-- the same hosts, but that h is engaged in `new`
pub record IsBusier (h : ℕ) (old new : List HostShape) : Type 0 where
  pub number : (name : List ℕ) → number_named name new ≡ number_named name old
  pub same : (name uuid : List ℕ) → index_of (is_same name uuid) (map shown_shape new) ≡ index_of (is_same name uuid) (map shown_shape old)
  pub count : length (map shown_shape new) ≡ length (map shown_shape old)
  pub others : (k : ℕ) → k ≢ h → slice_get new k ≡ slice_get old k
  pub engaged : (j : ℕ) → j ≤ h → index_of is_engaged (map shown_shape old) ≡ Some j → index_of is_engaged (map shown_shape new) ≡ Some j

-- Causes.

-- what a declared host may be refused
abbrev IsAsked : Refusal → Type 0
IsAsked why.NoHost = ⊥
IsAsked (why.SameHost host) = ⊥
IsAsked why.TooManyHosts = ⊥
IsAsked cause = ⊤

-- another host was asked
names_other : (h : ℕ) (hosts : List HostShape) (name : List ℕ) (cause : Refusal) → IsAsked cause → RefusalGivesWay h hosts name cause → number_named name hosts ≢ Some h
names_other h hosts name why.NoHost asked way = absurd asked
names_other h hosts name (why.SameHost host) asked way = absurd asked
names_other h hosts name why.TooManyHosts asked way = absurd asked
names_other h hosts name (why.Dirty host) asked way = absurd way
names_other h hosts name (why.HasSuper uuid) asked way = absurd way
names_other h hosts name (why.Busy host) asked way = way.0
names_other h hosts name cause asked way = way

asked_when : (t : Bool) (cause : Refusal) → IsAsked cause → (w : Refusal) → when t cause ≡ Some w → IsAsked w
asked_when true cause asked w e = subst IsAsked (same_Some cause w e) asked
asked_when false cause asked w e = absurd cc

asked_or : (a b : Option Refusal) → ((w : Refusal) → a ≡ Some w → IsAsked w) → ((w : Refusal) → b ≡ Some w → IsAsked w) → (w : Refusal) → or_else a b ≡ Some w → IsAsked w
asked_or (Some x) b first next w e = first w e
asked_or None b first next w e = next w e

asked_unfit : (what : Ask) (w : Refusal) → UnfitShape what w → IsAsked w
asked_unfit what why.NoHost is = absurd is
asked_unfit what (why.SameHost host) is = absurd is
asked_unfit what why.TooManyHosts is = absurd is
asked_unfit what cause is = tt

-- Notes.

-- a note of host h's command doesn't give way
not_task : (h : ℕ) (hosts : List HostShape) (y : Note) → GivesWay h hosts y → (me : List ℕ) (t : TaskShape) → TaskNote h me t y → ⊥
not_task h hosts (Mark host) way me t is = way is.0
not_task h hosts (Found host n) way me t is = way is.0
not_task h hosts (Writes host seq entry) way me t is = way is.0
not_task h hosts (Answered host answer) way me t is = way is.0
not_task h hosts other way me t is = is

not_running : (h : ℕ) (hosts : List HostShape) (y : Note) → GivesWay h hosts y → (o : Option HostShape) → OfRunning o (λ me t. TaskNote h me t y) → ⊥
not_running h hosts y way None is = is
not_running h hosts y way (Some host) is = by host.task is
  where
    by : (k : Option TaskShape) → OfTask k (λ t. TaskNote h host.uuid t y) → ⊥
    by None is = is
    by (Some t) is = not_task h hosts y way host.uuid t is

-- a host that runs is busy
pub busy_runs : (o : Option HostShape) → is_busy_host (option_map shown_shape o) ≡ runs_shape o
busy_runs None = refl
busy_runs (Some host) = by host.task
  where
    by : (k : Option TaskShape) → is_some (shown_running k) ≡ is_some k
    by None = refl
    by (Some t) = refl

module _ (lines h : ℕ) (old new : List HostShape) (busier : IsBusier h old new) where
  abbrev before : Machines
  before = shown_shapes lines old

  abbrev after : Machines
  after = shown_shapes lines new

  -- What of other hosts is the same.

  state_kept : (k : ℕ) → k ≢ h → slice_get after.hosts k ≡ slice_get before.hosts k
  state_kept k ne = slice_get-map shown_shape new k ∙ ap (option_map shown_shape) (busier.others k ne) ∙ sym (slice_get-map shown_shape old k)

  idle_kept : (k : ℕ) → k ≢ h → idle_refusal k after ≡ idle_refusal k before
  idle_kept k ne = ap (λ (o : Option HostState). when (not (is_busy_host o)) why.Idle) (state_kept k ne)

  begins_kept : (mount : Bool) (k : ℕ) → k ≢ h → begins_refusal k mount after ≡ begins_refusal k mount before
  begins_kept mount k ne =
      ap (λ (o : Option HostState). or_else (when (nat_lt (length before.memory) least_lines) (why.ImageSmall (length before.memory)))
      (or_else (when (is_busy_host o) (why.Busy (record { 0 = k }))) (when (mount && is_kept_host o) why.Mounted)))
      (state_kept k ne)

  umounts_kept : (k : ℕ) → k ≢ h → umounts_refusal k after ≡ umounts_refusal k before
  umounts_kept k ne =
      ap (λ (o : Option HostState). or_else (when (is_busy_host o) (why.Busy (record { 0 = k }))) (when (not (is_kept_host o)) why.NotMounted)) (state_kept k ne)

  placed_kept : (y : Note) → GivesWay h old y → HasPlace old y → HasPlace new y
  placed_kept (Answered k answer) way placed =
      subst (λ (o : Option HostShape). OfRunning o (λ me t. AnswerPlace t.cmd t.stage answer)) (sym (busier.others k way)) placed
  placed_kept other way placed = tt

  module _ (y : Note) (way : GivesWay h old y) (sound : IsSoundNote y) (placed : HasPlace old y) where
    formed : (e : Event) → IsValidEvent e → EventShape e lines new (y ∷ []) → IsFormedNote lines new y
    formed e valid shape = record { event = e; valid = valid; shape = shape; sound = sound; placed = placed_kept y way placed }

    -- By the first refusal.

    not_refused : (name : List ℕ) (w : Refusal) → number_of name before ≡ Some h → IsAsked w → y ∷ [] ≡ Refused name w ∷ [] → ⊥
    not_refused name w number asked is = names_other h old name w asked (subst (GivesWay h old) (one_note y (Refused name w) [] is) way) number

    own_shape : (name : List ℕ) (o : Option Refusal) (free : Type 0) → number_of name before ≡ Some h → ((w : Refusal) → o ≡ Some w → IsAsked w) → (free → ⊥)
        → ShapeByRefusal name o (y ∷ []) free → ⊥
    own_shape name (Some w) free number asked none is = not_refused name w number (asked w refl) is
    own_shape name None free number asked none is = none is

    freed : (name : List ℕ) (o : Option Refusal) (a b : Type 0) → (a → b) → ShapeByRefusal name o (y ∷ []) a → ShapeByRefusal name o (y ∷ []) b
    freed name (Some w) a b f is = is
    freed name None a b f is = f is

    -- a call for the host of a name, which is refused by that host alone
    kept : (name : List ℕ) (P Q : ℕ → Option Refusal) (a b : Type 0) → ((k : ℕ) → k ≢ h → Q k ≡ P k) → ((w : Refusal) → P h ≡ Some w → IsAsked w)
        → (number_of name before ≡ Some h → a → ⊥) → ((k : ℕ) → number_of name before ≡ Some k → k ≢ h → a → b)
        → ShapeByRefusal name (on_host (number_of name before) P) (y ∷ []) a → ShapeByRefusal name (on_host (number_of name after) Q) (y ∷ []) b
    kept name P Q a b same asked own other is =
        subst (λ (o : Option ℕ). ShapeByRefusal name (on_host o Q) (y ∷ []) b) (sym (busier.number name)) (by (number_of name before) refl is)
      where
        by : (o : Option ℕ) → number_of name before ≡ o → ShapeByRefusal name (on_host o P) (y ∷ []) a → ShapeByRefusal name (on_host o Q) (y ∷ []) b
        by None e is = is
        by (Some k) e is =
            elim (cases_eq k h) [
              | inl mine ↦
                  absurd (own_shape name (P h) a (e ∙ ap Some mine) asked (own (e ∙ ap Some mine)) (subst (λ (n : ℕ). ShapeByRefusal name (P n) (y ∷ []) a) mine is))
              | inr ne ↦ subst (λ (q : Option Refusal). ShapeByRefusal name q (y ∷ []) b) (sym (same k ne)) (freed name (P k) a b (other k e ne) is)
            ]

    -- what such a call does, which is told of that host alone
    own_at : (name : List ℕ) (R : ℕ → HostShape → Type 0) → ((host : HostShape) → R h host → ⊥) → number_of name before ≡ Some h → AtShape (number_of name before) old R → ⊥
    own_at name R none number is = by (slice_get old h) (subst (λ (o : Option ℕ). AtShape o old R) number is)
      where
        by : (o : Option HostShape) → OfHostShape o (R h) → ⊥
        by None is = is
        by (Some host) is = none host is

    at_kept : (name : List ℕ) (R : ℕ → HostShape → Type 0) (k : ℕ) → number_of name before ≡ Some k → k ≢ h → AtShape (number_of name before) old R
        → AtShape (number_of name after) new R
    at_kept name R k number ne is =
        subst (λ (o : Option ℕ). AtShape o new R) (sym (busier.number name ∙ number))
        (subst (λ (o : Option HostShape). OfHostShape o (R k)) (sym (busier.others k ne)) (subst (λ (o : Option ℕ). AtShape o old R) number is))

    kept_at : (name : List ℕ) (P Q : ℕ → Option Refusal) (R : ℕ → HostShape → Type 0) → ((k : ℕ) → k ≢ h → Q k ≡ P k) → ((w : Refusal) → P h ≡ Some w → IsAsked w)
        → ((host : HostShape) → R h host → ⊥) → ShapeByRefusal name (on_host (number_of name before) P) (y ∷ []) (AtShape (number_of name before) old R)
        → ShapeByRefusal name (on_host (number_of name after) Q) (y ∷ []) (AtShape (number_of name after) new R)
    kept_at name P Q R same asked none is = kept name P Q _ _ same asked (own_at name R none) (at_kept name R) is

    -- Events.

    asked_idle : (w : Refusal) → idle_refusal h before ≡ Some w → IsAsked w
    asked_idle w e = asked_when (not (busy_at h before)) why.Idle tt w e

    asked_begins : (mount : Bool) (w : Refusal) → begins_refusal h mount before ≡ Some w → IsAsked w
    asked_begins mount =
        asked_or _ _ (asked_when (nat_lt (length before.memory) least_lines) (why.ImageSmall (length before.memory)) tt)
        (asked_or _ _ (asked_when (busy_at h before) (why.Busy (record { 0 = h })) tt) (asked_when (mount && call.keeps_at h before) why.Mounted tt))

    asked_umounts : (w : Refusal) → umounts_refusal h before ≡ Some w → IsAsked w
    asked_umounts = asked_or _ _ (asked_when (busy_at h before) (why.Busy (record { 0 = h })) tt) (asked_when (not (call.keeps_at h before)) why.NotMounted tt)

    hosts_kept : (name uuid : List ℕ) → EventShape (event.Host name uuid) lines old (y ∷ []) → EventShape (event.Host name uuid) lines new (y ∷ [])
    unfolding refusal_of
    hosts_kept name uuid is =
        subst (λ (o : Option Refusal). ShapeByRefusal name o (y ∷ []) (y ∷ [] ≡ Host name uuid ∷ []))
        (sym (ap₂ (λ (o : Option ℕ) (n : ℕ). or_else (same_refusal o) (when (nat_le host_limit n) why.TooManyHosts)) (busier.same name uuid) busier.count)) is

    stops_kept : (name : List ℕ) → EventShape (event.Stop name) lines old (y ∷ []) → EventShape (event.Stop name) lines new (y ∷ [])
    unfolding refusal_of
    stops_kept name is =
        kept_at name (λ k. idle_refusal k before) (λ k. idle_refusal k after) (λ k host. y ∷ [] ≡ Stop k ∷ []) idle_kept asked_idle
        (λ host e. subst (GivesWay h old) (one_note y (Stop h) [] e) way refl) is

    halts_kept : (name : List ℕ) → EventShape (event.Halt name) lines old (y ∷ []) → EventShape (event.Halt name) lines new (y ∷ [])
    unfolding refusal_of
    halts_kept name is =
        kept_at name (λ k. None) (λ k. None) (λ k host. y ∷ [] ≡ Halt k ∷ []) (λ k ne. refl) (λ w e. absurd cc)
        (λ host e. subst (GivesWay h old) (one_note y (Halt h) [] e) way refl) is

    umounts_same : (name : List ℕ) → EventShape (event.Umount name) lines old (y ∷ []) → EventShape (event.Umount name) lines new (y ∷ [])
    unfolding refusal_of
    umounts_same name is =
        kept_at name (λ k. umounts_refusal k before) (λ k. umounts_refusal k after) (λ k host. y ∷ [] ≡ Umount k ∷ []) umounts_kept asked_umounts
        (λ host e. subst (GivesWay h old) (one_note y (Umount h) [] e) way refl) is

    abbrev MovedAt : List ℕ → ℕ → ℕ → HostShape → Type 0
    MovedAt name line k host = (y ∷ [] ≡ []) ⊎ (y ∷ [] ≡ Refused name (why.MediaFault (record { 0 = line })) ∷ [])

    not_moved : (name : List ℕ) (line : ℕ) → number_of name before ≡ Some h → (y ∷ [] ≡ []) ⊎ (y ∷ [] ≡ Refused name (why.MediaFault (record { 0 = line })) ∷ []) → ⊥
    not_moved name line number (inl e) = none_one y e
    not_moved name line number (inr e) = not_refused name (why.MediaFault (record { 0 = line })) number tt e

    moves_kept : (name : List ℕ) (line : ℕ) (move : Move) → DoesShape (call.Moves name line move) lines old (y ∷ []) → DoesShape (call.Moves name line move) lines new (y ∷ [])
    unfolding refusal_of
    moves_kept name line move is =
        kept name (λ k. line_refusal line before) (λ k. line_refusal line after) _ _ (λ k ne. refl)
        (asked_when (nat_le (length before.memory) line) (why.NoLine line (length before.memory)) tt)
        (λ number. own_at name (MovedAt name line) (λ host. not_moved name line number) number) (at_kept name (MovedAt name line)) is

    -- a command that begins, alone or with its notes
    begin_kept : (Q : ℕ → List HostShape → List Note → Type 0) (name : List ℕ) (what : Ask)
        → ShapeByRefusal name (may_begin name (mounts what) before) (y ∷ []) (UnfitNotes name what (y ∷ []) ⊎ StartShape Q name what lines old (y ∷ []))
        → EventShape (event.Begin name what) lines new (y ∷ [])
    begin_kept Q name what is =
        kept name (λ k. begins_refusal k (mounts what) before) (λ k. begins_refusal k (mounts what) after) _ _ (begins_kept (mounts what)) (asked_begins (mounts what)) own other is
      where
        own : number_of name before ≡ Some h → UnfitNotes name what (y ∷ []) ⊎ StartShape Q name what lines old (y ∷ []) → ⊥
        own number (inl unfit) = not_refused name unfit.why number (asked_unfit what unfit.why unfit.unfit) unfit.notes_are
        own number (inr start) =
            subst (GivesWay h old) (one_note y (Start start.host start.cmd) start.rest start.notes_are) way (same_Some start.host h (sym start.number ∙ number))

        other : (k : ℕ) → number_of name before ≡ Some k → k ≢ h → UnfitNotes name what (y ∷ []) ⊎ StartShape Q name what lines old (y ∷ [])
            → UnfitNotes name what (y ∷ []) ⊎ StartShape NoMore name what lines new (y ∷ [])
        other k number ne (inl unfit) = inl unfit
        other k number ne (inr start) = inr (record {
          host = start.host;
          number = busier.number name ∙ start.number;
          cmd = start.cmd;
          asked = start.asked;
          rest = [];
          notes_are = ap (λ (z : Note). z ∷ []) (one_note y (Start start.host start.cmd) start.rest start.notes_are);
          follow = refl;
        })

    -- operations of a running command
    step_kept : (name : List ℕ) (count : ℕ) (a : Type 0) → ((k : ℕ) → number_of name before ≡ Some k → a → OperationsShape k old (y ∷ []) × (length (y ∷ []) ≤ count))
        → ShapeByRefusal name (on_host (number_of name before) (λ k. idle_refusal k before)) (y ∷ []) a → EventShape (event.Step name count) lines new (y ∷ [])
    step_kept name count a does is =
        kept name (λ k. idle_refusal k before) (λ k. idle_refusal k after) a _ idle_kept asked_idle
        (λ number x. not_running h old y way (slice_get old h) (does h number x).0.0) other is
      where
        other : (k : ℕ) → number_of name before ≡ Some k → k ≢ h → a → StepsShape count name lines new (y ∷ [])
        other k number ne x = record {
          host = k;
          number = busier.number name ∙ number;
          operations = (subst (λ (o : Option HostShape). OfRunning o (λ me t. TaskNote k me t y)) (sym (busier.others k ne)) (does k number x).0.0, tt);
          within = (does k number x).1;
        }

    finish_kept : (name : List ℕ) → EventShape (event.Finish name) lines old (y ∷ []) → EventShape (event.Step name 1) lines new (y ∷ [])
    unfolding refusal_of
    finish_kept name is = step_kept name 1 _ does is
      where
        of : (k : ℕ) (o : Option HostShape) → OfHostShape o (λ host. CompletesShape k old (y ∷ [])) → OperationsShape k old (y ∷ []) × (length (y ∷ []) ≤ 1)
        of k None x = absurd x
        of k (Some host) x = (x.operations, omega arith)

        does : (k : ℕ) → number_of name before ≡ Some k → HostActsShape (call.Finishes name) lines old (y ∷ []) → OperationsShape k old (y ∷ []) × (length (y ∷ []) ≤ 1)
        does k number x = of k (slice_get old k) (subst (λ (o : Option ℕ). AtShape o old (λ n host. CompletesShape n old (y ∷ []))) number x)

    -- Making a file system.

    -- an umount names the host that is busy itself
    itself : (name : List ℕ) (j : ℕ) → number_of name before ≡ Some j → j ≢ h → runs_shape (slice_get old j) ≡ true → y ∷ [] ≡ Refused name (why.Busy (record { 0 = j })) ∷ []
        → EventShape (event.Umount name) lines new (y ∷ [])
    unfolding refusal_of
    itself name j number ne runs is =
        subst (λ (o : Option ℕ). ShapeByRefusal name (on_host o (λ k. umounts_refusal k after)) (y ∷ []) (HostActsShape (call.Umounts name) lines new (y ∷ [])))
        (sym (busier.number name ∙ number))
        (subst (λ (b : Bool). ShapeByRefusal name (or_else (when b (why.Busy (record { 0 = j }))) (when (not (call.keeps_at j after)) why.NotMounted)) (y ∷ [])
        (HostActsShape (call.Umounts name) lines new (y ∷ [])))
        (sym busy) is)
      where
        busy : busy_at j after ≡ true
        busy = ap is_busy_host (slice_get-map shown_shape new j ∙ ap (option_map shown_shape) (busier.others j ne)) ∙ busy_runs (slice_get old j) ∙ runs

    not_made : (halt : Option ℕ) (k : ℕ) (p : Params) → GivesWay h old (made_note halt k p) → ⊥
    not_made None k p is = is
    not_made (Some n) k p is = is

    at_none : (R : ℕ → HostShape → Type 0) → ((k : ℕ) (host : HostShape) → R k host → ⊥) → (o : Option ℕ) → AtShape o old R → ⊥
    at_none R none None is = is
    at_none R none (Some k) is = by (slice_get old k) is
      where
        by : (p : Option HostShape) → OfHostShape p (R k) → ⊥
        by None is = is
        by (Some host) is = none k host is

    module _ (name : List ℕ) (request : MkfsRequest) (valid : IsValidEvent (event.Mkfs name request)) where
      abbrev Free : List HostShape → Type 0
      Free hosts = HostActsShape (call.Makes name request) lines hosts (y ∷ []) ⊎ DirtyShape name lines hosts (y ∷ [])

      abbrev numbers : Option Refusal
      numbers = option_map cause_of (early_refusal request.unit request.log (line_bytes * length before.memory))

      not_free : Free old → ⊥
      not_free (inl acts) = at_none _ none (number_of name before) acts
        where
          none : (k : ℕ) (host : HostShape) → ActsShape (call.Makes name request) k host lines old (y ∷ []) → ⊥
          none k host (inl made) = not_made request.halt k _ (subst (GivesWay h old) (one_note y _ [] made) way)
          none k host (inr stands) = subst (GivesWay h old) (one_note y _ [] stands.notes_are) way
      not_free (inr dirty) = subst (GivesWay h old) (one_note y _ [] dirty.notes_are) way

      -- a refusal that stays
      stays : (k : ℕ) → number_of name before ≡ Some k → (w : Refusal) → makes_told request.unit request.log after ≡ Some w → y ∷ [] ≡ Refused name w ∷ []
          → IsFormedNote lines new y
      stays k number w told is =
          formed (event.Mkfs name request) valid
          (subst (λ (o : Option Refusal). ShapeByRefusal name o (y ∷ []) (Free new))
          (sym (ap (λ (o : Option ℕ). on_host o (λ n. makes_told request.unit request.log after)) (busier.number name ∙ number) ∙ told)) is)

      by_way : (k : ℕ) → number_of name before ≡ Some k → numbers ≡ None → (j : ℕ) → index_of is_engaged (map shown_shape old) ≡ Some j
          → y ∷ [] ≡ Refused name (why.Busy (record { 0 = j })) ∷ [] → number_named name old ≢ Some h → BusyGivesWay h old name j → IsFormedNote lines new y
      by_way k number e j first is other (inl below) =
          stays k number (why.Busy (record { 0 = j })) (ap₂ (λ (a : Option Refusal) (o : Option ℕ). or_else a (busy_refusal o)) e (busier.engaged j below first)) is
      by_way k number e j first is other (inr self) =
          formed (event.Umount name) tt (itself name j self.0 (λ same. other (self.0 ∙ ap Some same)) self.1 is)

      by_busy : (k : ℕ) → number_of name before ≡ Some k → numbers ≡ None → (o : Option ℕ) → index_of is_engaged (map shown_shape old) ≡ o
          → ShapeByRefusal name (busy_refusal o) (y ∷ []) (Free old) → IsFormedNote lines new y
      by_busy k number e None first is = absurd (not_free is)
      by_busy k number e (Some j) first is =
          let gives = subst (GivesWay h old) (one_note y (Refused name (why.Busy (record { 0 = j }))) [] is) way in by_way k number e j first is gives.0 gives.1

      by_numbers : (k : ℕ) → number_of name before ≡ Some k → (q : Option Refusal) → numbers ≡ q
          → ShapeByRefusal name (or_else q (busy_refusal (index_of is_engaged (map shown_shape old)))) (y ∷ []) (Free old) → IsFormedNote lines new y
      by_numbers k number None e is = by_busy k number e (index_of is_engaged (map shown_shape old)) refl is
      by_numbers k number (Some w) e is =
          stays k number w (ap (λ (q : Option Refusal). or_else q (busy_refusal (index_of is_engaged (map shown_shape new)))) e) is

      by_number : (o : Option ℕ) → number_of name before ≡ o → ShapeByRefusal name (on_host o (λ k. makes_told request.unit request.log before)) (y ∷ []) (Free old)
          → IsFormedNote lines new y
      by_number None number is =
          formed (event.Mkfs name request) valid
          (subst (λ (o : Option ℕ). ShapeByRefusal name (on_host o (λ n. makes_told request.unit request.log after)) (y ∷ []) (Free new)) (sym (busier.number name ∙ number)) is)
      by_number (Some k) number is = by_numbers k number numbers refl is

      made_kept : EventShape (event.Mkfs name request) lines old (y ∷ []) → IsFormedNote lines new y
      made_kept is = by_number (number_of name before) refl is

    -- whichever event gives it
    event_kept : (e : Event) → IsValidEvent e → EventShape e lines old (y ∷ []) → IsFormedNote lines new y
    event_kept (event.Host name uuid) valid is = formed (event.Host name uuid) valid (hosts_kept name uuid is)
    event_kept (event.Mkfs name request) valid is = made_kept name request valid is
    event_kept (event.Begin name what) valid is = formed (event.Begin name what) tt (begin_kept NoMore name what is)
    event_kept (event.Run name what) valid is = formed (event.Begin name what) tt (begin_kept CompletesShape name what is)
    event_kept (event.Step name count) valid is =
        formed (event.Step name count) tt (step_kept name count (StepsShape count name lines old (y ∷ [])) does is)
      where
        does : (k : ℕ) → number_of name before ≡ Some k → StepsShape count name lines old (y ∷ []) → OperationsShape k old (y ∷ []) × (length (y ∷ []) ≤ count)
        does k number x = (subst (λ (n : ℕ). OperationsShape n old (y ∷ [])) (same_Some x.host k (sym x.number ∙ number)) x.operations, x.within)
    event_kept (event.Finish name) valid is = formed (event.Step name 1) tt (finish_kept name is)
    event_kept (event.Stop name) valid is = formed (event.Stop name) tt (stops_kept name is)
    event_kept (event.Halt name) valid is = formed (event.Halt name) tt (halts_kept name is)
    event_kept (event.Umount name) valid is = formed (event.Umount name) tt (umounts_same name is)
    event_kept (event.Evict name line) valid is = formed (event.Evict name line) tt (moves_kept name line.0 Evict is)
    event_kept (event.Leak name line mask) valid is = formed (event.Leak name line mask) tt (moves_kept name line.0 (Leak mask.0) is)
    event_kept (event.Fetch name line mask) valid is = formed (event.Fetch name line mask) tt (moves_kept name line.0 (Fetch mask.0) is)

  -- a line that gives way has the form of the tables still
  pub formed_kept : (y : Note) → GivesWay h old y → IsFormedNote lines old y → IsFormedNote lines new y
  formed_kept y way is = event_kept y way is.sound is.placed is.event is.valid is.shape
