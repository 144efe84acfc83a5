-- Where the notes of commands come from: a start is of a host that may begin, and what a command gives is of the one that runs.
use Rattle.std.proofs.Common.{◌≡◌, ◌≢◌, ◌⊎◌, inl, inr, ℕ, true, false, List, [], ◌∷◌, Option, Some, None, refl, ap, sym, ◌∙◌, subst}
use Rattle.std.specs.Prelude.{⊤, IsTrue, is_some, slice_get}
use Rattle.fam_base.specs.declared.cmd.Cmd.{Cmd}
use Rattle.fam_base.specs.declared.entry.Params.{Params}
use Rattle.fam_machine.specs.declared.request.MkfsRequest.{MkfsRequest}
use Rattle.fam_machine.specs.HostMoves.{Evict, Fetch, Leak, Move}
use Rattle.fam_journal.specs.declared.event.Ask.{Ask}
use Rattle.fam_journal.specs.declared.event.Event.{Event}
use Rattle.fam_journal.specs.declared.event.Event.TheVariants as event
use Rattle.fam_journal.specs.declared.refusal.Refusal.{Refusal}
use Rattle.fam_journal.specs.Calls as call
use Rattle.fam_journal.specs.Calls.{Call, asked_name, begins_refusal, idle_refusal, may_begin, number_of, on_host}
use Rattle.fam_journal.specs.Events.{mounts}
use Rattle.fam_journal.specs.EventShapes.{AskShape, EventShape, NoMore, StartShape, StepsShape, UnfitNotes}
use Rattle.fam_journal.specs.Notes.{Note, Host, Made, Cut, Start, Mark, Found, Writes, Answered, Stop, Halt, Umount, Refused}
use Rattle.fam_journal.specs.Shapes.{ActsShape, AtShape, CompletesShape, DirtyShape, DoesShape, FreeShape, HostActsShape, HostShape, OfHostShape, OfRunning, OfTask, ShapeByRefusal, TaskNote, TaskShape, made_note, refusal_told, runs_shape, shown_shapes}
use Rattle.fam_judge.specs.Formed.{IsFormedNote}
use Rattle.fam_judge.specs.GivesWay.{GivesWay, number_named}
use Rattle.fam_judge.specs.Shows.{is_inner}

-- a note that is of no command, declares no host and makes no file system
abbrev pub IsPlain : Note → Type 0
IsPlain (Host name uuid) = ⊥
IsPlain (Made k p) = ⊥
IsPlain (Cut k n) = ⊥
IsPlain (Start k cmd) = ⊥
IsPlain (Mark k) = ⊥
IsPlain (Found k n) = ⊥
IsPlain (Writes k seq entry) = ⊥
IsPlain (Answered k answer) = ⊥
IsPlain note = ⊤

-- the host may begin the command
pub record MayBegin (lines : ℕ) (hosts : List HostShape) (h : ℕ) (cmd : Cmd) : Type 0 where
  pub name : List ℕ
  pub what : Ask
  pub number : number_named name hosts ≡ Some h
  pub free : begins_refusal h (mounts what) (shown_shapes lines hosts) ≡ None
  pub asked : AskShape what cmd

-- the host runs a command, which may give the note next
pub record MayGive (hosts : List HostShape) (h : ℕ) (y : Note) : Type 0 where
  pub name : List ℕ
  pub number : number_named name hosts ≡ Some h
  pub task : OfRunning (slice_get hosts h) (λ me t. TaskNote h me t y)

-- a note of a file system that is made, or was begun
abbrev pub IsMaking : Note → Type 0
IsMaking (Made k p) = ⊤
IsMaking (Cut k n) = ⊤
IsMaking note = ⊥

-- where a note comes from
pub data Origin (lines : ℕ) (hosts : List HostShape) (y : Note) : Type 0 where
  begins : (h : ℕ) (cmd : Cmd) → y ≡ Start h cmd → MayBegin lines hosts h cmd → Origin lines hosts y
  gives : (h : ℕ) → MayGive hosts h y → Origin lines hosts y
  declares : (name uuid : List ℕ) → y ≡ Host name uuid → refusal_told (call.Declares name uuid) lines hosts ≡ None → Origin lines hosts y
  makes : (name : List ℕ) (request : MkfsRequest) → IsMaking y → refusal_told (call.Makes name request) lines hosts ≡ None → Origin lines hosts y
  plain : IsPlain y → Origin lines hosts y

-- no command gives nothing
none_task : (k : Option TaskShape) → OfTask k (λ t. ⊥) → ⊥
none_task None x = x
none_task (Some t) x = x

-- so of a host's
pub none_running : (o : Option HostShape) → OfRunning o (λ me t. ⊥) → ⊥
none_running None x = x
none_running (Some host) x = none_task host.task x

-- one note is one note
pub one_note : (a b : Note) (rest : List Note) → a ∷ [] ≡ b ∷ rest → a ≡ b
one_note a b rest e = cc

-- and not none
pub none_one : (a : Note) → a ∷ [] ≡ [] → ⊥
none_one a e = cc

module _ (lines : ℕ) (hosts : List HostShape) (y : Note) where
  plainly : (z : Note) (rest : List Note) → IsPlain z → y ∷ [] ≡ z ∷ rest → Origin lines hosts y
  plainly z rest is e = plain (subst IsPlain (sym (one_note y z rest e)) is)

  by_refusal : (name : List ℕ) (o : Option Refusal) (free : Type 0) → (o ≡ None → free → Origin lines hosts y) → ShapeByRefusal name o (y ∷ []) free → Origin lines hosts y
  by_refusal name (Some w) free next is = plainly (Refused name w) [] tt is
  by_refusal name None free next is = next refl is

  by_host : (R : ℕ → HostShape → Type 0) → (o : Option ℕ) → ((k : ℕ) (host : HostShape) → o ≡ Some k → R k host → Origin lines hosts y) → AtShape o hosts R
      → Origin lines hosts y
  by_host R None next is = absurd is
  by_host R (Some k) next is = by (slice_get hosts k) is
    where
      by : (p : Option HostShape) → OfHostShape p (R k) → Origin lines hosts y
      by None is = absurd is
      by (Some host) is = next k host refl is

  made : (halt : Option ℕ) (k : ℕ) (p : Params) → IsMaking (made_note halt k p)
  made None k p = tt
  made (Some n) k p = tt

  by_call : (c : Call) → (FreeShape c lines hosts (y ∷ []) → Origin lines hosts y) → DoesShape c lines hosts (y ∷ []) → Origin lines hosts y
  by_call c next is = by_refusal (asked_name c) (refusal_told c lines hosts) (FreeShape c lines hosts (y ∷ [])) (λ e. next) is

  by_move : (name : List ℕ) (line : ℕ) (move : Move) → DoesShape (call.Moves name line move) lines hosts (y ∷ []) → Origin lines hosts y
  by_move name line move is = by_call (call.Moves name line move) (by_host _ (number_of name (shown_shapes lines hosts)) moved) is
    where
      moved : (k : ℕ) (host : HostShape) → number_of name (shown_shapes lines hosts) ≡ Some k → ActsShape (call.Moves name line move) k host lines hosts (y ∷ [])
          → Origin lines hosts y
      moved k host number (inl none) = absurd (none_one y none)
      moved k host number (inr fault) = plainly _ [] tt fault

  by_start : (Q : ℕ → List HostShape → List Note → Type 0) (name : List ℕ) (what : Ask) → may_begin name (mounts what) (shown_shapes lines hosts) ≡ None
      → UnfitNotes name what (y ∷ []) ⊎ StartShape Q name what lines hosts (y ∷ []) → Origin lines hosts y
  by_start Q name what free (inl unfit) = plainly (Refused name unfit.why) [] tt unfit.notes_are
  by_start Q name what free (inr start) =
      begins start.host start.cmd (one_note y _ start.rest start.notes_are)
      (record {
        name = name;
        what = what;
        number = start.number;
        free = sym (ap (λ (o : Option ℕ). on_host o (λ k. begins_refusal k (mounts what) (shown_shapes lines hosts))) start.number) ∙ free;
        asked = start.asked;
      })

  -- by the event that gives it
  pub by_event : (e : Event) → EventShape e lines hosts (y ∷ []) → Origin lines hosts y
  by_event (event.Host name uuid) is =
      by_refusal name (refusal_told (call.Declares name uuid) lines hosts) (y ∷ [] ≡ Host name uuid ∷ []) (λ e are. declares name uuid (one_note y (Host name uuid) [] are) e) is
  by_event (event.Mkfs name request) is =
      by_refusal name (refusal_told (call.Makes name request) lines hosts) (FreeShape (call.Makes name request) lines hosts (y ∷ [])) making is
    where
      at : refusal_told (call.Makes name request) lines hosts ≡ None → (k : ℕ) (host : HostShape) → number_of name (shown_shapes lines hosts) ≡ Some k
          → ActsShape (call.Makes name request) k host lines hosts (y ∷ []) → Origin lines hosts y
      at e k host number (inl are) = makes name request (subst IsMaking (sym (one_note y _ [] are)) (made request.halt k _)) e
      at e k host number (inr stands) = plainly _ [] tt stands.notes_are

      making : refusal_told (call.Makes name request) lines hosts ≡ None → HostActsShape (call.Makes name request) lines hosts (y ∷ []) ⊎ DirtyShape name lines hosts (y ∷ [])
          → Origin lines hosts y
      making e (inl acts) = by_host _ (number_of name (shown_shapes lines hosts)) (at e) acts
      making e (inr dirty) = plainly _ [] tt dirty.notes_are
  by_event (event.Begin name what) is = by_refusal name (may_begin name (mounts what) (shown_shapes lines hosts)) _ (by_start NoMore name what) is
  by_event (event.Run name what) is = by_refusal name (may_begin name (mounts what) (shown_shapes lines hosts)) _ (by_start CompletesShape name what) is
  by_event (event.Step name count) is =
      by_refusal name (on_host (number_of name (shown_shapes lines hosts)) (λ h. idle_refusal h (shown_shapes lines hosts))) (StepsShape count name lines hosts (y ∷ []))
      (λ e steps. gives steps.host (record { name = name; number = steps.number; task = steps.operations.0 })) is
  by_event (event.Finish name) is = by_call (call.Finishes name) (by_host _ (number_of name (shown_shapes lines hosts)) finishing) is
    where
      finishing : (k : ℕ) (host : HostShape) → number_of name (shown_shapes lines hosts) ≡ Some k → CompletesShape k hosts (y ∷ []) → Origin lines hosts y
      finishing k host number completes = gives k (record { name = name; number = number; task = completes.operations.0 })
  by_event (event.Stop name) is = by_call (call.Stops name) (by_host _ (number_of name (shown_shapes lines hosts)) (λ k host number are. plainly (Stop k) [] tt are)) is
  by_event (event.Halt name) is = by_call (call.Halts name) (by_host _ (number_of name (shown_shapes lines hosts)) (λ k host number are. plainly (Halt k) [] tt are)) is
  by_event (event.Umount name) is = by_call (call.Umounts name) (by_host _ (number_of name (shown_shapes lines hosts)) (λ k host number are. plainly (Umount k) [] tt are)) is
  by_event (event.Evict name line) is = by_move name line.0 Evict is
  by_event (event.Leak name line mask) is = by_move name line.0 (Leak mask.0) is
  by_event (event.Fetch name line mask) is = by_move name line.0 (Fetch mask.0) is

-- Notes that a history leaves out.

-- what another host's command gives gives way
task_way : (h n : ℕ) (hosts : List HostShape) → n ≢ h → (me : List ℕ) (t : TaskShape) (y : Note) → TaskNote n me t y → GivesWay h hosts y
task_way h n hosts ne me t (Mark k) is = λ e. ne (sym is.0 ∙ e)
task_way h n hosts ne me t (Found k count) is = λ e. ne (sym is.0 ∙ e)
task_way h n hosts ne me t (Writes k seq entry) is = λ e. ne (sym is.0 ∙ e)
task_way h n hosts ne me t (Answered k answer) is = λ e. ne (sym is.0 ∙ e)
task_way h n hosts ne me t y is = absurd is

running_way : (h n : ℕ) (hosts : List HostShape) (y : Note) (o : Option HostShape) → (runs_shape o ≡ true → n ≢ h) → OfRunning o (λ me t. TaskNote n me t y)
    → GivesWay h hosts y
running_way h n hosts y None ne is = absurd is
running_way h n hosts y (Some host) ne is = by host.task ne is
  where
    by : (k : Option TaskShape) → (is_some k ≡ true → n ≢ h) → OfTask k (λ t. TaskNote n host.uuid t y) → GivesWay h hosts y
    by None ne is = absurd is
    by (Some t) ne is = task_way h n hosts (ne refl) host.uuid t y is

plain_inner : (y : Note) → IsTrue (is_inner y) → IsPlain y → ⊥
plain_inner (Mark k) inner is = is
plain_inner (Found k n) inner is = is
plain_inner (Writes k seq entry) inner is = is
plain_inner y inner is = cc

making_inner : (y : Note) → IsTrue (is_inner y) → IsMaking y → ⊥
making_inner (Made k p) inner is = cc
making_inner (Cut k n) inner is = cc
making_inner y inner is = is

host_inner : (name uuid : List ℕ) → IsTrue (is_inner (Host name uuid)) → ⊥
host_inner name uuid inner = cc

start_inner : (h : ℕ) (cmd : Cmd) → IsTrue (is_inner (Start h cmd)) → ⊥
start_inner h cmd inner = cc

-- so an idle host gives none that is left out
pub inner_way : (lines : ℕ) (hosts : List HostShape) (h : ℕ) (y : Note) → IsTrue (is_inner y) → runs_shape (slice_get hosts h) ≡ false → IsFormedNote lines hosts y
    → GivesWay h hosts y
inner_way lines hosts h y inner idle is = by (by_event lines hosts y is.event is.shape)
  where
    apart : (n : ℕ) → runs_shape (slice_get hosts n) ≡ true → n ≢ h
    apart n runs same = let here : runs_shape (slice_get hosts n) ≡ false = ap (λ (k : ℕ). runs_shape (slice_get hosts k)) same ∙ idle in cc

    by : Origin lines hosts y → GivesWay h hosts y
    by (begins n c e may) = absurd (start_inner n c (subst (λ (z : Note). IsTrue (is_inner z)) e inner))
    by (gives n give) = running_way h n hosts y (slice_get hosts n) (apart n) give.task
    by (declares name uuid e none) = absurd (host_inner name uuid (subst (λ (z : Note). IsTrue (is_inner z)) e inner))
    by (makes name request is none) = absurd (making_inner y inner is)
    by (plain is) = absurd (plain_inner y inner is)
