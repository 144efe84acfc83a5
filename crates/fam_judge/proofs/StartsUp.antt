-- A start is moved up, over lines that give way.
use Rattle.std.proofs.Common.{◌≡◌, ◌⊎◌, inl, inr, ℕ, false, List, [], ◌∷◌, ◌++◌, length, map, Option, Some, refl, ap, sym, ◌∙◌, subst, arith}
use Rattle.std.specs.Prelude.{◌&&◌, nat_lt, option_map, slice_get}
use Rattle.std.proofs.lemmas.List.{append_assoc, append-nil, length-map}
use Rattle.std.proofs.lemmas.Option.{slice_get-map}
use Rattle.fam_base.specs.declared.cmd.Cmd.{Cmd}
use Rattle.fam_base.specs.Image.{Image}
use Rattle.fam_format.specs.Layout.{least_lines}
use Rattle.fam_format.specs.Stop.{or_else}
use Rattle.fam_journal.specs.declared.event.Event.TheVariants as event
use Rattle.fam_journal.specs.declared.refusal.Refusal.{Refusal}
use Rattle.fam_journal.specs.declared.refusal.Refusal.TheVariants as why
use Rattle.fam_journal.specs.Calls.{begins_refusal, busy_at, has_name, is_busy_host, is_engaged, is_kept_host, is_same, on_host, when}
use Rattle.fam_journal.specs.Events.{mounts}
use Rattle.fam_journal.specs.EventShapes.{NoMore, StartShape, UnfitNotes}
use Rattle.fam_journal.specs.Legal.{Allowed}
use Rattle.fam_journal.specs.Machines.{HostState}
use Rattle.fam_journal.specs.Members.{changed_at, index_of}
use Rattle.fam_journal.specs.Notes.{Note, Start}
use Rattle.fam_journal.specs.Past.{Past, first_past, past_after, past_behind, past_of}
use Rattle.fam_journal.specs.Shapes.{Begun, HostShape, ShapeByRefusal, runs_shape, shapes_after, shapes_of, shown_shape, shown_shapes}
use Rattle.fam_journal.proofs.Calls.Members.{changed_other}
use Rattle.fam_journal.proofs.Calls.Tests.{no_when, or_first, or_next}
use Rattle.fam_journal.proofs.Settled.Journals.{past_both}
use Rattle.fam_judge.specs.Alike.{told_note}
use Rattle.fam_judge.specs.Explained.{IsExplained}
use Rattle.fam_judge.specs.Formed.{AreFormed, IsFormedNote, IsSoundCommand}
use Rattle.fam_judge.specs.GivesWay.{GivesWay, GiveWay, number_named}
use Rattle.fam_judge.specs.Shows.{ShowsJournal}
use Rattle.fam_judge.proofs.Aside.{Apart, counts_alike, number_before, shape_aside, shape_order, start_allows, start_order, way_apart}
use Rattle.fam_judge.proofs.Busier.{IsBusier, busy_runs, formed_kept}
use Rattle.fam_judge.proofs.Explaining.{one_more, sound-append}
use Rattle.fam_judge.proofs.Members.{changed_count, changed_same, place_first, place_kept}
use Rattle.fam_judge.proofs.Origins.{MayBegin, Origin, begins, by_event, declares, gives, inner_way, makes, none_running, plain}
use Rattle.fam_judge.proofs.Seen.{inner_unseen, runs_seen, shown_seen, way_shown}
use Rattle.fam_judge.proofs.Showing.{first_line, parts, shows_both}
use Rattle.fam_judge.proofs.Swapping.{Stands, Swaps, all_swapped, alike_both, behind_both, behind_one, behind_some, shapes_one}

-- A start.

record Started (lines : ℕ) (hosts : List HostShape) (h : ℕ) (cmd : Cmd) : Type 0 where
  may : MayBegin lines hosts h cmd
  sound : IsSoundCommand cmd

same_host : (h k : ℕ) (c d : Cmd) → Start h c ≡ Start k d → h ≡ k
same_host h k c d e = cc

same_command : (h k : ℕ) (c d : Cmd) → Start h c ≡ Start k d → c ≡ d
same_command h k c d e = cc

started : (lines : ℕ) (hosts : List HostShape) (h : ℕ) (cmd : Cmd) → IsFormedNote lines hosts (Start h cmd) → Started lines hosts h cmd
started lines hosts h cmd is = record { may = by (by_event lines hosts (Start h cmd) is.event is.shape); sound = is.sound }
  where
    by : Origin lines hosts (Start h cmd) → MayBegin lines hosts h cmd
    by (begins k c e may) =
        subst (λ (n : ℕ). MayBegin lines hosts n cmd) (sym (same_host h k cmd c e)) (subst (λ (x : Cmd). MayBegin lines hosts k x) (sym (same_command h k cmd c e)) may)
    by (gives k give) = absurd (none_running (slice_get hosts k) give.task)
    by (declares name uuid e none) = absurd cc
    by (makes name request is none) = absurd is
    by (plain is) = absurd is

formed_start : (lines : ℕ) (hosts : List HostShape) (h : ℕ) (cmd : Cmd) → Started lines hosts h cmd → IsFormedNote lines hosts (Start h cmd)
formed_start lines hosts h cmd s = record {
  event = event.Begin s.may.name s.may.what;
  valid = tt;
  shape = subst (λ (o : Option Refusal). ShapeByRefusal s.may.name o (Start h cmd ∷ [])
      (UnfitNotes s.may.name s.may.what (Start h cmd ∷ []) ⊎ StartShape NoMore s.may.name s.may.what lines hosts (Start h cmd ∷ [])))
      (sym (ap (λ (o : Option ℕ). on_host o (λ k. begins_refusal k (mounts s.may.what) (shown_shapes lines hosts))) s.may.number ∙ s.may.free))
      (inr (record { host = h; number = s.may.number; cmd = cmd; asked = s.may.asked; rest = []; notes_are = refl; follow = refl }));
  sound = s.sound;
  placed = tt;
}

-- its host runs nothing
start_idle : (lines : ℕ) (hosts : List HostShape) (h : ℕ) (cmd : Cmd) → Started lines hosts h cmd → runs_shape (slice_get hosts h) ≡ false
start_idle lines hosts h cmd s =
    sym (ap is_busy_host (slice_get-map shown_shape hosts h) ∙ busy_runs (slice_get hosts h))
    ∙ no_when (busy_at h (shown_shapes lines hosts)) (why.Busy (record { 0 = h }))
    (or_first _ _ (or_next (when (nat_lt (length (shown_shapes lines hosts).memory) least_lines) (why.ImageSmall (length (shown_shapes lines hosts).memory))) _ s.may.free))

-- it may begin wherever it stands so, under its name
start_from : (lines : ℕ) (a b : List HostShape) (h : ℕ) (cmd : Cmd) → slice_get a h ≡ slice_get b h
    → ((name : List ℕ) → number_named name a ≡ Some h → number_named name b ≡ Some h)
    → Started lines a h cmd → Started lines b h cmd
start_from lines a b h cmd same numbers s =
    let m = s.may in
    record {
      may = record {
        name = m.name;
        what = m.what;
        number = numbers m.name m.number;
        free = ap (λ (o : Option HostState). or_else (when (nat_lt (length (shown_shapes lines a).memory) least_lines) (why.ImageSmall (length (shown_shapes lines a).memory)))
            (or_else (when (is_busy_host o) (why.Busy (record { 0 = h }))) (when (mounts m.what && is_kept_host o) why.Mounted)))
            (slice_get-map shown_shape b h ∙ ap (option_map shown_shape) (sym same) ∙ sym (slice_get-map shown_shape a h)) ∙ m.free;
        asked = m.asked;
      };
      sound = s.sound;
    }

-- A start and the line before it.

module _ (start : Image) (h : ℕ) (cmd : Cmd) where
  abbrev lines : ℕ
  lines = length start

  abbrev begun : HostShape → HostShape
  begun host = record host { task = Some (record { cmd = cmd; stage = Begun }) }

  -- behind it its host is engaged
  started_busier : (hosts : List HostShape) → Started lines hosts h cmd → IsBusier h hosts (shapes_after hosts (Start h cmd))
  started_busier hosts s = record {
    number = λ name. place_kept shown_shape (has_name name) h begun (λ x. refl) hosts 0;
    same = λ name uuid. place_kept shown_shape (is_same name uuid) h begun (λ x. refl) hosts 0;
    count = length-map (changed_at h begun hosts) shown_shape ∙ changed_count h begun hosts ∙ sym (length-map hosts shown_shape);
    others = λ k ne. changed_other h k begun hosts ne;
    engaged = λ j below e.
        place_first shown_shape is_engaged h begun (λ x. x) hosts 0 j (λ x is. refl) (omega (arith, below))
        (ap (λ l. index_of is_engaged (map shown_shape l)) (changed_same h (λ x. x) hosts (λ x is. refl)) ∙ e);
  }

  -- Behind the line and the start it is as behind the start and the line.

  orders : (before : List Note) (y : Note) → Apart h (length (shapes_of before)) (told_note y) → Swaps start before y (Start h cmd)
  orders before y way z front first second back fronts firsts seconds allowed =
      subst (λ (x : Past). Allowed x z)
      (past_both (first_past start) front (first ∷ second ∷ back) ∙ ap (λ (x : Past). past_behind x back) same ∙ sym (past_both (first_past start) front (second ∷ first ∷ back)))
      allowed
    where
      same : past_after (past_after (past_of start front) first) second ≡ past_after (past_after (past_of start front) second) first
      same = by second seconds
        where
          count : length (past_of start front).hosts ≡ length (shapes_of before)
          count = counts_alike before front fronts (first_past start) [] refl

          apart : Apart h (length (past_of start front).hosts) (told_note first)
          apart = subst (λ (n : ℕ). Apart h n (told_note first)) (sym count) (subst (Apart h (length (shapes_of before))) firsts way)

          by : (n : Note) → told_note (Start h cmd) ≡ told_note n
              → past_after (past_after (past_of start front) first) n ≡ past_after (past_after (past_of start front) n) first
          by (Start k c) e =
              let host : h ≡ k = cc in
              subst (λ (m : ℕ). past_after (past_after (past_of start front) first) (Start m c) ≡ past_after (past_after (past_of start front) (Start m c)) first) host
              (start_order h c (past_of start front) first apart)
          by n e = absurd cc

  -- the start is moved up over a line
  over_line : (before : List Note) (y : Note) (notes : List Note) → GivesWay h (shapes_of before) y → Stands start before (y ∷ Start h cmd ∷ notes)
      → Stands start before (Start h cmd ∷ y ∷ notes)
  over_line before y notes way is =
      let hosts = shapes_of before in
      let apart = way_apart h hosts y way in
      let behind = started lines (shapes_after hosts y) h cmd is.formed.1.0 in
      let s = start_from lines (shapes_after hosts y) hosts h cmd (shape_aside h hosts y apart) (λ name. number_before h hosts name y apart) behind in
      let some = is.allowed.0 in
      record {
        formed = (
          formed_start lines hosts h cmd s,
          (
            formed_kept lines h hosts (shapes_after hosts (Start h cmd)) (started_busier hosts s) y way is.formed.0,
            subst (λ (l : List HostShape). AreFormed lines l notes) (shape_order h hosts begun y apart) is.formed.1.1,
          ),
        );
        allowed = (
          record { chosen = some.chosen; alike = some.alike; sound = some.sound; allowed = tt },
          (
            record {
              chosen = some.chosen ++ Start h cmd ∷ [];
              alike = alike_both before (Start h cmd ∷ []) some.chosen (Start h cmd ∷ []) some.alike refl;
              sound = sound-append some.chosen (Start h cmd ∷ []) some.sound (s.sound, tt);
              allowed = subst (λ (x : Past). Allowed x y) (sym (one_more (first_past start) some.chosen (Start h cmd)))
                  (start_allows h cmd (past_of start some.chosen) y
                  (subst (λ (n : ℕ). Apart h n (told_note y)) (sym (counts_alike before some.chosen some.alike (first_past start) [] refl)) apart) some.allowed);
            },
            all_swapped start before y (Start h cmd) (orders before y apart) notes is.allowed.1.1,
          ),
        );
      }

  -- Notes that a history leaves out.

  -- over all of them: their hosts run, and the start's is idle
  over_inner : (before out notes : List Note) → ShowsJournal [] out → Stands start before (out ++ Start h cmd ∷ notes) → Stands start before (Start h cmd ∷ (out ++ notes))
  over_inner before [] notes left is = is
  over_inner before (y ∷ out) notes left is =
      let hosts = shapes_of before in
      let next = behind_one start before y (out ++ Start h cmd ∷ notes) (Start h cmd ∷ (out ++ notes)) (over_inner (before ++ y ∷ []) out notes left.1) is in
      let behind = shapes_after hosts y in
      let idle = runs_seen hosts behind (sym (inner_unseen hosts y left.0)) h ∙ start_idle lines behind h cmd (started lines behind h cmd next.formed.1.0) in
      over_line before y (out ++ notes) (inner_way lines hosts h y left.0 idle next.formed.0) next

-- Histories.

start_told : (h : ℕ) (cmd : Cmd) (note : Note) → told_note (Start h cmd) ≡ told_note note → (c : Cmd) × (note ≡ Start h c)
start_told h cmd (Start k c) e = let same : h ≡ k = cc in (c, ap (λ (m : ℕ). Start m c) (sym same))
start_told h cmd note e = absurd cc

-- over one line
pub one_up : (start : Image) (a b : List Note) (x : Note) (h : ℕ) (cmd : Cmd) → GivesWay h (shapes_of a) x → IsExplained start (a ++ x ∷ Start h cmd ∷ b)
    → IsExplained start (a ++ Start h cmd ∷ x ∷ b)
one_up start a b x h cmd way is =
    let p = parts a (x ∷ Start h cmd ∷ b) is.0 is.1.shown in
    let l = first_line x (Start h cmd ∷ b) p.back p.left in
    let s = first_line (Start h cmd) b l.back l.left in
    let c = start_told h cmd s.note s.told in
    let front : List Note = p.front ++ l.out in
    let old : List Note = s.out ++ Start h c.0 ∷ s.back in
    let new : List Note = s.out ++ s.back in
    let whole : is.0 ≡ front ++ l.note ∷ old =
    p.whole ∙ ap (λ (k : List Note). p.front ++ k) (l.whole ∙ ap (λ (k : List Note). l.out ++ l.note ∷ k) (s.whole ∙ ap (λ (n : Note). s.out ++ n ∷ s.back) c.1))
    ∙ behind_both p.front l.out (l.note ∷ old) in
    let shown : ShowsJournal a front = subst (λ (k : List Note). ShowsJournal k front) (append-nil a) (shows_both a [] p.front l.out p.shown l.left_out) in
    let gives : GivesWay h (shapes_of front) l.note = way_shown h (shapes_of a) (shapes_of front) (shown_seen a front shown [] [] refl) x l.note l.told way in
    let moved : Stands start [] (front ++ Start h c.0 ∷ l.note ∷ new) =
    behind_some start [] front (l.note ∷ old) (Start h c.0 ∷ l.note ∷ new)
    (λ st. over_line start h c.0 front l.note new gives
    (behind_one start front l.note old (Start h c.0 ∷ new) (over_inner start h c.0 (front ++ l.note ∷ []) s.out s.back s.left_out) st))
    (subst (λ (k : List Note). Stands start [] k) whole (record { formed = is.1.formed; allowed = is.1.allowed })) in (
      front ++ Start h c.0 ∷ l.note ∷ new,
      record {
        shown = shows_both a (Start h cmd ∷ x ∷ b) front (Start h c.0 ∷ l.note ∷ new) shown
            (inl (s.told ∙ ap told_note c.1, inl (l.told, shows_both [] b s.out s.back s.left_out s.left)));
        formed = moved.formed;
        allowed = moved.allowed;
      },
    )

-- over lines, the last one first
pub start_up : (start : Image) (lines a b : List Note) (h : ℕ) (cmd : Cmd) → GiveWay h (shapes_of a) lines → IsExplained start (a ++ (lines ++ Start h cmd ∷ b))
    → IsExplained start (a ++ Start h cmd ∷ (lines ++ b))
start_up start [] a b h cmd way is = is
start_up start (x ∷ lines) a b h cmd way is =
    let some : IsExplained start ((a ++ x ∷ []) ++ (lines ++ Start h cmd ∷ b)) =
    subst (λ (l : List Note). IsExplained start l) (behind_both a (x ∷ []) (lines ++ Start h cmd ∷ b)) is in
    let moved : IsExplained start ((a ++ x ∷ []) ++ Start h cmd ∷ (lines ++ b)) =
    start_up start lines (a ++ x ∷ []) b h cmd (subst (λ (s : List HostShape). GiveWay h s lines) (sym (shapes_one a x)) way.1) some in
    one_up start a (lines ++ b) x h cmd way.0 (subst (λ (l : List Note). IsExplained start l) (append_assoc a (x ∷ []) (Start h cmd ∷ (lines ++ b))) moved)
