-- An answer is moved down, over lines that give way.
use Rattle.std.proofs.Common.{◌≡◌, ◌≢◌, inl, ℕ, true, false, List, [], ◌∷◌, ◌++◌, length, map, Option, Some, None, refl, ap, ap₂, sym, ◌∙◌, subst, arith}
use Rattle.std.specs.Prelude.{◌||◌, is_some, option_map, slice_get}
use Rattle.std.proofs.lemmas.List.{append_assoc, append-nil, length-map, map-append}
use Rattle.std.proofs.lemmas.Option.{same_Some, slice_get-map}
use Rattle.fam_base.specs.declared.entry.Entry.{Entry}
use Rattle.fam_base.specs.Image.{Image}
use Rattle.fam_journal.specs.Calls.{has_name, is_engaged, is_same}
use Rattle.fam_journal.specs.Legal.{Allowed, AnswerAllowed, FoundAllowed, OfHost, WritesAllowed}
use Rattle.fam_journal.specs.Members.{changed_at, index_of}
use Rattle.fam_journal.specs.Notes.{Answer, Note, Found, Writes, Answered}
use Rattle.fam_journal.specs.Past.{HostPast, Past, ended_state, first_past, first_state, past_after, past_behind, past_of, shows_count}
use Rattle.fam_journal.specs.Shapes.{HostShape, OfHostShape, OfRunning, TaskShape, keeps_behind, runs_shape, shapes_after, shapes_of, shown_keeping, shown_running, shown_shape}
use Rattle.fam_journal.proofs.Calls.Members.{changed_here, changed_other}
use Rattle.fam_journal.proofs.Settled.Journals.{past_both}
use Rattle.fam_judge.specs.Alike.{AreAlikeNotes, ToldNote, told_note, whole_note}
use Rattle.fam_judge.specs.Explained.{IsAllowedForSome, IsExplained}
use Rattle.fam_judge.specs.Formed.{AnswerPlace, AreFormed, AreSoundNotes, IsFormedNote}
use Rattle.fam_judge.specs.GivesWay.{GivesWay, GiveWay, number_named}
use Rattle.fam_judge.specs.Shows.{ShowsJournal}
use Rattle.fam_judge.proofs.Aside.{Apart, counts_alike, number_behind, shape_aside, shape_order, way_apart}
use Rattle.fam_judge.proofs.Busier.{IsBusier, formed_kept}
use Rattle.fam_judge.proofs.Easier.{IsEasier, easier_allows, easier_behind}
use Rattle.fam_judge.proofs.Explaining.{one_more, sound-append}
use Rattle.fam_judge.proofs.Following.{RunsNote, note_runs}
use Rattle.fam_judge.proofs.Forming.{task_formed}
use Rattle.fam_judge.proofs.Masters.{FoundSize, Keeps, StepFits, TaskFits, WriteSize, found_size, keeps_after, uuid_at}
use Rattle.fam_judge.proofs.Members.{changed_count, changed_same, place_first, place_kept}
use Rattle.fam_judge.proofs.Origins.{MayGive, Origin, begins, by_event, declares, gives, inner_way, makes, plain}
use Rattle.fam_judge.proofs.Replies.{DeclineSize, NamedSize, answer_before, appends, declines}
use Rattle.fam_judge.proofs.Seen.{shown_seen, way_shown}
use Rattle.fam_judge.proofs.Showing.{first_line, parts, shows_both}
use Rattle.fam_judge.proofs.Sided.{BoundSize, MetSize, NoteFits, OtherSize, answer_behind, bound_size, decline_size, fits_told, met_size, named_size, of_map, of_shape, order_easier, writes_before, writes_size}
use Rattle.fam_judge.proofs.Sizes.{Lost, Size, Sized, effect, ended_is, past_uuid, shape_uuid, size_after, size_of, sized_behind, sizes_behind, told_size, told_sized, uuids_alike}
use Rattle.fam_judge.proofs.States.{finds_before}
use Rattle.fam_judge.proofs.Swapping.{Stands, Swaps, all_swapped, alike_both, behind_both, behind_first, behind_one, behind_some, shapes_one}
use Rattle.fam_judge.proofs.Telling.{heads, more_is_none, none_is_more, note_back, tails}

-- What is settled behind a journal.

abbrev sizes : Image → List Note → Size
sizes start before = sizes_behind (size_of (first_state start)) (map told_note before)

sizes_more : (s : Size) (told : List ToldNote) (t : ToldNote) → sizes_behind s (told ++ t ∷ []) ≡ size_after (sizes_behind s told) t
sizes_more s [] t = refl
sizes_more s (first ∷ told) t = sizes_more (size_after s first) told t

sizes_one : (start : Image) (before : List Note) (y : Note) → sizes start (before ++ y ∷ []) ≡ size_after (sizes start before) (told_note y)
sizes_one start before y =
    ap (sizes_behind (size_of (first_state start))) (map-append told_note before (y ∷ [])) ∙ sizes_more (size_of (first_state start)) (map told_note before) (told_note y)

-- for whatever tells the same
sized : (start : Image) (before chosen : List Note) → AreAlikeNotes before chosen → size_of (past_of start chosen).state ≡ sizes start before
sized start before chosen alike = sized_behind (first_past start) chosen ∙ ap (sizes_behind (size_of (first_state start))) (sym alike)

uuids_at : (start : Image) (before chosen : List Note) → AreAlikeNotes before chosen → (k : ℕ)
    → option_map past_uuid (slice_get (past_of start chosen).hosts k) ≡ option_map shape_uuid (slice_get (shapes_of before) k)
uuids_at start before chosen alike k =
    sym (slice_get-map past_uuid (past_of start chosen).hosts k) ∙ ap (λ (l : List (List ℕ)). slice_get l k) (uuids_alike before chosen alike (first_past start) [] refl)
    ∙ slice_get-map shape_uuid (shapes_of before) k

own_uuid : (o : Option HostPast) (q : Option HostShape) (x : HostPast) (y : HostShape) → option_map past_uuid o ≡ option_map shape_uuid q → o ≡ Some x → q ≡ Some y
    → x.uuid ≡ y.uuid
own_uuid o q x y same first second = same_Some x.uuid y.uuid (sym (ap (option_map past_uuid) first) ∙ same ∙ ap (option_map shape_uuid) second)

-- Hosts that run.

module _ (start : Image) where
  step_fits : (before : List Note) (y : Note) → IsAllowedForSome start before y → StepFits (shapes_of before) y (sizes start before)
  step_fits before (Found k n) some = subst (FoundSize n) (sized start before some.chosen some.alike) (found_size n (past_of start some.chosen).state some.allowed)
  step_fits before (Writes k seq entry) some =
      let past = past_of start some.chosen in
      subst (λ (s : Size). OfHostShape (slice_get (shapes_of before) k) (λ x. WriteSize x.uuid seq s)) (sized start before some.chosen some.alike)
      (of_shape (slice_get past.hosts k) (slice_get (shapes_of before) k) (λ u. WriteSize u seq (size_of past.state)) (uuids_at start before some.chosen some.alike k)
      (of_map (slice_get past.hosts k) (λ host. WritesAllowed seq entry host past.state) (λ host. WriteSize host.uuid seq (size_of past.state))
      (λ host e. writes_size seq entry host past.state) some.allowed))
  step_fits before y some = tt

  -- behind one note, and behind some
  keeps_one : (before : List Note) (y : Note) (rest : List Note) → Keeps (shapes_of before) (sizes start before) → Stands start before (y ∷ rest)
      → Keeps (shapes_of (before ++ y ∷ [])) (sizes start (before ++ y ∷ []))
  keeps_one before y rest keeps is =
      subst (λ (l : List HostShape). Keeps l (sizes start (before ++ y ∷ []))) (sym (shapes_one before y))
      (subst (λ (s : Size). Keeps (shapes_after (shapes_of before) y) s) (sym (sizes_one start before y))
      (keeps_after (length start) (shapes_of before) (sizes start before) keeps y is.formed.0 (step_fits before y is.allowed.0)))

  keeps_some : (before front rest : List Note) → Keeps (shapes_of before) (sizes start before) → Stands start before (front ++ rest)
      → Keeps (shapes_of (before ++ front)) (sizes start (before ++ front))
  keeps_some before [] rest keeps is = subst (λ (l : List Note). Keeps (shapes_of l) (sizes start l)) (sym (append-nil before)) keeps
  keeps_some before (y ∷ front) rest keeps is =
      subst (λ (l : List Note). Keeps (shapes_of l) (sizes start l)) (append_assoc before (y ∷ []) front)
      (keeps_some (before ++ y ∷ []) front rest (keeps_one before y (front ++ rest) keeps is) (behind_first start before y (front ++ rest) is))

  keeps_first : Keeps [] (sizes start [])
  keeps_first = record { tasks = λ k x is. absurd cc; apart = λ k l u first second. absurd cc }

-- the host of an answer, and its command
record Runs (hosts : List HostShape) (h : ℕ) (y : Note) : Type 0 where
  name : List ℕ
  number : number_named name hosts ≡ Some h
  note : RunsNote h hosts y

run_of : (hosts : List HostShape) (k : ℕ) (y : Note) → MayGive hosts k y → Runs hosts k y
run_of hosts k y give = record { name = give.name; number = give.number; note = note_runs k hosts y (slice_get hosts k) refl give.task }

ran : (lines : ℕ) (hosts : List HostShape) (h : ℕ) (answer : Answer) → IsFormedNote lines hosts (Answered h answer) → Runs hosts h (Answered h answer)
ran lines hosts h answer is = by (by_event lines hosts (Answered h answer) is.event is.shape)
  where
    by : Origin lines hosts (Answered h answer) → Runs hosts h (Answered h answer)
    by (begins k c e may) = absurd cc
    by (gives k give) =
        let run = run_of hosts k (Answered h answer) give in subst (λ (n : ℕ). Runs hosts n (Answered h answer)) (sym run.note.is.0) run
    by (declares name uuid e none) = absurd cc
    by (makes name request is none) = absurd is
    by (plain is) = absurd is

named : (lines : ℕ) (hosts : List HostShape) (k seq : ℕ) (entry : Entry) → IsFormedNote lines hosts (Writes k seq entry) → Runs hosts k (Writes k seq entry)
named lines hosts k seq entry is = by (by_event lines hosts (Writes k seq entry) is.event is.shape)
  where
    by : Origin lines hosts (Writes k seq entry) → Runs hosts k (Writes k seq entry)
    by (begins n c e may) = absurd cc
    by (gives n give) =
        let run = run_of hosts n (Writes k seq entry) give in subst (λ (m : ℕ). Runs hosts m (Writes k seq entry)) (sym run.note.is.0) run
    by (declares name uuid e none) = absurd cc
    by (makes name request is none) = absurd is
    by (plain is) = absurd is

task_fits : (hosts : List HostShape) (s : Size) → Keeps hosts s → (k : ℕ) (y : Note) (run : RunsNote k hosts y) → TaskFits run.host.uuid (Some run.task) s
task_fits hosts s keeps k y run = subst (λ (o : Option TaskShape). TaskFits run.host.uuid o s) run.runs (keeps.tasks k run.host run.declared)

-- An answer and the line behind it.

-- what tells the same as notes and one more
record Last (a : List Note) (m : Note) (chosen : List Note) : Type 0 where
  front : List Note
  last : Note
  whole : chosen ≡ front ++ last ∷ []
  fronts : AreAlikeNotes a front
  lasts : told_note m ≡ told_note last

last_of : (a : List Note) (m : Note) (chosen : List Note) → AreAlikeNotes (a ++ m ∷ []) chosen → Last a m chosen
last_of [] m [] alike = absurd (more_is_none (told_note m) [] alike)
last_of [] m (c ∷ []) alike = record { front = []; last = c; whole = refl; fronts = refl; lasts = heads (told_note m) (told_note c) [] [] alike }
last_of [] m (c ∷ d ∷ chosen) alike = absurd (none_is_more (told_note d) (map told_note chosen) (tails (told_note m) (told_note c) _ _ alike))
last_of (x ∷ a) m [] alike = absurd (more_is_none (told_note x) _ alike)
last_of (x ∷ a) m (c ∷ chosen) alike =
    let more = last_of a m chosen (tails (told_note x) (told_note c) _ _ alike) in
    record {
      front = c ∷ more.front;
      last = more.last;
      whole = ap (λ (l : List Note). c ∷ l) more.whole;
      fronts = ap₂ (λ t l. t ∷ l) (heads (told_note x) (told_note c) _ _ alike) more.fronts;
      lasts = more.lasts;
    }

sound_front : (a b : List Note) → AreSoundNotes (a ++ b) → AreSoundNotes a
sound_front [] b sound = tt
sound_front (x ∷ a) b sound = (sound.0, sound_front a b sound.1)

of_any : (o : Option HostPast) (P : HostPast → Type 0) (B : Type 0) → ((x : HostPast) → P x → B) → OfHost o P → B
of_any None P B next is = absurd is
of_any (Some x) P B next is = next x is

other_size : (me master : List ℕ) (seq : ℕ) (s : Size) → WriteSize master seq s → me ≢ master → OtherSize me s
other_size me master seq (Lost origin damage gate) is ne = is
other_size me master seq (Sized p n more) is ne = (is.1, λ e. ne (e ∙ sym is.2))

none_left : (o : Option HostShape) (f : HostShape → HostShape) → ((x : HostShape) → (f x).task ≡ None) → runs_shape (option_map f o) ≡ false
none_left None f none = refl
none_left (Some x) f none = ap (λ (k : Option TaskShape). is_some k) (none x)

module _ (start : Image) (h : ℕ) (answer : Answer) where
  abbrev lines : ℕ
  lines = length start

  abbrev ends : HostShape → HostShape
  ends host = record host { task = None; keeps = keeps_behind answer host.keeps }

  -- before it its host is engaged
  ended_busier : (hosts : List HostShape) → RunsNote h hosts (Answered h answer) → IsBusier h (shapes_after hosts (Answered h answer)) hosts
  ended_busier hosts run = record {
    number = λ name. sym (place_kept shown_shape (has_name name) h ends (λ x. refl) hosts 0);
    same = λ name uuid. sym (place_kept shown_shape (is_same name uuid) h ends (λ x. refl) hosts 0);
    count = length-map hosts shown_shape ∙ sym (changed_count h ends hosts) ∙ sym (length-map (changed_at h ends hosts) shown_shape);
    others = λ k ne. sym (changed_other h k ends hosts ne);
    engaged = λ j below e.
        ap (λ l. index_of is_engaged (map shown_shape l)) (sym (changed_same h (λ x. x) hosts (λ x is. refl)))
        ∙ place_first shown_shape is_engaged h (λ x. x) ends hosts 0 j passes (omega (arith, below)) e;
  }
    where
      passes : (x : HostShape) → slice_get hosts h ≡ Some x → is_engaged (shown_shape x) ≡ true
      passes x is =
          let task : x.task ≡ Some run.task = ap (λ (z : HostShape). z.task) (same_Some x run.host (sym is ∙ run.declared)) ∙ run.runs in
          ap (λ (o : Option TaskShape). is_some (shown_running o) || is_some (shown_keeping x.keeps)) task

  module _ (before : List Note) (keeps : Keeps (shapes_of before) (sizes start before)) (run : Runs (shapes_of before) h (Answered h answer)) where
    abbrev hosts : List HostShape
    hosts = shapes_of before

    abbrev size : Size
    size = sizes start before

    abbrev me : List ℕ
    me = run.note.host.uuid

    own : (chosen : List Note) → AreAlikeNotes before chosen → (host : HostPast) → slice_get (past_of start chosen).hosts h ≡ Some host → host.uuid ≡ me
    own chosen alike host is = own_uuid _ _ host run.note.host (uuids_at start before chosen alike h) is run.note.declared

    named_own : NamedSize (appends answer) size
    named_own = named_size me run.note.task size answer (task_fits hosts size keeps h (Answered h answer) run.note) run.note.is.1

    -- a note that is allowed behind the answer is allowed before it
    note_before : (y : Note) → IsFormedNote lines hosts y → (chosen : List Note) → AreAlikeNotes before chosen
        → Allowed (past_after (past_of start chosen) (Answered h answer)) y
        → Allowed (past_of start chosen) y
    note_before (Found k n) formed chosen alike is =
        finds_before (effect answer) n (past_of start chosen).state (subst (FoundAllowed n) (ended_is answer (past_of start chosen).state) is)
    note_before (Writes k seq entry) formed chosen alike is =
        let past = past_of start chosen in
        let other = named lines hosts k seq entry formed in
        let met : MetSize seq (size_of past.state) = subst (MetSize seq) (sym (sized start before chosen alike))
        (met_size other.note.host.uuid other.note.task seq size (task_fits hosts size keeps k (Writes k seq entry) other.note) other.note.is.2) in
        of_map (slice_get past.hosts k) (λ host. WritesAllowed seq entry host (ended_state answer past.state)) (λ host. WritesAllowed seq entry host past.state)
        (λ host e allowed. writes_before seq entry host (effect answer) past.state met (subst (WritesAllowed seq entry host) (ended_is answer past.state) allowed)) is
    note_before (Answered k given) formed chosen alike is =
        let past = past_of start chosen in
        let other = ran lines hosts k given formed in
        let decline = decline_size other.note.host.uuid other.note.task size given (task_fits hosts size keeps k (Answered k given) other.note) other.note.is.1 in
        of_map (slice_get past.hosts k) (λ host. AnswerAllowed given host (ended_state answer past.state)) (λ host. AnswerAllowed given host past.state)
        (λ host e allowed. answer_before given host (effect answer) past.state
        (subst (λ (s : Size). DeclineSize (declines given) host.uuid s) (sym (sized start before chosen alike))
        (subst (λ (u : List ℕ). DeclineSize (declines given) u size)
        (sym (own_uuid _ _ host other.note.host (uuids_at start before chosen alike k) e other.note.declared)) decline))
        (subst (AnswerAllowed given host) (ended_is answer past.state) allowed)) is
    note_before y formed chosen alike is = tt

    -- what it needs of what is settled
    note_fits : (y : Note) → Apart h (length hosts) (told_note y) → IsFormedNote lines hosts y → (chosen : List Note) → AreAlikeNotes before chosen
        → Allowed (past_after (past_of start chosen) (Answered h answer)) y → NoteFits me (effect answer) y size
    note_fits (Found k n) way formed chosen alike is =
        let past = past_of start chosen in
        subst (λ (s : Size). FoundSize n (told_size (effect answer) s)) (sized start before chosen alike)
        (subst (FoundSize n) (told_sized (effect answer) past.state)
        (found_size n (shows_count (effect answer) past.state) (subst (FoundAllowed n) (ended_is answer past.state) is)))
    note_fits (Writes k seq entry) way formed chosen alike is =
        let past = past_of start chosen in
        let other = named lines hosts k seq entry formed in
        let allowed = note_before (Writes k seq entry) formed chosen alike is in
        let told : OfHostShape (slice_get hosts k) (λ x. WriteSize x.uuid seq (size_of past.state)) =
        of_shape (slice_get past.hosts k) (slice_get hosts k) (λ u. WriteSize u seq (size_of past.state)) (uuids_at start before chosen alike k)
        (of_map (slice_get past.hosts k) (λ host. WritesAllowed seq entry host past.state) (λ host. WriteSize host.uuid seq (size_of past.state))
        (λ host e. writes_size seq entry host past.state) allowed) in
        let write : WriteSize other.note.host.uuid seq size =
        subst (WriteSize other.note.host.uuid seq) (sized start before chosen alike)
        (subst (λ (o : Option HostShape). OfHostShape o (λ x. WriteSize x.uuid seq (size_of past.state))) other.note.declared told) in
        other_size me other.note.host.uuid seq size write
        (λ same. way (keeps.apart k h other.note.host.uuid (uuid_at hosts k other.note.host other.note.declared)
        (uuid_at hosts h run.note.host run.note.declared ∙ ap Some same)))
    note_fits y way formed chosen alike is = tt

    bound : IsAllowedForSome start before (Answered h answer) → BoundSize (effect answer) size
    bound some =
        let past = past_of start some.chosen in
        subst (BoundSize (effect answer)) (sized start before some.chosen some.alike)
        (of_any (slice_get past.hosts h) (λ host. AnswerAllowed answer host past.state) (BoundSize (effect answer) (size_of past.state)) (λ host. bound_size answer host past.state) some.allowed)

    count_at : (chosen : List Note) → AreAlikeNotes before chosen → length hosts ≡ length (past_of start chosen).hosts
    count_at chosen alike = sym (counts_alike before chosen alike (first_past start) [] refl)

    -- behind both
    down_swaps : (y : Note) → Apart h (length hosts) (told_note y) → NoteFits me (effect answer) y size → BoundSize (effect answer) size
        → Swaps start before (Answered h answer) y
    down_swaps y way fits bound z front first second back fronts firsts seconds allowed =
        let past = past_of start front in
        let one : first ≡ Answered h answer = note_back first (Answered h answer) (ap whole_note (sym firsts)) in
        let easier : IsEasier (past_after (past_after past (Answered h answer)) second) (past_after (past_after past second) (Answered h answer)) =
        order_easier h answer me past second
        (subst (λ (n : ℕ). Apart h n (told_note second)) (count_at front fronts) (subst (Apart h (length hosts)) seconds way))
        (subst (NoteFits me (effect answer) second) (sym (sized start before front fronts)) (fits_told me (effect answer) size y second seconds fits))
        (subst (BoundSize (effect answer)) (sym (sized start before front fronts)) bound) in
        let old : Allowed (past_behind (past_after (past_after past (Answered h answer)) second) back) z =
        subst (λ (n : Note). Allowed (past_behind (past_after (past_after past n) second) back) z) one
        (subst (λ (x : Past). Allowed x z) (past_both (first_past start) front (first ∷ second ∷ back)) allowed) in
        let new : Allowed (past_behind (past_after (past_after past second) (Answered h answer)) back) z =
        easier_allows _ _ (easier_behind _ _ easier back) z old in
        subst (λ (x : Past). Allowed x z) (sym (past_both (first_past start) front (second ∷ first ∷ back)))
        (subst (λ (n : Note). Allowed (past_behind (past_after (past_after past second) n) back) z) (sym one) new)

    -- the note behind the answer comes before it
    first_allowed : (y : Note) → IsFormedNote lines hosts y → IsAllowedForSome start (before ++ Answered h answer ∷ []) y
        → (chosen : List Note) × AreAlikeNotes before chosen × AreSoundNotes chosen × Allowed (past_after (past_of start chosen) (Answered h answer)) y
    first_allowed y formed some =
        let l = last_of before (Answered h answer) some.chosen some.alike in
        let one : l.last ≡ Answered h answer = note_back l.last (Answered h answer) (ap whole_note (sym l.lasts)) in
        let whole : some.chosen ≡ l.front ++ Answered h answer ∷ [] = l.whole ∙ ap (λ (n : Note). l.front ++ n ∷ []) one in (
          l.front,
          l.fronts,
          sound_front l.front (l.last ∷ []) (subst AreSoundNotes l.whole some.sound),
          subst (λ (x : Past). Allowed x y) (one_more (first_past start) l.front (Answered h answer)) (subst (λ (c : List Note). Allowed (past_of start c) y) whole some.allowed),
        )

  -- the answer is moved down over a line
  under_line : (before : List Note) (y : Note) (notes : List Note) → Keeps (shapes_of before) (sizes start before)
      → GivesWay h (shapes_after (shapes_of before) (Answered h answer)) y
      → Stands start before (Answered h answer ∷ y ∷ notes) → Stands start before (y ∷ Answered h answer ∷ notes)
  under_line before y notes keeps way is =
      let hosts = shapes_of before in
      let run = ran lines hosts h answer is.formed.0 in
      let apart : Apart h (length hosts) (told_note y) =
      subst (λ (n : ℕ). Apart h n (told_note y)) (changed_count h ends hosts) (way_apart h (shapes_after hosts (Answered h answer)) y way) in
      let formed = formed_kept lines h (shapes_after hosts (Answered h answer)) hosts (ended_busier hosts run.note) y way is.formed.1.0 in
      let first = first_allowed before keeps run y formed is.allowed.1.0 in
      let fits = note_fits before keeps run y apart formed first.0 first.1 first.3 in
      let some = is.allowed.0 in
      let past = past_of start some.chosen in
      record {
        formed = (
          formed,
          (
            task_formed lines (shapes_after hosts y) run.name h run.note.host run.note.task (number_behind h hosts run.name y apart run.number)
                (shape_aside h hosts y apart ∙ run.note.declared) run.note.runs (Answered h answer) run.note.is
                (subst (λ (o : Option HostShape). OfRunning o (λ me t. AnswerPlace t.cmd t.stage answer)) (sym (shape_aside h hosts y apart)) is.formed.0.placed),
            subst (λ (l : List HostShape). AreFormed lines l notes) (sym (shape_order h hosts ends y apart)) is.formed.1.1,
          ),
        );
        allowed = (
          record { chosen = first.0; alike = first.1; sound = first.2; allowed = note_before before keeps run y formed first.0 first.1 first.3 },
          (
            record {
              chosen = some.chosen ++ y ∷ [];
              alike = alike_both before (y ∷ []) some.chosen (y ∷ []) some.alike refl;
              sound = sound-append some.chosen (y ∷ []) some.sound (formed.sound, tt);
              allowed = subst (λ (x : Past). Allowed x (Answered h answer)) (sym (one_more (first_past start) some.chosen y))
                  (answer_behind h answer run.note.host.uuid past (own before keeps run some.chosen some.alike)
                  (subst (NamedSize (appends answer)) (sym (sized start before some.chosen some.alike)) (named_own before keeps run)) y
                  (subst (λ (n : ℕ). Apart h n (told_note y)) (count_at before keeps run some.chosen some.alike) apart)
                  (subst (NoteFits run.note.host.uuid (effect answer) y) (sym (sized start before some.chosen some.alike)) fits) some.allowed);
            },
            all_swapped start before (Answered h answer) y (down_swaps before keeps run y apart fits (bound before keeps run some)) notes is.allowed.1.1,
          ),
        );
      }

  -- over notes that a history leaves out: their hosts run, and the answer's no more
  under_inner : (before out notes : List Note) → Keeps (shapes_of before) (sizes start before) → ShowsJournal [] out → Stands start before (Answered h answer ∷ (out ++ notes))
      → Stands start before (out ++ Answered h answer ∷ notes)
  under_inner before [] notes keeps left is = is
  under_inner before (y ∷ out) notes keeps left is =
      let hosts = shapes_of before in
      let idle = ap runs_shape (changed_here h ends hosts) ∙ none_left (slice_get hosts h) ends (λ x. refl) in
      let next = under_line before y (out ++ notes) keeps (inner_way lines (shapes_after hosts (Answered h answer)) h y left.0 idle is.formed.1.0) is in
      behind_one start before y (Answered h answer ∷ (out ++ notes)) (out ++ Answered h answer ∷ notes)
      (under_inner (before ++ y ∷ []) out notes (keeps_one start before y (Answered h answer ∷ (out ++ notes)) keeps next) left.1) next

-- Histories.

answer_told : (h : ℕ) (answer : Answer) (note : Note) → told_note (Answered h answer) ≡ told_note note → note ≡ Answered h answer
answer_told h answer note e = note_back note (Answered h answer) (ap whole_note (sym e))

-- over one line
pub one_down : (start : Image) (a b : List Note) (x : Note) (h : ℕ) (answer : Answer) → GivesWay h (shapes_of (a ++ Answered h answer ∷ [])) x
    → IsExplained start (a ++ Answered h answer ∷ x ∷ b) → IsExplained start (a ++ x ∷ Answered h answer ∷ b)
one_down start a b x h answer way is =
    let mine : Note = Answered h answer in
    let p = parts a (mine ∷ x ∷ b) is.0 is.1.shown in
    let l = first_line mine (x ∷ b) p.back p.left in
    let s = first_line x b l.back l.left in
    let front : List Note = p.front ++ l.out in
    let old : List Note = s.out ++ s.note ∷ s.back in
    let whole : is.0 ≡ front ++ mine ∷ old =
    p.whole ∙ ap (λ (k : List Note). p.front ++ k) (l.whole ∙ ap (λ (n : Note). l.out ++ n ∷ l.back) (answer_told h answer l.note l.told) ∙ ap (λ (k : List Note). l.out ++ mine ∷ k) s.whole)
    ∙ behind_both p.front l.out (mine ∷ old) in
    let shown : ShowsJournal a front = subst (λ (k : List Note). ShowsJournal k front) (append-nil a) (shows_both a [] p.front l.out p.shown l.left_out) in
    let longer : ShowsJournal a (front ++ s.out) = subst (λ (k : List Note). ShowsJournal k (front ++ s.out)) (append-nil a) (shows_both a [] front s.out shown s.left_out) in
    let with_answer : ShowsJournal (a ++ mine ∷ []) ((front ++ s.out) ++ mine ∷ []) = shows_both a (mine ∷ []) (front ++ s.out) (mine ∷ []) longer (inl (refl, tt)) in
    let gives : GivesWay h (shapes_after (shapes_of (front ++ s.out)) mine) s.note =
    subst (λ (k : List HostShape). GivesWay h k s.note) (shapes_one (front ++ s.out) mine)
    (way_shown h (shapes_of (a ++ mine ∷ [])) (shapes_of ((front ++ s.out) ++ mine ∷ []))
    (shown_seen (a ++ mine ∷ []) ((front ++ s.out) ++ mine ∷ []) with_answer [] [] refl) x s.note s.told way) in
    let stands : Stands start [] (front ++ mine ∷ old) = subst (λ (k : List Note). Stands start [] k) whole (record { formed = is.1.formed; allowed = is.1.allowed }) in
    let keeps : Keeps (shapes_of front) (sizes start front) = keeps_some start [] front (mine ∷ old) (keeps_first start) stands in
    let moved : Stands start [] (front ++ (s.out ++ s.note ∷ mine ∷ s.back)) =
    behind_some start [] front (mine ∷ old) (s.out ++ s.note ∷ mine ∷ s.back)
    (λ st.
    let inner = under_inner start h answer front s.out (s.note ∷ s.back) keeps s.left_out st in
    let further = keeps_some start front s.out (mine ∷ s.note ∷ s.back) keeps inner in
    behind_some start front s.out (mine ∷ s.note ∷ s.back) (s.note ∷ mine ∷ s.back) (under_line start h answer (front ++ s.out) s.note s.back further gives) inner)
    stands in (
      front ++ (s.out ++ s.note ∷ mine ∷ s.back),
      record {
        shown = shows_both a (x ∷ mine ∷ b) front (s.out ++ s.note ∷ mine ∷ s.back) shown
            (shows_both [] (x ∷ mine ∷ b) s.out (s.note ∷ mine ∷ s.back) s.left_out (inl (s.told, inl (refl, s.left))));
        formed = moved.formed;
        allowed = moved.allowed;
      },
    )

-- over lines, the first one first
pub answer_down : (start : Image) (lines a b : List Note) (h : ℕ) (answer : Answer) → GiveWay h (shapes_of (a ++ Answered h answer ∷ [])) lines
    → IsExplained start (a ++ Answered h answer ∷ (lines ++ b)) → IsExplained start (a ++ (lines ++ Answered h answer ∷ b))
answer_down start [] a b h answer way is = is
answer_down start (x ∷ lines) a b h answer way is =
    let mine : Note = Answered h answer in
    let hosts : List HostShape = shapes_of a in
    let told : shapes_of (a ++ mine ∷ []) ≡ shapes_after hosts mine = shapes_one a mine in
    let apart : Apart h (length hosts) (told_note x) =
    subst (λ (n : ℕ). Apart h n (told_note x)) (ap (λ (k : List HostShape). length k) told ∙ changed_count h _ hosts) (way_apart h (shapes_of (a ++ mine ∷ [])) x way.0) in
    let same : shapes_after (shapes_of (a ++ mine ∷ [])) x ≡ shapes_of ((a ++ x ∷ []) ++ mine ∷ []) =
    ap (λ (k : List HostShape). shapes_after k x) told ∙ sym (shape_order h hosts _ x apart)
    ∙ sym (shapes_one (a ++ x ∷ []) mine ∙ ap (λ (k : List HostShape). shapes_after k mine) (shapes_one a x)) in
    let moved : IsExplained start (a ++ x ∷ mine ∷ (lines ++ b)) = one_down start a (lines ++ b) x h answer way.0 is in
    let more : IsExplained start ((a ++ x ∷ []) ++ (lines ++ mine ∷ b)) =
    answer_down start lines (a ++ x ∷ []) b h answer (subst (λ (k : List HostShape). GiveWay h k lines) same way.1)
    (subst (λ (l : List Note). IsExplained start l) (behind_both a (x ∷ []) (mine ∷ (lines ++ b))) moved) in
    subst (λ (l : List Note). IsExplained start l) (append_assoc a (x ∷ []) (lines ++ mine ∷ b)) more
