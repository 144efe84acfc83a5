-- What a history tells of the hosts is what the journal that it shows tells: their names, and which of them run a command.
use Rattle.std.proofs.Common.{◌≡◌, ◌≢◌, ◌+◌, ◌<◌, inl, inr, ℕ, Bool, true, false, List, [], ◌∷◌, ◌++◌, length, map, Option, Some, None, refl, ap, ap₂, sym, ◌∙◌, subst}
use Rattle.std.specs.Prelude.{IsTrue, if◌then◌else◌, is_some, option_map, slice_get}
use Rattle.std.proofs.lemmas.List.{length-map, map-append}
use Rattle.std.proofs.lemmas.Option.{slice_get-map}
use Rattle.fam_base.specs.PathOrder.{path_eq}
use Rattle.fam_journal.specs.declared.refusal.Refusal.{Refusal}
use Rattle.fam_journal.specs.declared.refusal.Refusal.TheVariants as why
use Rattle.fam_journal.specs.Calls.{has_name}
use Rattle.fam_journal.specs.Members.{changed_at, index_from}
use Rattle.fam_journal.specs.Notes.{Note, Host, Made, Cut, Start, Mark, Found, Writes, Answered, Stop, Halt, Umount, Refused}
use Rattle.fam_journal.specs.Shapes.{CommandStage, HostShape, Marked, Met, Named, TaskShape, runs_shape, shapes_after, shapes_behind, shown_shape, with_stage}
use Rattle.fam_judge.specs.Alike.{Begins, Tells, ToldNote, told_note, whole_note}
use Rattle.fam_judge.specs.GivesWay.{BusyGivesWay, GivesWay, RefusalGivesWay, number_named}
use Rattle.fam_judge.specs.Shows.{ShowsJournal, is_inner}
use Rattle.fam_judge.proofs.Members.{changed_same, map_changed}
use Rattle.fam_judge.proofs.Telling.{note_back}

-- a host's name, and whether it runs a command
pub record Look : Type 0 where
  pub name : List ℕ
  pub runs : Bool

-- as it is seen
abbrev pub look : HostShape → Look
look host = record { name = host.name; runs = is_some host.task }

-- What is seen so.

abbrev runs_look : Option Look → Bool
runs_look None = false
runs_look (Some l) = l.runs

looked_runs : (o : Option HostShape) → runs_shape o ≡ runs_look (option_map look o)
looked_runs None = refl
looked_runs (Some host) = refl

looked_place : (name : List ℕ) (i : ℕ) (hosts : List HostShape)
    → index_from i (has_name name) (map shown_shape hosts) ≡ index_from i (λ (l : Look). path_eq l.name name) (map look hosts)
looked_place name i [] = refl
looked_place name i (x ∷ hosts) = ap (λ (o : Option ℕ). if path_eq x.name name then Some i else o) (looked_place name (i + 1) hosts)

module _ (a b : List HostShape) (alike : map look a ≡ map look b) where
  -- they are as many
  pub count_seen : length a ≡ length b
  count_seen = sym (length-map a look) ∙ ap (λ (l : List Look). length l) alike ∙ length-map b look

  -- of the same names
  pub number_seen : (name : List ℕ) → number_named name a ≡ number_named name b
  number_seen name = looked_place name 0 a ∙ ap (index_from 0 (λ (l : Look). path_eq l.name name)) alike ∙ sym (looked_place name 0 b)

  -- and the same ones run
  pub runs_seen : (k : ℕ) → runs_shape (slice_get a k) ≡ runs_shape (slice_get b k)
  runs_seen k =
      looked_runs (slice_get a k) ∙ ap runs_look (sym (slice_get-map look a k) ∙ ap (λ (l : List Look). slice_get l k) alike ∙ slice_get-map look b k)
      ∙ sym (looked_runs (slice_get b k))

  -- a refusal gives way by what is seen
  refusal_seen : (h : ℕ) (name : List ℕ) (cause : Refusal) → RefusalGivesWay h a name cause → RefusalGivesWay h b name cause
  refusal_seen h name why.NoHost way = tt
  refusal_seen h name (why.SameHost host) way = tt
  refusal_seen h name why.TooManyHosts way = tt
  refusal_seen h name (why.Dirty host) way = absurd way
  refusal_seen h name (why.HasSuper uuid) way = absurd way
  refusal_seen h name (why.Busy host) way = ((λ e. way.0 (number_seen name ∙ e)), busy way.1)
    where
      busy : BusyGivesWay h a name host.0 → BusyGivesWay h b name host.0
      busy (inl below) = inl below
      busy (inr self) = inr (sym (number_seen name) ∙ self.0, sym (runs_seen host.0) ∙ self.1)
  refusal_seen h name cause way = λ e. way (number_seen name ∙ e)

  -- and so does a line
  way_seen : (h : ℕ) (y : Note) → GivesWay h a y → GivesWay h b y
  way_seen h (Host name uuid) way = subst (λ (n : ℕ). h < n) count_seen way
  way_seen h (Refused name cause) way = refusal_seen h name cause way
  way_seen h y way = way

-- a line gives way by what is told of it
way_told : (h : ℕ) (hosts : List HostShape) (x y : Note) → told_note x ≡ told_note y → GivesWay h hosts x → GivesWay h hosts y
way_told h hosts (Start k cmd) (Start n other) e way = let same : k ≡ n = cc in subst (λ (m : ℕ). m ≢ h) same way
way_told h hosts (Start k cmd) y e way = absurd cc
way_told h hosts x y e way = subst (GivesWay h hosts) (sym (note_back y x (ap whole_note (sym e)))) way

-- so of a note of the journal as of the history's line
pub way_shown : (h : ℕ) (a b : List HostShape) → map look a ≡ map look b → (x y : Note) → told_note x ≡ told_note y → GivesWay h a x → GivesWay h b y
way_shown h a b alike x y e way = way_told h b x y e (way_seen a b alike h x way)

-- Notes.

-- what a note that a history may leave out tells isn't seen
staged : (k : ℕ) (stage : CommandStage) (hosts : List HostShape) → map look (changed_at k (with_stage stage) hosts) ≡ map look hosts
staged k stage hosts = map_changed look k (with_stage stage) (λ l. l) same hosts ∙ changed_same k (λ l. l) (map look hosts) (λ l is. refl)
  where
    task : (o : Option TaskShape) → is_some (option_map (λ (t : TaskShape). record t { stage = stage }) o) ≡ is_some o
    task None = refl
    task (Some t) = refl

    same : (x : HostShape) → look (with_stage stage x) ≡ look x
    same x = ap (λ (b : Bool). let l : Look = record { name = x.name; runs = b } in l) (task x.task)

-- of each of these notes
pub inner_unseen : (hosts : List HostShape) (y : Note) → IsTrue (is_inner y) → map look (shapes_after hosts y) ≡ map look hosts
inner_unseen hosts (Mark k) inner = staged k Marked hosts
inner_unseen hosts (Found k n) inner = staged k (Met n) hosts
inner_unseen hosts (Writes k seq entry) inner = staged k (Named seq) hosts
inner_unseen hosts y inner = absurd cc

-- what is seen behind a note, by what is told of it
abbrev seen_after : List Look → ToldNote → List Look
seen_after looks (Begins k cmd) = changed_at k (λ l. record l { runs = true }) looks
seen_after looks (Tells (Host name uuid)) = looks ++ record { name = name; runs = false } ∷ []
seen_after looks (Tells (Answered k answer)) = changed_at k (λ l. record l { runs = false }) looks
seen_after looks (Tells (Stop k)) = changed_at k (λ l. record l { runs = false }) looks
seen_after looks (Tells (Halt k)) = changed_at k (λ l. record l { runs = false }) looks
seen_after looks (Tells note) = looks

told_seen : (hosts : List HostShape) (y : Note) → map look (shapes_after hosts y) ≡ seen_after (map look hosts) (told_note y)
told_seen hosts (Host name uuid) = map-append look hosts _
told_seen hosts (Made k p) = refl
told_seen hosts (Cut k n) = refl
told_seen hosts (Start k cmd) = map_changed look k _ _ (λ x. refl) hosts
told_seen hosts (Mark k) = staged k Marked hosts
told_seen hosts (Found k n) = staged k (Met n) hosts
told_seen hosts (Writes k seq entry) = staged k (Named seq) hosts
told_seen hosts (Answered k answer) = map_changed look k _ _ (λ x. refl) hosts
told_seen hosts (Stop k) = map_changed look k _ _ (λ x. refl) hosts
told_seen hosts (Halt k) = map_changed look k _ _ (λ x. refl) hosts
told_seen hosts (Umount k) = map_changed look k _ (λ l. l) (λ x. refl) hosts ∙ changed_same k (λ l. l) (map look hosts) (λ l is. refl)
told_seen hosts (Refused name cause) = refl

-- a history and the journal that it shows are seen alike
pub shown_seen : (history journal : List Note) → ShowsJournal history journal → (a b : List HostShape) → map look a ≡ map look b
    → map look (shapes_behind a history) ≡ map look (shapes_behind b journal)
shown_seen [] [] shows a b alike = alike
shown_seen [] (note ∷ notes) shows a b alike = shown_seen [] notes shows.1 a (shapes_after b note) (alike ∙ sym (inner_unseen b note shows.0))
shown_seen (line ∷ lines) [] shows a b alike = absurd shows
shown_seen (line ∷ lines) (note ∷ notes) (inl here) a b alike =
    shown_seen lines notes here.1 (shapes_after a line) (shapes_after b note) (told_seen a line ∙ ap₂ seen_after alike here.0 ∙ sym (told_seen b note))
shown_seen (line ∷ lines) (note ∷ notes) (inr out) a b alike =
    shown_seen (line ∷ lines) notes out.1 a (shapes_after b note) (alike ∙ sym (inner_unseen b note out.0))
