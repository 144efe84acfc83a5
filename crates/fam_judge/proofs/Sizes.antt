-- How much is settled, and whether an entry pends: what journals that tell the same have in common.
use Rattle.std.proofs.Common.{◌≡◌, ◌+◌, ℕ, Bool, true, false, List, [], ◌∷◌, ◌++◌, length, map, Option, Some, None, refl, ap, ap₂, sym, ◌∙◌, arith}
use Rattle.std.specs.Prelude.{◌==◌, if◌then◌else◌, is_some, nat_lt}
use Rattle.std.proofs.lemmas.Bool.Decides.{nat_tests}
use Rattle.std.proofs.lemmas.List.{length-append, map-append}
use Rattle.fam_base.specs.declared.entry.Params.{Params}
use Rattle.fam_commands.specs.ReplyClasses.{Appending, Declining, Faulty, ReplyClass, Reporting, Showing, reply_class}
use Rattle.fam_format.specs.declared.faults.SuperFault.TheVariants as super
use Rattle.fam_machine.specs.Mkfs.{first_sent}
use Rattle.fam_rules.specs.Asks.{File}
use Rattle.fam_journal.specs.Members.{changed_at}
use Rattle.fam_journal.specs.Notes.{Answer, Replied, MediaFault, Note, Host, Made, Cut, Start, Mark, Found, Writes, Answered, Stop, Halt, Umount, Refused}
use Rattle.fam_journal.specs.Past.{Bad, Damage, Halted, HostPast, NoSuperblock, Origin, Past, Sound, State, acknowledges, ended_state, finds, past_after, past_behind, pends, replied_in, reported_count, shows, shows_count, state_after, with_pending}
use Rattle.fam_journal.specs.Shapes.{HostShape, shapes_after, shapes_behind}
use Rattle.fam_judge.specs.Alike.{AreAlikeNotes, Begins, Tells, ToldNote, told_note}
use Rattle.fam_judge.proofs.Members.{changed_same, map_changed}
use Rattle.fam_judge.proofs.Telling.{heads, more_is_none, none_is_more, tails}

-- a damaged state; or parameters, how many entries are settled, and whether one pends
pub data Size : Type 0 where
  Lost : (origin : Origin) (damage : Damage) (gate : ℕ) → Size
  Sized : (params : Params) (count : ℕ) (pends : Bool) → Size

-- of a state
abbrev pub size_of : State → Size
size_of (Bad origin damage gate) = Lost origin damage gate
size_of (Sound p history pending) = Sized p (length history) (is_some pending)

-- one where a test passes
abbrev pub one_if : Bool → ℕ
one_if true = 1
one_if false = 0

-- so many were shown
abbrev pub shows_size : ℕ → Size → Size
shows_size m (Lost origin damage gate) = Lost origin damage gate
shows_size m (Sized p n more) = if m == n + 1 then Sized p (n + one_if more) false else Sized p n more

-- where any were
abbrev pub told_size : Option ℕ → Size → Size
told_size None s = s
told_size (Some m) s = shows_size m s

-- a master found so many
abbrev pub finds_size : ℕ → Size → Size
finds_size n (Lost origin damage gate) = Lost origin damage gate
finds_size n (Sized p m more) = if n == m then Sized p m false else shows_size n (Sized p m more)

-- an entry is named
abbrev pub pends_size : Size → Size
pends_size (Lost origin damage gate) = Lost origin damage gate
pends_size (Sized p n more) = Sized p n true

-- Answers.

-- up to how many entries an answer shows: one that appended shows its own
abbrev pub effect_in : ReplyClass → Option ℕ
effect_in (Appending seq) = Some (seq + 1)
effect_in (Declining why) = None
effect_in (Showing m) = Some m
effect_in (Reporting report) = reported_count report.log
effect_in Faulty = None

-- so of an answer
abbrev pub effect : Answer → Option ℕ
effect (Replied given) = effect_in (reply_class given)
effect (MediaFault line) = None

-- numbers are the same where one more are
pub equal_more : (a b : ℕ) → (a == b) ≡ (a + 1 == b + 1)
equal_more a b = by (a == b) refl (a + 1 == b + 1) refl
  where
    by : (s : Bool) → (a == b) ≡ s → (t : Bool) → (a + 1 == b + 1) ≡ t → s ≡ t
    by true e true f = refl
    by false e false f = refl
    by true e false f = absurd (grind (arith, nat_tests))
    by false e true f = absurd (grind (arith, nat_tests))

-- that an entry is acknowledged shows it
pub acknowledged : (seq : ℕ) (state : State) → acknowledges seq state ≡ shows (seq + 1) state
acknowledged seq (Bad origin damage gate) = refl
acknowledged seq (Sound p history pending) =
    ap (λ (b : Bool). if b then Sound p (with_pending history pending) None else Sound p history pending) (equal_more seq (length history))

-- what an answer settles
pub ended_is : (answer : Answer) (state : State) → ended_state answer state ≡ shows_count (effect answer) state
ended_is (MediaFault line) state = refl
ended_is (Replied given) state = by (reply_class given)
  where
    by : (c : ReplyClass) → replied_in c state ≡ shows_count (effect_in c) state
    by (Appending seq) = acknowledged seq state
    by (Declining why) = refl
    by (Showing m) = refl
    by (Reporting report) = refl
    by Faulty = refl

-- Sizes behind notes.

size_if : (b : Bool) (s t : State) → size_of (if b then s else t) ≡ (if b then size_of s else size_of t)
size_if true s t = refl
size_if false s t = refl

joined_size : (p : Params) (history : List File) (pending : Option File)
    → size_of (Sound p (with_pending history pending) None) ≡ Sized p (length history + one_if (is_some pending)) false
joined_size p history None = ap (λ (n : ℕ). Sized p n false) (let same : length history ≡ length history + 0 = omega arith in same)
joined_size p history (Some f) = ap (λ (n : ℕ). Sized p n false) (length-append history (f ∷ []))

-- the sizes of what is settled so
pub shows_sized : (m : ℕ) (state : State) → size_of (shows m state) ≡ shows_size m (size_of state)
shows_sized m (Bad origin damage gate) = refl
shows_sized m (Sound p history pending) =
    size_if (m == length history + 1) _ _
    ∙ ap (λ (s : Size). if m == length history + 1 then s else Sized p (length history) (is_some pending)) (joined_size p history pending)

-- where any were shown
pub told_sized : (o : Option ℕ) (state : State) → size_of (shows_count o state) ≡ told_size o (size_of state)
told_sized None state = refl
told_sized (Some m) state = shows_sized m state

-- behind a master's count
pub finds_sized : (n : ℕ) (state : State) → size_of (finds n state) ≡ finds_size n (size_of state)
finds_sized n (Bad origin damage gate) = refl
finds_sized n (Sound p history pending) =
    size_if (n == length history) _ _
    ∙ ap (λ (s : Size). if n == length history then Sized p (length history) false else s) (shows_sized n (Sound p history pending))

pends_sized : (f : File) (state : State) → size_of (pends f state) ≡ pends_size (size_of state)
pends_sized f (Bad origin damage gate) = refl
pends_sized f (Sound p history pending) = refl

-- behind a note, by what is told of it
abbrev pub size_after : Size → ToldNote → Size
size_after s (Begins k cmd) = s
size_after s (Tells (Made k p)) = Sized p 0 false
size_after s (Tells (Cut k n)) = if nat_lt n first_sent then s else Lost Halted (NoSuperblock (super.NoSuper 0)) 0
size_after s (Tells (Found k n)) = finds_size n s
size_after s (Tells (Writes k seq entry)) = pends_size s
size_after s (Tells (Answered k answer)) = told_size (effect answer) s
size_after s (Tells note) = s

-- which is the size of what it settles
pub sized_after : (past : Past) (y : Note) → size_of (state_after past y) ≡ size_after (size_of past.state) (told_note y)
sized_after past (Made k p) = refl
sized_after past (Cut k n) = size_if (nat_lt n first_sent) _ _
sized_after past (Found k n) = finds_sized n past.state
sized_after past (Writes k seq entry) = pends_sized _ past.state
sized_after past (Answered k answer) = ap size_of (ended_is answer past.state) ∙ told_sized (effect answer) past.state
sized_after past y = refl

-- behind some notes
abbrev pub sizes_behind : Size → List ToldNote → Size
sizes_behind s [] = s
sizes_behind s (t ∷ told) = sizes_behind (size_after s t) told

-- which is the size of what they settle
pub sized_behind : (past : Past) (notes : List Note) → size_of (past_behind past notes).state ≡ sizes_behind (size_of past.state) (map told_note notes)
sized_behind past [] = refl
sized_behind past (y ∷ notes) =
    sized_behind (past_after past y) notes ∙ ap (λ (s : Size). sizes_behind s (map told_note notes)) (sized_after past y)

-- UUIDs.

-- of a host as the past has it
abbrev pub past_uuid : HostPast → List ℕ
past_uuid x = x.uuid

-- and as its shape has it
abbrev pub shape_uuid : HostShape → List ℕ
shape_uuid x = x.uuid

abbrev uuids_after : List (List ℕ) → ToldNote → List (List ℕ)
uuids_after ids (Tells (Host name uuid)) = ids ++ uuid ∷ []
uuids_after ids told = ids

-- a change that keeps them
pub kept_uuids : {A : Type 0} (g : A → List ℕ) (k : ℕ) (f : A → A) → ((x : A) → g (f x) ≡ g x) → (xs : List A) → map g (changed_at k f xs) ≡ map g xs
kept_uuids g k f same xs = map_changed g k f (λ l. l) same xs ∙ changed_same k (λ l. l) (map g xs) (λ l is. refl)

past_uuids : (past : Past) (y : Note) → map past_uuid (past_after past y).hosts ≡ uuids_after (map past_uuid past.hosts) (told_note y)
past_uuids past (Host name uuid) = map-append past_uuid past.hosts _
past_uuids past (Start k cmd) = kept_uuids past_uuid k _ (λ x. refl) past.hosts
past_uuids past (Mark k) = kept_uuids past_uuid k _ (λ x. refl) past.hosts
past_uuids past (Writes k seq entry) = kept_uuids past_uuid k _ (λ x. refl) past.hosts
past_uuids past y = refl

shape_uuids : (hosts : List HostShape) (y : Note) → map shape_uuid (shapes_after hosts y) ≡ uuids_after (map shape_uuid hosts) (told_note y)
shape_uuids hosts (Host name uuid) = map-append shape_uuid hosts _
shape_uuids hosts (Made k p) = refl
shape_uuids hosts (Cut k n) = refl
shape_uuids hosts (Refused name cause) = refl
shape_uuids hosts (Start k cmd) = kept_uuids shape_uuid k _ (λ x. refl) hosts
shape_uuids hosts (Mark k) = kept_uuids shape_uuid k _ (λ x. refl) hosts
shape_uuids hosts (Found k n) = kept_uuids shape_uuid k _ (λ x. refl) hosts
shape_uuids hosts (Writes k seq entry) = kept_uuids shape_uuid k _ (λ x. refl) hosts
shape_uuids hosts (Answered k answer) = kept_uuids shape_uuid k _ (λ x. refl) hosts
shape_uuids hosts (Stop k) = kept_uuids shape_uuid k _ (λ x. refl) hosts
shape_uuids hosts (Halt k) = kept_uuids shape_uuid k _ (λ x. refl) hosts
shape_uuids hosts (Umount k) = kept_uuids shape_uuid k _ (λ x. refl) hosts

-- journals that tell the same tell the same UUIDs
pub uuids_alike : (a b : List Note) → AreAlikeNotes a b → (past : Past) (hosts : List HostShape) → map past_uuid past.hosts ≡ map shape_uuid hosts
    → map past_uuid (past_behind past b).hosts ≡ map shape_uuid (shapes_behind hosts a)
uuids_alike [] [] alike past hosts same = same
uuids_alike [] (n ∷ b) alike past hosts same = absurd (none_is_more (told_note n) (map told_note b) alike)
uuids_alike (m ∷ a) [] alike past hosts same = absurd (more_is_none (told_note m) (map told_note a) alike)
uuids_alike (m ∷ a) (n ∷ b) alike past hosts same =
    let one : told_note m ≡ told_note n = heads (told_note m) (told_note n) (map told_note a) (map told_note b) alike in
    uuids_alike a b (tails (told_note m) (told_note n) (map told_note a) (map told_note b) alike) (past_after past n) (shapes_after hosts m)
    (past_uuids past n ∙ ap₂ uuids_after same (sym one) ∙ sym (shape_uuids hosts m))
