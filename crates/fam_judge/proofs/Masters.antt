-- What hosts that run a command know of what is settled: what was found stays, and while a master has found, nothing of another
-- host pends.
use Prim.Native.Nat.{zero, suc}
use Rattle.std.proofs.Common.{◌≡◌, ◌≢◌, ◌⊎◌, ◌+◌, ◌≤◌, inl, inr, ℕ, Bool, true, false, List, [], ◌∷◌, ◌++◌, length, map, Option, Some, None, refl, ap, sym, ◌∙◌, subst, arith}
use Rattle.std.specs.Prelude.{⊤, ◌==◌, ◌||◌, if◌then◌else◌, is_some, option_map, slice_get}
use Rattle.std.proofs.lemmas.Bool.{cases_eq}
use Rattle.std.proofs.lemmas.Bool.Decides.{nat_tests}
use Rattle.std.proofs.lemmas.List.{map-append}
use Rattle.std.proofs.lemmas.Option.{same_Some, slice_get-map}
use Rattle.fam_base.specs.declared.entry.Entry.{Entry}
use Rattle.fam_base.specs.declared.entry.Params.{Params}
use Rattle.fam_machine.specs.declared.request.MkfsRequest.{MkfsRequest}
use Rattle.fam_journal.specs.Calls as call
use Rattle.fam_journal.specs.Calls.{Call, is_engaged, is_same, number_of, on_host, refusal_of}
use Rattle.fam_journal.specs.Legal.{FoundAllowed, FoundBad}
use Rattle.fam_journal.specs.Members.{changed_at}
use Rattle.fam_journal.specs.Notes.{Note, Host, Made, Cut, Start, Mark, Found, Writes, Answered, Stop, Halt, Umount, Refused}
use Rattle.fam_journal.specs.Past.{Bad, Sound, State}
use Rattle.fam_journal.specs.Shapes.{Begun, CommandStage, HostShape, Marked, Met, Named, OfHostShape, TaskShape, makes_told, refusal_told, shapes_after, shown_running, shown_shape, shown_shapes}
use Rattle.fam_journal.proofs.Calls.Declares.{none_passes}
use Rattle.fam_journal.proofs.Calls.Members.{changed_here, changed_other}
use Rattle.fam_journal.proofs.Calls.Tests.{no_busy, no_same, or_first, or_next, other_uuid}
use Rattle.fam_judge.specs.Alike.{told_note}
use Rattle.fam_judge.specs.Formed.{IsFormedNote}
use Rattle.fam_judge.proofs.Origins.{IsMaking, Origin, begins, by_event, declares, gives, makes, none_running, plain}
use Rattle.fam_judge.proofs.Sizes.{Lost, Size, Sized, effect, finds_size, kept_uuids, one_if, pends_size, shape_uuid, shows_size, size_after, size_of, told_size}

-- Running commands.

-- a command that found so many entries has them behind it still, and where its host is the master nothing pends; behind an entry
-- that it named none but this pends
abbrev pub StageFits : List ℕ → CommandStage → Params → ℕ → Bool → Type 0
StageFits me Begun p n more = ⊤
StageFits me Marked p n more = ⊤
StageFits me (Met m) p n more = (m ≤ n) × (me ≡ p.master → more ≡ false)
StageFits me (Named seq) p n more = (me ≡ p.master) × (more ≡ true → n ≡ seq)

-- so of a running command, if any
abbrev pub TaskFits : List ℕ → Option TaskShape → Size → Type 0
TaskFits me None s = ⊤
TaskFits me (Some t) (Lost origin damage gate) = ⊤
TaskFits me (Some t) (Sized p n more) = StageFits me t.stage p n more

-- no two places have the same
abbrev pub AreApart : List (List ℕ) → Type 0
AreApart ids = (k l : ℕ) (u : List ℕ) → slice_get ids k ≡ Some u → slice_get ids l ≡ Some u → k ≡ l

-- so of all hosts, whose UUIDs differ
pub record Keeps (hosts : List HostShape) (s : Size) : Type 0 where
  pub tasks : (k : ℕ) (x : HostShape) → slice_get hosts k ≡ Some x → TaskFits x.uuid x.task s
  pub apart : AreApart (map shape_uuid hosts)

-- the UUID of a place
pub uuid_at : (hosts : List HostShape) (k : ℕ) (x : HostShape) → slice_get hosts k ≡ Some x → slice_get (map shape_uuid hosts) k ≡ Some x.uuid
uuid_at hosts k x is = slice_get-map shape_uuid hosts k ∙ ap (option_map shape_uuid) is

-- What is settled goes on.

-- the same; or no fewer are settled, and nothing pends
pub data Goes (s t : Size) : Type 0 where
  same : t ≡ s → Goes s t
  on : (p : Params) (n m : ℕ) (more : Bool) → s ≡ Sized p n more → n ≤ m → t ≡ Sized p m false → Goes s t

stage_goes : (me : List ℕ) (stage : CommandStage) (p : Params) (n m : ℕ) (more : Bool) → n ≤ m → StageFits me stage p n more → StageFits me stage p m false
stage_goes me Begun p n m more low fits = tt
stage_goes me Marked p n m more low fits = tt
stage_goes me (Met k) p n m more low fits = let first = fits.0 in (omega (arith, low, first), λ e. refl)
stage_goes me (Named seq) p n m more low fits = (fits.0, λ e. absurd cc)

task_goes : (me : List ℕ) (o : Option TaskShape) (s t : Size) → Goes s t → TaskFits me o s → TaskFits me o t
task_goes me None s t goes fits = tt
task_goes me (Some k) s t (same e) fits = subst (TaskFits me (Some k)) (sym e) fits
task_goes me (Some k) s t (on p n m more is low now) fits =
    subst (TaskFits me (Some k)) (sym now) (stage_goes me k.stage p n m more low (subst (TaskFits me (Some k)) is fits))

shows_goes : (m : ℕ) (s : Size) → Goes s (shows_size m s)
shows_goes m (Lost origin damage gate) = same refl
shows_goes m (Sized p n more) = by (m == n + 1) refl
  where
    by : (b : Bool) → (m == n + 1) ≡ b → Goes (Sized p n more) (if b then Sized p (n + one_if more) false else Sized p n more)
    by true e = on p n (n + one_if more) more refl (omega arith) refl
    by false e = same refl

-- an answer only settles
pub told_goes : (o : Option ℕ) (s : Size) → Goes s (told_size o s)
told_goes None s = same refl
told_goes (Some m) s = shows_goes m s

-- a count that is found, by what is settled
abbrev pub FoundMany : ℕ → ℕ → Bool → Type 0
FoundMany n m false = n ≡ m
FoundMany n m true = (n ≡ m) ⊎ (n ≡ m + 1)

-- so of a size
abbrev pub FoundSize : ℕ → Size → Type 0
FoundSize n (Lost origin damage gate) = FoundBad n damage gate
FoundSize n (Sized p m more) = FoundMany n m more

-- it is what a state allows
pub found_size : (n : ℕ) (s : State) → FoundAllowed n s → FoundSize n (size_of s)
found_size n (Bad origin damage gate) is = is
found_size n (Sound p history None) is = is
found_size n (Sound p history (Some f)) is = is

-- and the other way about
pub size_found : (n : ℕ) (s : State) → FoundSize n (size_of s) → FoundAllowed n s
size_found n (Bad origin damage gate) is = is
size_found n (Sound p history None) is = is
size_found n (Sound p history (Some f)) is = is

-- behind it so many are settled, and nothing pends
finds_is : (n : ℕ) (p : Params) (m : ℕ) (more : Bool) → FoundMany n m more → finds_size n (Sized p m more) ≡ Sized p n false
finds_is n p m more is = by (n == m) refl
  where
    one : (b : Bool) → FoundMany n m b → (n ≡ m → ⊥) → n ≡ m + one_if b
    one false is ne = absurd (ne is)
    one true (inl is) ne = absurd (ne is)
    one true (inr is) ne = is

    late : (n ≡ m → ⊥) → (b : Bool) → (n == m + 1) ≡ b → (if b then Sized p (m + one_if more) false else Sized p m more) ≡ Sized p n false
    late ne true e = ap (λ (k : ℕ). Sized p k false) (sym (one more is ne))
    late ne false e = absurd (none more is)
      where
        none : (b : Bool) → FoundMany n m b → ⊥
        none false is = ne is
        none true (inl is) = ne is
        none true (inr is) = grind (arith, nat_tests)

    by : (b : Bool) → (n == m) ≡ b → (if b then Sized p m false else shows_size n (Sized p m more)) ≡ Sized p n false
    by true e = let here : n ≡ m = grind (arith, nat_tests) in ap (λ (k : ℕ). Sized p k false) (sym here)
    by false e = late (λ is. grind (arith, nat_tests)) (n == m + 1) refl

finds_goes : (n : ℕ) (s : Size) → FoundSize n s → Goes s (finds_size n s)
finds_goes n (Lost origin damage gate) is = same refl
finds_goes n (Sized p m more) is = on p m n more refl (low more is) (finds_is n p m more is)
  where
    low : (b : Bool) → FoundMany n m b → m ≤ n
    low false is = omega (arith, is)
    low true (inl is) = omega (arith, is)
    low true (inr is) = omega (arith, is)

-- Hosts of which one changes.

module _ (hosts : List HostShape) (k : ℕ) (f : HostShape → HostShape) (t : Size) where
  tasks_changed : ((x : HostShape) → slice_get hosts k ≡ Some x → TaskFits (f x).uuid (f x).task t)
      → ((l : ℕ) (x : HostShape) → l ≢ k → slice_get hosts l ≡ Some x → TaskFits x.uuid x.task t)
      → (l : ℕ) (x : HostShape) → slice_get (changed_at k f hosts) l ≡ Some x → TaskFits x.uuid x.task t
  tasks_changed mine others l x is =
      elim (cases_eq l k) [
        | inl e ↦ here (slice_get hosts k) refl (sym (changed_here k f hosts) ∙ ap (slice_get (changed_at k f hosts)) (sym e) ∙ is)
        | inr ne ↦ others l x ne (sym (changed_other k l f hosts ne) ∙ is)
      ]
    where
      here : (o : Option HostShape) → slice_get hosts k ≡ o → option_map f o ≡ Some x → TaskFits x.uuid x.task t
      here None e is = absurd cc
      here (Some y) e is = subst (λ (z : HostShape). TaskFits z.uuid z.task t) (same_Some (f y) x is) (mine y e)

  keeps_changed : (s : Size) → Keeps hosts s → ((x : HostShape) → (f x).uuid ≡ x.uuid) → ((x : HostShape) → slice_get hosts k ≡ Some x → TaskFits (f x).uuid (f x).task t)
      → ((l : ℕ) (x : HostShape) → l ≢ k → slice_get hosts l ≡ Some x → TaskFits x.uuid x.task t) → Keeps (changed_at k f hosts) t
  keeps_changed s keeps uuids mine others = record {
    tasks = tasks_changed mine others;
    apart = subst AreApart (sym (kept_uuids shape_uuid k f uuids hosts)) keeps.apart;
  }

-- one more at the end
pub last_at : {A : Type 0} (xs : List A) (y : A) (k : ℕ) (z : A) → slice_get (xs ++ y ∷ []) k ≡ Some z → (slice_get xs k ≡ Some z) ⊎ ((k ≡ length xs) × (y ≡ z))
last_at [] y zero z is = inr (refl, same_Some y z is)
last_at [] y (suc k) z is = absurd cc
last_at (x ∷ xs) y zero z is = inl is
last_at (x ∷ xs) y (suc k) z is = elim (last_at xs y k z is) [
  | inl front ↦ inl front
  | inr last ↦ inr (ap suc last.0, last.1)
]

-- one more UUID, that is new
pub apart_last : (ids : List (List ℕ)) (u : List ℕ) → AreApart ids → ((k : ℕ) → slice_get ids k ≡ Some u → ⊥) → AreApart (ids ++ u ∷ [])
apart_last ids u apart new k l v first second = by (last_at ids u k v first) (last_at ids u l v second)
  where
    by : (slice_get ids k ≡ Some v) ⊎ ((k ≡ length ids) × (u ≡ v)) → (slice_get ids l ≡ Some v) ⊎ ((l ≡ length ids) × (u ≡ v)) → k ≡ l
    by (inl a) (inl b) = apart k l v a b
    by (inl a) (inr b) = absurd (new k (a ∙ ap Some (sym b.1)))
    by (inr a) (inl b) = absurd (new l (b ∙ ap Some (sym a.1)))
    by (inr a) (inr b) = a.0 ∙ sym b.0

-- Notes.

-- an entry is named behind all that is settled, where nothing pends, by the master
abbrev pub WriteSize : List ℕ → ℕ → Size → Type 0
WriteSize me seq (Lost origin damage gate) = ⊥
WriteSize me seq (Sized p n more) = (seq ≡ n) × (more ≡ false) × (me ≡ p.master)

-- what a note needs of what is settled
abbrev pub StepFits : List HostShape → Note → Size → Type 0
StepFits hosts (Found k n) s = FoundSize n s
StepFits hosts (Writes k seq entry) s = OfHostShape (slice_get hosts k) (λ x. WriteSize x.uuid seq s)
StepFits hosts y s = ⊤

begun_fits : (me : List ℕ) (t : TaskShape) (s : Size) → t.stage ≡ Begun → TaskFits me (Some t) s
begun_fits me t (Lost origin damage gate) e = tt
begun_fits me t (Sized p n more) e = subst (λ (c : CommandStage). StageFits me c p n more) (sym e) tt

marked_fits : (me : List ℕ) (o : Option TaskShape) (s : Size) → TaskFits me (option_map (λ (t : TaskShape). record t { stage = Marked }) o) s
marked_fits me None s = tt
marked_fits me (Some t) (Lost origin damage gate) = tt
marked_fits me (Some t) (Sized p n more) = tt

met_fits : (me : List ℕ) (n : ℕ) (o : Option TaskShape) (s : Size) → FoundSize n s → TaskFits me (option_map (λ (t : TaskShape). record t { stage = Met n }) o) (finds_size n s)
met_fits me n None s is = tt
met_fits me n (Some t) (Lost origin damage gate) is = tt
met_fits me n (Some t) (Sized p m more) is =
    subst (TaskFits me (Some (record t { stage = Met n }))) (sym (finds_is n p m more is)) (let low : n ≤ n = omega arith in (low, λ e. refl))

named_fits : (me : List ℕ) (seq : ℕ) (o : Option TaskShape) (s : Size) → WriteSize me seq s
    → TaskFits me (option_map (λ (t : TaskShape). record t { stage = Named seq }) o) (pends_size s)
named_fits me seq None s is = tt
named_fits me seq (Some t) (Lost origin damage gate) is = tt
named_fits me seq (Some t) (Sized p n more) is = (is.2, λ e. sym is.0)

pend_fits : (me : List ℕ) (o : Option TaskShape) (s : Size) (master : List ℕ) (seq : ℕ) → WriteSize master seq s → me ≢ master → TaskFits me o s → TaskFits me o (pends_size s)
pend_fits me None s master seq is ne fits = tt
pend_fits me (Some t) (Lost origin damage gate) master seq is ne fits = tt
pend_fits me (Some t) (Sized p n more) master seq is ne fits = by t.stage fits
  where
    by : (c : CommandStage) → StageFits me c p n more → StageFits me c p n true
    by Begun fits = tt
    by Marked fits = tt
    by (Met m) fits = (fits.0, λ e. absurd (ne (e ∙ sym is.2)))
    by (Named k) fits = absurd (ne (fits.0 ∙ sym is.2))

idle_fits : (me : List ℕ) (o : Option TaskShape) (b : Bool) (s : Size) → (is_some (shown_running o) || b) ≡ false → TaskFits me o s
idle_fits me None b s e = tt
idle_fits me (Some t) b s e = absurd cc

host_uuid : (a b c d : List ℕ) → Host a b ≡ Host c d → d ≡ b
host_uuid a b c d e = cc

module _ (lines : ℕ) (hosts : List HostShape) (s : Size) (keeps : Keeps hosts s) where
  others_go : (t : Size) → Goes s t → (k l : ℕ) (x : HostShape) → l ≢ k → slice_get hosts l ≡ Some x → TaskFits x.uuid x.task t
  others_go t goes k l x ne is = task_goes x.uuid x.task s t goes (keeps.tasks l x is)

  -- no host of this UUID was declared
  new_uuid : (name uuid : List ℕ) → refusal_told (call.Declares name uuid) lines hosts ≡ None → (k : ℕ) → slice_get (map shape_uuid hosts) k ≡ Some uuid → ⊥
  unfolding refusal_of
  new_uuid name uuid none k is = by (slice_get hosts k) refl (sym (slice_get-map shape_uuid hosts k) ∙ is)
    where
      by : (o : Option HostShape) → slice_get hosts k ≡ o → option_map shape_uuid o ≡ Some uuid → ⊥
      by None e is_some_id = cc
      by (Some x) e is_id =
          other_uuid name uuid (shown_shape x)
          (none_passes (is_same name uuid) (map shown_shape hosts) 0 (no_same _ (or_first _ _ none)) k (shown_shape x) (slice_get-map shown_shape hosts k ∙ ap (option_map shown_shape) e))
          (same_Some x.uuid uuid is_id)

  declared_keeps : (name uuid : List ℕ) → Origin lines hosts (Host name uuid) → Keeps (shapes_after hosts (Host name uuid)) s
  declared_keeps name uuid (begins k cmd e may) = absurd cc
  declared_keeps name uuid (gives k give) = absurd (none_running (slice_get hosts k) give.task)
  declared_keeps name uuid (makes n request is none) = absurd is
  declared_keeps name uuid (plain is) = absurd is
  declared_keeps name uuid (declares n u e none) =
      let same : u ≡ uuid = host_uuid name uuid n u e in
      record {
        tasks = λ l x is. elim (last_at hosts _ l x is) [
          | inl front ↦ keeps.tasks l x front
          | inr last ↦ subst (λ (z : HostShape). TaskFits z.uuid z.task s) last.1 tt
        ];
        apart = subst AreApart (sym (map-append shape_uuid hosts _))
            (apart_last (map shape_uuid hosts) uuid keeps.apart (subst (λ (v : List ℕ). (k : ℕ) → slice_get (map shape_uuid hosts) k ≡ Some v → ⊥) same (new_uuid n u none)));
      }

  -- no host runs a command where a file system is made
  made_idle : (name : List ℕ) (request : MkfsRequest) → refusal_told (call.Makes name request) lines hosts ≡ None → (t : Size) → Keeps hosts t
  made_idle name request none t = record { tasks = by (number_of name (shown_shapes lines hosts)) none; apart = keeps.apart }
    where
      by : (o : Option ℕ) → on_host o (λ h. makes_told request.unit request.log (shown_shapes lines hosts)) ≡ None
          → (k : ℕ) (x : HostShape) → slice_get hosts k ≡ Some x → TaskFits x.uuid x.task t
      by None e k x is = absurd cc
      by (Some h) e k x is =
          idle_fits x.uuid x.task _ t
          (none_passes is_engaged (map shown_shape hosts) 0 (no_busy _ (or_next _ _ e)) k (shown_shape x) (slice_get-map shown_shape hosts k ∙ ap (option_map shown_shape) is))

  making_keeps : (y : Note) → IsMaking y → Origin lines hosts y → (t : Size) → Keeps hosts t
  making_keeps (Made k p) is (begins h cmd e may) t = absurd cc
  making_keeps (Made k p) is (gives h give) t = absurd (none_running (slice_get hosts h) give.task)
  making_keeps (Made k p) is (declares name uuid e none) t = absurd cc
  making_keeps (Made k p) is (makes name request making none) t = made_idle name request none t
  making_keeps (Made k p) is (plain none) t = absurd none
  making_keeps (Cut k n) is (begins h cmd e may) t = absurd cc
  making_keeps (Cut k n) is (gives h give) t = absurd (none_running (slice_get hosts h) give.task)
  making_keeps (Cut k n) is (declares name uuid e none) t = absurd cc
  making_keeps (Cut k n) is (makes name request making none) t = made_idle name request none t
  making_keeps (Cut k n) is (plain none) t = absurd none
  making_keeps y is origin t = absurd is

  -- an entry is named
  writes_keeps : (k seq : ℕ) (entry : Entry) (o : Option HostShape) → slice_get hosts k ≡ o → OfHostShape o (λ x. WriteSize x.uuid seq s)
      → Keeps (shapes_after hosts (Writes k seq entry)) (pends_size s)
  writes_keeps k seq entry None e is = absurd is
  writes_keeps k seq entry (Some x) e is =
      keeps_changed hosts k _ (pends_size s) s keeps (λ y. refl)
      (λ y here. named_fits y.uuid seq y.task s (subst (λ (z : HostShape). WriteSize z.uuid seq s) (same_Some x y (sym e ∙ here)) is))
      (λ l y ne there. pend_fits y.uuid y.task s x.uuid seq is (λ same. ne (keeps.apart l k x.uuid (uuid_at hosts l y there ∙ ap Some same) (uuid_at hosts k x e))) (keeps.tasks l y there))

  -- behind a note
  pub keeps_after : (y : Note) → IsFormedNote lines hosts y → StepFits hosts y s → Keeps (shapes_after hosts y) (size_after s (told_note y))
  keeps_after (Host name uuid) is fits = declared_keeps name uuid (by_event lines hosts (Host name uuid) is.event is.shape)
  keeps_after (Made k p) is fits = making_keeps (Made k p) tt (by_event lines hosts (Made k p) is.event is.shape) _
  keeps_after (Cut k n) is fits = making_keeps (Cut k n) tt (by_event lines hosts (Cut k n) is.event is.shape) _
  keeps_after (Start k cmd) is fits = keeps_changed hosts k _ s s keeps (λ x. refl) (λ x here. begun_fits x.uuid (record { cmd = cmd; stage = Begun }) s refl) (others_go s (same refl) k)
  keeps_after (Mark k) is fits = keeps_changed hosts k _ s s keeps (λ x. refl) (λ x here. marked_fits x.uuid x.task s) (others_go s (same refl) k)
  keeps_after (Found k n) is fits =
      keeps_changed hosts k _ (finds_size n s) s keeps (λ x. refl) (λ x here. met_fits x.uuid n x.task s fits) (others_go (finds_size n s) (finds_goes n s fits) k)
  keeps_after (Writes k seq entry) is fits = writes_keeps k seq entry (slice_get hosts k) refl fits
  keeps_after (Answered k answer) is fits =
      keeps_changed hosts k _ (told_size (effect answer) s) s keeps (λ x. refl) (λ x here. tt) (others_go (told_size (effect answer) s) (told_goes (effect answer) s) k)
  keeps_after (Stop k) is fits = keeps_changed hosts k _ s s keeps (λ x. refl) (λ x here. tt) (others_go s (same refl) k)
  keeps_after (Halt k) is fits = keeps_changed hosts k _ s s keeps (λ x. refl) (λ x here. tt) (others_go s (same refl) k)
  keeps_after (Umount k) is fits = keeps_changed hosts k _ s s keeps (λ x. refl) (λ x here. keeps.tasks k x here) (others_go s (same refl) k)
  keeps_after (Refused name cause) is fits = keeps
