-- Whether a note may stand next is settled by what is told of it, and of the hosts.
use Rattle.std.proofs.Common.{◌≡◌, inl, inr, ℕ, Bool, true, false, List, [], ◌∷◌, length, map, Option, Some, None, refl, ap, sym, ◌∙◌, subst}
use Rattle.std.specs.Prelude.{⊤, is_some, option_map, slice_get}
use Rattle.std.proofs.lemmas.Option.{same_Some, slice_get-map}
use Rattle.fam_base.specs.declared.cmd.Attr.{Attr}
use Rattle.fam_base.specs.declared.cmd.Cmd.{Cmd}
use Rattle.fam_base.specs.declared.cmd.Cmd.TheVariants.{Logplay, Mount, Cp, Verify, Check, Fsck}
use Rattle.fam_base.specs.declared.cmd.Content.TheVariants as content
use Rattle.fam_base.specs.declared.cmd.Stripe.{Stripe}
use Rattle.fam_base.specs.declared.entry.Entry.{Entry}
use Rattle.fam_commands.specs.Classes.{IsCheck, IsRead, IsVerify}
use Rattle.fam_history.specs.declared.command.ToldCommand.{ToldCommand}
use Rattle.fam_history.specs.declared.command.ToldCommand.TheVariants as told
use Rattle.fam_history.specs.Told.{told_of_command}
use Rattle.fam_rules.specs.Decide.{Wish, wish_of}
use Rattle.fam_rules.specs.Reply as reply
use Rattle.fam_rules.specs.Reply.{Reply}
use Rattle.fam_journal.specs.Notes.{Answer, Replied, MediaFault, Note, Host, Made, Cut, Start, Mark, Found, Writes, Answered, Stop, Halt, Umount, Refused}
use Rattle.fam_journal.specs.Shapes.{AnswerShape, CommandStage, EntryShape, HostShape, OfRunning, OfTask, ReplyShape, TaskNote, TaskShape}
use Rattle.fam_judge.specs.Alike.{told_note, whole_command, whole_note}
use Rattle.fam_judge.specs.Formed.{AnswerPlace, SlotPlace}
use Rattle.fam_judge.specs.Standing.{Face, IsMadeBy, MayDeclare, MayMake, MayRefuseCall, MayStand, MayStart, OfFace, engaged_in, face, faces, is_own}
use Rattle.fam_judge.specs.ToldHosts.{ToldHost, ToldTask, told_host, told_hosts, told_task}
use Rattle.fam_judge.proofs.Telling.{command_back, note_back}

-- Notes.

-- by what is told of the note
pub stands_told : (lines : ℕ) (hosts : List HostShape) (a b : Note) → told_note a ≡ told_note b → MayStand lines hosts a → MayStand lines hosts b
stands_told lines hosts (Start h c) (Start k d) e is =
    let place : h ≡ k = cc in
    let same : told_of_command c ≡ told_of_command d = cc in
    subst (λ (n : ℕ). MayStart lines (faces hosts) n (told_of_command d)) place (subst (λ (t : ToldCommand). MayStart lines (faces hosts) h t) same is)
stands_told lines hosts (Start h c) b e is = absurd cc
stands_told lines hosts a b e is = subst (MayStand lines hosts) (sym (note_back b a (ap whole_note (sym e)))) is

-- by what is seen of the hosts, where it is no running command's
pub stands_seen : (lines : ℕ) (a b : List HostShape) (note : Note) → faces a ≡ faces b → is_own note ≡ false → MayStand lines a note → MayStand lines b note
stands_seen lines a b (Host name uuid) e own is = subst (λ (all : List Face). MayDeclare all name uuid) e is
stands_seen lines a b (Made h p) e own is =
    subst (λ (all : List Face). (engaged_in all ≡ None) × OfFace (slice_get all h) (λ f. IsMadeBy f.uuid lines p)) e is
stands_seen lines a b (Cut h k) e own is = subst (λ (all : List Face). MayMake lines all × OfFace (slice_get all h) (λ f. ⊤)) e is
stands_seen lines a b (Start h cmd) e own is = subst (λ (all : List Face). MayStart lines all h (told_of_command cmd)) e is
stands_seen lines a b (Stop h) e own is = subst (λ (all : List Face). OfFace (slice_get all h) (λ f. f.runs ≡ true)) e is
stands_seen lines a b (Halt h) e own is = subst (λ (all : List Face). OfFace (slice_get all h) (λ f. ⊤)) e is
stands_seen lines a b (Umount h) e own is = subst (λ (all : List Face). OfFace (slice_get all h) (λ f. (f.runs ≡ false) × (f.keeps ≡ true))) e is
stands_seen lines a b (Refused name cause) e own is = subst (λ (all : List Face). MayRefuseCall lines all name cause) e is
stands_seen lines a b note e own is = absurd cc

-- Commands that tell the same.

-- what answers and notes ask of a command
record IsSimilar (c d : Cmd) : Type 0 where
  wish : wish_of c ≡ wish_of d
  logplay : c ≡ Logplay → d ≡ Logplay
  mount : c ≡ Mount → d ≡ Mount
  fsck : c ≡ Fsck → d ≡ Fsck
  other : d ≡ Fsck → c ≡ Fsck
  verify : IsVerify c → IsVerify d
  read : IsRead c → IsRead d
  check : IsCheck c → IsCheck d

similar_same : (c d : Cmd) → c ≡ d → IsSimilar c d
similar_same c d e =
    subst (IsSimilar c) e
    (record { wish = refl; logplay = λ e. e; mount = λ e. e; fsck = λ e. e; other = λ e. e; verify = λ is. is; read = λ is. is; check = λ is. is })

start_same : (c d : Cmd) → Start 0 c ≡ Start 0 d → d ≡ c
start_same c d e = cc

-- a command of which all is told
whole : (c d : Cmd) → told.Plain c ≡ told_of_command d → IsSimilar c d
whole c d e = similar_same c d (start_same d c (command_back 0 d (Start 0 c) (ap (whole_command 0) (sym e))))

cp_similar : (path : List ℕ) (attr : Attr) (stripe : Option Stripe) (bytes : List ℕ) (d : Cmd) → told.Cp path (length bytes) attr stripe ≡ told_of_command d
    → IsSimilar (Cp path attr stripe bytes) d
cp_similar path attr stripe bytes (Cp p a s given) e = record {
  wish =
      let paths : path ≡ p = cc in
      let sizes : length bytes ≡ length given = cc in
      let attrs : attr ≡ a = cc in
      let stripes : stripe ≡ s = cc in
      cc;
  logplay = λ e. absurd cc;
  mount = λ e. absurd cc;
  fsck = λ e. absurd cc;
  other = λ e. absurd cc;
  verify = λ is. absurd is;
  read = λ is. absurd is;
  check = λ is. absurd is;
}
cp_similar path attr stripe bytes (Verify p content.Zero) e = absurd cc
cp_similar path attr stripe bytes (Verify p (content.Seed seed)) e = absurd cc
cp_similar path attr stripe bytes (Verify p (content.Bytes given)) e = absurd cc
cp_similar path attr stripe bytes d e = absurd cc

verify_similar : (path bytes : List ℕ) (d : Cmd) → told.VerifySource path (length bytes) ≡ told_of_command d → IsSimilar (Verify path (content.Bytes bytes)) d
verify_similar path bytes (Verify p content.Zero) e = absurd cc
verify_similar path bytes (Verify p (content.Seed seed)) e = absurd cc
verify_similar path bytes (Verify p (content.Bytes given)) e = record {
  wish = refl;
  logplay = λ e. absurd cc;
  mount = λ e. absurd cc;
  fsck = λ e. absurd cc;
  other = λ e. absurd cc;
  verify = λ is. tt;
  read = λ is. absurd is;
  check = λ is. absurd is;
}
verify_similar path bytes d e = absurd cc

check_similar : (listing : List Entry) (d : Cmd) → told.Check (length listing) ≡ told_of_command d → IsSimilar (Check listing) d
check_similar listing (Verify p content.Zero) e = absurd cc
check_similar listing (Verify p (content.Seed seed)) e = absurd cc
check_similar listing (Verify p (content.Bytes given)) e = absurd cc
check_similar listing (Check other) e = record {
  wish = refl;
  logplay = λ e. absurd cc;
  mount = λ e. absurd cc;
  fsck = λ e. absurd cc;
  other = λ e. absurd cc;
  verify = λ is. absurd is;
  read = λ is. absurd is;
  check = λ is. tt;
}
check_similar listing d e = absurd cc

similar : (c d : Cmd) → told_of_command c ≡ told_of_command d → IsSimilar c d
similar (Cp path attr stripe bytes) d e = cp_similar path attr stripe bytes d e
similar (Verify path content.Zero) d e = whole (Verify path content.Zero) d e
similar (Verify path (content.Seed seed)) d e = whole (Verify path (content.Seed seed)) d e
similar (Verify path (content.Bytes bytes)) d e = verify_similar path bytes d e
similar (Check listing) d e = check_similar listing d e
similar c d e = whole c d e

module _ (me : List ℕ) (c d : Cmd) (stage : CommandStage) (same : IsSimilar c d) where
  -- may answer alike
  reply_similar : (given : Reply) → ReplyShape me c stage given → ReplyShape me d stage given
  reply_similar (reply.Appended seq) is = is
  reply_similar (reply.NotAppended why) is = ((is.0.0, sym same.wish ∙ is.0.1), is.1)
  reply_similar (reply.Played m tree) is = (same.logplay is.0, is.1)
  reply_similar (reply.Mounted m) is = (same.mount is.0, is.1)
  reply_similar (reply.Same m) is = (same.verify is.0, is.1)
  reply_similar (reply.Differs m offset found wanted) is = (same.verify is.0, is.1)
  reply_similar (reply.Length m size wanted) is = (same.verify is.0, is.1)
  reply_similar (reply.Bytes m bytes) is = (same.read is.0, is.1)
  reply_similar (reply.NotFound m) (inl is, at) = (inl (same.verify is), at)
  reply_similar (reply.NotFound m) (inr is, at) = (inr (same.read is), at)
  reply_similar (reply.IsDirectory m) (inl is, at) = (inl (same.verify is), at)
  reply_similar (reply.IsDirectory m) (inr is, at) = (inr (same.read is), at)
  reply_similar (reply.Checks m checked) is = (same.check is.0, is.1)
  reply_similar (reply.Reports report) is = (same.fsck is.0, is.1)
  reply_similar (reply.NoSuperblock fault) is = ((λ e. is.0 (same.other e)), is.1)
  reply_similar (reply.BadHeader fault) is = ((λ e. is.0 (same.other e)), is.1)
  reply_similar (reply.BadSlot seq reason) is = ((λ e. is.0 (same.other e)), is.1)

  answer_similar : (answer : Answer) → AnswerShape me c stage answer → AnswerShape me d stage answer
  answer_similar (Replied given) is = reply_similar given is
  answer_similar (MediaFault line) is = is

  -- at the same places
  place_similar : (answer : Answer) → AnswerPlace c stage answer → AnswerPlace d stage answer
  place_similar (Replied (reply.BadSlot seq reason)) is = subst (λ (o : Option Wish). SlotPlace o stage) same.wish is
  place_similar (Replied given) is = is
  place_similar (MediaFault line) is = is

  entry_similar : (entry : Entry) → EntryShape c entry → EntryShape d entry
  entry_similar entry is = (is.0, sym same.wish ∙ is.1, is.2)

-- Hosts.

-- this holds of a running command wherever it holds of one that tells the same
abbrev Carries : (List ℕ → TaskShape → Type 0) → Type 0
Carries P = (me : List ℕ) (t u : TaskShape) → IsSimilar t.cmd u.cmd → t.stage ≡ u.stage → P me t → P me u

task_carries : (P : TaskShape → Type 0) → ((t u : TaskShape) → IsSimilar t.cmd u.cmd → t.stage ≡ u.stage → P t → P u) → (o q : Option TaskShape)
    → option_map told_task o ≡ option_map told_task q → OfTask o P → OfTask q P
task_carries P each None q e is = absurd is
task_carries P each (Some t) None e is = absurd cc
task_carries P each (Some t) (Some u) e is =
    let same = same_Some (told_task t) (told_task u) e in
    each t u (similar t.cmd u.cmd (ap (λ (k : ToldTask). k.cmd) same)) (ap (λ (k : ToldTask). k.stage) same) is

running_carries : (P : List ℕ → TaskShape → Type 0) → Carries P → (o q : Option HostShape) → option_map told_host o ≡ option_map told_host q → OfRunning o P → OfRunning q P
running_carries P each None q e is = absurd is
running_carries P each (Some x) None e is = absurd cc
running_carries P each (Some x) (Some y) e is =
    let same = same_Some (told_host x) (told_host y) e in
    subst (λ (me : List ℕ). OfTask y.task (P me)) (ap (λ (k : ToldHost). k.uuid) same)
    (task_carries (P x.uuid) (each x.uuid) x.task y.task (ap (λ (k : ToldHost). k.task) same) is)

note_carries : (h : ℕ) (note : Note) → Carries (λ me t. TaskNote h me t note)
note_carries h (Mark k) me t u same stage is = (is.0, sym stage ∙ is.1)
note_carries h (Found k n) me t u same stage is = (is.0, (is.1.0, sym same.wish ∙ is.1.1), sym stage ∙ is.2)
note_carries h (Writes k seq entry) me t u same stage is = (is.0, entry_similar me t.cmd u.cmd t.stage same entry is.1, sym stage ∙ is.2)
note_carries h (Answered k answer) me t u same stage is =
    (is.0, subst (λ (s : CommandStage). AnswerShape me u.cmd s answer) stage (answer_similar me t.cmd u.cmd t.stage same answer is.1))
note_carries h note me t u same stage is = absurd is

place_carries : (answer : Answer) → Carries (λ me t. AnswerPlace t.cmd t.stage answer)
place_carries answer me t u same stage is = subst (λ (s : CommandStage). AnswerPlace u.cmd s answer) stage (place_similar me t.cmd u.cmd t.stage same answer is)

-- a told host's face
abbrev told_face : ToldHost → Face
told_face x = record { name = x.name; uuid = x.uuid; runs = is_some x.task; keeps = x.keeps }

face_told : (x : HostShape) → face x ≡ told_face (told_host x)
face_told x = ap (λ (b : Bool). let f : Face = record { name = x.name; uuid = x.uuid; runs = b; keeps = x.keeps } in f) (by x.task)
  where
    by : (o : Option TaskShape) → is_some o ≡ is_some (option_map told_task o)
    by None = refl
    by (Some t) = refl

faces_told : (xs : List HostShape) → faces xs ≡ map told_face (told_hosts xs)
faces_told [] = refl
faces_told (x ∷ xs) = ap (λ (f : Face). f ∷ faces xs) (face_told x) ∙ ap (λ (fs : List Face). told_face (told_host x) ∷ fs) (faces_told xs)

module _ (lines : ℕ) (a b : List HostShape) (alike : told_hosts a ≡ told_hosts b) where
  at : (P : List ℕ → TaskShape → Type 0) → Carries P → (h : ℕ) → OfRunning (slice_get a h) P → OfRunning (slice_get b h) P
  at P each h is =
      running_carries P each (slice_get a h) (slice_get b h)
      (sym (slice_get-map told_host a h) ∙ ap (λ (l : List ToldHost). slice_get l h) alike ∙ slice_get-map told_host b h) is

  others : (note : Note) → is_own note ≡ false → MayStand lines a note → MayStand lines b note
  others note own is = stands_seen lines a b note (faces_told a ∙ ap (λ (l : List ToldHost). map told_face l) alike ∙ sym (faces_told b)) own is

  -- by what is told of the hosts, whatever the note is
  pub stands_alike : (note : Note) → MayStand lines a note → MayStand lines b note
  stands_alike (Mark h) is = at _ (note_carries h (Mark h)) h is
  stands_alike (Found h n) is = at _ (note_carries h (Found h n)) h is
  stands_alike (Writes h seq entry) is = at _ (note_carries h (Writes h seq entry)) h is
  stands_alike (Answered h answer) is = (at _ (note_carries h (Answered h answer)) h is.0, at _ (place_carries answer) h is.1)
  stands_alike note is = others note refl is
