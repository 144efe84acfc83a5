-- Pasts that differ in floors alone: where these are lower, more is allowed.
use Prim.Native.Nat.{zero, suc}
use Rattle.std.proofs.Common.{◌≡◌, ◌≤◌, ℕ, List, [], ◌∷◌, Option, Some, None, refl, ap, ap₂, sym, ◌∙◌, subst, arith}
use Rattle.std.specs.Prelude.{⊤, Result, Err, slice_get}
use Rattle.std.proofs.lemmas.Option.{same_Some}
use Rattle.fam_base.specs.declared.cmd.Cmd.{Cmd}
use Rattle.fam_base.specs.declared.entry.Entry.{Entry}
use Rattle.fam_base.specs.declared.entry.Params.{Params}
use Rattle.fam_commands.specs.ReplyClasses.{Appending, Declining, Faulty, ReplyClass, Reporting, Showing, reply_class}
use Rattle.fam_rules.specs.declared.answers.Refused.{Refused as Cause}
use Rattle.fam_rules.specs.declared.answers.Refused.TheVariants as cause
use Rattle.fam_rules.specs.declared.answers.Report.{Report}
use Rattle.fam_rules.specs.Asks.{File, entries_of}
use Rattle.fam_rules.specs.Decide.{decide}
use Rattle.fam_rules.specs.DecideLaws.{IsTooLong}
use Rattle.fam_rules.specs.Reply.{Reply}
use Rattle.fam_journal.specs.Legal.{Allowed, AnswerAllowed, AppendedAllowed, AskAllowed, CauseAllowed, DecideAllowed, InBounds, IsDecided, NamesLong, OfHost, ReportAllowed, WritesAllowed, FoundAllowed}
use Rattle.fam_journal.specs.Members.{changed_at}
use Rattle.fam_journal.specs.Notes.{Answer, Replied, MediaFault, Note, Host, Made, Cut, Start, Mark, Found, Writes, Answered}
use Rattle.fam_journal.specs.Past.{Bad, HostPast, Past, Sound, State, acknowledges, cmd_of, ended_state, filled_bytes, finds, halted, new_host, past_after, past_behind, pends, settled_length, state_after}
use Rattle.fam_journal.specs.Shapes.{Pairs}
use Rattle.fam_journal.proofs.Shapes.Pairs.{pairs_last}
use Rattle.fam_judge.proofs.Replies.{ClassAllowed, from_class, to_class}

-- no higher, where there is one
abbrev pub LowerFloor : Option ℕ → Option ℕ → Type 0
LowerFloor None None = ⊤
LowerFloor None (Some b) = ⊥
LowerFloor (Some a) None = ⊥
LowerFloor (Some a) (Some b) = b ≤ a

-- the same host, with a floor that is no higher
pub record Lower (old new : HostPast) : Type 0 where
  pub name : new.name ≡ old.name
  pub uuid : new.uuid ≡ old.uuid
  pub cmd : new.cmd ≡ old.cmd
  pub wrote : new.wrote ≡ old.wrote
  pub floor : LowerFloor old.floor new.floor

same_floor : (o : Option ℕ) → LowerFloor o o
same_floor None = tt
same_floor (Some n) = omega arith

-- a host is
pub same_lower : (x : HostPast) → Lower x x
same_lower x = record { name = refl; uuid = refl; cmd = refl; wrote = refl; floor = same_floor x.floor }

-- and so are all
pub all_lower : (xs : List HostPast) → Pairs Lower xs xs
all_lower [] = tt
all_lower (x ∷ xs) = (same_lower x, all_lower xs)

-- where one changes alike
pub lower_changed : (k : ℕ) (f g : HostPast → HostPast) → ((x y : HostPast) → Lower x y → Lower (f x) (g y)) → (xs ys : List HostPast) → Pairs Lower xs ys
    → Pairs Lower (changed_at k f xs) (changed_at k g ys)
lower_changed k f g both [] [] all = tt
lower_changed k f g both [] (y ∷ ys) all = absurd all
lower_changed k f g both (x ∷ xs) [] all = absurd all
lower_changed zero f g both (x ∷ xs) (y ∷ ys) all = (both x y all.0, all.1)
lower_changed (suc k) f g both (x ∷ xs) (y ∷ ys) all = (all.0, lower_changed k f g both xs ys all.1)

lower_at : (P Q : HostPast → Type 0) → ((x y : HostPast) → Lower x y → P x → Q y) → (k : ℕ) (xs ys : List HostPast) → Pairs Lower xs ys → OfHost (slice_get xs k) P
    → OfHost (slice_get ys k) Q
lower_at P Q next k [] [] all is = is
lower_at P Q next k [] (y ∷ ys) all is = absurd all
lower_at P Q next k (x ∷ xs) [] all is = absurd all
lower_at P Q next zero (x ∷ xs) (y ∷ ys) all is = next x y all.0 is
lower_at P Q next (suc k) (x ∷ xs) (y ∷ ys) all is = lower_at P Q next k xs ys all.1 is

lower_cmd : (k : ℕ) (xs ys : List HostPast) → Pairs Lower xs ys → cmd_of (slice_get ys k) ≡ cmd_of (slice_get xs k)
lower_cmd k [] [] all = refl
lower_cmd k [] (y ∷ ys) all = absurd all
lower_cmd k (x ∷ xs) [] all = absurd all
lower_cmd zero (x ∷ xs) (y ∷ ys) all = all.0.cmd
lower_cmd (suc k) (x ∷ xs) (y ∷ ys) all = lower_cmd k xs ys all.1

-- What is allowed of one host.

module _ (x y : HostPast) (lower : Lower x y) where
  decided_lower : (p : Params) (history : List File) (pending : Option File) (decision : Result Entry Cause) → IsDecided p x history pending decision
      → IsDecided p y history pending decision
  decided_lower p history pending decision d =
      record { cmd = d.cmd; told = lower.cmd ∙ d.told; none = d.none; is = ap (λ (u : List ℕ). decide p u (entries_of history) d.cmd) lower.uuid ∙ d.is }

  writes_lower : (seq : ℕ) (e : Entry) (s : State) → WritesAllowed seq e x s → WritesAllowed seq e y s
  writes_lower seq e (Bad origin damage gate) is = is
  writes_lower seq e (Sound p history pending) is = (is.0, decided_lower p history pending _ is.1)

  bounds_lower : (m : ℕ) (all : List File) → InBounds x m all → InBounds y m all
  bounds_lower m all b = by x.floor y.floor refl b.marked lower.floor
    where
      by : (o k : Option ℕ) → y.floor ≡ k → o ≡ Some b.floor → LowerFloor o k → InBounds y m all
      by None None e marked low = absurd cc
      by None (Some n) e marked low = absurd low
      by (Some a) None e marked low = absurd low
      by (Some a) (Some n) e marked low =
          let same : a ≡ b.floor = same_Some a b.floor marked in
          let first : b.floor ≤ m = b.low in
          record { floor = n; marked = e; low = omega (arith, same, first, low); high = b.high }

  appended_lower : (seq : ℕ) (s : State) → AppendedAllowed seq x s → AppendedAllowed seq y s
  appended_lower seq (Bad origin damage gate) is = is
  appended_lower seq (Sound p history pending) is = record { entry = is.entry; named = lower.wrote ∙ is.named; count = is.count; last = is.last }

  decide_lower : (decision : Result Entry Cause) (s : State) → DecideAllowed x decision s → DecideAllowed y decision s
  decide_lower decision (Bad origin damage gate) is = is
  decide_lower decision (Sound p history pending) is = decided_lower p history pending decision is

  long_lower : (p : Params) (limit : ℕ) → NamesLong p x limit → NamesLong p y limit
  long_lower p limit n = record {
    cmd = n.cmd;
    told = lower.cmd ∙ n.told;
    wish = n.wish;
    wished = n.wished;
    is = subst (λ (u : List ℕ). IsTooLong p u n.wish limit) (sym lower.uuid) n.is;
  }

  cause_lower : (why : Cause) (s : State) → CauseAllowed why x s → CauseAllowed why y s
  cause_lower (cause.NotMaster me master) s is = record { me_is = is.me_is ∙ sym lower.uuid; master_is = is.master_is; other = is.other }
  cause_lower (cause.LongPath limit) s is = record { params = is.params; super = is.super; names = long_lower is.params limit is.names }
  cause_lower why s is = decide_lower (Err why) s is

  ask_lower : (m : ℕ) (given : Reply) (s : State) → AskAllowed m given x s → AskAllowed m given y s
  ask_lower m given (Bad origin damage gate) is = is
  ask_lower m given (Sound p history pending) is = record { bounds = bounds_lower m _ is.bounds; cmd = is.cmd; told = lower.cmd ∙ is.told; is = is.is }

  report_lower : (report : Report) (s : State) → ReportAllowed report x s → ReportAllowed report y s
  report_lower report (Bad origin damage gate) is = is
  report_lower report (Sound p history pending) is = record { m = is.m; bounds = bounds_lower is.m _ is.bounds; is = is.is }

  class_lower : (c : ReplyClass) (given : Reply) (s : State) → ClassAllowed c given x s → ClassAllowed c given y s
  class_lower (Appending seq) given s is = appended_lower seq (acknowledges seq s) is
  class_lower (Declining why) given s is = cause_lower why s is
  class_lower (Showing m) given s is = ask_lower m given s is
  class_lower (Reporting report) given s is = report_lower report s is
  class_lower Faulty given s is = is

  answer_lower : (answer : Answer) (s : State) → AnswerAllowed answer x s → AnswerAllowed answer y s
  answer_lower (MediaFault line) s is = tt
  answer_lower (Replied given) s is = from_class given y s (class_lower (reply_class given) given s (to_class given x s is))

-- Pasts.

-- the same, with floors that are no higher
pub record IsEasier (old new : Past) : Type 0 where
  pub start : new.start ≡ old.start
  pub state : new.state ≡ old.state
  pub hosts : Pairs Lower old.hosts new.hosts

module _ (old new : Past) (easier : IsEasier old new) where
  -- what is allowed is allowed where floors are lower
  pub easier_allows : (z : Note) → Allowed old z → Allowed new z
  easier_allows (Found k n) is = subst (λ (s : State). FoundAllowed n s) (sym easier.state) is
  easier_allows (Writes k seq e) is =
      subst (λ (s : State). OfHost (slice_get new.hosts k) (λ host. WritesAllowed seq e host s)) (sym easier.state)
      (lower_at (λ host. WritesAllowed seq e host old.state) (λ host. WritesAllowed seq e host old.state) (λ x y lower. writes_lower x y lower seq e old.state) k old.hosts new.hosts easier.hosts is)
  easier_allows (Answered k answer) is =
      subst (λ (s : State). OfHost (slice_get new.hosts k) (λ host. AnswerAllowed answer host s)) (sym easier.state)
      (lower_at (λ host. AnswerAllowed answer host old.state) (λ host. AnswerAllowed answer host old.state)
      (λ x y lower. answer_lower x y lower answer old.state) k old.hosts new.hosts easier.hosts is)
  easier_allows z is = tt

  easier_state : (z : Note) → state_after new z ≡ state_after old z
  easier_state (Made k p) = refl
  easier_state (Cut k n) = ap (halted n) easier.state
  easier_state (Found k n) = ap (finds n) easier.state
  easier_state (Writes k seq e) =
      ap₂ (λ (c : Option Cmd) (s : State). pends (record { entry = e; bytes = filled_bytes c e.size }) s) (lower_cmd k old.hosts new.hosts easier.hosts) easier.state
  easier_state (Answered k answer) = ap (ended_state answer) easier.state
  easier_state z = easier.state

  easier_hosts : (z : Note) → Pairs Lower (past_after old z).hosts (past_after new z).hosts
  easier_hosts (Host name uuid) = pairs_last Lower old.hosts new.hosts (new_host name uuid) (new_host name uuid) easier.hosts (same_lower (new_host name uuid))
  easier_hosts (Start k cmd) =
      lower_changed k _ _ (λ x y lower. record { name = lower.name; uuid = lower.uuid; cmd = refl; wrote = refl; floor = tt }) old.hosts new.hosts easier.hosts
  easier_hosts (Mark k) =
      lower_changed k _ _
      (λ x y lower. record {
        name = lower.name;
        uuid = lower.uuid;
        cmd = lower.cmd;
        wrote = lower.wrote;
        floor = let same : settled_length new.state ≡ settled_length old.state = ap settled_length easier.state in omega (arith, same);
      })
      old.hosts new.hosts easier.hosts
  easier_hosts (Writes k seq e) =
      lower_changed k _ _ (λ x y lower. record { name = lower.name; uuid = lower.uuid; cmd = lower.cmd; wrote = refl; floor = lower.floor }) old.hosts new.hosts easier.hosts
  easier_hosts z = easier.hosts

  -- it stays so behind a note
  pub easier_after : (z : Note) → IsEasier (past_after old z) (past_after new z)
  easier_after z = record { start = easier.start; state = easier_state z; hosts = easier_hosts z }

-- and some notes more
pub easier_behind : (old new : Past) → IsEasier old new → (notes : List Note) → IsEasier (past_behind old notes) (past_behind new notes)
easier_behind old new easier [] = easier
easier_behind old new easier (z ∷ notes) = easier_behind (past_after old z) (past_after new z) (easier_after old new easier z) notes
