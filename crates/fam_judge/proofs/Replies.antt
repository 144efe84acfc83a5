-- Which answers are allowed behind an answer, or a note, of another host, as they are before it.
use Rattle.std.proofs.Common.{◌≡◌, ◌≢◌, ◌+◌, ◌≤◌, ℕ, true, false, List, [], ◌∷◌, ◌++◌, length, Option, Some, None, ap, sym, ◌∙◌, subst, arith}
use Rattle.std.specs.Prelude.{⊤, Result, Ok, Err, option_map, take}
use Rattle.std.proofs.lemmas.Bool.Decides.{nat_tests}
use Rattle.std.proofs.lemmas.List.{take-append-le}
use Rattle.std.proofs.lemmas.Option.{same_Some}
use Rattle.fam_rules.specs.ReportLaws.{IsSoundReport}
use Rattle.fam_base.specs.declared.cmd.Cmd.{Cmd}
use Rattle.fam_base.specs.declared.entry.Entry.{Entry}
use Rattle.fam_base.specs.declared.entry.Params.{Params}
use Rattle.fam_commands.specs.ReplyClasses.{Appending, Declining, Faulty, ReplyClass, Reporting, Showing, reply_class}
use Rattle.fam_format.specs.Stop.{stop}
use Rattle.fam_rules.specs.declared.answers.Refused.{Refused as Cause}
use Rattle.fam_rules.specs.declared.answers.Refused.TheVariants as cause
use Rattle.fam_rules.specs.declared.answers.Report.{Report}
use Rattle.fam_rules.specs.Asks.{File, entries_of, ask}
use Rattle.fam_rules.specs.Decide.{Wish, decide, decide_wish, early_refusal, wish_of}
use Rattle.fam_rules.specs.Reply as reply
use Rattle.fam_rules.specs.Reply.{Reply}
use Rattle.fam_protocol.proofs.Settled.Lists.{entries_count}
use Rattle.fam_rules.proofs.RefusalTests.{EarlyCases, another, early_cases, may_ask, too_long}
use Rattle.fam_journal.specs.Legal.{AnswerAllowed, AppendedAllowed, AskAllowed, CauseAllowed, DamageAllowed, IsAcknowledged, IsAskedOf, IsDecided, IsReportOf, ReplyAllowed, ReportAllowed}
use Rattle.fam_journal.specs.Notes.{Answer, Replied, MediaFault}
use Rattle.fam_journal.specs.Past.{Bad, BadHeader, BadSlot, HostPast, NoSuperblock, Sound, State, acknowledges, reported_count, shows_count}
use Rattle.fam_journal.specs.Legal.{FoundAllowed}
use Rattle.fam_journal.specs.Past.{finds}
use Rattle.fam_judge.proofs.Sizes.{Lost, Size, Sized, acknowledged, effect, effect_in, size_of}
use Rattle.fam_judge.proofs.States.{Finds, Goes, counts_bad, counts_none, dropped, drops, finds_none, found, goes, joined, joined_length, joins, leaves, settles, stays, waits}

-- Who decides.

-- it isn't that another host appends
abbrev pub IsMasters : Result Entry Cause → Type 0
IsMasters (Ok e) = ⊤
IsMasters (Err (cause.NotMaster me master)) = ⊥
IsMasters (Err why) = ⊤

stopped : (p : Params) (me : List ℕ) (w : Wish) (rest decision : Result Entry Cause) → EarlyCases p me w.path → stop (early_refusal p me w.path) rest ≡ decision
    → IsMasters decision → me ≡ p.master
stopped p me w rest decision (may_ask same fits none) e is = same
stopped p me w rest decision (another other refused) e is =
    absurd (subst IsMasters (sym (sym (ap (λ (o : Option Cause). stop o rest) refused) ∙ e)) is)
stopped p me w rest decision (too_long first same long refused) e is = same

wished : (p : Params) (me : List ℕ) (list : List Entry) (o : Option Wish) (decision : Result Entry Cause) → option_map (decide_wish p me list) o ≡ Some decision
    → IsMasters decision → me ≡ p.master
unfolding decide_wish
wished p me list None decision e is = absurd cc
wished p me list (Some w) decision e is = stopped p me w _ decision (early_cases p me w.path) (same_Some _ decision e) is

-- who is decided on is the master
pub decided_master : (p : Params) (me : List ℕ) (list : List Entry) (cmd : Cmd) (decision : Result Entry Cause) → decide p me list cmd ≡ Some decision → IsMasters decision
    → me ≡ p.master
decided_master p me list cmd decision e is = wished p me list (wish_of cmd) decision e is

-- Classes.

-- by the class of the reply
abbrev FaultAllowed : Reply → State → Type 0
FaultAllowed (reply.NoSuperblock fault) state = DamageAllowed (NoSuperblock fault) state
FaultAllowed (reply.BadHeader fault) state = DamageAllowed (BadHeader fault) state
FaultAllowed (reply.BadSlot i reason) state = DamageAllowed (BadSlot i reason) state
FaultAllowed given state = ⊥

abbrev pub ClassAllowed : ReplyClass → Reply → HostPast → State → Type 0
ClassAllowed (Appending seq) given host state = AppendedAllowed seq host (acknowledges seq state)
ClassAllowed (Declining why) given host state = CauseAllowed why host state
ClassAllowed (Showing m) given host state = AskAllowed m given host state
ClassAllowed (Reporting report) given host state = ReportAllowed report host state
ClassAllowed Faulty given host state = FaultAllowed given state

-- the same by either table
pub to_class : (given : Reply) (host : HostPast) (state : State) → ReplyAllowed given host state → ClassAllowed (reply_class given) given host state
to_class (reply.Appended seq) host state allowed = allowed
to_class given host state allowed = allowed

-- and the other way about
pub from_class : (given : Reply) (host : HostPast) (state : State) → ClassAllowed (reply_class given) given host state → ReplyAllowed given host state
from_class (reply.Appended seq) host state allowed = allowed
from_class given host state allowed = allowed

no_fault : (given : Reply) (p : Params) (history : List File) (pending : Option File) → FaultAllowed given (Sound p history pending) → ⊥
no_fault (reply.NoSuperblock fault) p history pending is = is
no_fault (reply.BadHeader fault) p history pending is = is
no_fault (reply.BadSlot i reason) p history pending is = is
no_fault given p history pending is = is

-- Reports.

-- a report tells how many entries it is of
pub reported_is : (p : Params) (host : HostPast) (all : List File) (report : Report) (is : IsReportOf p host all report) → reported_count report.log ≡ Some is.m
reported_is p host all report is = ap reported_count is.is.log ∙ ap Some (entries_count is.m all is.bounds.high)

-- Causes.

-- what the rules decide on entries
abbrev pub IsDecline : Cause → Type 0
IsDecline (cause.NotMaster me master) = ⊥
IsDecline (cause.LongPath limit) = ⊥
IsDecline why = ⊤

-- the others go by the parameters alone
cause_kept : (why : Cause) (host : HostPast) (p : Params) (a b : List File) (x y : Option File)
    → (IsDecline why → IsDecided p host a x (Err why) → IsDecided p host b y (Err why)) → CauseAllowed why host (Sound p a x) → CauseAllowed why host (Sound p b y)
cause_kept (cause.NotMaster me master) host p a b x y next is = record { me_is = is.me_is; master_is = is.master_is; other = is.other }
cause_kept (cause.LongPath limit) host p a b x y next is = record { params = is.params; super = is.super; names = is.names }
cause_kept why host p a b x y next is = next tt is

masters : (why : Cause) → IsDecline why → IsMasters (Err why)
masters (cause.NotMaster me master) is = absurd is
masters (cause.LongPath limit) is = absurd is
masters why is = tt

-- Entries.

asked_of : (host : HostPast) (m : ℕ) (all other : List File) (given : Reply) → take m other ≡ take m all → m ≤ length other → IsAskedOf host m all given
    → IsAskedOf host m other given
asked_of host m all other given same high is = record {
  bounds = record { floor = is.bounds.floor; marked = is.bounds.marked; low = is.bounds.low; high = high };
  cmd = is.cmd;
  told = is.told;
  is = ap (λ (l : List File). ask l is.cmd) same ∙ is.is;
}

report_of : (p : Params) (host : HostPast) (all other : List File) (report : Report) (is : IsReportOf p host all report) → take is.m other ≡ take is.m all → is.m ≤ length other
    → IsReportOf p host other report
report_of p host all other report is same high = record {
  m = is.m;
  bounds = record { floor = is.bounds.floor; marked = is.bounds.marked; low = is.bounds.low; high = high };
  is = subst (λ (l : List File). IsSoundReport p (entries_of l) report) (sym same) is.is;
}

-- What is known of an answer, by what is settled.

-- which entry it acknowledges
abbrev pub appends_in : ReplyClass → Option ℕ
appends_in (Appending seq) = Some seq
appends_in c = None

abbrev pub appends : Answer → Option ℕ
appends (Replied given) = appends_in (reply_class given)
appends (MediaFault line) = None

-- why it appends nothing
abbrev pub declines_in : ReplyClass → Option Cause
declines_in (Declining why) = Some why
declines_in c = None

abbrev pub declines : Answer → Option Cause
declines (Replied given) = declines_in (reply_class given)
declines (MediaFault line) = None

-- an entry that pends is the one that it acknowledges
abbrev pub NamedSize : Option ℕ → Size → Type 0
NamedSize None s = ⊤
NamedSize (Some seq) (Lost origin damage gate) = ⊤
NamedSize (Some seq) (Sized p n false) = ⊤
NamedSize (Some seq) (Sized p n true) = n ≡ seq

-- a master whose command is decided on has found that nothing pends
abbrev pub DeclineSize : Option Cause → List ℕ → Size → Type 0
DeclineSize None me s = ⊤
DeclineSize (Some why) me (Lost origin damage gate) = ⊤
DeclineSize (Some why) me (Sized p n false) = ⊤
DeclineSize (Some why) me (Sized p n true) = IsDecline why → me ≢ p.master

below : (a b : ℕ) → a ≤ b + 1 → a ≢ b + 1 → a ≤ b
below a b high ne = grind (arith, nat_tests)

some_none : (f : File) → Some f ≡ None → ⊥
some_none f e = cc

module _ (p : Params) (history : List File) (f : File) (given : Reply) (host : HostPast) where
  same_joined : (seq : ℕ) → acknowledges seq (joined p history f) ≡ joined p history f
  same_joined seq = acknowledged seq (joined p history f) ∙ counts_none (Some (seq + 1)) p (history ++ f ∷ [])

  joins_own : (seq : ℕ) → length history ≡ seq → acknowledges seq (waits p history f) ≡ joined p history f
  joins_own seq same = by (goes p history f (Some (seq + 1)))
    where
      by : Goes p history f (Some (seq + 1)) → acknowledges seq (waits p history f) ≡ joined p history f
      by (joins is e) = acknowledged seq (waits p history f) ∙ e
      by (stays none e) = absurd (none (ap (λ (n : ℕ). Some (n + 1)) (sym same)))

  class_before : (c : ReplyClass) → DeclineSize (declines_in c) host.uuid (Sized p (length history) true) → ClassAllowed c given host (joined p history f)
      → ClassAllowed c given host (waits p history f)
  class_before (Appending seq) decline is =
      let own : IsAcknowledged seq host (history ++ f ∷ []) = subst (AppendedAllowed seq host) (same_joined seq) is in
      let count : length (history ++ f ∷ []) ≡ seq + 1 = own.count in
      let long = joined_length p history f in
      let same : length history ≡ seq = omega (arith, count, long) in
      subst (AppendedAllowed seq host) (sym (joins_own seq same)) own
  class_before (Declining why) decline is =
      cause_kept why host p _ _ _ _ (λ ruled d. absurd (decline ruled (decided_master p host.uuid _ d.cmd (Err why) d.is (masters why ruled)))) is
  class_before (Showing m) decline is = is
  class_before (Reporting report) decline is = is
  class_before Faulty decline is = absurd (no_fault given p _ _ is)

  class_joined : (c : ReplyClass) → NamedSize (appends_in c) (Sized p (length history) true) → ClassAllowed c given host (waits p history f)
      → ClassAllowed c given host (joined p history f)
  class_joined (Appending seq) named is = subst (AppendedAllowed seq host) (joins_own seq named ∙ sym (same_joined seq)) is
  class_joined (Declining why) named is = cause_kept why host p _ _ _ _ (λ ruled d. absurd (some_none f d.none)) is
  class_joined (Showing m) named is = is
  class_joined (Reporting report) named is = is
  class_joined Faulty named is = absurd (no_fault given p _ _ is)

  class_dropped : (c : ReplyClass) → NamedSize (appends_in c) (Sized p (length history) true) → effect_in c ≢ Some (length history + 1)
      → ClassAllowed c given host (waits p history f) → ClassAllowed c given host (dropped p history f)
  class_dropped (Appending seq) named other is = absurd (other (ap (λ (n : ℕ). Some (n + 1)) (sym named)))
  class_dropped (Declining why) named other is = cause_kept why host p _ _ _ _ (λ ruled d. absurd (some_none f d.none)) is
  class_dropped (Showing m) named other is =
      let high : m ≤ length (history ++ f ∷ []) = is.bounds.high in
      let long = joined_length p history f in
      let ne : m ≢ length history + 1 = (λ e. other (ap Some e)) in
      let low : m ≤ length history = below m (length history) (omega (arith, high, long)) ne in
      asked_of host m (history ++ f ∷ []) history given (sym (take-append-le m history (f ∷ []) low)) low is
  class_dropped (Reporting report) named other is =
      let high : is.m ≤ length (history ++ f ∷ []) = is.bounds.high in
      let long = joined_length p history f in
      let ne : is.m ≢ length history + 1 = (λ e. other (reported_is p host (history ++ f ∷ []) report is ∙ ap Some e)) in
      let low : is.m ≤ length history = below is.m (length history) (omega (arith, high, long)) ne in
      report_of p host (history ++ f ∷ []) history report is (sym (take-append-le is.m history (f ∷ []) low)) low
  class_dropped Faulty named other is = absurd (no_fault given p _ _ is)

  class_pends : (c : ReplyClass) → host.uuid ≢ p.master → ClassAllowed c given host (dropped p history f) → ClassAllowed c given host (waits p history f)
  class_pends (Appending seq) other is = by (goes p history f (Some (seq + 1)))
    where
      own : IsAcknowledged seq host history
      own = subst (AppendedAllowed seq host) (acknowledged seq (Sound p history None) ∙ counts_none (Some (seq + 1)) p history) is

      by : Goes p history f (Some (seq + 1)) → AppendedAllowed seq host (acknowledges seq (waits p history f))
      by (joins some e) =
          let same : seq + 1 ≡ length history + 1 = same_Some _ _ some in let count : length history ≡ seq + 1 = own.count in absurd (omega (arith, same, count))
      by (stays none e) = subst (AppendedAllowed seq host) (sym (acknowledged seq (waits p history f) ∙ e)) own
  class_pends (Declining why) other is =
      cause_kept why host p _ _ _ _ (λ ruled d. absurd (other (decided_master p host.uuid _ d.cmd (Err why) d.is (masters why ruled)))) is
  class_pends (Showing m) other is =
      let low : m ≤ length history = is.bounds.high in
      let long = joined_length p history f in
      asked_of host m history (history ++ f ∷ []) given (take-append-le m history (f ∷ []) low) (omega (arith, low, long)) is
  class_pends (Reporting report) other is =
      let low : is.m ≤ length history = is.bounds.high in
      let long = joined_length p history f in
      report_of p host history (history ++ f ∷ []) report is (take-append-le is.m history (f ∷ []) low) (omega (arith, low, long))
  class_pends Faulty other is = absurd (no_fault given p _ _ is)

-- where nothing pends an answer shows no more than is settled
class_bound : (p : Params) (history : List File) (given : Reply) (host : HostPast) (c : ReplyClass) → ClassAllowed c given host (Sound p history None)
    → (m : ℕ) → effect_in c ≡ Some m → m ≤ length history
class_bound p history given host (Appending seq) is m e =
    let own : IsAcknowledged seq host history = subst (AppendedAllowed seq host) (acknowledged seq (Sound p history None) ∙ counts_none (Some (seq + 1)) p history) is in
    let same : seq + 1 ≡ m = same_Some _ m e in
    let count : length history ≡ seq + 1 = own.count in
    omega (arith, same, count)
class_bound p history given host (Declining why) is m e = absurd cc
class_bound p history given host (Showing k) is m e = subst (λ n. n ≤ length history) (same_Some k m e) is.bounds.high
class_bound p history given host (Reporting report) is m e =
    subst (λ n. n ≤ length history) (same_Some is.m m (sym (reported_is p host history report is) ∙ e)) is.bounds.high
class_bound p history given host Faulty is m e = absurd cc

-- Answers.

-- so of an answer: it is allowed before another one where it is behind it
pub answer_before : (answer : Answer) (host : HostPast) (o : Option ℕ) (s : State) → DeclineSize (declines answer) host.uuid (size_of s)
    → AnswerAllowed answer host (shows_count o s)
    → AnswerAllowed answer host s
answer_before (MediaFault line) host o s decline is = tt
answer_before (Replied given) host o (Bad origin damage gate) decline is = subst (ReplyAllowed given host) (counts_bad o origin damage gate) is
answer_before (Replied given) host o (Sound p history None) decline is = subst (ReplyAllowed given host) (counts_none o p history) is
answer_before (Replied given) host o (Sound p history (Some f)) decline is = by (goes p history f o)
  where
    by : Goes p history f o → ReplyAllowed given host (waits p history f)
    by (joins some e) = from_class given host (waits p history f)
        (class_before p history f given host (reply_class given) decline (to_class given host (joined p history f) (subst (ReplyAllowed given host) e is)))
    by (stays none e) = subst (ReplyAllowed given host) e is

-- behind another one where it is before it
pub behind_shows : (answer : Answer) (host : HostPast) (o : Option ℕ) (s : State) → NamedSize (appends answer) (size_of s) → AnswerAllowed answer host s
    → AnswerAllowed answer host (shows_count o s)
behind_shows (MediaFault line) host o s named is = tt
behind_shows (Replied given) host o (Bad origin damage gate) named is = subst (ReplyAllowed given host) (sym (counts_bad o origin damage gate)) is
behind_shows (Replied given) host o (Sound p history None) named is = subst (ReplyAllowed given host) (sym (counts_none o p history)) is
behind_shows (Replied given) host o (Sound p history (Some f)) named is = by (goes p history f o)
  where
    by : Goes p history f o → ReplyAllowed given host (shows_count o (waits p history f))
    by (joins some e) = subst (ReplyAllowed given host) (sym e)
        (from_class given host (joined p history f) (class_joined p history f given host (reply_class given) named (to_class given host (waits p history f) is)))
    by (stays none e) = subst (ReplyAllowed given host) (sym e) is

-- behind a master's count
pub behind_finds : (answer : Answer) (host : HostPast) (n : ℕ) (s : State) → NamedSize (appends answer) (size_of s) → FoundAllowed n (shows_count (effect answer) s)
    → AnswerAllowed answer host s → AnswerAllowed answer host (finds n s)
behind_finds (MediaFault line) host n s named count is = tt
behind_finds (Replied given) host n (Bad origin damage gate) named count is = is
behind_finds (Replied given) host n (Sound p history None) named count is = subst (ReplyAllowed given host) (sym (finds_none n p history)) is
behind_finds (Replied given) host n (Sound p history (Some f)) named count is = by (found p history f n)
  where
    other : n ≡ length history → effect_in (reply_class given) ≢ Some (length history + 1)
    other same some = by (goes p history f (effect_in (reply_class given)))
      where
        by : Goes p history f (effect_in (reply_class given)) → ⊥
        by (joins is e) =
            let more : n ≡ length (history ++ f ∷ []) = subst (FoundAllowed n) e count in let long = joined_length p history f in omega (arith, same, more, long)
        by (stays none e) = none some

    by : Finds p history f n → ReplyAllowed given host (finds n (waits p history f))
    by (drops same e) = subst (ReplyAllowed given host) (sym e)
        (from_class given host (dropped p history f) (class_dropped p history f given host (reply_class given) named (other same) (to_class given host (waits p history f) is)))
    by (settles same e) = subst (ReplyAllowed given host) (sym e)
        (from_class given host (joined p history f) (class_joined p history f given host (reply_class given) named (to_class given host (waits p history f) is)))
    by (leaves e) = subst (ReplyAllowed given host) (sym e) is

-- behind an entry that another host names
pub behind_pends : (answer : Answer) (host : HostPast) (f : File) (p : Params) (history : List File) → host.uuid ≢ p.master → AnswerAllowed answer host (Sound p history None)
    → AnswerAllowed answer host (Sound p history (Some f))
behind_pends (MediaFault line) host f p history other is = tt
behind_pends (Replied given) host f p history other is =
    from_class given host (waits p history f) (class_pends p history f given host (reply_class given) other (to_class given host (Sound p history None) is))

-- and where nothing pends it shows no more than is settled
pub answer_bound : (answer : Answer) (host : HostPast) (p : Params) (history : List File) → AnswerAllowed answer host (Sound p history None) → (m : ℕ) → effect answer ≡ Some m
    → m ≤ length history
answer_bound (MediaFault line) host p history is m e = absurd cc
answer_bound (Replied given) host p history is m e = class_bound p history given host (reply_class given) (to_class given host (Sound p history None) is) m e
