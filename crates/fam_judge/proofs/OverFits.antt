-- What fits a state fits one that allows no less.
use Rattle.std.proofs.Common.{◌≡◌, ◌+◌, ◌≤◌, ℕ, List, [], ◌∷◌, ◌++◌, length, Option, Some, None, refl, ap, sym, ◌∙◌, subst, arith}
use Rattle.std.specs.Prelude.{take, Result, Err}
use Rattle.std.proofs.lemmas.Option.{same_Some}
use Rattle.fam_base.specs.declared.entry.Params.{Params}
use Rattle.fam_rules.specs.declared.answers.Refused.{Refused as Cause}
use Rattle.fam_rules.specs.declared.answers.Refused.TheVariants as cause
use Rattle.fam_rules.specs.declared.answers.Report.{Report}
use Rattle.fam_rules.specs.Asks.{File, entries_of}
use Rattle.fam_rules.specs.Reply as reply
use Rattle.fam_rules.specs.Reply.{Reply}
use Rattle.fam_rules.specs.ReportLaws.{IsSoundReport}
use Rattle.fam_journal.specs.Legal.{AppendedAllowed, CauseAllowed, DamageAllowed, HasParams, InBounds, IsAcknowledged, IsReportOf, ReportAllowed, DecideAllowed}
use Rattle.fam_journal.specs.Past.{Bad, BadHeader, BadSlot, Damage, HostPast, NoSuperblock, Sound, State, acknowledges, reported_count, shows, with_pending, Origin, reply_count}
use Rattle.fam_judge.specs.Covering.{FloorUnder, StateOver, dropped, joined, same}
use Rattle.fam_judge.specs.Fitting.{IsFitting, QuestionFits, ReplyFits, AskFits}
use Rattle.fam_judge.proofs.Over.{over_first, over_master}
use Rattle.fam_judge.proofs.Replies.{IsDecline, reported_is}
use Rattle.fam_judge.proofs.Sizes.{acknowledged}
use Rattle.fam_judge.proofs.States.{Goes, counts_none, goes, joined_length, joins, stays}
use Rattle.fam_base.specs.declared.entry.Entry.{Entry}
use Rattle.fam_rules.specs.Decide.{decide}
use Rattle.fam_rules.specs.DecideLaws.{IsTooLong}

-- Bounds.

-- a lower floor and as many entries
bounds_over : (host other : HostPast) (m : ℕ) (a b : List File) → FloorUnder host.floor other.floor → m ≤ length a → InBounds other m b → InBounds host m a
bounds_over host other m a b under high bounds =
    let low : bounds.floor ≤ m = bounds.low in
    let same_floor : under.1 ≡ bounds.floor = same_Some under.1 bounds.floor (sym under.3 ∙ bounds.marked) in
    let less : under.0 ≤ under.1 = under.4 in
    record { floor = under.0; marked = under.2; low = omega (arith, low, same_floor, less); high = high }

module _ (host other : HostPast) (cmd_is : host.cmd ≡ other.cmd) where
  -- Questions.

  question : (m : ℕ) (given : Reply) (p q : Params) (a b : List File) (x y : Option File) → StateOver (Sound p a x) (Sound q b y) → FloorUnder host.floor other.floor
      → IsFitting other m (with_pending b y) given → IsFitting host m (with_pending a x) given
  question m given p q a b x y over under is =
      let first = over_first p q a b x y m over is.bounds.high in
      record {
        bounds = bounds_over host other m (with_pending a x) (with_pending b y) under first.0 is.bounds;
        cmd = is.cmd;
        told = cmd_is ∙ is.told;
        fits = subst (λ (l : List File). AskFits l is.cmd given) (sym first.1) is.fits;
      }

  pub question_over : (m : ℕ) (given : Reply) (s t : State) → StateOver s t → FloorUnder host.floor other.floor → QuestionFits m given other t → QuestionFits m given host s
  question_over m given (Bad origin damage gate) (Bad origin2 damage2 gate2) over under is = is
  question_over m given (Sound p a x) (Bad origin damage gate) over under is = absurd is
  question_over m given (Sound p a x) (Sound q b y) over under is = question m given p q a b x y over under is
  question_over m given (Bad origin damage gate) (Sound q b y) (same e) under is = absurd cc
  question_over m given (Bad origin damage gate) (Sound q b y) (joined p history f es et) under is = absurd cc
  question_over m given (Bad origin damage gate) (Sound q b y) (dropped p history f es et) under is = absurd cc

  -- Reports.

  report : (r : Report) (p q : Params) (a b : List File) (x y : Option File) → StateOver (Sound p a x) (Sound q b y) → FloorUnder host.floor other.floor
      → IsReportOf q other (with_pending b y) r → IsReportOf p host (with_pending a x) r
  report r p q a b x y over under is =
      let first = over_first p q a b x y is.m over is.bounds.high in
      record {
        m = is.m;
        bounds = bounds_over host other is.m (with_pending a x) (with_pending b y) under first.0 is.bounds;
        is = subst (λ (l : List File). IsSoundReport p (entries_of l) r) (sym first.1) (subst (λ (z : Params). IsSoundReport z (entries_of (take is.m (with_pending b y))) r) (params over) is.is);
      }
    where
      params : StateOver (Sound p a x) (Sound q b y) → q ≡ p
      params (same e) = cc
      params (joined r history f es et) = cc
      params (dropped r history f es et) = cc

  pub report_over : (r : Report) (s t : State) → StateOver s t → ((m : ℕ) → reported_count r.log ≡ Some m → FloorUnder host.floor other.floor) → ReportAllowed r other t
      → ReportAllowed r host s
  report_over r (Bad origin damage gate) (Bad origin2 damage2 gate2) (same e) under is = let one : origin2 ≡ origin = cc in subst (λ (o : Origin). ReportAllowed r host (Bad o damage gate)) one is
  report_over r (Sound p a x) (Sound q b y) over under is = report r p q a b x y over (under is.m (reported_is q other (with_pending b y) r is)) is
  report_over r (Bad origin damage gate) t (joined p history f es et) under is = absurd cc
  report_over r (Bad origin damage gate) t (dropped p history f es et) under is = absurd cc
  report_over r s (Bad origin damage gate) (joined p history f es et) under is = absurd cc
  report_over r s (Bad origin damage gate) (dropped p history f es et) under is = absurd cc
  report_over r (Sound p a x) (Bad origin damage gate) (same e) under is = absurd cc
  report_over r (Bad origin damage gate) (Sound p a x) (same e) under is = absurd cc

  -- Appends.

  acknowledges_over : (seq : ℕ) (a b : List File) → host.wrote ≡ other.wrote → a ≡ b → IsAcknowledged seq other b → IsAcknowledged seq host a
  acknowledges_over seq a b wrote same_list is =
      let one = subst (λ (l : List File). IsAcknowledged seq other l) (sym same_list) is in
      record { entry = one.entry; named = wrote ∙ one.named; count = one.count; last = one.last }

  appended_same : (seq : ℕ) (s t : State) → host.wrote ≡ other.wrote → s ≡ t → AppendedAllowed seq other t → AppendedAllowed seq host s
  appended_same seq (Bad origin damage gate) t wrote e is = absurd (subst (AppendedAllowed seq other) (sym e) is)
  appended_same seq (Sound p a x) t wrote e is = acknowledges_over seq a a wrote refl (subst (AppendedAllowed seq other) (sym e) is)

  -- the entry that a host named is acknowledged
  pub appended_over : (seq : ℕ) (s t : State) → StateOver s t → host.wrote ≡ other.wrote → AppendedAllowed seq other (acknowledges seq t)
      → AppendedAllowed seq host (acknowledges seq s)
  appended_over seq s t (same e) wrote is = appended_same seq (acknowledges seq s) (acknowledges seq t) wrote (ap (acknowledges seq) (sym e)) is
  appended_over seq s t (joined p history f es et) wrote is = by (goes p history f (Some (seq + 1)))
    where
      left : acknowledges seq t ≡ Sound p (history ++ f ∷ []) None
      left = acknowledged seq t ∙ ap (shows (seq + 1)) et ∙ counts_none (Some (seq + 1)) p (history ++ f ∷ [])

      there : IsAcknowledged seq other (history ++ f ∷ [])
      there = subst (AppendedAllowed seq other) left is

      by : Goes p history f (Some (seq + 1)) → AppendedAllowed seq host (acknowledges seq s)
      by (joins found e) = appended_same seq (acknowledges seq s) (acknowledges seq t) wrote (acknowledged seq s ∙ ap (shows (seq + 1)) es ∙ e ∙ sym left) is
      by (stays ne e) = let count = there.count in let long = joined_length p history f in absurd (ne (ap Some (omega (arith, count, long))))
  appended_over seq s t (dropped p history f es et) wrote is = by (goes p history f (Some (seq + 1)))
    where
      left : acknowledges seq t ≡ Sound p history None
      left = acknowledged seq t ∙ ap (shows (seq + 1)) et ∙ counts_none (Some (seq + 1)) p history

      there : IsAcknowledged seq other history
      there = subst (AppendedAllowed seq other) left is

      by : Goes p history f (Some (seq + 1)) → AppendedAllowed seq host (acknowledges seq s)
      by (joins found e) =
          let more : seq + 1 ≡ length history + 1 = same_Some (seq + 1) (length history + 1) found in let count = there.count in absurd (omega (arith, more, count))
      by (stays ne e) =
          subst (AppendedAllowed seq host) (sym (acknowledged seq s ∙ ap (shows (seq + 1)) es ∙ e)) (acknowledges_over seq history history wrote refl there)

  -- Causes.

  params_over : (q : Params) (s t : State) → StateOver s t → HasParams q t → HasParams q s
  params_over q s t (same e) is = subst (HasParams q) e is
  params_over q s t (joined p history f es et) is = subst (HasParams q) (sym es) (subst (HasParams q) et is)
  params_over q s t (dropped p history f es et) is = subst (HasParams q) (sym es) (subst (HasParams q) et is)

  decided_same : (decision : Result Entry Cause) (s t : State) → host.uuid ≡ other.uuid → t ≡ s
      → DecideAllowed other decision t → DecideAllowed host decision s
  decided_same decision (Bad origin damage gate) t me e is = subst (DecideAllowed other decision) e is
  decided_same decision (Sound p a x) t me e is =
      let one = subst (DecideAllowed other decision) e is in
      record { cmd = one.cmd; told = cmd_is ∙ one.told; none = one.none; is = ap (λ (u : List ℕ). decide p u (entries_of a) one.cmd) me ∙ one.is }

  pub cause_over : (why : Cause) (s t : State) → StateOver s t → host.uuid ≡ other.uuid → (IsDecline why → t ≡ s) → CauseAllowed why other t → CauseAllowed why host s
  cause_over (cause.NotMaster me master) s t over uuid decided is =
      record { me_is = is.me_is ∙ sym uuid; master_is = over_master s t over ∙ is.master_is; other = is.other }
  cause_over (cause.LongPath limit) s t over uuid decided is = record {
    params = is.params;
    super = params_over is.params s t over is.super;
    names = record {
      cmd = is.names.cmd;
      told = cmd_is ∙ is.names.told;
      wish = is.names.wish;
      wished = is.names.wished;
      is = subst (λ (u : List ℕ). IsTooLong is.params u is.names.wish limit) (sym uuid) is.names.is;
    };
  }
  cause_over why s t over uuid decided is = decided_same (Err why) s t uuid (decided tt) is

  -- Faults.

  fault_over : (damage : Damage) (s t : State) → StateOver s t → DamageAllowed damage t → DamageAllowed damage s
  fault_over damage s t (same e) is = subst (DamageAllowed damage) e is
  fault_over damage s t (joined p history f es et) is = absurd (subst (DamageAllowed damage) et is)
  fault_over damage s t (dropped p history f es et) is = absurd (subst (DamageAllowed damage) et is)

  -- Replies.

  -- what a reply needs of the host's command, where the first state has told less of it
  pub record ReplyOver (given : Reply) (s t : State) : Type 0 where
    pub wrote : (seq : ℕ) → given ≡ reply.Appended seq → host.wrote ≡ other.wrote
    pub decided : (why : Cause) → given ≡ reply.NotAppended why → IsDecline why → t ≡ s
    pub under : (m : ℕ) → reply_count given ≡ Some m → FloorUnder host.floor other.floor

  -- so a reply fits
  pub reply_over : (given : Reply) (s t : State) → StateOver s t → host.uuid ≡ other.uuid → ReplyOver given s t → ReplyFits given other t → ReplyFits given host s
  reply_over (reply.Appended seq) s t over uuid needs is = appended_over seq s t over (needs.wrote seq refl) is
  reply_over (reply.NotAppended why) s t over uuid needs is = cause_over why s t over uuid (needs.decided why refl) is
  reply_over (reply.Played m tree) s t over uuid needs is = question_over m _ s t over (needs.under m refl) is
  reply_over (reply.Mounted m) s t over uuid needs is = question_over m _ s t over (needs.under m refl) is
  reply_over (reply.Same m) s t over uuid needs is = question_over m _ s t over (needs.under m refl) is
  reply_over (reply.Differs m offset found wanted) s t over uuid needs is = question_over m _ s t over (needs.under m refl) is
  reply_over (reply.Length m size wanted) s t over uuid needs is = question_over m _ s t over (needs.under m refl) is
  reply_over (reply.Bytes m bytes) s t over uuid needs is = question_over m _ s t over (needs.under m refl) is
  reply_over (reply.NotFound m) s t over uuid needs is = question_over m _ s t over (needs.under m refl) is
  reply_over (reply.IsDirectory m) s t over uuid needs is = question_over m _ s t over (needs.under m refl) is
  reply_over (reply.Checks m counts) s t over uuid needs is = question_over m _ s t over (needs.under m refl) is
  reply_over (reply.Reports r) s t over uuid needs is = report_over r s t over (needs.under) is
  reply_over (reply.NoSuperblock fault) s t over uuid needs is = fault_over (NoSuperblock fault) s t over is
  reply_over (reply.BadHeader fault) s t over uuid needs is = fault_over (BadHeader fault) s t over is
  reply_over (reply.BadSlot i reason) s t over uuid needs is = fault_over (BadSlot i reason) s t over is
