-- What tells nothing of an entry that was named fits behind it as before it: nothing pends before it.
use Rattle.std.proofs.Common.{◌≡◌, ◌≢◌, ◌+◌, ◌≤◌, inl, inr, ℕ, List, [], ◌∷◌, ◌++◌, length, Option, Some, None, refl, ap, sym, ◌∙◌, subst, arith}
use Rattle.std.specs.Prelude.{Err}
use Rattle.std.proofs.lemmas.Bool.Decides.{nat_tests}
use Rattle.std.proofs.lemmas.List.{take-append-le}
use Rattle.fam_base.specs.declared.entry.Params.{Params}
use Rattle.fam_commands.specs.ReplyClasses.{Appending, Declining, Faulty, ReplyClass, Reporting, Showing, reply_class}
use Rattle.fam_rules.specs.declared.answers.Refused.{Refused as Cause}
use Rattle.fam_rules.specs.declared.answers.Refused.TheVariants as cause
use Rattle.fam_rules.specs.declared.answers.Report.{Report}
use Rattle.fam_rules.specs.Asks.{File, entries_of}
use Rattle.fam_rules.specs.Reply as reply
use Rattle.fam_rules.specs.Reply.{Reply}
use Rattle.fam_rules.specs.ReportLaws.{IsSoundReport}
use Rattle.fam_journal.specs.Legal.{AppendedAllowed, CauseAllowed, DamageAllowed, DecideAllowed, FoundAllowed, IsAcknowledged, IsReportOf, ReportAllowed}
use Rattle.fam_journal.specs.Notes.{Answer, Replied, MediaFault}
use Rattle.fam_journal.specs.Past.{BadHeader, BadSlot, Damage, HostPast, NoSuperblock, Sound, State, acknowledges, reported_count, shows_count}
use Rattle.fam_judge.specs.Covering.{StateOver, dropped, joined, same}
use Rattle.fam_judge.specs.Fitting.{AnswerFits, AskFits, IsFitting, QuestionFits, ReplyFits}
use Rattle.fam_judge.specs.Possible.{answer_settles, reply_settles}
use Rattle.fam_judge.proofs.Replies.{IsDecline, IsMasters, decided_master, reported_is}
use Rattle.fam_judge.proofs.Sizes.{acknowledged, effect, effect_in}
use Rattle.fam_judge.proofs.States.{Goes, counts_none, goes, joined_length, joins, stays}

-- what an answer settles
pub settled_is : (answer : Answer) → answer_settles answer ≡ effect answer
settled_is (MediaFault line) = refl
settled_is (Replied given) = by (reply_class given)
  where
    by : (c : ReplyClass) → reply_settles c ≡ effect_in c
    by (Appending seq) = refl
    by (Declining why) = refl
    by (Showing m) = refl
    by (Reporting report) = refl
    by Faulty = refl

low_or_one : (m n : ℕ) → m ≤ n + 1 → m ≢ n + 1 → m ≤ n
low_or_one m n high ne = grind (arith, nat_tests)

masters : (why : Cause) → IsDecline why → IsMasters (Err why)
masters (cause.NotMaster me master) is = absurd is
masters (cause.LongPath limit) is = absurd is
masters why is = tt

module _ (p : Params) (history : List File) (f : File) where
  -- what may be settled behind an entry that was named: it pends still, or has joined, or was dropped
  pub data Behind (t : State) : Type 0 where
    waits : t ≡ Sound p history (Some f) → Behind t
    has_joined : t ≡ Sound p (history ++ f ∷ []) None → Behind t
    was_dropped : t ≡ Sound p history None → Behind t

  -- which of the three
  pub behind : (t : State) → StateOver (Sound p history (Some f)) t → Behind t
  behind t (same e) = waits e
  behind t (joined q other g es et) = has_joined cc
  behind t (dropped q other g es et) = was_dropped cc

  -- another count settles nothing
  pub settles_none : (t : State) → Behind t → (o : Option ℕ) → o ≢ Some (length history + 1) → shows_count o t ≡ t
  settles_none t (waits e) o ne = by (goes p history f o)
    where
      by : Goes p history f o → shows_count o t ≡ t
      by (joins is went) = absurd (ne is)
      by (stays none went) = ap (shows_count o) e ∙ went ∙ sym e
  settles_none t (has_joined e) o ne = ap (shows_count o) e ∙ counts_none o p (history ++ f ∷ []) ∙ sym e
  settles_none t (was_dropped e) o ne = ap (shows_count o) e ∙ counts_none o p history ∙ sym e

  -- another count that is found is that of what was settled before
  pub found_first : (t : State) → Behind t → (n : ℕ) → n ≢ length history + 1 → FoundAllowed n t → n ≡ length history
  found_first t (waits e) n ne is = elim (subst (FoundAllowed n) e is) [ inl low ↦ low | inr more ↦ absurd (ne more) ]
  found_first t (has_joined e) n ne is =
      let all : n ≡ length (history ++ f ∷ []) = subst (FoundAllowed n) e is in absurd (ne (all ∙ joined_length p history f))
  found_first t (was_dropped e) n ne is = subst (FoundAllowed n) e is

  module _ (host : HostPast) where
    fewer : (m : ℕ) → m ≢ length history + 1 → m ≤ length (history ++ f ∷ []) → m ≤ length history
    fewer m ne high = let long = joined_length p history f in low_or_one m (length history) (omega (arith, high, long)) ne

    -- Questions.

    asked : (m : ℕ) (given : Reply) → m ≢ length history + 1 → IsFitting host m (history ++ f ∷ []) given → IsFitting host m history given
    asked m given ne is =
        let low = fewer m ne is.bounds.high in
        record {
          bounds = record { floor = is.bounds.floor; marked = is.bounds.marked; low = is.bounds.low; high = low };
          cmd = is.cmd;
          told = is.told;
          fits = subst (λ (l : List File). AskFits l is.cmd given) (take-append-le m history (f ∷ []) low) is.fits;
        }

    asked_first : (t : State) → Behind t → (m : ℕ) (given : Reply) → Some m ≢ Some (length history + 1) → QuestionFits m given host t
        → IsFitting host m history given
    asked_first t (waits e) m given ne is = asked m given (λ same. ne (ap Some same)) (subst (QuestionFits m given host) e is)
    asked_first t (has_joined e) m given ne is = asked m given (λ same. ne (ap Some same)) (subst (QuestionFits m given host) e is)
    asked_first t (was_dropped e) m given ne is = subst (QuestionFits m given host) e is

    -- Reports.

    reports : (r : Report) → reported_count r.log ≢ Some (length history + 1) → IsReportOf p host (history ++ f ∷ []) r → IsReportOf p host history r
    reports r ne is =
        let low = fewer is.m (λ same. ne (reported_is p host (history ++ f ∷ []) r is ∙ ap Some same)) is.bounds.high in
        record {
          m = is.m;
          bounds = record { floor = is.bounds.floor; marked = is.bounds.marked; low = is.bounds.low; high = low };
          is = subst (λ (l : List File). IsSoundReport p (entries_of l) r) (take-append-le is.m history (f ∷ []) low) is.is;
        }

    report_first : (t : State) → Behind t → (r : Report) → reported_count r.log ≢ Some (length history + 1) → ReportAllowed r host t → IsReportOf p host history r
    report_first t (waits e) r ne is = reports r ne (subst (ReportAllowed r host) e is)
    report_first t (has_joined e) r ne is = reports r ne (subst (ReportAllowed r host) e is)
    report_first t (was_dropped e) r ne is = subst (ReportAllowed r host) e is

    -- Appends.

    appended_first : (t : State) → Behind t → (seq : ℕ) → Some (seq + 1) ≢ Some (length history + 1) → AppendedAllowed seq host (acknowledges seq t)
        → AppendedAllowed seq host (acknowledges seq (Sound p history None))
    appended_first t at seq ne is =
        subst (AppendedAllowed seq host) (sym (acknowledged seq (Sound p history None) ∙ counts_none (Some (seq + 1)) p history))
        (by at (subst (AppendedAllowed seq host) (acknowledged seq t ∙ settles_none t at (Some (seq + 1)) ne) is))
      where
        by : Behind t → AppendedAllowed seq host t → IsAcknowledged seq host history
        by (waits e) is = subst (AppendedAllowed seq host) e is
        by (has_joined e) is =
            let own : IsAcknowledged seq host (history ++ f ∷ []) = subst (AppendedAllowed seq host) e is in
            let count : length (history ++ f ∷ []) ≡ seq + 1 = own.count in
            absurd (ne (ap Some (sym count ∙ joined_length p history f)))
        by (was_dropped e) is = subst (AppendedAllowed seq host) e is

    -- Causes. What the rules decide they decide for the master.

    module _ (other : host.uuid ≢ p.master) where
      no_decision : (t : State) → Behind t → (why : Cause) → IsDecline why → DecideAllowed host (Err why) t → ⊥
      no_decision t (waits e) why decline is =
          let d = subst (DecideAllowed host (Err why)) e is in other (decided_master p host.uuid _ d.cmd (Err why) d.is (masters why decline))
      no_decision t (has_joined e) why decline is =
          let d = subst (DecideAllowed host (Err why)) e is in other (decided_master p host.uuid _ d.cmd (Err why) d.is (masters why decline))
      no_decision t (was_dropped e) why decline is =
          let d = subst (DecideAllowed host (Err why)) e is in other (decided_master p host.uuid _ d.cmd (Err why) d.is (masters why decline))

      cause_first : (t : State) → Behind t → (why : Cause) → CauseAllowed why host t → CauseAllowed why host (Sound p history None)
      cause_first t (waits e) (cause.NotMaster me master) is =
          let d = subst (CauseAllowed (cause.NotMaster me master) host) e is in record { me_is = d.me_is; master_is = d.master_is; other = d.other }
      cause_first t (has_joined e) (cause.NotMaster me master) is =
          let d = subst (CauseAllowed (cause.NotMaster me master) host) e is in record { me_is = d.me_is; master_is = d.master_is; other = d.other }
      cause_first t (was_dropped e) (cause.NotMaster me master) is = subst (CauseAllowed (cause.NotMaster me master) host) e is
      cause_first t (waits e) (cause.LongPath limit) is =
          let d = subst (CauseAllowed (cause.LongPath limit) host) e is in record { params = d.params; super = d.super; names = d.names }
      cause_first t (has_joined e) (cause.LongPath limit) is =
          let d = subst (CauseAllowed (cause.LongPath limit) host) e is in record { params = d.params; super = d.super; names = d.names }
      cause_first t (was_dropped e) (cause.LongPath limit) is = subst (CauseAllowed (cause.LongPath limit) host) e is
      cause_first t at why is = absurd (no_decision t at why tt is)

      -- Faults.

      no_fault : (t : State) → Behind t → (damage : Damage) → DamageAllowed damage t → ⊥
      no_fault t (waits e) damage is = subst (DamageAllowed damage) e is
      no_fault t (has_joined e) damage is = subst (DamageAllowed damage) e is
      no_fault t (was_dropped e) damage is = subst (DamageAllowed damage) e is

      -- Replies.

      reply_first : (t : State) → Behind t → (given : Reply) → answer_settles (Replied given) ≢ Some (length history + 1) → ReplyFits given host t
          → ReplyFits given host (Sound p history None)
      reply_first t at (reply.Appended seq) ne is = appended_first t at seq ne is
      reply_first t at (reply.NotAppended why) ne is = cause_first t at why is
      reply_first t at (reply.Reports r) ne is = report_first t at r ne is
      reply_first t at (reply.NoSuperblock fault) ne is = absurd (no_fault t at (NoSuperblock fault) is)
      reply_first t at (reply.BadHeader fault) ne is = absurd (no_fault t at (BadHeader fault) is)
      reply_first t at (reply.BadSlot i reason) ne is = absurd (no_fault t at (BadSlot i reason) is)
      reply_first t at given ne is = asked_first t at _ given ne is

      -- an answer of another host that tells nothing of the entry fits before it was named
      pub answer_first : (t : State) → Behind t → (answer : Answer) → answer_settles answer ≢ Some (length history + 1) → AnswerFits answer host t
          → AnswerFits answer host (Sound p history None)
      answer_first t at (MediaFault line) ne is = tt
      answer_first t at (Replied given) ne is = reply_first t at given ne is
