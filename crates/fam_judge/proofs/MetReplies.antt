-- What a command may be answered that found entries: it doesn't depend on how many, and tells where the state has come to.
use Rattle.std.proofs.Common.{◌≡◌, ◌⊎◌, inl, inr, ℕ, List, length, Option, Some, None, refl, ap, sym, ◌∙◌, subst}
use Rattle.std.specs.Prelude.{⊤, Err}
use Rattle.fam_base.specs.declared.cmd.Cmd.{Cmd}
use Rattle.fam_base.specs.declared.entry.Params.{Params}
use Rattle.fam_format.specs.declared.faults.LogFault.{LogFault}
use Rattle.fam_format.specs.declared.faults.LogFault.TheVariants.{BadLog}
use Rattle.fam_format.specs.declared.faults.LogField.{LogField}
use Rattle.fam_format.specs.declared.faults.LogField.TheVariants as field
use Rattle.fam_format.specs.declared.faults.Reason.{Reason}
use Rattle.fam_rules.specs.declared.answers.LogState.{LogState}
use Rattle.fam_rules.specs.declared.answers.LogState.TheVariants as log
use Rattle.fam_rules.specs.declared.answers.Refused.{Refused as Cause}
use Rattle.fam_rules.specs.declared.answers.Refused.TheVariants as cause
use Rattle.fam_rules.specs.Asks.{File}
use Rattle.fam_rules.specs.Decide.{Wish, wish_of}
use Rattle.fam_rules.specs.Reply as reply
use Rattle.fam_rules.specs.Reply.{Reply}
use Rattle.fam_journal.specs.Legal.{CauseAllowed, DamageAllowed, DecideAllowed, FoundAllowed, IsDecided, master_of, FoundBad}
use Rattle.fam_journal.specs.Past.{Bad, BadSlot, HostPast, Sound, State, finds, reply_count, reported_count, Damage}
use Rattle.fam_journal.specs.Shapes.{Begun, CauseShape, CommandStage, CountShape, Marked, Met, Named, ReplyShape, HasMet}
use Rattle.fam_judge.specs.Covering.{StateOver, dropped, joined, same}
use Rattle.fam_judge.specs.Fitting.{ReplyFits}
use Rattle.fam_judge.specs.Formed.{CausePlace, FaultPlace, FieldPlace, LogPlace, ReplyPlace, SlotPlace}
use Rattle.fam_judge.specs.Possible.{NonePends}
use Rattle.fam_judge.proofs.Over.{over_master, over_met, over_none}
use Rattle.fam_judge.proofs.Replies.{IsDecline, decided_master, IsMasters}

no_begun : (n : ℕ) → Met n ≡ Begun → ⊥
no_begun n e = cc

no_marked : (n : ℕ) → Met n ≡ Marked → ⊥
no_marked n e = cc

no_named : (n seq : ℕ) → Met n ≡ Named seq → ⊥
no_named n seq e = cc

-- Shapes.

early_met : (m n : ℕ) → (Met n ≡ Begun) ⊎ ⊤ → (Met m ≡ Begun) ⊎ ⊤
early_met m n (inl e) = absurd (no_begun n e)
early_met m n (inr it) = inr tt

cause_met : (me : List ℕ) (m n : ℕ) (why : Cause) → CauseShape me (Met n) why → CauseShape me (Met m) why
cause_met me m n (cause.NotMaster own master) is = (is.0, is.1, early_met m n is.2)
cause_met me m n (cause.LongPath limit) is = early_met m n is
cause_met me m n why is = tt

count_met : (o : Option ℕ) (m n : ℕ) → CountShape o (Met n) → CountShape o (Met m)
count_met None m n is = tt
count_met (Some k) m n is = absurd (no_marked n is)

-- the answer has the shape whatever was found
pub shape_met : (me : List ℕ) (cmd : Cmd) (m n : ℕ) (given : Reply) → ReplyShape me cmd (Met n) given → ReplyShape me cmd (Met m) given
shape_met me cmd m n (reply.Appended seq) is = absurd (no_named n seq is)
shape_met me cmd m n (reply.NotAppended why) is = (is.0, cause_met me m n why is.1)
shape_met me cmd m n (reply.Reports report) is = (is.0, count_met (reported_count report.log) m n is.1)
shape_met me cmd m n (reply.NoSuperblock fault) is = absurd (no_begun n is.1)
shape_met me cmd m n (reply.BadHeader fault) is = absurd is.1
shape_met me cmd m n (reply.BadSlot seq reason) is = (is.0, tt)
shape_met me cmd m n given is = absurd (no_marked n is.1)

field_met : (f : LogField) (n : ℕ) → FieldPlace f (Met n) → ⊥
field_met field.Gate n is = no_marked n is
field_met f n is = no_begun n is

place_cause : (why : Cause) (m n : ℕ) → CausePlace why (Met n) → CausePlace why (Met m)
place_cause (cause.NotMaster own master) m n is = absurd (no_begun n is)
place_cause (cause.LongPath limit) m n is = absurd (no_begun n is)
place_cause why m n is = tt

place_fault : (f : LogFault) (n : ℕ) → FaultPlace f (Met n) → ⊥
place_fault (BadLog f found wanted) n is = field_met f n is

place_log : (s : LogState) (m n : ℕ) → LogPlace s (Met n) → LogPlace s (Met m)
place_log (log.Sound entries slots) m n is = tt
place_log (log.BadLog f found wanted) m n is = absurd (field_met f n is)
place_log log.Unread m n is = absurd (no_begun n is)

place_slot : (o : Option Wish) (m n : ℕ) → SlotPlace o (Met n) → SlotPlace o (Met m)
place_slot None m n is = tt
place_slot (Some w) m n is = tt

-- and its place
pub place_met : (cmd : Cmd) (m n : ℕ) (given : Reply) → ReplyPlace cmd (Met n) given → ReplyPlace cmd (Met m) given
place_met cmd m n (reply.NotAppended why) is = place_cause why m n is
place_met cmd m n (reply.Reports report) is = place_log report.log m n is
place_met cmd m n (reply.BadHeader fault) is = absurd (place_fault fault n is)
place_met cmd m n (reply.BadSlot seq reason) is = place_slot (wish_of cmd) m n is
place_met cmd m n given is = tt

-- a count stands behind the mark
pub counted_marked : (me : List ℕ) (cmd : Cmd) (stage : CommandStage) (given : Reply) (m : ℕ) → ReplyShape me cmd stage given → reply_count given ≡ Some m → stage ≡ Marked
counted_marked me cmd stage (reply.Appended seq) m is e = absurd cc
counted_marked me cmd stage (reply.NotAppended why) m is e = absurd cc
counted_marked me cmd stage (reply.Reports report) m is e = by (reported_count report.log) e is.1
  where
    by : (o : Option ℕ) → o ≡ Some m → CountShape o stage → stage ≡ Marked
    by None e is = absurd cc
    by (Some k) e is = is
counted_marked me cmd stage (reply.NoSuperblock fault) m is e = absurd cc
counted_marked me cmd stage (reply.BadHeader fault) m is e = absurd cc
counted_marked me cmd stage (reply.BadSlot seq reason) m is e = absurd cc
counted_marked me cmd stage given m is e = is.1

-- a refusal that is decided stands behind what was found
pub decided_met : (me : List ℕ) (stage : CommandStage) (why : Cause) → IsDecline why → CauseShape me stage why → HasMet stage
decided_met me stage (cause.NotMaster own master) is shape = absurd is
decided_met me stage (cause.LongPath limit) is shape = absurd is
decided_met me stage why is shape = shape

-- States.

-- the first state comes to the second one by a count; so it is it where its host found entries, and nothing pends there for a master
pub record Target (host : HostPast) (s t : State) : Type 0 where
  pub count : ℕ
  pub found : FoundAllowed count s
  pub comes : finds count s ≡ t
  pub alone : (master_of s ≡ Some host.uuid → NonePends s) → s ≡ t

decided_by : (host : HostPast) (why : Cause) (s : State) (p : Params) (history : List File) (pending : Option File) → pending ≡ None
    → IsDecided p host history pending (Err why) → host.uuid ≡ p.master → StateOver s (Sound p history pending) → Target host s (Sound p history pending)
decided_by host why s p history pending none is master over =
    let one : Sound p history pending ≡ Sound p history None = ap (Sound p history) none in
    let met = over_met s p history (subst (StateOver s) one over) in
    record {
      count = length history;
      found = met.0;
      comes = met.1 ∙ sym one;
      alone = λ alone. sym (over_none s (Sound p history pending) over (alone (over_master s (Sound p history pending) over ∙ ap Some (sym master))));
    }

masters : (why : Cause) → IsDecline why → IsMasters (Err why)
masters (cause.NotMaster me master) is = absurd is
masters (cause.LongPath limit) is = absurd is
masters why is = tt

decided_target : (host : HostPast) (why : Cause) (s t : State) → IsDecline why → DecideAllowed host (Err why) t → StateOver s t → Target host s t
decided_target host why s (Bad origin damage gate) decline is over = absurd is
decided_target host why s (Sound p history pending) decline is over =
    decided_by host why s p history pending is.none is (decided_master p host.uuid _ is.cmd (Err why) is.is (masters why decline)) over

bad_target : (host : HostPast) (i : ℕ) (reason : Reason) (s t : State) → DamageAllowed (BadSlot i reason) t → StateOver s t → Target host s t
bad_target host i reason s t is (joined p history f es et) = absurd (subst (DamageAllowed (BadSlot i reason)) et is)
bad_target host i reason s t is (dropped p history f es et) = absurd (subst (DamageAllowed (BadSlot i reason)) et is)
bad_target host i reason s t is (same e) = by s e (subst (DamageAllowed (BadSlot i reason)) e is)
  where
    by : (s : State) → t ≡ s → DamageAllowed (BadSlot i reason) s → Target host s t
    by (Sound p history pending) e is = absurd is
    by (Bad origin damage gate) e is = record {
      count = gate;
      found = subst (λ (d : Damage). FoundBad gate d gate) is refl;
      comes = sym e;
      alone = λ none. sym e;
    }

cause_target : (host : HostPast) (why : Cause) (n : ℕ) (s t : State) → CausePlace why (Met n) → CauseAllowed why host t → StateOver s t → Target host s t
cause_target host (cause.NotMaster own master) n s t place is over = absurd (no_begun n place)
cause_target host (cause.LongPath limit) n s t place is over = absurd (no_begun n place)
cause_target host cause.BadStripe n s t place is over = decided_target host cause.BadStripe s t tt is over
cause_target host (cause.Exists kind) n s t place is over = decided_target host (cause.Exists kind) s t tt is over
cause_target host cause.NoParent n s t place is over = decided_target host cause.NoParent s t tt is over
cause_target host cause.ParentIsFile n s t place is over = decided_target host cause.ParentIsFile s t tt is over
cause_target host (cause.LogFull slots) n s t place is over = decided_target host (cause.LogFull slots) s t tt is over
cause_target host (cause.NoSpace units) n s t place is over = decided_target host (cause.NoSpace units) s t tt is over

log_met : (s : LogState) (n : ℕ) → CountShape (reported_count s) (Met n) → LogPlace s (Met n) → ⊥
log_met (log.Sound entries slots) n shape place = no_marked n shape
log_met (log.BadLog f found wanted) n shape place = field_met f n place
log_met log.Unread n shape place = no_begun n place

-- by what it is answered
pub met_target : (me : List ℕ) (cmd : Cmd) (n : ℕ) (given : Reply) (host : HostPast) (s t : State) → ReplyShape me cmd (Met n) given → ReplyPlace cmd (Met n) given
    → ReplyFits given host t → StateOver s t → Target host s t
met_target me cmd n (reply.Appended seq) host s t shape place is over = absurd (no_named n seq shape)
met_target me cmd n (reply.NotAppended why) host s t shape place is over = cause_target host why n s t place is over
met_target me cmd n (reply.Reports report) host s t shape place is over = absurd (log_met report.log n shape.1 place)
met_target me cmd n (reply.NoSuperblock fault) host s t shape place is over = absurd (no_begun n shape.1)
met_target me cmd n (reply.BadHeader fault) host s t shape place is over = absurd shape.1
met_target me cmd n (reply.BadSlot i reason) host s t shape place is over = bad_target host i reason s t is over
met_target me cmd n given host s t shape place is over = absurd (no_marked n shape.1)
