-- A command of its own: the rules' answer is put, and what they say is left.
use Rattle.std.proofs.Common.{◌≡◌, ℕ, inl, inr, Bool, true, false, List, [], ◌∷◌, ◌++◌, codes, length, Option, Some, None, refl, ap, sym, ◌∙◌, subst}
use Rattle.std.specs.Prelude.{nat_lt, slice_get}
use Rattle.std.proofs.lemmas.Option.{same_Some}
use Rattle.fam_base.specs.declared.cmd.Cmd.{Cmd}
use Rattle.fam_base.specs.Image.{Image}
use Rattle.fam_format.specs.Layout.{least_lines}
use Rattle.fam_format.specs.Params.{IsUuid}
use Rattle.fam_media.specs.Files.{Files}
use Rattle.fam_rules.specs.Reply.{Reply}
use Rattle.fam_rules.specs.Solo.{solo_image, solo_reply}
use Rattle.fam_journal.specs.declared.event.Ask.{Ask}
use Rattle.fam_journal.specs.declared.event.Ask.TheVariants as ask
use Rattle.fam_journal.specs.declared.event.Event.TheVariants as event
use Rattle.fam_journal.specs.declared.refusal.Refusal.{Refusal}
use Rattle.fam_journal.specs.declared.refusal.Refusal.TheVariants as why
use Rattle.fam_outcomes.specs.declared.status.Status.{Status}
use Rattle.fam_journal.specs.Calls.{Completes, IsOfSource, MayBeRefused, may_begin, refusal_of, when}
use Rattle.fam_journal.specs.Ends.{IsFaultless}
use Rattle.fam_journal.specs.Events.{Continues, HasNoSource, MayNot, Ready, Session, SourceSays, Sourced, Unfit, mounts}
use Rattle.fam_journal.specs.Machines.{HostState, Machines}
use Rattle.fam_journal.specs.Notes.{Answered, Host, Note, Refused, Replied}
use Rattle.fam_outcomes.specs.Programs.{Runs, ends_shot}
use Rattle.fam_outcomes.specs.Runs.{Outside}
use Rattle.fam_outcomes.specs.Statuses.{last_status}
use Rattle.fam_outcomes.specs.Texts.{line, refusal_text, shown}
use Rattle.fam_journal.specs.Laws.{IsImage}
use Rattle.fam_journal.proofs.Runs.Unique.{clean_rest}
use Rattle.fam_whole.specs.Alone.{AnswerEnds, AskEnds, CommandEnds, EndsUnless, RefusalEnds, SaidEnds, SourcedEnds, command_refusal}
use Rattle.fam_whole.proofs.Declared.{Two, begin_refusal, ends_same, host_is, one_event, only, shown_end, status_end}
use Rattle.fam_whole.proofs.Exact.{Solo, solo_run}
use Rattle.fam_whole.proofs.Shots.{ShotRun}

-- these refusals name no host
small_text : (names : List (List ℕ)) (few : Bool) (lines : ℕ) (cause : Refusal) → when few (why.ImageSmall lines) ≡ Some cause → refusal_text names cause ≡ refusal_text [] cause
small_text names true lines cause is = subst (λ (z : Refusal). refusal_text names z ≡ refusal_text [] z) (same_Some (why.ImageSmall lines) cause is) refl
small_text names false lines cause is = absurd cc

source_text : (names : List (List ℕ)) (cause : Refusal) → IsOfSource cause → refusal_text names cause ≡ refusal_text [] cause
source_text names (why.NoFile file) of = refl
source_text names (why.CopyLimit sum) of = refl
source_text names (why.BadListing at) of = refl
source_text names e of = absurd of

module _ (start : Image) (me : List ℕ) (what : Ask) (files : Files) (out : Outside) (given : Status) (image : IsImage start) (me_sound : IsUuid me)
    (x : ShotRun files start me (Runs what) out given) where
  abbrev name : List ℕ
  name = x.steps.name

  abbrev journal : List Note
  journal = x.run.journal

  abbrev left : Machines
  left = x.run.last.machines

  abbrev Ends : Option Refusal → Type 0
  Ends o = EndsUnless o start out given (SaidEnds files start me what out given)

  two : Two start name me files image me_sound (event.Run name what) journal x.run.last
  two =
      one_event start name me files image me_sound (event.Run name what) (ends_shot (Runs what)) refl journal x.run.last x.steps.count x.events x.steps.events_are x.run.follows x.ended

  -- what the machines before it are, is so of the host alone
  begins_by : (o : Option Refusal) → may_begin name (mounts what) two.mid.machines ≡ o → command_refusal start ≡ o
  begins_by o is = sym (begin_refusal start name me (mounts what)) ∙ ap (may_begin name (mounts what)) (sym two.mid_is) ∙ is

  -- a refusal, and nothing else
  refuses : (cause : Refusal) → refusal_text (name ∷ []) cause ≡ refusal_text [] cause → two.notes ≡ Refused name cause ∷ [] → left ≡ two.mid.machines → RefusalEnds cause start out given
  unfolding shown
  refuses cause nameless notes same =
      ends_same x.ends (ap shown ends ∙ ap (λ (t : List ℕ). line (codes "refused " ++ t)) nameless) (ap (λ (m : Machines). m.memory) (same ∙ two.mid_is)) (ap last_status ends)
    where
      ends : journal ≡ Host name me ∷ Refused name cause ∷ []
      ends = two.journal_is ∙ ap (λ (z : List Note). Host name me ∷ z) notes

  -- the command was run
  module _ (run : Continues Completes files name what two.mid two.notes x.run.last) where
    abbrev cmd : Cmd
    cmd = run.begun.cmd

    abbrev front : List Note
    front = Host name me ∷ []

    clean : IsFaultless two.notes
    clean = clean_rest front two.notes journal two.journal_is x.run.clean

    solo : Solo start files two.mid.machines front two.between.kept two.between.rests two.between.sure name what two.mid x.run.last refl two.notes clean run
    solo = solo_run start files two.mid.machines front two.between.kept two.between.rests two.between.sure name what two.mid x.run.last refl two.notes clean run

    memory : two.mid.machines.memory ≡ start
    memory = ap (λ (m : Machines). m.memory) two.mid_is

    host : solo.host ≡ only start name me
    host = host_is start name me solo.h solo.host (ap (λ (m : Machines). slice_get m.hosts solo.h) (sym two.mid_is) ∙ solo.is)

    abbrev answer : Note
    answer = Answered solo.h (Replied (solo_reply start me cmd))

    reply : solo_reply two.mid.machines.memory solo.host.uuid cmd ≡ solo_reply start me cmd
    reply = ap (λ (i : Image). solo_reply i solo.host.uuid cmd) memory ∙ ap (λ (z : HostState). solo_reply start z.uuid cmd) host

    -- the journal ends in the answer
    ends_in : journal ≡ (Host name me ∷ solo.front) ++ answer ∷ []
    ends_in = two.journal_is ∙ ap (λ (z : List Note). Host name me ∷ z) (solo.notes_are ∙ ap (λ (r : Reply). solo.front ++ Answered solo.h (Replied r) ∷ []) reply)

    answer_ends : AnswerEnds start me cmd out given
    unfolding shown
    answer_ends =
        ends_same x.ends (ap shown ends_in ∙ shown_end [] (Host name me ∷ solo.front) answer)
        (solo.left ∙ ap (λ (i : Image). solo_image i solo.host.uuid cmd) memory ∙ ap (λ (z : HostState). solo_image start z.uuid cmd) host)
        (ap last_status ends_in ∙ status_end (Host name me ∷ solo.front) answer)

    answered : Ends (command_refusal start)
    answered =
        subst Ends (sym (begins_by None run.begun.free))
        record { said = Ready cmd run.begun.copied; says = subst (λ (n : ℕ). SourceSays files n what (Ready cmd run.begun.copied)) two.copied_is run.begun.says; ends = answer_ends }

  not_begun : MayNot name what two.mid two.notes x.run.last → Ends (command_refusal start)
  not_begun not =
      let is : command_refusal start ≡ Some not.cause = begins_by (Some not.cause) not.first in
      subst Ends (sym is)
      (refuses not.cause (small_text (name ∷ []) (nat_lt (length start) least_lines) (length start) not.cause is) not.notes_are (ap (λ (s : Session). s.machines) not.same))

  no_source : HasNoSource files name what two.mid two.notes x.run.last → Ends (command_refusal start)
  unfolding refusal_of
  no_source none =
      subst Ends (sym (begins_by None none.free))
      record {
        said = Unfit none.cause none.copied;
        says = subst (λ (n : ℕ). SourceSays files n what (Unfit none.cause none.copied)) two.copied_is none.says;
        ends = refuses none.cause (source_text (name ∷ []) none.cause (of none.does.2)) none.does.0 none.does.1;
      }
    where
      of : MayBeRefused name none.cause two.mid.machines → IsOfSource none.cause
      of (inl is) = is
      of (inr begins) = absurd (let free : command_refusal start ≡ None = begins_by None none.free in
          let refused : command_refusal start ≡ Some none.cause = sym (begin_refusal start name me begins.0) ∙ ap (may_begin name begins.0) (sym two.mid_is) ∙ begins.1 in cc)

  pub ask_ends : AskEnds files start me what out given
  ask_ends = elim two.does [
    | inl run ↦ answered run
    | inr other ↦ elim other [ inl not ↦ not_begun not | inr none ↦ no_source none ]
  ]

-- a command that needs no source is what is asked
pub command_ends : (start : Image) (me : List ℕ) (cmd : Cmd) (files : Files) (out : Outside) (given : Status) → AskEnds files start me (ask.Plain cmd) out given → CommandEnds start me cmd out given
command_ends start me cmd files out given = by_refusal (command_refusal start)
  where
    by_refusal : (o : Option Refusal) → EndsUnless o start out given (SaidEnds files start me (ask.Plain cmd) out given) → EndsUnless o start out given (AnswerEnds start me cmd out given)
    by_refusal (Some cause) ends = ends
    by_refusal None ends = subst (λ (said : Sourced). SourcedEnds said start me out given) ends.says ends.ends
