-- What is allowed for some bytes is what fits what is told.
use Rattle.std.proofs.Common.{◌≡◌, ◌≤◌, inl, ℕ, List, length, map, take, Option, Some, None, refl, ap, sym, ◌∙◌, subst}
use Rattle.std.specs.Prelude.{option_map, slice_get}
use Rattle.fam_base.specs.declared.cmd.Cmd.{Cmd}
use Rattle.fam_base.specs.Image.{Image}
use Rattle.fam_rules.specs.Asks.{File}
use Rattle.fam_rules.specs.Reply as reply
use Rattle.fam_rules.specs.Reply.{Reply}
use Rattle.fam_journal.specs.Legal.{Allowed, AnswerAllowed, AskAllowed, InBounds, OfHost, ReplyAllowed}
use Rattle.fam_journal.specs.Notes.{Answer, Replied, MediaFault, Note, Found, Writes, Answered}
use Rattle.fam_journal.specs.Past.{Bad, BadHeader, BadSlot, HostPast, NoSuperblock, Past, Sound, State, acknowledges, past_of, with_pending}
use Rattle.fam_judge.specs.Explained.{IsAllowedForSome}
use Rattle.fam_judge.specs.Fitting.{AnswerFits, FitsNext, QuestionFits, ReplyFits}
use Rattle.fam_judge.specs.Formed.{AreSoundNotes, IsSoundCommand}
use Rattle.fam_judge.specs.Untold.{untold_cmd, untold_notes}
use Rattle.fam_judge.proofs.Agreeing.{AgreeHosts, AgreeStates, agree_back, appended_agrees, cause_agrees, damage_agrees, found_agrees, hosts_back, report_agrees, writes_agrees}
use Rattle.fam_judge.proofs.Answering.{answer_pick}
use Rattle.fam_judge.proofs.Choosing.{ChosenHost, ChosenPast, Choice, StandsChosen, SuitsChoice, any_fills, chosen_fills, chosen_note, notes_told, sound_notes, sound_starts, starts_suit}
use Rattle.fam_judge.proofs.Filling.{FillsCmd, FillsFile, FillsHost, FillsPast, FillsState, acknowledged_filled, filled_all, filled_entries, filled_length, filled_of}
use Rattle.fam_judge.proofs.Fitted.{AnyFits, ask_told}
use Rattle.fam_judge.proofs.Pairs.{Pairs, pairs_get, pairs_take}
use Rattle.fam_judge.proofs.Untelling.{alike_notes_untold, untold_twice}

-- Pasts that are told and their own agree but for bytes.

-- files, commands, hosts, states and pasts that differ in what isn't told alone
abbrev AnyFile : File → File → Type 0
AnyFile told file = FillsFile AnyFits told file

abbrev AnyCmd : Cmd → Cmd → Type 0
AnyCmd told own = FillsCmd AnyFits IsSoundCommand told own

abbrev AnyHost : HostPast → HostPast → Type 0
AnyHost told host = FillsHost AnyFits IsSoundCommand told host

abbrev AnyState : State → State → Type 0
AnyState told state = FillsState AnyFits told state

abbrev AnyPast : Past → Past → Type 0
AnyPast told past = FillsPast AnyFits IsSoundCommand told past

pending_agrees : (x y : Option File) → Pairs AnyFile x y → option_map (λ (f : File). f.entry) x ≡ option_map (λ (f : File). f.entry) y
pending_agrees None None is = refl
pending_agrees None (Some y) is = absurd is
pending_agrees (Some x) None is = absurd is
pending_agrees (Some x) (Some y) is = ap Some is.entry

states_agree : (s t : State) → AnyState s t → AgreeStates s t
states_agree (Sound p a x) (Sound q b y) is = (is.0, filled_entries AnyFits a b is.1, pending_agrees x y is.2)
states_agree (Sound p a x) (Bad from why count) is = absurd is
states_agree (Bad origin damage gate) (Sound q b y) is = absurd is
states_agree (Bad origin damage gate) (Bad from why count) is = is

cmds_agree : (x y : Option Cmd) → Pairs AnyCmd x y → option_map untold_cmd x ≡ option_map untold_cmd y
cmds_agree None None is = refl
cmds_agree None (Some y) is = absurd is
cmds_agree (Some x) None is = absurd is
cmds_agree (Some x) (Some y) is = ap Some (untold_twice x y is.is)

hosts_agree : (x y : HostPast) → AnyHost x y → AgreeHosts x y
hosts_agree x y is = record { uuid = is.uuid; cmd = cmds_agree x.cmd y.cmd is.cmd; floor = is.floor; wrote = is.wrote }

-- Sound notes.

sound_filled : (start : Image) (notes : List Note) → AreSoundNotes notes
    → AnyPast (past_of start (untold_notes notes)) (past_of start notes)
sound_filled start notes sound = filled_of AnyFits IsSoundCommand (λ i b low. (low, inl refl)) any_fills start notes (sound_starts notes sound)

chosen_filled : (start : Image) (ch : Choice) (notes : List Note) → AreSoundNotes notes
    → ChosenPast ch (past_of start (untold_notes notes)) (past_of start (map (chosen_note ch) notes))
chosen_filled start ch notes sound =
    subst (λ (l : List Note). ChosenPast ch (past_of start l) (past_of start (map (chosen_note ch) notes)))
    (sym (alike_notes_untold notes (map (chosen_note ch) notes) (notes_told ch notes)))
    (filled_of (StandsChosen ch) (SuitsChoice ch) (λ i b low. (low, inl refl)) (chosen_fills ch) start (map (chosen_note ch) notes)
    (starts_suit ch notes sound))

-- What is allowed fits.

floor_told : (x y : HostPast) (m : ℕ) (a b : List File) → x.floor ≡ y.floor → length a ≡ length b → InBounds y m b → InBounds x m a
floor_told x y m a b floor count bounds = record {
  floor = bounds.floor;
  marked = floor ∙ bounds.marked;
  low = bounds.low;
  high = subst (λ (n : ℕ). m ≤ n) (sym count) bounds.high;
}

-- a command that is told
pub record CmdTold (x : HostPast) (c : Cmd) : Type 0 where
  pub told : x.cmd ≡ Some (untold_cmd c)
  pub sound : IsSoundCommand c

cmd_told : (x y : HostPast) → Pairs AnyCmd x.cmd y.cmd → (c : Cmd) → y.cmd ≡ Some c → CmdTold x c
cmd_told x y both c told = by x.cmd refl (subst (λ (o : Option Cmd). Pairs AnyCmd x.cmd o) told both)
  where
    by : (o : Option Cmd) → x.cmd ≡ o → Pairs AnyCmd o (Some c) → CmdTold x c
    by None e is = absurd is
    by (Some t) e is = record { told = e ∙ ap Some is.is; sound = is.suits }

question_fits : (m : ℕ) (given : Reply) (x y : HostPast) (s t : State) → AnyHost x y → AnyState s t
    → AskAllowed m given y t → QuestionFits m given x s
question_fits m given x y (Sound p a f) (Sound q b g) host state allowed =
    let all = filled_all AnyFits a b f g state.1 state.2 in
    let cmd = cmd_told x y host.cmd allowed.cmd allowed.told in record {
      bounds = floor_told x y m (with_pending a f) (with_pending b g) host.floor
          (filled_length AnyFits (with_pending a f) (with_pending b g) all) allowed.bounds;
      cmd = untold_cmd allowed.cmd;
      told = cmd.told;
      fits = ask_told (take m (with_pending a f)) (take m (with_pending b g)) allowed.cmd given
          (pairs_take AnyFile m (with_pending a f) (with_pending b g) all) cmd.sound allowed.is;
    }
question_fits m given x y (Sound p a f) (Bad from why count) host state allowed = absurd state
question_fits m given x y (Bad origin damage gate) (Sound q b g) host state allowed = absurd state
question_fits m given x y (Bad origin damage gate) (Bad from why count) host state allowed = absurd allowed

module _ (x y : HostPast) (s t : State) (host : AnyHost x y) (state : AnyState s t) where
  back_host : AgreeHosts y x
  back_host = hosts_back x y (hosts_agree x y host)

  back_state : AgreeStates t s
  back_state = agree_back s t (states_agree s t state)

  reply_fits : (given : Reply) → ReplyAllowed given y t → ReplyFits given x s
  reply_fits (reply.Appended seq) allowed =
      let same = states_agree (acknowledges seq s) (acknowledges seq t) (acknowledged_filled AnyFits seq s t state) in
      appended_agrees seq y x (acknowledges seq t) (acknowledges seq s) back_host (agree_back (acknowledges seq s) (acknowledges seq t) same) allowed
  reply_fits (reply.NotAppended why) allowed = cause_agrees why y x t s back_host back_state allowed
  reply_fits (reply.Reports report) allowed = report_agrees report y x t s back_host back_state allowed
  reply_fits (reply.NoSuperblock fault) allowed = damage_agrees (NoSuperblock fault) t s back_state allowed
  reply_fits (reply.BadHeader fault) allowed = damage_agrees (BadHeader fault) t s back_state allowed
  reply_fits (reply.BadSlot i reason) allowed = damage_agrees (BadSlot i reason) t s back_state allowed
  reply_fits (reply.Played m tree) allowed = question_fits m (reply.Played m tree) x y s t host state allowed
  reply_fits (reply.Mounted m) allowed = question_fits m (reply.Mounted m) x y s t host state allowed
  reply_fits (reply.Same m) allowed = question_fits m (reply.Same m) x y s t host state allowed
  reply_fits (reply.Differs m offset found wanted) allowed = question_fits m (reply.Differs m offset found wanted) x y s t host state allowed
  reply_fits (reply.Length m size wanted) allowed = question_fits m (reply.Length m size wanted) x y s t host state allowed
  reply_fits (reply.Bytes m bytes) allowed = question_fits m (reply.Bytes m bytes) x y s t host state allowed
  reply_fits (reply.NotFound m) allowed = question_fits m (reply.NotFound m) x y s t host state allowed
  reply_fits (reply.IsDirectory m) allowed = question_fits m (reply.IsDirectory m) x y s t host state allowed
  reply_fits (reply.Checks m counts) allowed = question_fits m (reply.Checks m counts) x y s t host state allowed

  answer_fits : (answer : Answer) → AnswerAllowed answer y t → AnswerFits answer x s
  answer_fits (Replied given) allowed = reply_fits given allowed
  answer_fits (MediaFault line) allowed = tt

-- so of a declared host
of_host : (o k : Option HostPast) → Pairs (AnyHost) o k
    → (P Q : HostPast → Type 0)
    → ((x y : HostPast) → AnyHost x y → Q y → P x) → OfHost k Q → OfHost o P
of_host None None is P Q step allowed = absurd allowed
of_host None (Some y) is P Q step allowed = absurd is
of_host (Some x) None is P Q step allowed = absurd is
of_host (Some x) (Some y) is P Q step allowed = step x y is allowed

-- and the other way about
to_host : (o k : Option HostPast) → Pairs (AnyHost) o k
    → (P Q : HostPast → Type 0)
    → ((x y : HostPast) → AnyHost x y → P x → Q y) → OfHost o P → OfHost k Q
to_host None None is P Q step fits = absurd fits
to_host None (Some y) is P Q step fits = absurd is
to_host (Some x) None is P Q step fits = absurd is
to_host (Some x) (Some y) is P Q step fits = step x y is fits

allowed_fits : (told past : Past) (note : Note) → AnyPast told past → Allowed past note → FitsNext told note
allowed_fits told past (Found h n) is allowed =
    found_agrees n past.state told.state (agree_back told.state past.state (states_agree told.state past.state is.state)) allowed
allowed_fits told past (Writes h seq e) is allowed =
    of_host (slice_get told.hosts h) (slice_get past.hosts h) (pairs_get AnyHost told.hosts past.hosts h is.hosts) _ _
    (λ x y one. writes_agrees seq e y x past.state told.state (back_host x y told.state past.state one is.state)
    (back_state x y told.state past.state one is.state)) allowed
allowed_fits told past (Answered h answer) is allowed =
    of_host (slice_get told.hosts h) (slice_get past.hosts h) (pairs_get AnyHost told.hosts past.hosts h is.hosts) _ _
    (λ x y one. answer_fits x y told.state past.state one is.state answer) allowed
allowed_fits told past note is allowed = tt

-- what is allowed for some bytes fits what is told
pub explained_fits : (start : Image) (before : List Note) (note : Note) → IsAllowedForSome start before note
    → FitsNext (past_of start (untold_notes before)) note
explained_fits start before note is =
    subst (λ (l : List Note). FitsNext (past_of start l) note) (sym (alike_notes_untold before is.chosen is.alike))
    (allowed_fits (past_of start (untold_notes is.chosen)) (past_of start is.chosen) note (sound_filled start is.chosen is.sound) is.allowed)

-- What fits is allowed.

module _ (start : Image) (before : List Note) (sound : AreSoundNotes before) where
  -- for the bytes that the notes have
  as_before : (note : Note) → Allowed (past_of start before) note → IsAllowedForSome start before note
  as_before note allowed = record { chosen = before; alike = refl; sound = sound; allowed = allowed }

  -- for those that are chosen
  question_allowed : (h m : ℕ) (given : Reply) (note : Note)
      → OfHost (slice_get (past_of start (untold_notes before)).hosts h) (λ host. QuestionFits m given host (past_of start (untold_notes before)).state)
      → ((past : Past) → OfHost (slice_get past.hosts h) (λ host. AskAllowed m given host past.state) → Allowed past note)
      → IsAllowedForSome start before note
  question_allowed h m given note fits allows =
      let told = past_of start (untold_notes before) in
      let pick = answer_pick m given (slice_get told.hosts h) told.state fits in
      let own = past_of start (map (chosen_note pick.choice) before) in
      let fill = chosen_filled start pick.choice before sound in record {
        chosen = map (chosen_note pick.choice) before;
        alike = notes_told pick.choice before;
        sound = sound_notes pick.choice before sound;
        allowed = allows own
            (pick.holds (slice_get own.hosts h) own.state (pairs_get (ChosenHost pick.choice) told.hosts own.hosts h fill.hosts) fill.state);
      }

  own_filled : AnyPast (past_of start (untold_notes before)) (past_of start before)
  own_filled = sound_filled start before sound

  host_allowed : (h : ℕ) (P Q : HostPast → Type 0)
      → ((x y : HostPast) → AgreeHosts x y → AgreeStates (past_of start (untold_notes before)).state (past_of start before).state → P x → Q y)
      → OfHost (slice_get (past_of start (untold_notes before)).hosts h) P → OfHost (slice_get (past_of start before).hosts h) Q
  host_allowed h P Q step fits =
      to_host _ _ (pairs_get AnyHost (past_of start (untold_notes before)).hosts (past_of start before).hosts h own_filled.hosts) P Q
      (λ x y one. step x y (hosts_agree x y one) (states_agree _ _ own_filled.state)) fits

  reply_allowed : (h : ℕ) (given : Reply) → FitsNext (past_of start (untold_notes before)) (Answered h (Replied given))
      → IsAllowedForSome start before (Answered h (Replied given))
  reply_allowed h (reply.Appended seq) fits = as_before _
      (host_allowed h _ _ (λ x y host state. appended_agrees seq x y _ _ host
      (states_agree _ _ (acknowledged_filled AnyFits seq _ _ own_filled.state))) fits)
  reply_allowed h (reply.NotAppended why) fits = as_before _ (host_allowed h _ _ (λ x y host state. cause_agrees why x y _ _ host state) fits)
  reply_allowed h (reply.Reports report) fits = as_before _ (host_allowed h _ _ (λ x y host state. report_agrees report x y _ _ host state) fits)
  reply_allowed h (reply.NoSuperblock fault) fits =
      as_before _ (host_allowed h _ _ (λ x y host state. damage_agrees (NoSuperblock fault) _ _ state) fits)
  reply_allowed h (reply.BadHeader fault) fits =
      as_before _ (host_allowed h _ _ (λ x y host state. damage_agrees (BadHeader fault) _ _ state) fits)
  reply_allowed h (reply.BadSlot i reason) fits =
      as_before _ (host_allowed h _ _ (λ x y host state. damage_agrees (BadSlot i reason) _ _ state) fits)
  reply_allowed h (reply.Played m tree) fits = question_allowed h m (reply.Played m tree) _ fits (λ past is. is)
  reply_allowed h (reply.Mounted m) fits = question_allowed h m (reply.Mounted m) _ fits (λ past is. is)
  reply_allowed h (reply.Same m) fits = question_allowed h m (reply.Same m) _ fits (λ past is. is)
  reply_allowed h (reply.Differs m offset found wanted) fits = question_allowed h m (reply.Differs m offset found wanted) _ fits (λ past is. is)
  reply_allowed h (reply.Length m size wanted) fits = question_allowed h m (reply.Length m size wanted) _ fits (λ past is. is)
  reply_allowed h (reply.Bytes m bytes) fits = question_allowed h m (reply.Bytes m bytes) _ fits (λ past is. is)
  reply_allowed h (reply.NotFound m) fits = question_allowed h m (reply.NotFound m) _ fits (λ past is. is)
  reply_allowed h (reply.IsDirectory m) fits = question_allowed h m (reply.IsDirectory m) _ fits (λ past is. is)
  reply_allowed h (reply.Checks m counts) fits = question_allowed h m (reply.Checks m counts) _ fits (λ past is. is)

  fits_allowed : (note : Note) → FitsNext (past_of start (untold_notes before)) note → IsAllowedForSome start before note
  fits_allowed (Found h n) fits = as_before _ (found_agrees n _ _ (states_agree _ _ own_filled.state) fits)
  fits_allowed (Writes h seq e) fits = as_before _ (host_allowed h _ _ (λ x y host state. writes_agrees seq e x y _ _ host state) fits)
  fits_allowed (Answered h (Replied given)) fits = reply_allowed h given fits
  fits_allowed (Answered h (MediaFault line)) fits = as_before _ (host_allowed h _ _ (λ x y host state is. tt) fits)
  fits_allowed note fits = as_before note tt

-- what fits what is told is allowed for some bytes
pub fits_explained : (start : Image) (before : List Note) (note : Note) → AreSoundNotes before
    → FitsNext (past_of start (untold_notes before)) note → IsAllowedForSome start before note
fits_explained start before note sound fits = fits_allowed start before sound note fits
