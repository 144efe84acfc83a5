-- Replies that show the first entries.
use Rattle.std.proofs.Common.{◌≡◌, ◌↔◌, inl, inr, ℕ, List, length, take, Option, Some, None, refl, ap, sym, ◌∙◌, subst}
use Rattle.std.specs.Prelude.{option_map}
use Rattle.std.proofs.lemmas.Option.{same_Some}
use Rattle.fam_base.specs.declared.cmd.Cmd.{Cmd}
use Rattle.fam_base.specs.declared.cmd.Cmd.TheVariants as cmd
use Rattle.fam_base.specs.declared.cmd.Content.{Content}
use Rattle.fam_base.specs.declared.entry.Entry.{Entry}
use Rattle.fam_base.specs.declared.entry.Kind.{Kind}
use Rattle.fam_base.specs.declared.entry.Kind.TheVariants as kind
use Rattle.fam_base.specs.Image.{Image}
use Rattle.fam_commands.specs.ReplyClasses.{Showing, reply_class}
use Rattle.fam_history.specs.declared.answer.ToldAnswer.{ToldAnswer}
use Rattle.fam_history.specs.declared.command.ToldCommand.{ToldCommand}
use Rattle.fam_journal.specs.Past as past
use Rattle.fam_journal.specs.Past.{HostPast, State, count_of_in, replied_in, shows}
use Rattle.fam_journal.specs.Shapes.{CommandStage, Marked, ReplyShape}
use Rattle.fam_judge.specs.Fitting.{AskFits, FileFits, KindFits, QuestionFits, ReadFits, ReplyFits, VerifiedFits}
use Rattle.fam_judge.specs.Formed.{ReplyPlace}
use Rattle.fam_judge.proofs.MetReplies.{counted_marked}
use Rattle.fam_lines.specs.declared.host.SeenHost.{SeenHost}
use Rattle.fam_lines.specs.Lines.{untold_of}
use Rattle.fam_rules.specs.Asks.{File, file_at}
use Rattle.fam_rules.specs.Reply as reply
use Rattle.fam_rules.specs.Reply.{Reply}
use Rattle.fam_settled.specs.Settled.{SettledLog as Log, settled_and_pending, settled_log_state}
use Rattle.fam_settled.specs.Told.{bare_cmd}
use Rattle.fam_judging.specs.Candidates.{settled_state, stage_shape}
use Rattle.fam_judging.specs.declared.candidate.Settled.{Settled}
use Rattle.fam_judging.specs.declared.candidate.Settled.TheVariants as settled
use Rattle.fam_judging.specs.declared.candidate.Track.{Track}
use Rattle.fam_judging.specs.declared.given.GivenImage.{GivenImage}
use Rattle.fam_judging.specs.declared.lefts.Lefts.{Lefts}
use Rattle.fam_judging.specs.FoundLefts.{host_of}
use Rattle.fam_judging.specs.Lefts.{LeavesEndings, first}
use Rattle.fam_judging.specs.Replies.{Asker, EndingState, MayEnd, Point, ending_at, told_at}
use Rattle.fam_judging.specs.Going.{HasGiven}
use Rattle.fam_judging.specs.ReplyKinds.{MayMark, asker_of, damage_in, damage_of_state, ending_left, point_of}
use Rattle.fam_judging.specs.Showing.{IsShown, IsAnswerTold, ShowsAnswer, ShowsTold, shown_ending}
use Rattle.fam_judging.proofs.ReplyPlaces.{comes_marked, marked_of}
use Rattle.fam_judging.proofs.Appended.{no_left, one, the_left}

-- The table.

-- a reply of m entries fits where the question does
fits_to : (m : ℕ) (r : Reply) (host : HostPast) (s : State) → reply_class r ≡ Showing m → ReplyFits r host s ↔ QuestionFits m r host s
fits_to m (reply.Appended seq) host s e = absurd cc
fits_to m (reply.NotAppended why) host s e = absurd cc
fits_to m (reply.Played n tree) host s e = let same : n ≡ m = cc in subst (λ k. QuestionFits n (reply.Played n tree) host s ↔ QuestionFits k (reply.Played n tree) host s) same (λ is. is, λ is. is)
fits_to m (reply.Mounted n) host s e = let same : n ≡ m = cc in subst (λ k. QuestionFits n (reply.Mounted n) host s ↔ QuestionFits k (reply.Mounted n) host s) same (λ is. is, λ is. is)
fits_to m (reply.Same n) host s e = let same : n ≡ m = cc in subst (λ k. QuestionFits n (reply.Same n) host s ↔ QuestionFits k (reply.Same n) host s) same (λ is. is, λ is. is)
fits_to m (reply.Differs n o f w) host s e = let same : n ≡ m = cc in subst (λ k. QuestionFits n (reply.Differs n o f w) host s ↔ QuestionFits k (reply.Differs n o f w) host s) same
    (λ is. is, λ is. is)
fits_to m (reply.Length n o w) host s e = let same : n ≡ m = cc in subst (λ k. QuestionFits n (reply.Length n o w) host s ↔ QuestionFits k (reply.Length n o w) host s) same (λ is. is, λ is. is)
fits_to m (reply.Bytes n b) host s e = let same : n ≡ m = cc in subst (λ k. QuestionFits n (reply.Bytes n b) host s ↔ QuestionFits k (reply.Bytes n b) host s) same (λ is. is, λ is. is)
fits_to m (reply.NotFound n) host s e = let same : n ≡ m = cc in subst (λ k. QuestionFits n (reply.NotFound n) host s ↔ QuestionFits k (reply.NotFound n) host s) same (λ is. is, λ is. is)
fits_to m (reply.IsDirectory n) host s e = let same : n ≡ m = cc in subst (λ k. QuestionFits n (reply.IsDirectory n) host s ↔ QuestionFits k (reply.IsDirectory n) host s) same (λ is. is, λ is. is)
fits_to m (reply.Checks n c) host s e = let same : n ≡ m = cc in subst (λ k. QuestionFits n (reply.Checks n c) host s ↔ QuestionFits k (reply.Checks n c) host s) same (λ is. is, λ is. is)
fits_to m (reply.Reports report) host s e = absurd cc
fits_to m (reply.NoSuperblock fault) host s e = absurd cc
fits_to m (reply.BadHeader fault) host s e = absurd cc
fits_to m (reply.BadSlot i why) host s e = absurd cc

shows_place : (m : ℕ) (r : Reply) (c : Cmd) (stage : CommandStage) → reply_class r ≡ Showing m → ReplyPlace c stage r
shows_place m (reply.Appended seq) c stage e = tt
shows_place m (reply.NotAppended why) c stage e = absurd cc
shows_place m (reply.Reports report) c stage e = absurd cc
shows_place m (reply.NoSuperblock fault) c stage e = tt
shows_place m (reply.BadHeader fault) c stage e = absurd cc
shows_place m (reply.BadSlot i why) c stage e = absurd cc
shows_place m r c stage e = tt

verified_shape : (me : List ℕ) (m : ℕ) (path : List ℕ) (bytes : List ℕ) (against : Content) (r : Reply) → VerifiedFits m bytes against r → ReplyShape me (cmd.Verify path against) Marked r
verified_shape me m path bytes against (reply.Same n) is = (tt, refl)
verified_shape me m path bytes against (reply.Differs n o f w) is = (tt, refl)
verified_shape me m path bytes against (reply.Length n o w) is = (tt, refl)
verified_shape me m path bytes against r is = absurd is

-- a command is asked what it is answered
pub ask_shape : (files : List File) (me : List ℕ) (c : Cmd) (r : Reply) → AskFits files c r → ReplyShape me c Marked r
ask_shape files me cmd.Logplay r is = subst (ReplyShape me cmd.Logplay Marked) (same_Some _ r is) (refl, refl)
ask_shape files me cmd.Mount r is = subst (ReplyShape me cmd.Mount Marked) (same_Some _ r is) (refl, refl)
ask_shape files me (cmd.Mkdir path attr) r is = absurd is
ask_shape files me (cmd.Creat path size attr stripe fill) r is = absurd is
ask_shape files me (cmd.Cp path attr stripe bytes) r is = absurd is
ask_shape files me (cmd.Verify path against) r is = by (file_at files path) is
  where
    by_kind : (f : File) (k : Kind) → KindFits (length files) k r (VerifiedFits (length files) f.bytes against r) → ReplyShape me (cmd.Verify path against) Marked r
    by_kind f kind.Directory is = subst (ReplyShape me (cmd.Verify path against) Marked) (sym is) (inl tt, refl)
    by_kind f kind.File is = verified_shape me (length files) path f.bytes against r is

    by : (o : Option File) → FileFits (length files) o r (λ bytes. VerifiedFits (length files) bytes against r) → ReplyShape me (cmd.Verify path against) Marked r
    by None is = subst (ReplyShape me (cmd.Verify path against) Marked) (sym is) (inl tt, refl)
    by (Some f) is = by_kind f f.entry.kind is
ask_shape files me (cmd.Read path offset count) r is = by (file_at files path) is
  where
    by_kind : (f : File) (k : Kind) → KindFits (length files) k r (ReadFits (length files) f.bytes offset count r) → ReplyShape me (cmd.Read path offset count) Marked r
    by_kind f kind.Directory is = subst (ReplyShape me (cmd.Read path offset count) Marked) (sym is) (inr tt, refl)
    by_kind f kind.File is = subst (ReplyShape me (cmd.Read path offset count) Marked) (sym is.1) (tt, refl)

    by : (o : Option File) → FileFits (length files) o r (λ bytes. ReadFits (length files) bytes offset count r) → ReplyShape me (cmd.Read path offset count) Marked r
    by None is = subst (ReplyShape me (cmd.Read path offset count) Marked) (sym is) (inr tt, refl)
    by (Some f) is = by_kind f f.entry.kind is
ask_shape files me (cmd.Check listing) r is = subst (ReplyShape me (cmd.Check listing) Marked) (sym is.1) (tt, refl)
ask_shape files me cmd.Fsck r is = absurd is

question_shape : (m : ℕ) (who : Asker) (at : Point) (r : Reply) (s : State) → QuestionFits m r (told_at who at) s → ReplyShape who.uuid who.cmd Marked r
question_shape m who at r (past.Bad origin damage gate) is = absurd is
question_shape m who at r (past.Sound p history pending) is =
    subst (λ (c : Cmd). ReplyShape who.uuid c Marked r) (sym (same_Some who.cmd is.cmd is.told)) (ask_shape (take m (past.with_pending history pending)) who.uuid is.cmd r is.fits)

module _ (who : Asker) (at : Point) (e : EndingState) (m : ℕ) (r : Reply) (class : reply_class r ≡ Showing m) where
  at_mark : Point
  at_mark = record at { stage = Marked }

  left : (now : Point) → now ≡ record at { stage = Marked } → ending_at r now ≡ shown_ending m at
  left now same = ap (ending_at r) same ∙ ap
      (λ (c : Rattle.fam_commands.specs.ReplyClasses.ReplyClass). let k : EndingState = record { state = replied_in c at.state; floor = at.floor; wrote = at.wrote } in k) class

  -- the first entries are shown behind the mark
  pub showing : MayEnd who at r e → ShowsAnswer who at m r × (e ≡ shown_ending m at)
  showing ends =
      let stage = counted_marked who.uuid who.cmd ends.now.stage r m ends.answered.shape (ap count_of_in class) in
      let here = marked_of who at ends.now ends.reached stage in (
        record {
          marks = here.0;
          fits = (fits_to m r (told_at who at) at.state class).0 (subst (λ (p : Point). ReplyFits r (told_at who p) p.state) here.1 ends.answered.fits);
        },
        ends.is ∙ left ends.now here.1,
      )

  -- and where they may be, they are
  pub shows_ends : ShowsAnswer who at m r → e ≡ shown_ending m at → MayEnd who at r e
  shows_ends is same = record {
    now = record at { stage = Marked };
    reached = comes_marked who at _ is.marks refl;
    answered = record {
      shape = question_shape m who at r at.state is.fits;
      place = shows_place m r who.cmd Marked class;
      fits = (fits_to m r (told_at who at) at.state class).1 is.fits;
    };
    is = same ∙ sym (left (record at { stage = Marked }) refl);
  }

-- Lefts.

-- a question of a log, as it is told
question_told : (log : Log) (m : ℕ) (seen : SeenHost) (c : ToldCommand) (t : Track) (answer : ToldAnswer) (listed : List Entry) (r : Reply) → IsAnswerTold answer listed r → untold_of c ≡ bare_cmd c
    → QuestionFits m r (host_of seen c t) (settled_log_state log) ↔ ShowsTold log m c t answer listed
question_told log m seen c t answer listed r by told = (
  λ is. record {
    floor = is.bounds.floor;
    floor_is = is.bounds.marked;
    low = is.bounds.low;
    high = is.bounds.high;
    fits = record {
      given = r;
      told = by.told;
      lines = by.lines;
      fits = subst (λ (k : Cmd). AskFits (take m (settled_and_pending log)) k r)
          (sym (same_Some (untold_of c) is.cmd is.told) ∙ told) is.fits;
    };
  },
  λ is. record {
    bounds = record { floor = is.floor; marked = is.floor_is; low = is.low; high = is.high };
    cmd = untold_of c;
    told = refl;
    fits = subst (λ (k : Cmd). AskFits (take m (settled_and_pending log)) k r) (sym told)
        (subst (λ (q : Reply). AskFits (take m (settled_and_pending log)) (bare_cmd c) q)
        (by.alone (take m (settled_and_pending log)) (bare_cmd c) is.fits.given is.fits.fits is.fits.told is.fits.lines) is.fits.fits);
  },
)

module _ (given : GivenImage) (seen : SeenHost) (c : ToldCommand) (t : Track) (m : ℕ) (r : Reply) (class : reply_class r ≡ Showing m) where
  -- where nothing is shown nothing is left
  pub none_left : (s : Settled) → ((start : Image) → HasGiven start given s → ShowsAnswer (asker_of seen c) (point_of start s t) m r → ⊥) → LeavesEndings given seen c s t r (one None)
  none_left s none start own e =
      (λ l. absurd (no_left start e l), λ ends. absurd (none start own (showing (asker_of seen c) (point_of start s t) e m r class ends).0))

  -- nothing is shown of a damaged image
  pub damaged_leaves : (s : Settled) (d : past.Damage) → damage_in given s ≡ Some d → LeavesEndings given seen c s t r (one None)
  damaged_leaves s d is = none_left s (λ start own shows. by (told_at (asker_of seen c) (point_of start s t)) (settled_state start s) (sym
      (Rattle.fam_judging.proofs.Leaves.damage_is start given s own) ∙ is) shows.fits)
    where
      by : (host : HostPast) (s : State) → damage_of_state s ≡ Some d → QuestionFits m r host s → ⊥
      by host (past.Bad origin damage gate) is fits = fits
      by host (past.Sound p history pending) is fits = absurd cc

  -- nor behind what was found
  pub unmarked_leaves : (s : Settled) → (MayMark (stage_shape t.stage) → ⊥) → LeavesEndings given seen c s t r (one None)
  unmarked_leaves s none = none_left s (λ start own shows. none shows.marks)

  module _ (answer : ToldAnswer) (listed : List Entry) (by : IsAnswerTold answer listed r) (told : untold_of c ≡ bare_cmd c) (log : Log) where
    -- nor where the question isn't answered so
    pub other_leaves : (ShowsTold log m c t answer listed → ⊥) → LeavesEndings given seen c (settled.Log log) t r (one None)
    other_leaves none = none_left (settled.Log log) (λ start own shows. none ((question_told log m seen c t answer listed r by told).0 shows.fits))

    -- what is left where it is
    pub shown_leaves : MayMark (stage_shape t.stage) → ShowsTold log m c t answer listed → (lefts : Lefts) → IsShown log m t lefts → LeavesEndings given seen c (settled.Log log) t r lefts
    shown_leaves marks is lefts shown = subst (LeavesEndings given seen c (settled.Log log) t r) (sym shown.is) (λ start own e. (
      λ l. shows_ends (asker_of seen c) (point_of start (settled.Log log) t) e m r class
          (record { marks = marks; fits = (question_told log m seen c t answer listed r by told).1 is }) (the_left start e _ l ∙ state start),
      λ ends. first (record { settled = settled.Log shown.shown; track = t }) refl ((showing (asker_of seen c) (point_of start (settled.Log log) t) e m r class ends).1 ∙ sym (state start)),
    ))
      where
        state : (start : Image) → ending_left start (settled.Log shown.shown) t ≡ shown_ending m (point_of start (settled.Log log) t)
        state start = ap (λ (s : State). let k : EndingState = record { state = s; floor = t.floor; wrote = option_map Rattle.fam_judging.specs.Candidates.named_of t.wrote } in k) shown.state
