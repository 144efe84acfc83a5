-- logplay with a folder: the image is as it was, and the text is logplay's where no tree is shown.
use Rattle.std.proofs.Common.{◌≡◌, ◌⊎◌, inl, inr, ℕ, List, Option, Some, None, refl, ap, sym, ◌∙◌, arith}
use Rattle.fam_base.specs.declared.cmd.Cmd.TheVariants as cmd
use Rattle.fam_base.specs.Image.{Image, line_at}
use Rattle.fam_format.specs.Params.{IsUuid}
use Rattle.fam_format.specs.Reading.{Reading, NoSuperblock, BadHeader, BadSlot, Sound, reading_of}
use Rattle.fam_grammar.specs.Scripts.{script_events}
use Rattle.fam_journal.specs.declared.event.Ask.TheVariants as ask
use Rattle.fam_journal.specs.declared.refusal.Refusal.{Refusal}
use Rattle.fam_journal.specs.Laws.{IsImage}
use Rattle.fam_media.specs.Files.{Files}
use Rattle.fam_outcomes.specs.declared.status.Status.{Status}
use Rattle.fam_outcomes.specs.declared.status.Status.TheVariants as status
use Rattle.fam_outcomes.specs.Programs.{CommandRuns, EndsEarly, Single, TopEnds}
use Rattle.fam_outcomes.specs.Runs.{NoneFalls, NoneRose, Outside}
use Rattle.fam_outcomes.specs.Texts.{shown}
use Rattle.fam_program.specs.Shadows.{IsOfLogplay, IsShadeUntouched, ShadowTop, ShowsTree, logplay, takes_whole, with_sink}
use Rattle.fam_program.proofs.Commands.OfLogplay.{of_logplay}
use Rattle.fam_rules.specs.Solo.{reading_image, solo_image}
use Rattle.fam_shadow.specs.Nodes.{ShadeChange}
use Rattle.fam_storm.specs.Storm.{storm}
use Rattle.fam_whole.specs.Alone.{AnswerEnds, CommandEnds, EndsUnless, command_refusal}
use Rattle.fam_whole.proofs.Alone.{ask_ends, command_ends}
use Rattle.fam_whole.proofs.Scripts.{put_whole}
use Rattle.fam_whole.proofs.Shots.{shot_run}

-- logplay leaves the image
by_reading : (start : Image) (me : List ℕ) (r : Reading) → reading_image start me cmd.Logplay r ≡ start
by_reading start me (Sound p entries) = refl
by_reading start me (NoSuperblock fault) = refl
by_reading start me (BadHeader fault) = refl
by_reading start me (BadSlot i reason) = refl

logplay_image : (start : Image) (me : List ℕ) → solo_image start me cmd.Logplay ≡ start
unfolding solo_image
logplay_image start me = by_reading start me (reading_of (line_at start) _)

module _ (me : List ℕ) (start : Image) (files : Files) (image : IsImage start) (me_sound : IsUuid me) where
  module _ (out : Outside) (none : NoneRose out) (told_start : out.media.old.image ≡ Some start) (told : out.shelf.old.files ≡ Some files) (given : Status) where
    ends_left : CommandEnds start me cmd.Logplay out given → out.media.new.image ≡ Some start
    ends_left = by_refusal (command_refusal start)
      where
        by_refusal : (o : Option Refusal) → EndsUnless o start out given (AnswerEnds start me cmd.Logplay out given) → out.media.new.image ≡ Some start
        by_refusal (Some cause) ends = ends.left_is
        by_refusal None ends = ends.left_is ∙ ap Some (logplay_image start me)

    -- want of memory, or the rules' answer
    pub logplay_ends : TopEnds script_events storm (Some (Single me logplay)) out given → (given ≡ status.OutOfMemory) ⊎ CommandEnds start me cmd.Logplay out given
    logplay_ends top = elim (shot_run out none me logplay start files told_start told image me_sound tt script_events storm given top) [
      | inl memory ↦ inl memory
      | inr x ↦ inr (command_ends start me cmd.Logplay files out given (ask_ends start me (ask.Plain cmd.Logplay) files out given image me_sound x))
    ]

    -- the image is as it was, also where memory is wanted
    pub logplay_left : TopEnds script_events storm (Some (Single me logplay)) out given → out.media.new.image ≡ Some start
    logplay_left top = elim (logplay_ends top) [ inl memory ↦ spared top.shows (sym (put_whole out none top.own given top.text top.put).0 ∙ memory) | inr ends ↦ ends_left ends ]
      where
        spared : EndsEarly script_events storm (Some (Single me logplay)) out top.text top.own ⊎ CommandRuns script_events storm
            (Some (Single me logplay)) out given top.text top.own → top.own ≡ status.OutOfMemory → out.media.new.image ≡ Some start
        spared (inl early) memory = early.same ∙ told_start
        spared (inr x) memory = x.spares memory start told_start files told

  module _ (out : Outside) (none : NoneRose out) (later : NoneFalls out) (told_start : out.media.old.image ≡ Some start)
      (told : out.shelf.old.files ≡ Some files) (shade : ShadeChange) (given : Status) where
    -- another sink, which didn't fail
    none_with : (text : List ℕ) → NoneRose (with_sink (takes_whole text out.sink.old) out)
    none_with text = record {
      media = none.media;
      shelf = none.shelf;
      shorts = none.shorts;
      sink = λ rose. none.sink (let falls = later.sink in omega (arith, rose, falls));
    }

    image_left : IsOfLogplay me out shade given → out.media.new.image ≡ Some start
    image_left (inl x) = logplay_left (with_sink (takes_whole (shown x.journal) out.sink.old) out) (none_with (shown x.journal)) told_start told _ x.ends
    image_left (inr x) = logplay_left out none told_start told given x.0

    text_put : IsOfLogplay me out shade given → (given ≡ status.OutOfMemory) ⊎ ShowsTree me out shade given ⊎ (CommandEnds start me cmd.Logplay out given × IsShadeUntouched shade)
    text_put (inl x) = inr (inl x)
    text_put (inr x) = elim (logplay_ends out none told_start told given x.0) [ inl memory ↦ inl memory | inr ends ↦ inr (inr (ends, x.1)) ]

    -- by the clause of the call
    pub shadow_image : ShadowTop (Some me) out shade given → out.media.new.image ≡ Some start
    shadow_image top = image_left (of_logplay me out shade given top)

    -- and what is put
    pub shadow_text : ShadowTop (Some me) out shade given → (given ≡ status.OutOfMemory) ⊎ ShowsTree me out shade given ⊎ (CommandEnds start me cmd.Logplay out given × IsShadeUntouched shade)
    shadow_text top = text_put (of_logplay me out shade given top)
