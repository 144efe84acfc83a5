-- logplay with a folder for the tree's shadow, as its clause tells it.
use Rattle.std.proofs.Common.{◌≡◌, ◌⊎◌, ℕ, List, Option, Some, None, Result, Ok, Err, inl, inr, refl, ap, sym, subst, take}
use Rattle.std.specs.Prelude.{IfErr, OnOk, IsOk, option_map}
use Rattle.fam_format.specs.Tree.{Tree}
use Rattle.fam_grammar.specs.Scripts.{script_events}
use Rattle.fam_shadow.specs.declared.fault.ShadowFault.{ShadowFault}
use Rattle.fam_shadow.specs.declared.fault.ShadowFault.TheVariants as why
use Rattle.fam_shadow.specs.Calls.{CallsMade}
use Rattle.fam_shadow.specs.Shadows.{NodesBecome, FaultCaused, ShadowEnds}
use Rattle.fam_storm.specs.Storm.{storm}
use Rattle.fam_outcomes.specs.declared.status.Status.{Status}
use Rattle.fam_outcomes.specs.declared.status.Status.TheVariants as status
use Rattle.fam_journal.specs.Notes.{Note}
use Rattle.fam_outcomes.specs.Programs.{Early, EarlyOutOfMemory, IsEarly, NoCommand, Single, early_status, early_text, memory_line, usage_line}
use Rattle.fam_outcomes.specs.Runs.{NoneFalls, Outside}
use Rattle.fam_outcomes.specs.Statuses.{last_status}
use Rattle.fam_events.specs.declared.fault.EventFault.{EventFault}
use Rattle.fam_program.specs.Puts.{Put}
use Rattle.fam_program.specs.Unprinted.{HasStopped, MayLack, ShotEnded}
use Rattle.fam_shadow.specs.Nodes.{ShadeChange}
use Rattle.fam_program.specs.Shadows.{IsShadeUntouched, ShadowTop, logplay, shadow_status, shadow_text, shown_tree}
use Rattle.fam_program.specs.Shots.{ShotSays}
use Rattle.fam_program.proofs.Commands.TopEnds.{SparedRun, shot_ran, stopped_whole}
use Rattle.fam_program.proofs.Commands.Events.{alone_events}
use Rattle.fam_program.proofs.Texts.Pieces.{IsOwn}
use Rattle.fam_program.proofs.Runs.OneText.{memory_own, put_alone}

shadow_own : (written : Result (Unit {0}) ShadowFault) → IsOwn (shadow_status written)
shadow_own (Ok x) e = absurd cc
shadow_own (Err (why.Clash name)) e = absurd cc
shadow_own (Err (why.ShadeFault name)) e = absurd cc
shadow_own (Err why.OutOfMemory) e = absurd cc

usage_own : IsOwn status.Usage
usage_own e = absurd cc

module _ (out : Outside) (shade : ShadeChange) (given : Status) (later : NoneFalls out) where
  -- no event was run
  module _ (asked : Option (List ℕ)) (same : out.media.new.image ≡ out.media.old.image) (untouched : IsShadeUntouched shade) where
    early : (cause : Early) → IsEarly script_events storm (option_map (λ me. Single me logplay) asked) out cause → IsOwn (early_status cause)
        → Put (early_status cause) (early_text cause) out.sink given → ShadowTop asked out shade given
    early cause is own put = record {
      text = early_text cause;
      own = early_status cause;
      shows = inl record { early = record { early = cause; is = is; text_is = refl; status_is = refl; same = same }; untouched = untouched };
      later = later;
      put = put_alone out (early_text cause) (early_status cause) given own put;
    }

    pub shadow_wants : Put status.OutOfMemory memory_line out.sink given → ShadowTop asked out shade given
    shadow_wants put = early EarlyOutOfMemory tt memory_own put

    pub no_shadow : asked ≡ None → Put status.Usage usage_line out.sink given → ShadowTop asked out shade given
    no_shadow none put = early NoCommand (ap (option_map (λ me. Single me logplay)) none) usage_own put

  module _ (name me : List ℕ) (journal : List Note) where
    -- the tree that was shown
    shadowed : HasStopped out (alone_events name me logplay) journal → (m : ℕ) (tree : Tree) → shown_tree journal ≡ Some (m, tree) → (written : Result (Unit {0}) ShadowFault)
        → NodesBecome shade.old.nodes shade.new.nodes (ShadowEnds tree written) → IfErr written (FaultCaused tree shade.old.faults shade.new.faults) → CallsMade tree shade written
        → Put (shadow_status written) (shadow_text m written) out.sink given ⊎ Put status.OutOfMemory memory_line out.sink given → ShadowTop (Some me) out shade given
    shadowed x m tree shown written becomes caused calls (inl put) = record {
      text = shadow_text m written;
      own = shadow_status written;
      shows = inr (inl record {
        events = take x.count (alone_events name me logplay);
        journal = journal;
        ended = x.ended;
        whole =
            stopped_whole name me logplay out journal x;
        m = m;
        tree = tree;
        shown = shown;
        written = written;
        becomes = becomes;
        caused = caused;
        calls = calls;
        says = inl (refl, refl);
      });
      later = later;
      put = put_alone out (shadow_text m written) (shadow_status written) given (shadow_own written) put;
    }
    shadowed x m tree shown written becomes caused calls (inr put) = record {
      text = memory_line;
      own = status.OutOfMemory;
      shows = inr (inl record {
        events = take x.count (alone_events name me logplay);
        journal = journal;
        ended = x.ended;
        whole =
            stopped_whole name me logplay out journal x;
        m = m;
        tree = tree;
        shown = shown;
        written = written;
        becomes = becomes;
        caused = caused;
        calls = calls;
        says = inr (refl, refl);
      });
      later = later;
      put = put_alone out memory_line status.OutOfMemory given memory_own put;
    }

    pub shadowed_top : (ended : Result (Unit {0}) EventFault) → ShotEnded ended out (alone_events name me logplay) journal → IsOk ended
        → (m : ℕ) (tree : Tree) → shown_tree journal ≡ Some (m, tree) → (written : Result (Unit {0}) ShadowFault)
        → NodesBecome shade.old.nodes shade.new.nodes (ShadowEnds tree written) → IfErr written (FaultCaused tree shade.old.faults shade.new.faults) → CallsMade tree shade written
        → Put (shadow_status written) (shadow_text m written) out.sink given ⊎ Put status.OutOfMemory memory_line out.sink given → ShadowTop (Some me) out shade given
    shadowed_top (Ok done) x ok = shadowed x
    shadowed_top (Err fault) x ok = absurd (cc (ok))

    -- logplay's own answer
    pub logplayed_top : (ended : Result (Unit {0}) EventFault) → SparedRun logplay out (MayLack ended journal)
        → ShotEnded ended out (alone_events name me logplay) journal → ShotSays ended (last_status journal) journal out.sink given
        → OnOk ended (shown_tree journal ≡ None) → IsShadeUntouched shade → ShadowTop (Some me) out shade given
    logplayed_top ended spared x says none untouched =
        let run = shot_ran name me out journal given (shown_tree journal ≡ None) logplay tt ended spared x says none in
        record {
          text = run.text;
          own = run.own;
          shows = inr (inr record { runs = run.runs; none = λ e. subst (λ (j : List Note). shown_tree j ≡ None) (sym run.same) (run.known e); untouched = untouched });
          later = later;
          put = run.put;
        }
