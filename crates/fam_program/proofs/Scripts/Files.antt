-- The script of a file: what isn't run, and a run behind the reading.
use Rattle.std.proofs.Common.{◌≡◌, ℕ, ◌≤◌, inl, inr, List, [], Option, Some, refl, sym, ◌∙◌, arith}
use Rattle.fam_base.specs.Image.{Image}
use Rattle.fam_media.specs.States.{ShelfChange, SinkChange}
use Rattle.fam_sources.specs.declared.sourced.SourceEnd.TheVariants as end
use Rattle.fam_journal.specs.declared.event.Event.{Event}
use Rattle.fam_outcomes.specs.declared.status.Status.{Status}
use Rattle.fam_journal.specs.Ends.{AllDone, Ending, SourceFails}
use Rattle.fam_journal.specs.Follows.{Faulted, Short}
use Rattle.fam_journal.specs.Notes.{Note}
use Rattle.fam_outcomes.specs.Programs.{Early, EarlyOutOfMemory, IsEarly, PutsTold, Script, TopEnds, early_status, early_text}
use Rattle.fam_outcomes.specs.Runs.{IsCaused, NoneFalls, Outside}
use Rattle.fam_grammar.specs.Scripts.{script_events}
use Rattle.fam_storm.specs.Storm.{storm}
use Rattle.fam_program.specs.declared.fault.ScriptFault.{ScriptFault}
use Rattle.fam_program.specs.declared.fault.ScriptFault.TheVariants.{BadLine, Ended, NoFile, OutOfMemory, TooLong}
use Rattle.fam_program.specs.Files.{HoldsEvents, IsUnread, PutsEarly, early_of}
use Rattle.fam_program.specs.Puts.{Put}
use Rattle.fam_program.specs.Scripts.{ScriptRan}
use Rattle.fam_program.proofs.Runs.Ends.{risen}
use Rattle.fam_program.proofs.Texts.Pieces.{IsOwn, nothing_put, put_both}

-- No event is run.
module _ (shelf : ShelfChange) (s : SinkChange) (name : List ℕ) (lines faults : ℕ) (image : Option Image) where
  abbrev unrun : Outside
  unrun = record {
    lines = lines;
    media = record { old = record { image = image; faults = faults }; new = record { image = image; faults = faults } };
    shelf = shelf;
    sink = s;
  }

  early_is : (fault : ScriptFault) → IsUnread shelf name fault → IsEarly script_events storm (Some (Script name)) unrun (early_of name fault)
  early_is NoFile none = (refl, none)
  early_is (TooLong size) long = long
  early_is (Ended end.Faulted) x = risen shelf.old.faults shelf.new.faults x.0
  early_is (Ended (end.Short size got)) x = ((risen shelf.old.shorts shelf.new.shorts x.0.0, x.0.1), x.1.0, x.1.1)
  early_is (BadLine line column) x = record { bytes = x.bytes; holds = x.holds.1; within = x.holds.0; bad = x.bad }
  early_is OutOfMemory x = tt

  early_own : (fault : ScriptFault) → IsOwn (early_status (early_of name fault))
  early_own NoFile e = absurd cc
  early_own c e = absurd cc

  module _ (falls : NoneFalls unrun) (given : Status) where
    early_top : (early : Early) → IsOwn (early_status early) → IsEarly script_events storm (Some (Script name)) unrun early
        → Put (early_status early) (early_text early) s given → TopEnds script_events storm (Some (Script name)) unrun given
    early_top early own is put = record {
      text = early_text early;
      own = early_status early;
      shows = inl record { early = early; is = is; text_is = refl; status_is = refl; same = refl };
      later = falls;
      put = put_both unrun [] (early_text early) s refl refl (omega arith) (nothing_put s.old.bytes) (early_status early) given own put;
    }

    pub early_ends : (fault : ScriptFault) → IsUnread shelf name fault → PutsEarly (early_of name fault) s given → TopEnds script_events storm (Some (Script name)) unrun given
    early_ends fault unread (inl put) = early_top (early_of name fault) (early_own fault) (early_is fault unread) put
    early_ends fault unread (inr put) = early_top EarlyOutOfMemory (early_own OutOfMemory) tt put

-- A run, from before the shelf's reading: its counts were no higher then.
module _ (out : Outside) (shelf shorts : ℕ) (shelf_before : shelf ≤ out.shelf.old.faults) (shorts_before : shorts ≤ out.shelf.old.shorts) where
  abbrev before : Outside
  before = record out { shelf = record { old = record { files = out.shelf.old.files; faults = shelf; shorts = shorts }; new = out.shelf.new } }

  caused_before : (ending : Ending) (events : List Event) (journal : List Note) → IsCaused ending events journal out → IsCaused ending events journal before
  caused_before (SourceFails Faulted) events journal x = omega (arith, x, shelf_before)
  caused_before (SourceFails (Short size got)) events journal x = (let rose = x.0 in omega (arith, rose, shorts_before), x.1)
  caused_before e events journal x = x

  told_before : (ending : Ending) (events : List Event) (journal : List Note) → PutsTold ending events journal out → PutsTold ending events journal before
  told_before AllDone events journal x = x
  told_before e events journal x = x

  pub ran_before : (events : List Event) (given : Status) → ScriptRan events out given → ScriptRan events before given
  ran_before events given x = record {
    text = x.text;
    own = x.own;
    ending = x.ending;
    run = record {
      journal = x.run.journal;
      named = x.run.named;
      shape = x.run.shape;
      counted = x.run.counted;
      caused = caused_before x.ending events x.run.journal x.run.caused;
      text_is = x.run.text_is;
      status_is = x.run.status_is;
      told = x.run.told;
    };
    whole = x.whole;
    each = told_before x.ending events x.run.journal x.each;
    put = record { outcome = x.put.outcome; rose = x.put.rose };
  }

-- the run of a script's events
pub script_ends : (shelf : ShelfChange) (name : List ℕ) (out : Outside) (events : List Event) (given : Status) → out.shelf.old.files ≡ shelf.old.files
    → HoldsEvents shelf name events → NoneFalls out → ScriptRan events out given → TopEnds script_events storm (Some (Script name)) out given
script_ends shelf name out events given files_are holds falls x = record {
  text = x.text;
  own = x.own;
  shows = inr record {
    ending = x.ending;
    events = events;
    bytes = holds.bytes;
    holds = λ files at. holds.holds.1 files (sym files_are ∙ at);
    within = holds.holds.0;
    reads = holds.reads;
    run = x.run;
    whole = x.whole;
    each = x.each;
  };
  later = falls;
  put = x.put;
}
