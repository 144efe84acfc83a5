-- logplay with a folder, beside logplay by itself.
use Rattle.std.proofs.Common.{◌≡◌, ◌⊎◌, ℕ, true, List, [], ◌∷◌, Some, inl, inr, refl, arith}
use Rattle.fam_format.specs.Tree.{Tree}
use Rattle.fam_journal.specs.Ends.{AllDone}
use Rattle.fam_journal.specs.NoteClasses.{NoteClass, note_class, Declared, Formatted, Going, Answering, Refusing}
use Rattle.fam_journal.specs.Notes.{Note}
use Rattle.fam_outcomes.specs.declared.status.Status.{Status}
use Rattle.fam_outcomes.specs.Programs.{ends_command, ends_command_in, last_passes}
use Rattle.fam_outcomes.specs.Runs.{IsPut, NoneFalls, Outside}
use Rattle.fam_outcomes.specs.Statuses.{last_status}
use Rattle.fam_outcomes.specs.Texts.{shown}
use Rattle.fam_shadow.specs.Nodes.{ShadeChange}
use Rattle.fam_program.specs.Shadows.{HasShadowed, IsOfLogplay, ShadowEarly, ShadowRuns, ShadowTop, logplay, shown_tree, takes_whole, tree_in_in, with_sink}
use Rattle.fam_program.proofs.Commands.TopEnds.{done_own, done_spares}

-- a note that shows a tree is an answer
is_answer : (class : NoteClass) (tree : ℕ × Tree) → tree_in_in class ≡ Some tree → ends_command_in class ≡ true
is_answer (Declared name uuid) tree is = absurd cc
is_answer (Formatted host p) tree is = absurd cc
is_answer (Going host) tree is = absurd cc
is_answer (Answering host answer) tree is = refl
is_answer (Refusing name cause) tree is = absurd cc

is_answered : (journal : List Note) (tree : ℕ × Tree) → shown_tree journal ≡ Some tree → last_passes ends_command journal ≡ true
is_answered [] tree is = absurd cc
is_answered (note ∷ []) tree is = is_answer (note_class note) tree is
is_answered (note ∷ next ∷ notes) tree is = is_answered (next ∷ notes) tree is

module _ (me : List ℕ) (out : Outside) (shade : ShadeChange) (given : Status) (later : NoneFalls out) where
  module _ (text : List ℕ) (own : Status) (put : IsPut own given text out) where
    with_tree : HasShadowed me out shade text own → IsOfLogplay me out shade given
    with_tree x = inl record {
      journal = x.journal;
      ends = record {
        text = shown x.journal;
        own = last_status x.journal;
        shows = inr record {
          ending = AllDone;
          events = x.events;
          run = record {
            journal = x.journal;
            named = x.ended.named;
            shape = x.ended.shape;
            counted = x.ended.counted;
            caused = tt;
            text_is = (x.whole, (is_answered x.journal (x.m, x.tree) x.shown, refl));
            status_is = refl;
            told = x.ended.told;
          };
          spares = done_spares logplay x.journal (with_sink (takes_whole (shown x.journal) out.sink.old) out);
        };
        later = record { media = later.media; shelf = later.shelf; shorts = later.shorts; sink = omega arith };
        put = record { outcome = inl (refl, refl); rose = λ e. absurd (done_own logplay x.journal e) };
      };
      puts = refl;
      m = x.m;
      tree = x.tree;
      shows = x.shown;
      written = x.written;
      becomes = x.becomes;
      calls = x.calls;
      text = text;
      own = own;
      says = x.says;
      put = put;
    }

    by_shows : ShadowEarly (Some me) out shade text own ⊎ ShadowRuns (Some me) out shade text own → IsOfLogplay me out shade given
    by_shows (inl x) = inr (record { text = text; own = own; shows = inl x.early; later = later; put = put }, x.untouched)
    by_shows (inr (inl x)) = with_tree x
    by_shows (inr (inr x)) = inr (record { text = text; own = own; shows = inr x.runs; later = later; put = put }, x.untouched)

-- what the clause tells
pub of_logplay : (me : List ℕ) (out : Outside) (shade : ShadeChange) (given : Status) → ShadowTop (Some me) out shade given → IsOfLogplay me out shade given
of_logplay me out shade given top = by_shows me out shade given top.later top.text top.own top.put top.shows
