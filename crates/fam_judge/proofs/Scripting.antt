-- What stands in the asks of a script is within the limits, since no text has a listing in an ask. So a script's journal is explained.
use Rattle.std.proofs.Common.{◌≡◌, ℕ, ◌+◌, Bool, true, false, List, [], ◌∷◌, Option, Some, None, Ok, Err, refl, subst}
use Rattle.std.specs.Prelude.{⊤, Result, codes, if◌then◌else◌, option_map}
use Rattle.std.specs.Str.{bytes_eq}
use Rattle.std.proofs.lemmas.Option.{same_Some}
use Rattle.fam_base.specs.declared.cmd.Cmd.TheVariants as cmd
use Rattle.fam_base.specs.declared.cmd.Content.TheVariants as content
use Rattle.fam_grammar.proofs.SoundLaw.{Holds, behind, ends_holds, line_sound, then_holds, word_holds}
use Rattle.fam_grammar.specs.declared.keywords.CommandWord.{CommandWord}
use Rattle.fam_grammar.specs.declared.keywords.CommandWord.TheVariants as command
use Rattle.fam_grammar.specs.Keywords.{command_word, event_word}
use Rattle.fam_grammar.specs.Lines.{against_line, against_of, ask_behind, ask_line, begin_line, cp_takes, creat_takes, event_behind, event_line, evict_line, fetch_line, host_line, leak_line, mkdir_takes, mkfs_line, name_line, run_line, step_line, steps_line}
use Rattle.fam_grammar.specs.Numbers.{number_of_text, size_of_text}
use Rattle.fam_grammar.specs.Options.{file_options, keyed, mkfs_options, no_file_options, no_mkfs_options}
use Rattle.fam_grammar.specs.Reading.{Misfit, Reading, Reads, ends_with, fitting_word, then_reads, word_of}
use Rattle.fam_grammar.specs.Scripts.{LineReading, end_of_line, event_or_column, events_from, is_comment, line_of_words, line_reads, lines_of, script_events, with_line, words_in}
use Rattle.fam_grammar.specs.Sound.{IsSoundEvent}
use Rattle.fam_grammar.specs.Spellings.{count_of, file_of, mask_of, name_of, path_of, steps_of, uuid_of, value_behind}
use Rattle.fam_grammar.specs.Words.{Word}
use Rattle.fam_journal.specs.declared.event.Ask.{Ask}
use Rattle.fam_journal.specs.declared.event.Ask.TheVariants as ask
use Rattle.fam_journal.specs.declared.event.Event.{Event}
use Rattle.fam_journal.specs.declared.event.Event.TheVariants as event
use Rattle.fam_judge.specs.Asks.{AskSoundCommands, AsksSoundCommand, HasListedAsk}

-- Asks.

against_listed : (path text : List ℕ) (x : Ask) → against_of path text ≡ Some x → HasListedAsk x
against_listed path text x is = by_seed (value_behind (codes "seed=") text) (value_behind (codes "source=") text) is
  where
    seeded : (o : Option ℕ) → option_map (λ seed. ask.Plain (cmd.Verify path (content.Seed seed))) o ≡ Some x → HasListedAsk x
    seeded None is = absurd cc
    seeded (Some seed) is = subst HasListedAsk (same_Some _ x is) (λ entries e. absurd cc)

    sourced : (o : Option (List ℕ)) → option_map (λ source. ask.VerifySource path source) o ≡ Some x → HasListedAsk x
    sourced None is = absurd cc
    sourced (Some source) is = subst HasListedAsk (same_Some _ x is) tt

    by_source : (v : Option (List ℕ)) → keyed v (λ v. option_map (λ source. ask.VerifySource path source) (file_of v)) None ≡ Some x → HasListedAsk x
    by_source None is = absurd cc
    by_source (Some v) is = sourced (file_of v) is

    by_seed : (v w : Option (List ℕ))
        → keyed v (λ v. option_map (λ seed. ask.Plain (cmd.Verify path (content.Seed seed))) (number_of_text v))
        (keyed w (λ v. option_map (λ source. ask.VerifySource path source) (file_of v)) None) ≡ Some x → HasListedAsk x
    by_seed None w is = by_source w is
    by_seed (Some v) w is = seeded (number_of_text v) is

verify_listed : (end : ℕ) (path : List ℕ) (words : List Word) → Holds HasListedAsk (against_line end path words)
verify_listed end path [] = λ entries e. absurd cc
verify_listed end path (w ∷ words) =
    then_holds HasListedAsk HasListedAsk (word_of (against_of path) end (w ∷ words)) ends_with
    (word_holds HasListedAsk (against_of path) end (w ∷ words) (against_listed path)) (λ x rest listed. ends_holds HasListedAsk x rest listed)

behind_listed : (end : ℕ) (name : CommandWord) (words : List Word) → Holds HasListedAsk (ask_behind end name words)
behind_listed end command.Logplay words = ends_holds HasListedAsk _ words (λ entries e. absurd cc)
behind_listed end command.Mount words = ends_holds HasListedAsk _ words (λ entries e. absurd cc)
behind_listed end command.Fsck words = ends_holds HasListedAsk _ words (λ entries e. absurd cc)
behind_listed end command.Mkdir words =
    behind HasListedAsk (word_of path_of end words) _ (λ path rest.
    behind HasListedAsk (file_options mkdir_takes no_file_options rest) _ (λ o none entries e. absurd cc))
behind_listed end command.Creat words =
    behind HasListedAsk (word_of path_of end words) _ (λ path rest.
    behind HasListedAsk (word_of size_of_text end rest) _ (λ size rest.
    behind HasListedAsk (file_options creat_takes no_file_options rest) _ (λ o none entries e. absurd cc)))
behind_listed end command.Cp words =
    behind HasListedAsk (word_of file_of end words) _ (λ source rest.
    behind HasListedAsk (word_of path_of end rest) _ (λ path rest.
    behind HasListedAsk (file_options cp_takes no_file_options rest) _ (λ o none. tt)))
behind_listed end command.Verify words = behind HasListedAsk (word_of path_of end words) _ (λ path rest. verify_listed end path rest)
behind_listed end command.Read words =
    behind HasListedAsk (word_of path_of end words) _ (λ path rest.
    behind HasListedAsk (word_of number_of_text end rest) _ (λ offset rest.
    behind HasListedAsk (word_of count_of end rest) _ (λ count rest. ends_holds HasListedAsk _ rest (λ entries e. absurd cc))))
behind_listed end command.Check words = behind HasListedAsk (word_of file_of end words) _ (λ source rest. ends_holds HasListedAsk _ rest tt)

ask_listed : (end : ℕ) (words : List Word) → Holds HasListedAsk (ask_line end words)
unfolding ask_line
ask_listed end words = behind HasListedAsk (word_of command_word end words) _ (λ name rest. behind_listed end name rest)

-- Events.

-- so of an event's ask
abbrev HasListedEvent : Event → Type 0
HasListedEvent (event.Begin name what) = HasListedAsk what
HasListedEvent (event.Run name what) = HasListedAsk what
HasListedEvent other = ⊤

steps_listed : (end : ℕ) (name : List ℕ) (words : List Word) → Holds HasListedEvent (steps_line end name words)
steps_listed end name [] = tt
steps_listed end name (w ∷ words) = behind HasListedEvent (word_of steps_of end (w ∷ words)) _ (λ count rest. ends_holds HasListedEvent _ rest tt)

module _ (end : ℕ) (words : List Word) where
  -- a name, and words of which nothing is asked
  named_listed : (made : List ℕ → Event) → ((name : List ℕ) → HasListedEvent (made name)) → Holds HasListedEvent (name_line made end words)
  named_listed made each = behind HasListedEvent (word_of name_of end words) _ (λ name rest. ends_holds HasListedEvent _ rest (each name))

  host_listed : Holds HasListedEvent (host_line end words)
  host_listed =
      behind HasListedEvent (word_of name_of end words) _ (λ name rest. behind HasListedEvent (word_of uuid_of end rest) _ (λ uuid rest. ends_holds HasListedEvent _ rest tt))

  mkfs_listed : Holds HasListedEvent (mkfs_line end words)
  mkfs_listed =
      behind HasListedEvent (word_of name_of end words) _ (λ name rest.
      behind HasListedEvent (word_of uuid_of end rest) _ (λ fs rest. behind HasListedEvent (mkfs_options no_mkfs_options rest) _ (λ o none. tt)))

  begin_listed : Holds HasListedEvent (begin_line end words)
  begin_listed =
      behind HasListedEvent (word_of name_of end words) _ (λ name rest.
      then_holds HasListedAsk HasListedEvent (ask_line end rest) _ (ask_listed end rest) (λ asked none listed. listed))

  run_listed : Holds HasListedEvent (run_line end words)
  run_listed =
      behind HasListedEvent (word_of name_of end words) _ (λ name rest.
      then_holds HasListedAsk HasListedEvent (ask_line end rest) _ (ask_listed end rest) (λ asked none listed. listed))

  step_listed : Holds HasListedEvent (step_line end words)
  step_listed = behind HasListedEvent (word_of name_of end words) _ (λ name rest. steps_listed end name rest)

  evict_listed : Holds HasListedEvent (evict_line end words)
  evict_listed =
      behind HasListedEvent (word_of name_of end words) _ (λ name rest. behind HasListedEvent (word_of number_of_text end rest) _ (λ at rest. ends_holds HasListedEvent _ rest tt))

  leak_listed : Holds HasListedEvent (leak_line end words)
  leak_listed =
      behind HasListedEvent (word_of name_of end words) _ (λ name rest.
      behind HasListedEvent (word_of number_of_text end rest) _ (λ at rest. behind HasListedEvent (word_of mask_of end rest) _ (λ mask rest. ends_holds HasListedEvent _ rest tt)))

  fetch_listed : Holds HasListedEvent (fetch_line end words)
  fetch_listed =
      behind HasListedEvent (word_of name_of end words) _ (λ name rest.
      behind HasListedEvent (word_of number_of_text end rest) _ (λ at rest. behind HasListedEvent (word_of mask_of end rest) _ (λ mask rest. ends_holds HasListedEvent _ rest tt)))

-- what comes behind the name of an event, if it is one
abbrev BehindName : {A : Type 0} → (A → List Word → Reading Event) → ℕ → List Word → Option A → Type 0
BehindName next column words o = Holds HasListedEvent (then_reads (fitting_word o column words) next)

event_listed : (end : ℕ) (words : List Word) → Holds HasListedEvent (event_line end words)
unfolding event_line event_word
event_listed end [] = tt
event_listed end (w ∷ words) =
    by_test (event_behind end) (bytes_eq w.text (codes "host")) _ _ (host_listed end words)
    (by_test (event_behind end) (bytes_eq w.text (codes "mkfs")) _ _ (mkfs_listed end words)
    (by_test (event_behind end) (bytes_eq w.text (codes "begin")) _ _ (begin_listed end words)
    (by_test (event_behind end) (bytes_eq w.text (codes "run")) _ _ (run_listed end words)
    (by_test (event_behind end) (bytes_eq w.text (codes "step")) _ _ (step_listed end words)
    (by_test (event_behind end) (bytes_eq w.text (codes "finish")) _ _ (named_listed end words event.Finish (λ name. tt))
    (by_test (event_behind end) (bytes_eq w.text (codes "stop")) _ _ (named_listed end words event.Stop (λ name. tt))
    (by_test (event_behind end) (bytes_eq w.text (codes "halt")) _ _ (named_listed end words event.Halt (λ name. tt))
    (by_test (event_behind end) (bytes_eq w.text (codes "umount")) _ _ (named_listed end words event.Umount (λ name. tt))
    (by_test (event_behind end) (bytes_eq w.text (codes "evict")) _ _ (evict_listed end words)
    (by_test (event_behind end) (bytes_eq w.text (codes "leak")) _ _ (leak_listed end words)
    (by_test (event_behind end) (bytes_eq w.text (codes "fetch")) _ _ (fetch_listed end words)
    tt)))))))))))
  where
    by_test : {A : Type 0} (next : A → List Word → Reading Event) (b : Bool) (one other : Option A) → BehindName next w.column words one
        → BehindName next w.column words other → BehindName next w.column words (if b then one else other)
    by_test next true one other first rest = first
    by_test next false one other first rest = rest

-- Lines.

-- this holds of the event of a line, if it has one
abbrev IfLine : (Event → Type 0) → LineReading Event → Type 0
IfLine P (Ok None) = ⊤
IfLine P (Ok (Some e)) = P e
IfLine P (Err column) = ⊤

reading_listed : (r : Reading Event) → Holds HasListedEvent r → IfLine HasListedEvent (event_or_column r)
reading_listed (Reads e rest) is = is
reading_listed (Misfit column) is = tt

words_listed : (end : ℕ) (words : List Word) → IfLine HasListedEvent (line_of_words event_line end words)
words_listed end [] = tt
words_listed end (w ∷ words) = by_test (is_comment w)
  where
    by_test : (b : Bool) → IfLine HasListedEvent (if b then Ok None else event_or_column (event_line end (w ∷ words)))
    by_test true = tt
    by_test false = reading_listed (event_line end (w ∷ words)) (event_listed end (w ∷ words))

line_listed : (line : List ℕ) → IfLine HasListedEvent (line_reads line)
unfolding line_reads
line_listed line = words_listed (end_of_line line) (words_in line)

both : (e : Event) → IsSoundEvent e → HasListedEvent e → AsksSoundCommand e
both (event.Begin name what) sound listed = (sound, listed)
both (event.Run name what) sound listed = (sound, listed)
both other sound listed = tt

line_asks : (line : List ℕ) (r : LineReading Event) → line_reads line ≡ r → IfLine HasListedEvent r → IfLine AsksSoundCommand r
line_asks line (Ok None) is listed = tt
line_asks line (Ok (Some e)) is listed = both e (line_sound line (Some e) is) listed
line_asks line (Err column) is listed = tt

-- Scripts.

-- so of the events of lines, where these read
abbrev IfEvents : Result (List Event) (ℕ × ℕ) → Type 0
IfEvents (Ok events) = AskSoundCommands events
IfEvents (Err bad) = ⊤

with_asks : (r : LineReading Event) (number : ℕ) (rest : Result (List Event) (ℕ × ℕ)) → IfLine AsksSoundCommand r → IfEvents rest → IfEvents (with_line r number rest)
with_asks (Ok None) number rest one others = others
with_asks (Ok (Some e)) number (Ok events) one others = (one, others)
with_asks (Ok (Some e)) number (Err bad) one others = tt
with_asks (Err column) number rest one others = tt

from_asks : (number : ℕ) (lines : List (List ℕ)) → IfEvents (events_from line_reads number lines)
from_asks number [] = tt
from_asks number (line ∷ lines) =
    with_asks (line_reads line) number (events_from line_reads (number + 1) lines) (line_asks line (line_reads line) refl (line_listed line)) (from_asks (number + 1) lines)

of_events : (r : Result (List Event) (ℕ × ℕ)) (events : List Event) → IfEvents r → r ≡ Ok events → AskSoundCommands events
of_events (Ok own) events is e = let same : own ≡ events = cc in subst AskSoundCommands same is
of_events (Err bad) events is e = absurd cc

-- of a script's events
pub script_asks : (bytes : List ℕ) (events : List Event) → script_events bytes ≡ Ok events → AskSoundCommands events
unfolding script_events
script_asks bytes events is = of_events (events_from line_reads 1 (lines_of bytes)) events (from_asks 1 (lines_of bytes)) is
