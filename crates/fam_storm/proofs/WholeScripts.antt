-- A storm's script, cut at line feeds, is its lines; and so it reads as their events.
use Rattle.std.proofs.Common.{◌≡◌, ℕ, suc, ◌+◌, ◌≤◌, false, List, [], ◌∷◌, ◌++◌, Ok, Result, length, map, None, refl, ap, ap₂, sym, subst, ◌∙◌, append_assoc}
use Rattle.std.specs.Prelude.{All, IfOk}
use Rattle.std.specs.List.{slice_split}
use Rattle.std.proofs.lemmas.Bool.{ne_eqb}
use Rattle.std.proofs.lemmas.List.Elements.{All-cons, All-nil}
use Rattle.std.proofs.lemmas.List.Splits.{slice_split_at}
use Rattle.fam_journal.specs.declared.event.Event.{Event}
use Rattle.fam_journal.specs.Events.{event_source}
use Rattle.fam_grammar.specs.Scripts.{LineReading, events_from, is_line_feed, line_reads, script_events, with_line}
use Rattle.fam_tree.proofs.Printed.{No}
use Rattle.fam_storm.specs.Events.{IsSoManyEvents, ReadNoSource}
use Rattle.fam_storm.specs.Storm.{Words, line_text, storm, storm_lines, text_of}
use Rattle.fam_storm.proofs.EventLines.{AreEvents, whole_events}

-- no byte of a line ends it
none_ends : (line : List ℕ) → No 10 line → All (λ (byte : ℕ). is_line_feed byte ≡ false) line
unfolding No
none_ends [] none = All-nil (λ (byte : ℕ). is_line_feed byte ≡ false)
none_ends (byte ∷ line) none = All-cons (λ (b : ℕ). is_line_feed b ≡ false) byte line (ne_eqb byte 10 none.0) (none_ends line none.1)

-- lines, and nothing behind the last line feed
cut_lines : (lines : List Words) → AreEvents lines → slice_split is_line_feed (text_of lines) ≡ map line_text lines ++ [] ∷ []
cut_lines [] are = refl
cut_lines (words ∷ lines) are =
    ap (slice_split is_line_feed) (append_assoc (line_text words) (10 ∷ []) (text_of lines))
    ∙ slice_split_at is_line_feed (line_text words) 10 (text_of lines) (none_ends (line_text words) are.0.feed) refl
    ∙ ap (λ (l : List (List ℕ)). line_text words ∷ l) (cut_lines lines are.1)

-- what is behind the last line feed is no event
nothing_left : (n : ℕ) → events_from line_reads n ([] ∷ []) ≡ Ok []
unfolding line_reads
nothing_left n = refl

-- so many events, none of which reads a source
record ReadsQuietly (count : ℕ) (said : Result (List Event) (ℕ × ℕ)) : Type 0 where
  events : List Event
  said_is : said ≡ Ok events
  many : length events ≡ count
  sources : ReadNoSource events

-- the events of lines
read_lines : (n : ℕ) (lines : List Words) → AreEvents lines → ReadsQuietly (length lines) (events_from line_reads n (map line_text lines ++ [] ∷ []))
read_lines n [] are = record { events = []; said_is = nothing_left n; many = refl; sources = All-nil (λ (event : Event). event_source event ≡ None) }
read_lines n (words ∷ lines) are =
    let more = read_lines (n + 1) lines are.1 in
    record {
      events = are.0.event.0 ∷ more.events;
      said_is = ap₂ (λ (said : LineReading Event) (rest : Result (List Event) (ℕ × ℕ)). with_line said n rest) are.0.event.1 more.said_is;
      many = ap suc more.many;
      sources = All-cons (λ (event : Event). event_source event ≡ None) are.0.event.0 more.events are.0.source more.sources;
    }

read_storm : (seed size : ℕ) → size ≤ 100000 → ReadsQuietly (length (storm_lines seed size)) (script_events (storm seed size))
unfolding script_events storm
read_storm seed size few =
    let are = whole_events seed size few in
    let read = read_lines 1 (storm_lines seed size) are in
    record { events = read.events; said_is = ap (events_from line_reads 1) (cut_lines (storm_lines seed size) are) ∙ read.said_is; many = read.many; sources = read.sources }

pub whole_storm : (seed size : ℕ) → size ≤ 100000 → IsSoManyEvents (length (storm_lines seed size)) (script_events (storm seed size))
whole_storm seed size few = let read = read_storm seed size few in (read.events, read.said_is, read.many)

pub quiet_storm : (seed size : ℕ) → size ≤ 100000 → IfOk (script_events (storm seed size)) (λ events. ReadNoSource events)
quiet_storm seed size few =
    let read = read_storm seed size few in
    subst (λ (said : Result (List Event) (ℕ × ℕ)). IfOk said (λ events. ReadNoSource events)) (sym read.said_is) read.sources
