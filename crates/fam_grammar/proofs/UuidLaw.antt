-- The UUIDs that lines name are UUIDs: what a text parses to is sixteen bytes, each below 256. And formats are such.
use Rattle.std.proofs.Common.{◌≡◌, ℕ, ◌+◌, ◌*◌, ◌<◌, ◌≤◌, inl, inr, Bool, true, false, List, [], ◌∷◌, length, take, drop, slice_index, Option, Some, None, Result, Ok, Err, refl, sym, ◌∙◌, subst, arith}
use Rattle.std.specs.Prelude.{⊤, ◌==◌, ◌&&◌, if◌then◌else◌}
use Rattle.std.specs.List.{list_all, slice_split}
use Rattle.std.specs.Str.{is_utf8}
use Rattle.std.proofs.lemmas.Bool.{cases_Bool, cases_lt, true≢false}
use Rattle.std.proofs.lemmas.Bool.Decides.{nat_tests}
use Rattle.std.proofs.lemmas.List.{get_or_past}
use Rattle.std.proofs.lemmas.List.Folds.{list_all_at}
use Rattle.std.proofs.lemmas.Option.{same_Some}
use Rattle.uuid.proofs.TextLemmas.{by_index_at, by_index_length}
use Rattle.uuid.specs.Text.{by_index, byte_of_digits, close_brace, digits_of, has_hyphens, has_urn_prefix, is_hex_digit, open_brace, parsed, parsed_braced, parsed_hyphenated, parsed_simple, parsed_urn, value_of}
use Rattle.fam_format.specs.Params.{IsUuid}
use Rattle.fam_journal.specs.declared.event.Event.{Event}
use Rattle.fam_journal.specs.Laws.{AreSound, IsValidEvent}
use Rattle.fam_grammar.specs.declared.keywords.EventWord.{EventWord}
use Rattle.fam_grammar.specs.declared.keywords.EventWord.TheVariants as word
use Rattle.fam_grammar.specs.Keywords.{event_word}
use Rattle.fam_grammar.specs.Lines.{ask_line, event_behind, event_line, steps_line}
use Rattle.fam_grammar.specs.Numbers.{number_of_text}
use Rattle.fam_grammar.specs.Options.{mkfs_options, no_mkfs_options}
use Rattle.fam_grammar.specs.Reading.{Reading, Reads, Misfit, word_of}
use Rattle.fam_grammar.specs.Scripts.{LineReading, event_or_column, events_from, is_comment, is_line_feed, line_of_words, line_reads, script_events, with_line}
use Rattle.fam_grammar.specs.Spellings.{mask_of, name_of, steps_of, uuid_of}
use Rattle.fam_grammar.specs.Words.{Word, without_return, words_from}
use Rattle.fam_grammar.proofs.SoundLaw.{HasFormat, Holds, behind, ends_holds, format_sound, options_format, then_holds, word_holds}

-- Digits and bytes.

value_small : (c : ℕ) → is_hex_digit c ≡ true → value_of c < 16
value_small c hex = grind (arith, nat_tests)

-- each of many digits, and what is read behind them
digit_small : (hex : List ℕ) → list_all is_hex_digit hex ≡ true → (k : ℕ) → value_of (slice_index hex k) < 16
digit_small hex all k =
    elim (cases_lt k (length hex)) [
      | inl inside ↦
          elim (cases_Bool (is_hex_digit (slice_index hex k))) [
            | inl is ↦ value_small (slice_index hex k) is
            | inr not ↦ absurd (true≢false (sym all ∙ list_all_at is_hex_digit hex k 0 inside not))
          ]
      | inr past ↦
          let none : slice_index hex k ≡ 0 = get_or_past hex k 0 past in
          subst (λ (c : ℕ). value_of c < 16) (sym none) (omega arith)
    ]

byte_small : (hex : List ℕ) → list_all is_hex_digit hex ≡ true → (k : ℕ) → byte_of_digits hex k < 256
byte_small hex all k =
    let high = digit_small hex all (2 * k) in
    let low = digit_small hex all (2 * k + 1) in
    omega (arith, high, low)

bytes_small : (hex : List ℕ) → list_all is_hex_digit hex ≡ true → (i : ℕ) → slice_index (by_index 16 (byte_of_digits hex)) i < 256
bytes_small hex all i =
    elim (cases_lt i 16) [
      | inl inside ↦ subst (λ (b : ℕ). b < 256) (sym (by_index_at 16 (byte_of_digits hex) i 0 inside)) (byte_small hex all i)
      | inr past ↦
          let long : length (by_index 16 (byte_of_digits hex)) ≤ i = subst (λ (n : ℕ). n ≤ i) (sym (by_index_length 16 (byte_of_digits hex))) past in
          subst (λ (b : ℕ). b < 256) (sym (get_or_past (by_index 16 (byte_of_digits hex)) i 0 long)) (omega arith)
    ]

-- Texts.

-- where a text parses
abbrev pub Parses : Option (List ℕ) → Type 0
Parses None = ⊤
Parses (Some id) = IsUuid id

on_test : (b : Bool) (o : Option (List ℕ)) → (b ≡ true → Parses o) → Parses (if b then o else None)
on_test true o each = each refl
on_test false o each = tt

either : (b : Bool) (o p : Option (List ℕ)) → Parses o → Parses p → Parses (if b then o else p)
either true o p one other = one
either false o p one other = other

both_true : (a b : Bool) → (a && b) ≡ true → b ≡ true
both_true true b is = is
both_true false b is = absurd cc

simple_parses : (hex : List ℕ) → Parses (parsed_simple hex)
simple_parses hex =
    on_test ((length hex == 32) && list_all is_hex_digit hex) (Some (by_index 16 (byte_of_digits hex)))
    (λ is. record {
      count = by_index_length 16 (byte_of_digits hex);
      fits = bytes_small hex (both_true (length hex == 32) (list_all is_hex_digit hex) is);
    })

hyphenated_parses : (s : List ℕ) → Parses (parsed_hyphenated s)
hyphenated_parses s = on_test ((length s == 36) && has_hyphens s) (parsed_simple (digits_of s)) (λ is. simple_parses (digits_of s))

-- a text of any form
pub parses : (s : List ℕ) → Parses (parsed s)
parses s =
    either (length s == 32) (parsed_simple s) _ (simple_parses s)
    (either (length s == 36) (parsed_hyphenated s) _ (hyphenated_parses s)
    (either (length s == 38) (parsed_braced s) _
    (on_test ((length s == 38) && (slice_index s 0 == open_brace) && (slice_index s 37 == close_brace)) (parsed_hyphenated (take 36 (drop 1 s)))
    (λ is. hyphenated_parses (take 36 (drop 1 s))))
    (either (length s == 45) (parsed_urn s) None (on_test ((length s == 45) && has_urn_prefix s) (parsed_hyphenated (drop 9 s)) (λ is. hyphenated_parses (drop 9 s))) tt)))

word_parses : (s : List ℕ) → Parses (uuid_of s)
unfolding uuid_of
word_parses s = on_test (is_utf8 s) (parsed s) (λ is. parses s)

of_some : (o : Option (List ℕ)) (id : List ℕ) → Parses o → o ≡ Some id → IsUuid id
of_some None id is e = absurd cc
of_some (Some own) id is e = subst IsUuid (same_Some own id e) is

-- the UUID of a word
pub uuid_sound : (s id : List ℕ) → uuid_of s ≡ Some id → IsUuid id
uuid_sound s id is = of_some (uuid_of s) id (word_parses s) is

-- Events.

steps_uuids : (end : ℕ) (name : List ℕ) (words : List Word) → Holds IsValidEvent (steps_line end name words)
steps_uuids end name [] = tt
steps_uuids end name (w ∷ words) = behind IsValidEvent (word_of steps_of end (w ∷ words)) _ (λ count rest. ends_holds IsValidEvent _ rest tt)

event_uuids : (end : ℕ) (name : EventWord) (words : List Word) → Holds IsValidEvent (event_behind end name words)
event_uuids end word.Host words =
    behind IsValidEvent (word_of name_of end words) _ (λ name rest.
    then_holds IsUuid IsValidEvent (word_of uuid_of end rest) _ (word_holds IsUuid uuid_of end rest uuid_sound) (λ uuid rest is. ends_holds IsValidEvent _ rest is))
event_uuids end word.Mkfs words =
    behind IsValidEvent (word_of name_of end words) _ (λ name rest.
    then_holds IsUuid IsValidEvent (word_of uuid_of end rest) _ (word_holds IsUuid uuid_of end rest uuid_sound)
    (λ fs rest is. then_holds HasFormat IsValidEvent (mkfs_options no_mkfs_options rest) _ (options_format rest) (λ o none has. record { fs = is; format = format_sound o has })))
event_uuids end word.Begin words = behind IsValidEvent (word_of name_of end words) _ (λ name rest. behind IsValidEvent (ask_line end rest) _ (λ asked none. tt))
event_uuids end word.Run words = behind IsValidEvent (word_of name_of end words) _ (λ name rest. behind IsValidEvent (ask_line end rest) _ (λ asked none. tt))
event_uuids end word.Step words = behind IsValidEvent (word_of name_of end words) _ (λ name rest. steps_uuids end name rest)
event_uuids end word.Evict words =
    behind IsValidEvent (word_of name_of end words) _ (λ name rest. behind IsValidEvent (word_of number_of_text end rest) _ (λ at rest. ends_holds IsValidEvent _ rest tt))
event_uuids end word.Leak words =
    behind IsValidEvent (word_of name_of end words) _ (λ name rest.
    behind IsValidEvent (word_of number_of_text end rest) _ (λ at rest. behind IsValidEvent (word_of mask_of end rest) _ (λ mask rest. ends_holds IsValidEvent _ rest tt)))
event_uuids end word.Fetch words =
    behind IsValidEvent (word_of name_of end words) _ (λ name rest.
    behind IsValidEvent (word_of number_of_text end rest) _ (λ at rest. behind IsValidEvent (word_of mask_of end rest) _ (λ mask rest. ends_holds IsValidEvent _ rest tt)))
event_uuids end other words = behind IsValidEvent (word_of name_of end words) _ (λ name rest. ends_holds IsValidEvent _ rest tt)

line_uuids : (end : ℕ) (words : List Word) → Holds IsValidEvent (event_line end words)
unfolding event_line
line_uuids end words = behind IsValidEvent (word_of event_word end words) _ (λ name rest. event_uuids end name rest)

-- Lines and scripts.

abbrev IfLine : LineReading Event → Type 0
IfLine (Ok None) = ⊤
IfLine (Ok (Some event)) = IsValidEvent event
IfLine (Err column) = ⊤

reading_uuids : (r : Reading Event) → Holds IsValidEvent r → IfLine (event_or_column r)
reading_uuids (Reads e rest) is = is
reading_uuids (Misfit column) is = tt

words_uuids : (end : ℕ) (words : List Word) → IfLine (line_of_words event_line end words)
words_uuids end [] = tt
words_uuids end (w ∷ words) = by_test (is_comment w)
  where
    by_test : (t : Bool) → IfLine (if t then Ok None else event_or_column (event_line end (w ∷ words)))
    by_test true = tt
    by_test false = reading_uuids (event_line end (w ∷ words)) (line_uuids end (w ∷ words))

reads_uuids : (line : List ℕ) → IfLine (line_reads line)
unfolding line_reads
reads_uuids line = words_uuids (length (without_return line) + 1) (words_from 1 (without_return line))

-- of a script's events
abbrev IfEvents : Result (List Event) (ℕ × ℕ) → Type 0
IfEvents (Ok events) = AreSound events
IfEvents (Err bad) = ⊤

with_uuids : (r : LineReading Event) (number : ℕ) (rest : Result (List Event) (ℕ × ℕ)) → IfLine r → IfEvents rest → IfEvents (with_line r number rest)
with_uuids (Ok None) number rest one others = others
with_uuids (Ok (Some event)) number (Ok events) one others = (one, others)
with_uuids (Ok (Some event)) number (Err bad) one others = tt
with_uuids (Err column) number rest one others = tt

from_uuids : (number : ℕ) (lines : List (List ℕ)) → IfEvents (events_from line_reads number lines)
from_uuids number [] = tt
from_uuids number (line ∷ lines) = with_uuids (line_reads line) number (events_from line_reads (number + 1) lines) (reads_uuids line) (from_uuids (number + 1) lines)

of_events : (r : Result (List Event) (ℕ × ℕ)) (events : List Event) → IfEvents r → r ≡ Ok events → AreSound events
of_events (Ok own) events is e = let same : own ≡ events = cc in subst AreSound same is
of_events (Err bad) events is e = absurd cc

pub script_uuids : (bytes : List ℕ) (events : List Event) → script_events bytes ≡ Ok events → AreSound events
unfolding script_events
script_uuids bytes events is = of_events (events_from line_reads 1 (slice_split is_line_feed bytes)) events (from_uuids 1 (slice_split is_line_feed bytes)) is
