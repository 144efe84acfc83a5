-- Each line of a storm is an event.
use Rattle.std.proofs.Common.{◌≡◌, ◌≢◌, ℕ, zero, suc, ◌+◌, ◌-◌, ◌%◌, ◌^◌, ◌<◌, ◌≤◌, Bool, true, false, cond, List, [], ◌∷◌, ◌++◌, Option, Some, None, Ok, codes, length, take, refl, ap, sym, subst, ◌∙◌, arith, decimal}
use Rattle.std.specs.Prelude.{◌==◌, ◌&&◌, nat_lt, not, All, slice_index}
use Rattle.std.proofs.lemmas.Bool.{and_parts, false≢true, ltb-true, ne_eqb}
use Rattle.std.proofs.lemmas.Fmt.{decimal_digit}
use Rattle.std.proofs.lemmas.List.Elements.{All-cons, All-nil}
use Rattle.std.proofs.lemmas.Str.{IsUtf8-from_ascii, is_utf8-from_IsUtf8}
use Rattle.rand_xoshiro.specs.Xoshiro256.{plus_plus}
use Rattle.uuid.specs.Text.{by_index, parsed}
use Rattle.fam_base.specs.declared.cmd.Cmd.TheVariants as cmd
use Rattle.fam_base.specs.declared.cmd.Content.TheVariants as content
use Rattle.fam_base.specs.HostNames.{is_host_name}
use Rattle.fam_journal.specs.declared.event.Ask.TheVariants as ask
use Rattle.fam_journal.specs.declared.event.Event.{Event}
use Rattle.fam_journal.specs.declared.event.Event.TheVariants as event
use Rattle.fam_journal.specs.Events.{event_source}
use Rattle.fam_grammar.specs.Keywords.{event_word, command_word}
use Rattle.fam_grammar.specs.Lines.{ask_line, creat_takes, event_line}
use Rattle.fam_rules.specs.Content.{stream_state}
use Rattle.fam_grammar.specs.Numbers.{number_of_text, size_of_text}
use Rattle.fam_grammar.specs.Options.{file_option_of, file_options, mkfs_option_of, no_file_options, with_file_word}
use Rattle.fam_grammar.specs.Reading.{Reading, Reads, Misfit}
use Rattle.fam_grammar.specs.Scripts.{event_or_column, line_of_words, line_reads}
use Rattle.fam_grammar.specs.Spellings.{mask_of, steps_of, uuid_of}
use Rattle.fam_grammar.specs.Words.{is_blank, without_return, words_from}
use Rattle.fam_grammar.proofs.Joined.{AreWords, HasNoBlank, IsOneWord, joined_words, no_blank-append, placed}
use Rattle.fam_grammar.proofs.Respelled.{below-some, decimal_no_blank, decimal_word, number-decimal}
use Rattle.fam_grammar.proofs.StripeWords.{size-decimal}
use Rattle.fam_tree.proofs.Printed.{IsOut, No, decimal_no, no_both}
use Rattle.fam_storm.specs.Draws.{after, drawn}
use Rattle.fam_storm.specs.Events.{IsEventLine}
use Rattle.fam_storm.specs.Storm.{Round, Words, append_round, begin_words, begun_words, cache_round, client, client_step_words, client_round, creat_words, cut_round, end_lines, evict_words, fetch_words, finish_words, front_lines, leak_words, line_number, line_text, logplay_words, mkdir_words, seed_word, step_words, storm_lines, round, round_of, rounds, verify_words}
use Rattle.fam_storm.proofs.PlainWords.{path_read}
use Rattle.fam_machine.specs.MkfsRequest.{mkfs_request}

-- Words: no blank in them, no carriage return and no line feed.

pub record IsGood (text : List ℕ) : Type 0 where
  one : IsOneWord text
  no : No 13 text
  feed : No 10 text

-- a test of a literal
abbrev is_free : List ℕ → Bool
is_free [] = true
is_free (b ∷ bytes) = (not (is_blank b) && (not (b == 13) && not (b == 10))) && is_free bytes

not_of : (t : Bool) → not t ≡ true → t ≡ false
not_of true h = sym h
not_of false h = refl

apart : (b other : ℕ) → (b == other) ≡ false → (other == other) ≡ true → b ≢ other
apart b other h same e = false≢true (sym (subst (λ (x : ℕ). (x == other) ≡ false) e h) ∙ same)

-- the first byte of such a literal
record IsFree (b : ℕ) (bytes : List ℕ) : Type 0 where
  blank : is_blank b ≡ false
  no : b ≢ 13
  feed : b ≢ 10
  rest : is_free bytes ≡ true

free_parts : (b : ℕ) (bytes : List ℕ) → is_free (b ∷ bytes) ≡ true → IsFree b bytes
free_parts b bytes h =
    let parts = and_parts (not (is_blank b) && (not (b == 13) && not (b == 10))) (is_free bytes) h in
    let here = and_parts (not (is_blank b)) (not (b == 13) && not (b == 10)) parts.0 in
    let ends = and_parts (not (b == 13)) (not (b == 10)) here.1 in
    record {
      blank = not_of (is_blank b) here.0;
      no = apart b 13 (not_of (b == 13) ends.0) refl;
      feed = apart b 10 (not_of (b == 10) ends.1) refl;
      rest = parts.1;
    }

free_blank : (bytes : List ℕ) → is_free bytes ≡ true → HasNoBlank bytes
free_blank [] h = tt
free_blank (b ∷ bytes) h = let parts = free_parts b bytes h in (parts.blank, free_blank bytes parts.rest)

free_no : (bytes : List ℕ) → is_free bytes ≡ true → No 13 bytes
unfolding No
free_no [] h = tt
free_no (b ∷ bytes) h = let parts = free_parts b bytes h in (parts.no, free_no bytes parts.rest)

free_feed : (bytes : List ℕ) → is_free bytes ≡ true → No 10 bytes
unfolding No
free_feed [] h = tt
free_feed (b ∷ bytes) h = let parts = free_parts b bytes h in (parts.feed, free_feed bytes parts.rest)

out_return : IsOut 13
unfolding IsOut
out_return d below e = omega (arith, e)

out_feed : IsOut 10
unfolding IsOut
out_feed d below e = omega (arith, e)

-- a literal
literal : (b : ℕ) (bytes : List ℕ) → is_free (b ∷ bytes) ≡ true → IsGood (b ∷ bytes)
literal b bytes h = record { one = free_blank (b ∷ bytes) h; no = free_no (b ∷ bytes) h; feed = free_feed (b ∷ bytes) h }

-- a number, alone or behind a literal
number : (n : ℕ) → n < 2 ^ 64 → IsGood (decimal n)
number n small = record { one = decimal_word n small; no = decimal_no 13 out_return n small; feed = decimal_no 10 out_feed n small }

numbered : (b : ℕ) (bytes : List ℕ) (n : ℕ) → is_free (b ∷ bytes) ≡ true → n < 2 ^ 64 → IsGood ((b ∷ bytes) ++ decimal n)
numbered b bytes n h small = record {
  one = no_blank-append (b ∷ bytes) (decimal n) (free_blank (b ∷ bytes) h) (decimal_no_blank n small);
  no = no_both 13 (b ∷ bytes) (decimal n) (free_no (b ∷ bytes) h) (decimal_no 13 out_return n small);
  feed = no_both 10 (b ∷ bytes) (decimal n) (free_feed (b ∷ bytes) h) (decimal_no 10 out_feed n small);
}

AreGood : List (List ℕ) → Type 0
AreGood [] = Unit {0}
AreGood (text ∷ texts) = IsGood text × AreGood texts

are_words : (texts : List (List ℕ)) → AreGood texts → AreWords texts
unfolding AreGood
are_words [] good = tt
are_words (text ∷ texts) good = (good.0.one, are_words texts good.1)

no_return : (texts : List (List ℕ)) → AreGood texts → No 13 (line_text texts)
unfolding AreGood No
no_return [] good = tt
no_return (text ∷ []) good = good.0.no
no_return (text ∷ next ∷ texts) good =
    no_both 13 text (32 ∷ line_text (next ∷ texts)) good.0.no ((λ e. omega (arith, e)), no_return (next ∷ texts) good.1)

no_feed : (texts : List (List ℕ)) → AreGood texts → No 10 (line_text texts)
unfolding AreGood No
no_feed [] good = tt
no_feed (text ∷ []) good = good.0.feed
no_feed (text ∷ next ∷ texts) good =
    no_both 10 text (32 ∷ line_text (next ∷ texts)) good.0.feed ((λ e. omega (arith, e)), no_feed (next ∷ texts) good.1)

no_at : (bytes : List ℕ) (k : ℕ) → No 13 bytes → (slice_index bytes k == 13) ≡ false
unfolding No
no_at [] k none = refl
no_at (b ∷ bytes) zero none = ne_eqb b 13 none.0
no_at (b ∷ bytes) (suc k) none = no_at bytes k none.1

kept : (line : List ℕ) → No 13 line → without_return line ≡ line
kept line none = ap (λ (t : Bool). cond t (take (length line - 1) line) line) (no_at line (length line - 1) none)

-- a line whose words read as an event
event_of : (first : List ℕ) (rest : List (List ℕ)) (e : Event) → AreGood (first ∷ rest) → (slice_index first 0 == 35) ≡ false
    → ((end : ℕ) → event_line end (placed 1 (first ∷ rest)) ≡ Reads e []) → IsEventLine (first ∷ rest)
unfolding line_reads
event_of first rest e good plain reads =
    let line : List ℕ = line_text (first ∷ rest) in
    let end : ℕ = length line + 1 in (
      e,
      ap (λ (l : List ℕ). line_of_words event_line (length l + 1) (words_from 1 l)) (kept line (no_return (first ∷ rest) good))
          ∙ ap (line_of_words event_line end) (joined_words 1 (first ∷ rest) (are_words (first ∷ rest) good))
          ∙ ap (λ (t : Bool). cond t (Ok None) (event_or_column (event_line end (placed 1 (first ∷ rest))))) plain
          ∙ ap event_or_column (reads end),
    )

-- such a line, in which no line feed ends it early; and its event reads no source
pub record IsWholeLine (words : Words) : Type 0 where
  pub event : IsEventLine words
  pub feed : No 10 (line_text words)
  pub source : event_source event.0 ≡ None

abbrev Begins : Words → Type 0
Begins [] = ⊥
Begins (first ∷ rest) = (slice_index first 0 == 35) ≡ false

event_is : (words : Words) (e : Event) → AreGood words → Begins words → event_source e ≡ None → ((end : ℕ) → event_line end (placed 1 words) ≡ Reads e []) → IsWholeLine words
unfolding event_of
event_is [] e good begins source reads = absurd begins
event_is (first ∷ rest) e good begins source reads = record { event = event_of first rest e good begins reads; feed = no_feed (first ∷ rest) good; source = source }

-- The master's lines.

mkdir_line : (i : ℕ) → i < 2 ^ 64 → IsWholeLine (mkdir_words i)
unfolding event_line event_word ask_line command_word is_host_name AreGood
mkdir_line i small =
    event_is (mkdir_words i) (event.Run (codes "m") (ask.Plain (cmd.Mkdir (codes "d" ++ decimal i) (record { mode = 0x1ed; uid = 0; gid = 0 }))))
    (literal _ _ refl, (literal _ _ refl, (literal _ _ refl, (numbered 100 [] i refl small, tt)))) refl refl
    (λ end. rw (path_read 100 i refl small) refl)

-- an option's word fits, or it doesn't
abbrev choose : {A B : Type 0} → Reading B → (A → Reading B) → Option A → Reading B
choose none some None = none
choose none some (Some more) = some more

seed_taken : (seed : ℕ) → seed < 2 ^ 64 → with_file_word creat_takes no_file_options (seed_word seed) ≡ Some (record no_file_options { seed = Some seed })
unfolding file_option_of
seed_taken seed small = rw (number-decimal seed small) refl

seed_read : (column seed : ℕ) → seed < 2 ^ 64 → file_options creat_takes no_file_options (record { column = column; text = seed_word seed } ∷ [])
    ≡ Reads (record no_file_options { seed = Some seed }) []
seed_read column seed small = ap (choose (Misfit column) (λ next. file_options creat_takes next [])) (seed_taken seed small)

creat_line : (i size : ℕ) → i < 2 ^ 64 → size < 2 ^ 64 → IsWholeLine (creat_words i size)
unfolding event_line event_word ask_line command_word is_host_name file_option_of AreGood
creat_line i size small short =
    event_is (creat_words i size) (event.Run (codes "m") (ask.Plain (cmd.Creat (codes "f" ++ decimal i) size (record { mode = 0x1a4; uid = 0; gid = 0 }) None (content.Seed i))))
    (literal _ _ refl, (literal _ _ refl, (literal _ _ refl, (numbered 102 [] i refl small, (number size short, (numbered 115 (codes "eed=") i refl small, tt)))))) refl refl
    (λ end. rw (path_read 102 i refl small, size-decimal size short, seed_read (13 + length (102 ∷ decimal i) + 1 + length (decimal size) + 1) i small) refl)

begun_line : (i size : ℕ) → i < 2 ^ 64 → size < 2 ^ 64 → IsWholeLine (begun_words i size)
unfolding event_line event_word ask_line command_word is_host_name file_option_of AreGood
begun_line i size small short =
    event_is (begun_words i size) (event.Begin (codes "m") (ask.Plain (cmd.Creat (codes "g" ++ decimal i) size (record { mode = 0x1a4; uid = 0; gid = 0 }) None (content.Seed i))))
    (literal _ _ refl, (literal _ _ refl, (literal _ _ refl, (numbered 103 [] i refl small, (number size short, (numbered 115 (codes "eed=") i refl small, tt)))))) refl refl
    (λ end. rw (path_read 103 i refl small, size-decimal size short, seed_read (15 + length (103 ∷ decimal i) + 1 + length (decimal size) + 1) i small) refl)

some_steps : (count : ℕ) → (count == 0) ≡ false → count < 1000000001 → steps_of (decimal count) ≡ Some count
some_steps count some few = rw (number-decimal count (omega (arith, few)), below-some 1000000001 count few, some) refl

step_line : (count : ℕ) → (count == 0) ≡ false → count < 1000000001 → IsWholeLine (step_words count)
unfolding event_line event_word is_host_name AreGood
step_line count some few =
    event_is (step_words count) (event.Step (codes "m") count)
    (literal _ _ refl, (literal _ _ refl, (number count (omega (arith, few)), tt))) refl refl
    (λ end. rw (some_steps count some few) refl)

small_mask : (mask : ℕ) → mask < 256 → mask_of (decimal mask) ≡ Some mask
small_mask mask few = rw (number-decimal mask (omega (arith, few)), below-some 256 mask few) refl

leak_line : (line mask : ℕ) → line < 2 ^ 64 → mask < 256 → IsWholeLine (leak_words line mask)
unfolding event_line event_word is_host_name AreGood
leak_line line mask small few =
    event_is (leak_words line mask) (event.Leak (codes "m") (record { 0 = line }) (record { 0 = mask }))
    (literal _ _ refl, (literal _ _ refl, (number line small, (number mask (omega (arith, few)), tt)))) refl refl
    (λ end. rw (number-decimal line small, small_mask mask few) refl)

evict_line : (line : ℕ) → line < 2 ^ 64 → IsWholeLine (evict_words line)
unfolding event_line event_word is_host_name AreGood
evict_line line small =
    event_is (evict_words line) (event.Evict (codes "m") (record { 0 = line }))
    (literal _ _ refl, (literal _ _ refl, (number line small, tt))) refl refl
    (λ end. rw (number-decimal line small) refl)

stop_line : IsWholeLine (codes "stop" ∷ codes "m" ∷ [])
unfolding event_line event_word is_host_name AreGood
stop_line = event_is (codes "stop" ∷ codes "m" ∷ []) (event.Stop (codes "m")) (literal _ _ refl, (literal _ _ refl, tt)) refl refl (λ end. refl)

halt_line : IsWholeLine (codes "halt" ∷ codes "m" ∷ [])
unfolding event_line event_word is_host_name AreGood
halt_line = event_is (codes "halt" ∷ codes "m" ∷ []) (event.Halt (codes "m")) (literal _ _ refl, (literal _ _ refl, tt)) refl refl (λ end. refl)

gate_line : IsWholeLine (codes "evict" ∷ codes "m" ∷ codes "32769" ∷ [])
unfolding event_line event_word is_host_name number_of_text AreGood
gate_line = event_is (codes "evict" ∷ codes "m" ∷ codes "32769" ∷ []) (event.Evict (codes "m") (record { 0 = 32769 }))
    (literal _ _ refl, (literal _ _ refl, (literal _ _ refl, tt))) refl refl (λ end. refl)

-- Clients' lines.

-- a client's number is one digit
one_digit : (j : ℕ) → j < 3 → client j ≡ 99 ∷ (48 + j) ∷ []
one_digit j few = ap (λ (l : List ℕ). 99 ∷ l) (decimal_digit j (omega (arith, few)))

client_good : (j : ℕ) → j < 3 → IsGood (client j)
client_good j few = numbered 99 [] j refl (omega (arith, few))

client_name : (j : ℕ) → j < 3 → is_host_name (client j) ≡ true
unfolding is_host_name
client_name j few = subst (λ (l : List ℕ). is_host_name l ≡ true) (sym (one_digit j few)) (named j few)
  where
    named : (k : ℕ) → k < 3 → is_host_name (99 ∷ (48 + k) ∷ []) ≡ true
    named zero h = refl
    named (suc zero) h = refl
    named (suc (suc zero)) h = refl
    named (suc (suc (suc k))) h = absurd (omega (arith, h))

logplay_line : (j : ℕ) → j < 3 → IsWholeLine (logplay_words j)
unfolding event_line event_word ask_line command_word AreGood
logplay_line j few =
    event_is (logplay_words j) (event.Run (client j) (ask.Plain cmd.Logplay))
    (literal _ _ refl, (client_good j few, (literal _ _ refl, tt))) refl refl
    (λ end. rw (client_name j few) refl)

begin_line : (j : ℕ) → j < 3 → IsWholeLine (begin_words j)
unfolding event_line event_word ask_line command_word AreGood
begin_line j few =
    event_is (begin_words j) (event.Begin (client j) (ask.Plain cmd.Logplay))
    (literal _ _ refl, (client_good j few, (literal _ _ refl, tt))) refl refl
    (λ end. rw (client_name j few) refl)

fetch_line : (j line mask : ℕ) → j < 3 → line < 2 ^ 64 → mask < 256 → IsWholeLine (fetch_words j line mask)
unfolding event_line event_word AreGood
fetch_line j line mask few small less =
    event_is (fetch_words j line mask) (event.Fetch (client j) (record { 0 = line }) (record { 0 = mask }))
    (literal _ _ refl, (client_good j few, (number line small, (number mask (omega (arith, less)), tt)))) refl refl
    (λ end. rw (client_name j few, number-decimal line small, small_mask mask less) refl)

client_step_line : (j count : ℕ) → j < 3 → (count == 0) ≡ false → count < 1000000001 → IsWholeLine (client_step_words j count)
unfolding event_line event_word AreGood
client_step_line j count few some less =
    event_is (client_step_words j count) (event.Step (client j) count)
    (literal _ _ refl, (client_good j few, (number count (omega (arith, less)), tt))) refl refl
    (λ end. rw (client_name j few, some_steps count some less) refl)

finish_line : (j : ℕ) → j < 3 → IsWholeLine (finish_words j)
unfolding event_line event_word AreGood
finish_line j few =
    event_is (finish_words j) (event.Finish (client j)) (literal _ _ refl, (client_good j few, tt)) refl refl (λ end. rw (client_name j few) refl)

verify_line : (j i : ℕ) → j < 3 → i < 2 ^ 64 → IsWholeLine (verify_words j i)
unfolding event_line event_word ask_line command_word AreGood
verify_line j i few small =
    event_is (verify_words j i) (event.Run (client j) (ask.Plain (cmd.Verify (codes "f" ++ decimal i) (content.Seed i))))
    (literal _ _ refl, (client_good j few, (literal _ _ refl, (numbered 102 [] i refl small, (numbered 115 (codes "eed=") i refl small, tt))))) refl refl
    (λ end. rw (client_name j few, path_read 102 i refl small, number-decimal i small) refl)

-- The front.

-- bytes below 128
abbrev is_low : List ℕ → Bool
is_low [] = true
is_low (b ∷ bytes) = nat_lt b 128 && is_low bytes

low_ascii : (bytes : List ℕ) (k : ℕ) → is_low bytes ≡ true → slice_index bytes k < 128
low_ascii [] k h = omega arith
low_ascii (b ∷ bytes) zero h = ltb-true b 128 (and_parts (nat_lt b 128) (is_low bytes) h).0
low_ascii (b ∷ bytes) (suc k) h = low_ascii bytes k (and_parts (nat_lt b 128) (is_low bytes) h).1

uuid_read : (word uuid : List ℕ) → is_low word ≡ true → parsed word ≡ Some uuid → uuid_of word ≡ Some uuid
unfolding uuid_of
uuid_read word uuid low is =
    ap (λ (t : Bool). cond t (parsed word) None) (is_utf8-from_IsUtf8 word (IsUtf8-from_ascii word (λ k. low_ascii word k low))) ∙ is

host_line_0 : IsWholeLine (codes "host" ∷ codes "m" ∷ codes "00000000-0000-0000-0000-000000000001" ∷ [])
unfolding event_line event_word is_host_name by_index AreGood
host_line_0 =
    event_is (codes "host" ∷ codes "m" ∷ codes "00000000-0000-0000-0000-000000000001" ∷ []) (event.Host (codes "m") (0 ∷ 0 ∷ 0 ∷ 0 ∷ 0 ∷ 0 ∷ 0 ∷ 0 ∷ 0 ∷ 0 ∷ 0 ∷ 0 ∷ 0 ∷ 0 ∷ 0 ∷ 1 ∷ []))
    (literal _ _ refl, (literal _ _ refl, (literal _ _ refl, tt))) refl refl
    (λ end. rw (uuid_read (codes "00000000-0000-0000-0000-000000000001") (0 ∷ 0 ∷ 0 ∷ 0 ∷ 0 ∷ 0 ∷ 0 ∷ 0 ∷ 0 ∷ 0 ∷ 0 ∷ 0 ∷ 0 ∷ 0 ∷ 0 ∷ 1 ∷ []) refl refl) refl)

host_line_1 : IsWholeLine (codes "host" ∷ codes "c0" ∷ codes "00000000-0000-0000-0000-000000000002" ∷ [])
unfolding event_line event_word is_host_name by_index AreGood
host_line_1 =
    event_is (codes "host" ∷ codes "c0" ∷ codes "00000000-0000-0000-0000-000000000002" ∷ []) (event.Host (codes "c0") (0 ∷ 0 ∷ 0 ∷ 0 ∷ 0 ∷ 0 ∷ 0 ∷ 0 ∷ 0 ∷ 0 ∷ 0 ∷ 0 ∷ 0 ∷ 0 ∷ 0 ∷ 2 ∷ []))
    (literal _ _ refl, (literal _ _ refl, (literal _ _ refl, tt))) refl refl
    (λ end. rw (uuid_read (codes "00000000-0000-0000-0000-000000000002") (0 ∷ 0 ∷ 0 ∷ 0 ∷ 0 ∷ 0 ∷ 0 ∷ 0 ∷ 0 ∷ 0 ∷ 0 ∷ 0 ∷ 0 ∷ 0 ∷ 0 ∷ 2 ∷ []) refl refl) refl)

host_line_2 : IsWholeLine (codes "host" ∷ codes "c1" ∷ codes "00000000-0000-0000-0000-000000000003" ∷ [])
unfolding event_line event_word is_host_name by_index AreGood
host_line_2 =
    event_is (codes "host" ∷ codes "c1" ∷ codes "00000000-0000-0000-0000-000000000003" ∷ []) (event.Host (codes "c1") (0 ∷ 0 ∷ 0 ∷ 0 ∷ 0 ∷ 0 ∷ 0 ∷ 0 ∷ 0 ∷ 0 ∷ 0 ∷ 0 ∷ 0 ∷ 0 ∷ 0 ∷ 3 ∷ []))
    (literal _ _ refl, (literal _ _ refl, (literal _ _ refl, tt))) refl refl
    (λ end. rw (uuid_read (codes "00000000-0000-0000-0000-000000000003") (0 ∷ 0 ∷ 0 ∷ 0 ∷ 0 ∷ 0 ∷ 0 ∷ 0 ∷ 0 ∷ 0 ∷ 0 ∷ 0 ∷ 0 ∷ 0 ∷ 0 ∷ 3 ∷ []) refl refl) refl)

host_line_3 : IsWholeLine (codes "host" ∷ codes "c2" ∷ codes "00000000-0000-0000-0000-000000000004" ∷ [])
unfolding event_line event_word is_host_name by_index AreGood
host_line_3 =
    event_is (codes "host" ∷ codes "c2" ∷ codes "00000000-0000-0000-0000-000000000004" ∷ []) (event.Host (codes "c2") (0 ∷ 0 ∷ 0 ∷ 0 ∷ 0 ∷ 0 ∷ 0 ∷ 0 ∷ 0 ∷ 0 ∷ 0 ∷ 0 ∷ 0 ∷ 0 ∷ 0 ∷ 4 ∷ []))
    (literal _ _ refl, (literal _ _ refl, (literal _ _ refl, tt))) refl refl
    (λ end. rw (uuid_read (codes "00000000-0000-0000-0000-000000000004") (0 ∷ 0 ∷ 0 ∷ 0 ∷ 0 ∷ 0 ∷ 0 ∷ 0 ∷ 0 ∷ 0 ∷ 0 ∷ 0 ∷ 0 ∷ 0 ∷ 0 ∷ 4 ∷ []) refl refl) refl)

mkfs_line : IsWholeLine (codes "mkfs" ∷ codes "m" ∷ codes "00000000-0000-0000-0000-0000000000ff" ∷ codes "unit=4096" ∷ codes "log=65536" ∷ codes "force" ∷ [])
unfolding event_line event_word is_host_name by_index mkfs_option_of size_of_text number_of_text AreGood
mkfs_line =
    event_is (codes "mkfs" ∷ codes "m" ∷ codes "00000000-0000-0000-0000-0000000000ff" ∷ codes "unit=4096" ∷ codes "log=65536" ∷ codes "force" ∷ [])
    (event.Mkfs (codes "m") (mkfs_request (0 ∷ 0 ∷ 0 ∷ 0 ∷ 0 ∷ 0 ∷ 0 ∷ 0 ∷ 0 ∷ 0 ∷ 0 ∷ 0 ∷ 0 ∷ 0 ∷ 0 ∷ 255 ∷ []) 4096 65536 1 true None))
    (literal _ _ refl, (literal _ _ refl, (literal _ _ refl, (literal _ _ refl, (literal _ _ refl, (literal _ _ refl, tt)))))) refl refl
    (λ end. rw (uuid_read (codes "00000000-0000-0000-0000-0000000000ff") (0 ∷ 0 ∷ 0 ∷ 0 ∷ 0 ∷ 0 ∷ 0 ∷ 0 ∷ 0 ∷ 0 ∷ 0 ∷ 0 ∷ 0 ∷ 0 ∷ 0 ∷ 255 ∷ []) refl refl) refl)

-- Many lines.

abbrev pub AreEvents : List Words → Type 0
AreEvents [] = Unit {0}
AreEvents (words ∷ lines) = IsWholeLine words × AreEvents lines

events_append : (a b : List Words) → AreEvents a → AreEvents b → AreEvents (a ++ b)
events_append [] b h k = k
events_append (words ∷ a) b h k = (h.0, events_append a b h.1 k)

all_of : (lines : List Words) → AreEvents lines → All (λ (words : Words). IsEventLine words) lines
all_of [] h = All-nil (λ (words : Words). IsEventLine words)
all_of (words ∷ lines) h = All-cons (λ (w : Words). IsEventLine w) words lines h.0.event (all_of lines h.1)

front_events : AreEvents front_lines
front_events = (host_line_0, (host_line_1, (host_line_2, (host_line_3, (mkfs_line, tt)))))

-- whatever a test says
either_way : (t : Bool) (x y : Round) → AreEvents x.lines → AreEvents y.lines → AreEvents (cond t x y).lines
either_way true x y h k = h
either_way false x y h k = k

either_lines : (t : Bool) (x y : List Words) → AreEvents x → AreEvents y → AreEvents (cond t x y)
either_lines true x y h k = h
either_lines false x y h k = k

end_events : (e : ℕ) → AreEvents (end_lines e)
end_events e =
    either_lines (e == 0) _ _ (stop_line, tt) (either_lines (e == 1) _ _ (halt_line, tt) (gate_line, (halt_line, tt)))

-- draws lie below their bounds
below_bound : (n bound : ℕ) → 0 < bound → n % bound < bound
below_bound n bound some = omega arith

module _ (i : ℕ) (few : i < 100000) (s : List ℕ) where
  small_i : i < 2 ^ 64
  small_i = omega (arith, few)

  word_of : (bound : ℕ) (t : List ℕ) → 0 < bound → bound < 200000 → drawn bound t < 2 ^ 64
  word_of bound t some low = omega (arith, low, below_bound (plus_plus t).0 bound some)

  cut_events : AreEvents (cut_round i s).lines
  cut_events = (
    begun_line i (drawn 20000 s) small_i (word_of 20000 s (omega arith) (omega arith)),
    (
      step_line (1 + drawn 12000 (after s)) (ne_eqb _ 0 (λ e. omega (arith, e))) (omega (arith, below_bound (plus_plus (after s)).0 12000 (omega arith))),
      end_events (drawn 3 (after (after s))),
    ),
  )

  append_events : (case : ℕ) → AreEvents (append_round i case s).lines
  append_events case =
      either_way (nat_lt case 2) _ _ (mkdir_line i small_i, tt)
      (either_way (nat_lt case 4) _ _ (creat_line i (drawn 20000 s) small_i (word_of 20000 s (omega arith) (omega arith)), tt) cut_events)

  client_below : (t : List ℕ) → drawn 3 t < 3
  client_below t = below_bound (plus_plus t).0 3 (omega arith)

  line_below : (t : List ℕ) → line_number (drawn 1024 t) < 2 ^ 64
  line_below t = omega (arith, below_bound (plus_plus t).0 1024 (omega arith))

  mask_below : (t : List ℕ) → drawn 256 t < 256
  mask_below t = below_bound (plus_plus t).0 256 (omega arith)

  cache_events : (case : ℕ) → AreEvents (cache_round case s).lines
  cache_events case =
      either_way (nat_lt case 8) _ _ (logplay_line (drawn 3 s) (client_below s), tt)
      (either_way (nat_lt case 10) _ _ (fetch_line (drawn 3 s) _ _ (client_below s) (line_below (after s)) (mask_below (after (after s))), tt)
      (either_way (nat_lt case 11) _ _ (leak_line _ _ (line_below s) (mask_below (after s)), tt) (evict_line _ (line_below s), tt)))

  client_events : (case : ℕ) → AreEvents (client_round i case s).lines
  client_events case =
      either_way (nat_lt case 13) _ _ (begin_line (drawn 3 s) (client_below s), tt)
      (either_way (nat_lt case 14) _ _ (
        client_step_line (drawn 3 s) (1 + drawn 4000 (after s)) (client_below s) (ne_eqb _ 0 (λ e. omega (arith, e)))
            (omega (arith, below_bound (plus_plus (after s)).0 4000 (omega arith))),
        tt,
      )
      (either_way (nat_lt case 15) _ _ (finish_line (drawn 3 s) (client_below s), tt)
      (verify_line (drawn 3 s) (drawn (i + 1) (after s)) (client_below s) (word_of (i + 1) (after s) (omega arith) (omega (arith, few))), tt)))

  case_events : (case : ℕ) → AreEvents (round_of i case s).lines
  case_events case = either_way (nat_lt case 5) _ _ (append_events case) (either_way (nat_lt case 12) _ _ (cache_events case) (client_events case))

round_events : (i : ℕ) (s : List ℕ) → i < 100000 → AreEvents (round i s).lines
unfolding round
round_events i s few = case_events i few (after s) (drawn 16 s)

rounds_events : (i more : ℕ) (s : List ℕ) → i + more ≤ 100000 → AreEvents (rounds i more s)
rounds_events i zero s few = tt
rounds_events i (suc more) s few =
    events_append (round i s).lines (rounds (i + 1) more (round i s).state) (round_events i s (omega (arith, few))) (rounds_events (i + 1) more (round i s).state (omega (arith, few)))

pub whole_events : (seed size : ℕ) → size ≤ 100000 → AreEvents (storm_lines seed size)
whole_events seed size few =
    events_append front_lines (rounds 0 size (stream_state seed 0)) front_events (rounds_events 0 size (stream_state seed 0) (omega (arith, few)))

pub all_events : (seed size : ℕ) → size ≤ 100000 → All (λ (words : Words). IsEventLine words) (storm_lines seed size)
all_events seed size few = all_of (storm_lines seed size) (whole_events seed size few)
