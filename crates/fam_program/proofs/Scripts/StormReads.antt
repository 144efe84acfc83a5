-- A storm's script as its events, of which it has as many as line feeds.
use Rattle.std.proofs.Common.{◌≡◌, ℕ, suc, ◌+◌, ◌≤◌, Bool, cond, List, [], ◌∷◌, ◌++◌, length, Result, Ok, refl, ap, ap₂, sym, subst, ◌∙◌, arith}
use Rattle.std.specs.Prelude.{IfOk, count_by, sum_by}
use Rattle.std.proofs.lemmas.Bool.{ne_eqb}
use Rattle.std.proofs.lemmas.List.Sums.{sum_by-append, sum_by-cons}
use Rattle.fam_journal.specs.declared.event.Event.{Event}
use Rattle.fam_grammar.specs.Scripts.{is_line_feed, script_events}
use Rattle.fam_storm.specs.Events.{IsSoManyEvents, ReadNoSource}
use Rattle.fam_storm.specs.Storm.{Words, line_text, storm, storm_lines, text_of}
use Rattle.fam_storm.proofs.EventLines.{AreEvents, whole_events}
use Rattle.fam_tree.proofs.Printed.{No}

-- Line feeds.

abbrev one_at : Bool → ℕ
one_at ends = cond ends 1 0

-- one for a line feed
abbrev fed : ℕ → ℕ
fed byte = one_at (is_line_feed byte)

-- a line has none
none_fed : (line : List ℕ) → No 10 line → sum_by fed line ≡ 0
unfolding No
none_fed [] none = refl
none_fed (byte ∷ line) none =
    let here : fed byte ≡ 0 = ap (λ (t : Bool). one_at t) (ne_eqb byte 10 none.0) in
    let all = sum_by-cons fed byte line in
    let more = none_fed line none.1 in
    omega (arith, all, here, more)

-- with its end it has one
line_fed : (line : List ℕ) → No 10 line → sum_by fed (line ++ 10 ∷ []) ≡ 1
line_fed line none =
    let both = sum_by-append fed line (10 ∷ []) in
    let end : sum_by fed (10 ∷ []) ≡ 1 = refl in
    let before = none_fed line none in
    omega (arith, both, end, before)

lines_fed : (lines : List Words) → AreEvents lines → sum_by fed (text_of lines) ≡ length lines
lines_fed [] are = refl
lines_fed (words ∷ lines) are =
    let both : sum_by fed (text_of (words ∷ lines)) ≡ sum_by fed (line_text words ++ 10 ∷ []) + sum_by fed (text_of lines) = sum_by-append fed (line_text words ++ 10 ∷ []) (text_of lines) in
    both ∙ ap₂ (λ (a b : ℕ). a + b) (line_fed (line_text words) are.0.feed) (lines_fed lines are.1) ∙ (let e : 1 + length lines ≡ suc (length lines) = omega arith in e)

storm_fed : (seed size : ℕ) → size ≤ 100000 → count_by is_line_feed (storm seed size) ≡ length (storm_lines seed size)
unfolding storm
storm_fed seed size few = lines_fed (storm_lines seed size) (whole_events seed size few)

-- What a storm's script reads as: the text is the storm's, and has a line feed for each event.
pub record ReadsAs (seed size : ℕ) (text : List ℕ) : Type 0 where
  pub events : List Event
  pub reads : script_events (storm seed size) ≡ Ok events
  pub text_reads : script_events text ≡ Ok events
  pub feeds : count_by is_line_feed text ≡ length events
  pub sources : ReadNoSource events

pub storm_reads : (seed size : ℕ) (text : List ℕ) → size ≤ 100000 → text ≡ storm seed size → IsSoManyEvents (length (storm_lines seed size)) (script_events (storm seed size))
    → IfOk (script_events (storm seed size)) (λ events. ReadNoSource events) → ReadsAs seed size text
storm_reads seed size text few is many quiet = record {
  events = many.0;
  reads = many.1;
  text_reads = ap script_events is ∙ many.1;
  feeds = ap (count_by is_line_feed) is ∙ storm_fed seed size few ∙ sym many.2;
  sources = subst (λ (said : Result (List Event) (ℕ × ℕ)). IfOk said (λ events. ReadNoSource events)) many.1 quiet;
}
