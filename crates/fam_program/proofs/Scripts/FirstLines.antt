-- The first line of a script, and what is behind it.
use Rattle.std.proofs.Common.{◌≡◌, ℕ, ◌+◌, ◌-◌, ◌<◌, inl, inr, true, false, List, [], ◌∷◌, length, get_or, take, drop, Option, Some, None, Result, Ok, Err, refl, ap, sym, subst, ◌∙◌, arith}
use Rattle.std.specs.Prelude.{IfOk, IsOk}
use Rattle.std.specs.List.{position_or_len}
use Rattle.std.specs.Result.{result_unwrap_or}
use Rattle.std.proofs.lemmas.Bool.{false≢true}
use Rattle.std.proofs.lemmas.List.{take_rest}
use Rattle.std.proofs.lemmas.List.Elements.{All-from_get_or}
use Rattle.std.proofs.lemmas.List.Splits.{slice_split_first, slice_split_none}
use Rattle.std.proofs.lemmas.List.Sums.{position_or_len_is}
use Rattle.fam_journal.specs.declared.event.Event.{Event}
use Rattle.fam_grammar.specs.Scripts.{LineReading, events_from, is_line_feed, line_reads, lines_of, script_events, with_line}
use Rattle.fam_grammar.specs.Sound.{IfEvent}
use Rattle.fam_program.specs.Far.{AreSoundEvents}
use Rattle.fam_program.specs.LineByLine.{SplitsAtLine, StartsWith}
use Rattle.fam_program.proofs.Scripts.Lines.{script_is}

-- Readings with a value.

pub ok_is : {A E : Type 0} (said : Result A E) → IsOk said → (value : A) × (said ≡ Ok value)
ok_is (Ok value) ok = (value, refl)
ok_is (Err e) ok = absurd (false≢true ok)

pub is_ok_by : {A E : Type 0} (said : Result A E) (value : A) → said ≡ Ok value → IsOk said
is_ok_by said value is = subst (λ r. IsOk r) (sym is) refl

pub not_bad : {A E : Type 0} (said : Result A E) (e : E) → IsOk said → said ≡ Err e → ⊥
not_bad said e ok is = false≢true (subst (λ r. IsOk r) is ok)

-- there is one value
pub value_is : {A E : Type 0} (said : Result A E) (x y : A) → said ≡ Ok x → said ≡ Ok y → x ≡ y
value_is said x y first second = sym (ap (λ r. result_unwrap_or r x) first) ∙ ap (λ r. result_unwrap_or r x) second

-- Cuts.

-- none of the first bytes ends the line
abbrev pub NoFeed : List ℕ → ℕ → Type 0
NoFeed script i = (k : ℕ) → k < i → is_line_feed (get_or script k 0) ≡ false

pub cut_at : (script : List ℕ) (i : ℕ) → i < length script → NoFeed script i → is_line_feed (get_or script i 0) ≡ true
    → SplitsAtLine script (take i script) (take (length script - (i + 1)) (drop (i + 1) script))
cut_at script i within none here =
    let at : position_or_len is_line_feed script ≡ i = position_or_len_is is_line_feed script i 0 (omega arith) none (λ _. here) in
    inl (slice_split_first is_line_feed script 0 (omega (arith, at, within)) ∙ ap (λ (k : ℕ). take k script ∷ lines_of (drop (k + 1) script)) at
    ∙ ap (λ (bytes : List ℕ). take i script ∷ lines_of bytes) (sym (take_rest script (i + 1))))

pub cut_none : (script : List ℕ) (i : ℕ) → i ≡ length script → NoFeed script i → SplitsAtLine script script []
cut_none script i all none = inr (slice_split_none is_line_feed script (All-from_get_or (λ byte. is_line_feed byte ≡ false) script 0 (λ k within. none k (omega (arith, all, within)))), refl)

-- Readings of lines.

-- a line before others that read isn't bad
line_ok : (said : LineReading Event) (number : ℕ) (rest : Result (List Event) (ℕ × ℕ)) → IsOk (with_line said number rest) → IsOk said
line_ok (Ok event) number rest ok = refl
line_ok (Err column) number rest ok = ok

-- the events behind a line's own
pub record Behind (event : Event) (events : List Event) (rest : Result (List Event) (ℕ × ℕ)) : Type 0 where
  pub more : List Event
  pub rest_is : rest ≡ Ok more
  pub events_are : events ≡ event ∷ more

behind : (event : Event) (number : ℕ) (rest : Result (List Event) (ℕ × ℕ)) (events : List Event) → with_line (Ok (Some event)) number rest ≡ Ok events → Behind event events rest
behind event number (Ok more) events is = record { more = more; rest_is = refl; events_are = value_is (Ok (event ∷ more)) events (event ∷ more) is refl }
behind event number (Err bad) events is = absurd (false≢true (is_ok_by (Err bad) events is))

-- whatever the number of the first line is
renumber_by : (said : LineReading Event) (rest again : Result (List Event) (ℕ × ℕ)) (n m : ℕ) (events : List Event)
    → ((more : List Event) → rest ≡ Ok more → again ≡ Ok more) → with_line said n rest ≡ Ok events → with_line said m again ≡ Ok events
renumber_by (Ok None) rest again n m events same is = same events is
renumber_by (Ok (Some event)) rest again n m events same is =
    let b = behind event n rest events is in
    ap (with_line (Ok (Some event)) m) (same b.more b.rest_is) ∙ ap Ok (sym b.events_are)
renumber_by (Err column) rest again n m events same is = absurd (false≢true (is_ok_by (Err (n, column)) events is))

renumber : (n m : ℕ) (lines : List (List ℕ)) (events : List Event) → events_from line_reads n lines ≡ Ok events → events_from line_reads m lines ≡ Ok events
renumber n m [] events is = is
renumber n m (line ∷ lines) events is =
    renumber_by (line_reads line) (events_from line_reads (n + 1) lines) (events_from line_reads (m + 1) lines) n m events (λ more more_is. renumber (n + 1) (m + 1) lines more more_is) is

-- an empty line has no event
nothing_left : events_from line_reads 2 ([] ∷ []) ≡ Ok []
unfolding line_reads
nothing_left = refl

-- and so has an empty script
pub none_in : script_events [] ≡ Ok []
unfolding script_events line_reads
none_in = refl

module _ (script line rest : List ℕ) (cut : SplitsAtLine script line rest) where
  by_line : script_events script ≡ with_line (line_reads line) 1 (events_from line_reads 2 (lines_of rest))
  by_line = script_is script ∙ by_cut cut
    where
      by_cut : SplitsAtLine script line rest → events_from line_reads 1 (lines_of script) ≡ with_line (line_reads line) 1 (events_from line_reads 2 (lines_of rest))
      by_cut (inl is) = ap (events_from line_reads 1) is
      by_cut (inr all) =
          ap (events_from line_reads 1) all.0
          ∙ ap (with_line (line_reads line) 1) (sym nothing_left ∙ ap (λ (bytes : List ℕ). events_from line_reads 2 (lines_of bytes)) (sym all.1))

  module _ (good : IsOk (script_events script)) where
    -- it isn't bad
    pub first_ok : IsOk (line_reads line)
    first_ok = line_ok (line_reads line) 1 (events_from line_reads 2 (lines_of rest)) (subst (λ r. IsOk r) by_line good)

    -- its event, and those behind it
    pub starts : (event : Option Event) → line_reads line ≡ Ok event → StartsWith script event rest
    starts event says =
        let all = ok_is (script_events script) good in
        by_event event (sym (by_line ∙ ap (λ (said : LineReading Event). with_line said 1 (events_from line_reads 2 (lines_of rest))) says) ∙ all.1) all.1
      where
        by_event : {events : List Event} (event : Option Event) → with_line (Ok event) 1 (events_from line_reads 2 (lines_of rest)) ≡ Ok events
            → script_events script ≡ Ok events → StartsWith script event rest
        by_event {events} None is all = record { events = events; rest = script_is rest ∙ renumber 2 1 (lines_of rest) events is; all = all }
        by_event {events} (Some event) is all =
            let b = behind event 1 (events_from line_reads 2 (lines_of rest)) events is in
            record { events = b.more; rest = script_is rest ∙ renumber 2 1 (lines_of rest) b.more b.rest_is; all = all ∙ ap Ok b.events_are }

-- Events within their limits.

sound_by : (said : LineReading Event) (number : ℕ) (rest : Result (List Event) (ℕ × ℕ)) → ((event : Option Event) → said ≡ Ok event → IfEvent event)
    → IfOk rest AreSoundEvents → IfOk (with_line said number rest) AreSoundEvents
sound_by (Ok None) number rest one more = more
sound_by (Ok (Some event)) number (Ok events) one more = (one (Some event) refl, more)
sound_by (Ok (Some event)) number (Err bad) one more = tt
sound_by (Err column) number rest one more = tt

sound_from : ((line : List ℕ) (event : Option Event) → line_reads line ≡ Ok event → IfEvent event) → (number : ℕ) (lines : List (List ℕ)) → IfOk (events_from line_reads number lines) AreSoundEvents
sound_from law number [] = tt
sound_from law number (line ∷ lines) = sound_by (line_reads line) number (events_from line_reads (number + 1) lines) (law line) (sound_from law (number + 1) lines)

pub all_sound : ((line : List ℕ) (event : Option Event) → line_reads line ≡ Ok event → IfEvent event) → (script : List ℕ) (events : List Event)
    → script_events script ≡ Ok events → AreSoundEvents events
all_sound law script events is = subst (λ (r : Result (List Event) (ℕ × ℕ)). IfOk r AreSoundEvents) (sym (script_is script) ∙ is) (sound_from law 1 (lines_of script))
