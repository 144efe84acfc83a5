-- The events of a script's lines, one behind another, whatever a line reads as.
use Rattle.std.proofs.Common.{◌≡◌, ℕ, ◌+◌, ◌<◌, ◌≤◌, get_or, arith, length, List, [], ◌∷◌, ◌++◌, drop, Some, None, Result, Ok, Err, refl, ap, sym, ◌∙◌}
use Rattle.std.specs.Prelude.{count_by}
use Rattle.std.proofs.lemmas.List.{append-nil, append_assoc, at_drop_more}
use Rattle.std.proofs.lemmas.List.Splits.{length-slice_split}
use Rattle.std.proofs.lemmas.List.Sums.{count_by-le-length}
use Rattle.fam_grammar.specs.declared.fault.LineFault.{LineFault}
use Rattle.fam_grammar.specs.declared.fault.LineFault.TheVariants.{BadLine, OutOfMemory}
use Rattle.fam_grammar.specs.Scripts.{IsBadLine, IsBadScript, LineReading, events_from, events_in, is_line_feed, lines_of, with_line}

-- events before the others, unless a line is bad
abbrev pub behind_events : {A : Type 0} → List A → Result (List A) (ℕ × ℕ) → Result (List A) (ℕ × ℕ)
behind_events events (Ok more) = Ok (events ++ more)
behind_events events (Err bad) = Err bad

pub none_behind : {A : Type 0} (said : Result (List A) (ℕ × ℕ)) → said ≡ behind_events [] said
none_behind (Ok more) = refl
none_behind (Err bad) = refl

pub one_more : {A : Type 0} (events : List A) (event : A) (number : ℕ) (rest : Result (List A) (ℕ × ℕ))
    → behind_events events (with_line (Ok (Some event)) number rest) ≡ behind_events (events ++ event ∷ []) rest
one_more events event number (Ok more) = ap Ok (sym (append_assoc events (event ∷ []) more))
one_more events event number (Err bad) = refl

-- The lines of a script.

count_few : (bytes : List ℕ) → count_by is_line_feed bytes ≤ length bytes
count_few bytes = count_by-le-length is_line_feed bytes

-- they are no more than its bytes and one
pub lines_few : (bytes : List ℕ) → length (lines_of bytes) ≤ length bytes + 1
lines_few bytes = let count = length-slice_split is_line_feed bytes in let few = count_few bytes in omega (arith, count, few)

-- what was read so far: these events, from the first `n` lines
abbrev pub HasRead : {A : Type 0} → (List ℕ → LineReading A) → List ℕ → ℕ → List A → Type 0
HasRead reads bytes n events = events_in reads bytes ≡ behind_events events (events_from reads (n + 1) (drop n (lines_of bytes)))

pub none_read : {A : Type 0} (reads : List ℕ → LineReading A) (bytes : List ℕ) → HasRead reads bytes 0 []
none_read reads bytes = none_behind (events_in reads bytes)

module _ {A : Type 0} (reads : List ℕ → LineReading A) (bytes : List ℕ) (n : ℕ) (events : List A) (so_far : HasRead reads bytes n events)
    (line : List ℕ) (within : n < length (lines_of bytes)) (is : line ≡ get_or (lines_of bytes) n line) where
  next_line : drop n (lines_of bytes) ≡ line ∷ drop (n + 1) (lines_of bytes)
  next_line = at_drop_more (λ (l : List (List ℕ)). l) (lines_of bytes) n line within ∙ ap (λ (x : List ℕ). x ∷ drop (n + 1) (lines_of bytes)) (sym is)

  by_line : (said : LineReading A) → reads line ≡ said → events_in reads bytes ≡ behind_events events (with_line said (n + 1) (events_from reads (n + 1 + 1) (drop (n + 1) (lines_of bytes))))
  by_line said says =
      so_far
      ∙ ap (λ (ls : List (List ℕ)). behind_events events (events_from reads (n + 1) ls)) next_line
      ∙ ap (λ (r : LineReading A). behind_events events (with_line r (n + 1) (events_from reads (n + 1 + 1) (drop (n + 1) (lines_of bytes))))) says

  -- a line without an event
  pub read_none : reads line ≡ Ok None → HasRead reads bytes (n + 1) events
  read_none says = by_line (Ok None) says

  -- one more event
  pub read_one : (event : A) (more : List A) → reads line ≡ Ok (Some event) → more ≡ events ++ event ∷ [] → HasRead reads bytes (n + 1) more
  read_one event more says more_is =
      by_line (Ok (Some event)) says
      ∙ one_more events event (n + 1) (events_from reads (n + 1 + 1) (drop (n + 1) (lines_of bytes)))
      ∙ ap (λ (es : List A). behind_events es (events_from reads (n + 1 + 1) (drop (n + 1) (lines_of bytes)))) (sym more_is)

  -- a bad line
  pub read_bad : (fault : LineFault) → IsBadLine (n + 1) (reads line) fault → IsBadScript (events_in reads bytes) fault
  read_bad (BadLine at column) bad = by_line (Err column) bad.1 ∙ ap (λ (k : ℕ). Err (k, column)) (sym bad.0)
  read_bad OutOfMemory bad = tt

-- all lines
pub read_all : {A : Type 0} (reads : List ℕ → LineReading A) (bytes : List ℕ) (n : ℕ) (events : List A) → HasRead reads bytes n events
    → drop n (lines_of bytes) ≡ [] → events_in reads bytes ≡ Ok events
read_all reads bytes n events so_far none = so_far ∙ ap (λ (ls : List (List ℕ)). behind_events events (events_from reads (n + 1) ls)) none ∙ ap Ok (append-nil events)
