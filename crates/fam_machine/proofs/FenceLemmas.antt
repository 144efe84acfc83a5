-- What a fence sends, and what it leaves.
use Rattle.std.proofs.Common.{ℕ, zero, suc, ◌≡◌, ◌≢◌, ◌⊎◌, ◌<◌, Bool, true, false, cond, List, [], ◌∷◌, length, map, take, drop, Option, Some, inl, inr, refl, sym, ap, subst, ◌∙◌, arith}
use Rattle.std.specs.List.{filter}
use Rattle.std.proofs.lemmas.Bool.{false≢true, and_parts, cases_eq}
use Rattle.std.specs.Ordering.{nat_cmp}
use Rattle.std.specs.FinMap.{is_sorted, find, entries, entries_sorted, get-entries}
use Rattle.std.specs.FinMap.Entries.{below_all}
use Rattle.fam_base.specs.Image.{eight, line_at}
use Rattle.fam_base.proofs.ImageLemmas.{length-with_line, line_at-with_line, line_at-with_line_other, normal-with_line}
use Rattle.fam_machine.specs.declared.cell.Cell.{Cell}
use Rattle.fam_machine.specs.declared.cell.Cell.TheVariants.{Absent, Clean, Dirty}
use Rattle.fam_machine.specs.Caches.{Mark, clean, dirty, asked, CachedLine, Cache, asked_lines, cell_of, cell_at, cell_marked, is_marked_asked}
use Rattle.fam_machine.specs.Fences.{IsAmong}
use Rattle.fam_machine.specs.OneLine.{is_asked, IsAsked, cleaned, sent}
use Rattle.fam_machine.specs.Operations.{Machine, send_line, send_lines}
use Rattle.fam_machine.proofs.CacheLemmas.{same_key, other_key, cell_at-with_cell_same, cell_at-with_cell_other}
use Rattle.fam_machine.proofs.DirtyLemmas.{Lines, below_none, true_of}

-- the numbers of those lines that are asked
abbrev asked_in : Lines → List ℕ
asked_in lines = map (λ (e : ℕ × CachedLine). e.0) (filter (λ (e : ℕ × CachedLine). is_marked_asked e.1.mark) lines)

asked_marked : (mark : Mark) (words : List ℕ) → is_asked (cell_marked mark words) ≡ is_marked_asked mark
asked_marked clean words = refl
asked_marked dirty words = refl
asked_marked asked words = refl

-- what is found at a line's first place, and behind it
found_here : (e : ℕ × CachedLine) (rest : Lines) (q : ℕ) → q ≡ e.0 → is_asked (cell_of (find nat_cmp q (e ∷ rest))) ≡ is_marked_asked e.1.mark
found_here e rest q same = ap (λ (b : Bool). is_asked (cell_of (cond b (Some e.1) (find nat_cmp q rest)))) (same_key q e.0 same) ∙ asked_marked e.1.mark e.1.words

found_later : (e : ℕ × CachedLine) (rest : Lines) (q : ℕ) → q ≢ e.0 → is_asked (cell_of (find nat_cmp q (e ∷ rest))) ≡ is_asked (cell_of (find nat_cmp q rest))
found_later e rest q other = ap (λ (b : Bool). is_asked (cell_of (cond b (Some e.1) (find nat_cmp q rest)))) (other_key q e.0 other)

-- a list with one more that passes the test, or doesn't
among_first : (b : Bool) (e : ℕ × CachedLine) (rest : Lines) (q : ℕ) → q ≡ e.0 → b ≡ true → IsAmong q (map (λ (e : ℕ × CachedLine). e.0) (cond b (e ∷ rest) rest))
among_first true e rest q same is = inl same
among_first false e rest q same is = absurd (false≢true is)

among_later : (b : Bool) (e : ℕ × CachedLine) (rest : Lines) (q : ℕ) → IsAmong q (map (λ (e : ℕ × CachedLine). e.0) rest) → IsAmong q (map (λ (e : ℕ × CachedLine). e.0) (cond b (e ∷ rest) rest))
among_later true e rest q among = inr among
among_later false e rest q among = among

among_either : (b : Bool) (e : ℕ × CachedLine) (rest : Lines) (q : ℕ) → IsAmong q (map (λ (e : ℕ × CachedLine). e.0) (cond b (e ∷ rest) rest))
    → ((q ≡ e.0) × (b ≡ true)) ⊎ IsAmong q (map (λ (e : ℕ × CachedLine). e.0) rest)
among_either true e rest q (inl same) = inl (same, refl)
among_either true e rest q (inr among) = inr among
among_either false e rest q among = inr among

asked_among : (lines : Lines) (q : ℕ) → is_asked (cell_of (find nat_cmp q lines)) ≡ true → IsAmong q (asked_in lines)
asked_among [] q is = absurd (false≢true is)
asked_among (e ∷ lines) q is =
    elim (cases_eq q e.0) [
      | inl same ↦ among_first (is_marked_asked e.1.mark) e (filter (λ (e : ℕ × CachedLine). is_marked_asked e.1.mark) lines) q same (sym (found_here e lines q same) ∙ is)
      | inr other ↦ among_later (is_marked_asked e.1.mark) e (filter (λ (e : ℕ × CachedLine). is_marked_asked e.1.mark) lines) q (asked_among lines q (sym (found_later e lines q other) ∙ is))
    ]

among_asked : (lines : Lines) (q : ℕ) → is_sorted nat_cmp lines ≡ true → IsAmong q (asked_in lines) → is_asked (cell_of (find nat_cmp q lines)) ≡ true
among_asked [] q sorted among = absurd among
among_asked (e ∷ lines) q sorted among =
    let both = and_parts (below_all nat_cmp e.0 lines) (is_sorted nat_cmp lines) sorted in
    elim (among_either (is_marked_asked e.1.mark) e (filter (λ (e : ℕ × CachedLine). is_marked_asked e.1.mark) lines) q among) [
      | inl here ↦ found_here e lines q here.0 ∙ here.1
      | inr later ↦
          let found = among_asked lines q both.1 later in
          elim (cases_eq q e.0) [
            | inl same ↦ absurd (false≢true (sym (ap (λ (o : Option CachedLine). is_asked (cell_of o)) (ap (λ (k : ℕ). find nat_cmp k lines) same ∙ below_none e.0 lines both.0)) ∙ found))
            | inr other ↦ found_later e lines q other ∙ found
          ]
    ]

-- the lines that a fence sends are those that are asked
pub asked_is_among : (cache : Cache) (q : ℕ) → IsAsked (cell_at cache q) → IsAmong q (asked_lines cache)
unfolding asked_lines
asked_is_among cache q is = asked_among (entries cache) q (sym (ap (λ (o : Option CachedLine). is_asked (cell_of o)) (get-entries cache q)) ∙ is)

pub among_is_asked : (cache : Cache) (q : ℕ) → IsAmong q (asked_lines cache) → IsAsked (cell_at cache q)
unfolding asked_lines
among_is_asked cache q among = ap (λ (o : Option CachedLine). is_asked (cell_of o)) (get-entries cache q) ∙ among_asked (entries cache) q (true_of _ (entries_sorted cache)) among

-- What it leaves.

cleaned_not_asked : (c : Cell) → is_asked (cleaned c) ≡ false
cleaned_not_asked Absent = refl
cleaned_not_asked (Clean words) = refl
cleaned_not_asked (Dirty a words) = refl

-- the line is clean then, and the others are as they were
pub send_here : (l : ℕ) (m : Machine) → cell_at (send_line l m).cache l ≡ cleaned (cell_at m.cache l)
send_here l m = cell_at-with_cell_same l (cleaned (cell_at m.cache l)) m.cache

pub send_other : (l : ℕ) (m : Machine) (q : ℕ) → q ≢ l → cell_at (send_line l m).cache q ≡ cell_at m.cache q
send_other l m q other = cell_at-with_cell_other l (cleaned (cell_at m.cache l)) m.cache q other

-- a line that is among those that are sent isn't asked then
none_after : (lines : List ℕ) (m : Machine) (q : ℕ) → (IsAsked (cell_at m.cache q) → IsAmong q lines) → IsAsked (cell_at (send_lines lines m).cache q) → ⊥
none_after [] m q among is = among is
none_after (l ∷ lines) m q among is =
    elim (cases_eq q l) [
      | inl same ↦ none_after lines (send_line l m) q
          (λ still. absurd (false≢true (sym
          (ap (λ (x : ℕ). is_asked (cell_at (send_line l m).cache x)) same ∙ ap is_asked (send_here l m) ∙ cleaned_not_asked (cell_at m.cache l))
          ∙ still))) is
      | inr other ↦ none_after lines (send_line l m) q (λ still. elim (among (sym (ap is_asked (send_other l m q other)) ∙ still)) [ inl same ↦ absurd (other same) | inr later ↦ later ]) is
    ]

-- behind a fence no line is asked
pub none_asked : (m : Machine) (q : ℕ) → IsAsked (cell_at (send_lines (asked_lines m.cache) m).cache q) → ⊥
none_asked m q is = none_after (asked_lines m.cache) m q (asked_is_among m.cache q) is

-- the image's form stays
pub send_lines_length : (lines : List ℕ) (m : Machine) → length (send_lines lines m).image ≡ length m.image
send_lines_length [] m = refl
send_lines_length (l ∷ lines) m = send_lines_length lines (send_line l m) ∙ length-with_line m.image l (sent (line_at m.image l) (cell_at m.cache l))

pub send_lines_normal : (lines : List ℕ) (m : Machine) → map eight m.image ≡ m.image → map eight (send_lines lines m).image ≡ (send_lines lines m).image
send_lines_normal [] m normal = normal
send_lines_normal (l ∷ lines) m normal = send_lines_normal lines (send_line l m) (normal-with_line m.image normal l (sent (line_at m.image l) (cell_at m.cache l)))

-- the first so many lines of a list are lines of it, and so is the next one
pub among_take : (n : ℕ) (lines : List ℕ) (q : ℕ) → IsAmong q (take n lines) → IsAmong q lines
among_take zero lines q among = absurd among
among_take (suc n) [] q among = among
among_take (suc n) (l ∷ lines) q (inl same) = inl same
among_take (suc n) (l ∷ lines) q (inr later) = inr (among_take n lines q later)

pub among_drop : (n : ℕ) (lines : List ℕ) (q : ℕ) → IsAmong q (drop n lines) → IsAmong q lines
among_drop zero lines q among = among
among_drop (suc n) [] q among = among
among_drop (suc n) (l ∷ lines) q among = inr (among_drop n lines q among)

-- A line that isn't asked, or is.

lines_away : (lines : List ℕ) (m : Machine) (l : ℕ) → (IsAmong l lines → ⊥) → (line_at (send_lines lines m).image l ≡ line_at m.image l) × (cell_at (send_lines lines m).cache l ≡ cell_at m.cache l)
lines_away [] m l none = (refl, refl)
lines_away (q ∷ lines) m l none =
    let later = lines_away lines (send_line q m) l (λ among. none (inr among)) in (
      later.0 ∙ line_at-with_line_other m.image q (sent (line_at m.image q) (cell_at m.cache q)) l (λ same. none (inl same)),
      later.1 ∙ send_other q m l (λ same. none (inl same)),
    )

-- a fence leaves a line that isn't asked
pub fence_away : (m : Machine) (l : ℕ) → (IsAsked (cell_at m.cache l) → ⊥)
    → (line_at (send_lines (asked_lines m.cache) m).image l ≡ line_at m.image l)
    × (cell_at (send_lines (asked_lines m.cache) m).cache l ≡ cell_at m.cache l)
fence_away m l none = lines_away (asked_lines m.cache) m l (λ among. none (among_is_asked m.cache l among))

-- an asked line with these words, or one that was sent
abbrev IsHeldOrSent : List ℕ → ℕ → Machine → Type 0
IsHeldOrSent words l m = (cell_at m.cache l ≡ Dirty true words) ⊎ ((cell_at m.cache l ≡ Clean words) × (line_at m.image l ≡ eight words))

send_one : (words : List ℕ) (l : ℕ) (m : Machine) → l < length m.image → IsHeldOrSent words l m → IsHeldOrSent words l (send_line l m)
send_one words l m within (inl held) =
    inr (send_here l m ∙ ap cleaned held, line_at-with_line m.image l (sent (line_at m.image l) (cell_at m.cache l)) within ∙ ap (λ (c : Cell). eight (sent (line_at m.image l) c)) held)
send_one words l m within (inr was) =
    inr (
      send_here l m ∙ ap cleaned was.0,
      line_at-with_line m.image l (sent (line_at m.image l) (cell_at m.cache l)) within
          ∙ ap (λ (c : Cell). eight (sent (line_at m.image l) c)) was.0 ∙ ap eight was.1,
    )

send_each : (words : List ℕ) (l : ℕ) (lines : List ℕ) (m : Machine) → l < length m.image → IsHeldOrSent words l m → IsHeldOrSent words l (send_lines lines m)
send_each words l [] m within is = is
send_each words l (q ∷ lines) m within is =
    send_each words l lines (send_line q m) (omega (arith, within, length-with_line m.image q (sent (line_at m.image q) (cell_at m.cache q))))
    (elim (cases_eq l q) [
      | inl same ↦ subst (λ (k : ℕ). IsHeldOrSent words l (send_line k m)) same (send_one words l m within is)
      | inr other ↦ elim is [
        | inl held ↦ inl (send_other q m l other ∙ held)
        | inr was ↦ inr (send_other q m l other ∙ was.0, line_at-with_line_other m.image q (sent (line_at m.image q) (cell_at m.cache q)) l other ∙ was.1)
      ]
    ])

-- a fence leaves an asked line clean, with its words in memory
pub fence_here : (m : Machine) (l : ℕ) (words : List ℕ) → l < length m.image → cell_at m.cache l ≡ Dirty true words
    → (cell_at (send_lines (asked_lines m.cache) m).cache l ≡ Clean words) × (line_at (send_lines (asked_lines m.cache) m).image l ≡ eight words)
fence_here m l words within held = elim (send_each words l (asked_lines m.cache) m within (inl held)) [
  | inl still ↦ absurd (none_asked m l (ap is_asked still))
  | inr was ↦ was
]
