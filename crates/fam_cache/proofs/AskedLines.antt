-- The lines that a fence sends: the first of them, and the others once it is clean.
use Rattle.std.proofs.Common.{◌≡◌, ◌≢◌, ℕ, ◌+◌, ◌<◌, ◌≤◌, Bool, true, false, cond, inl, inr, List, [], ◌∷◌, map, Option, Some, refl, sym, ap, subst, ◌∙◌, arith}
use Rattle.std.specs.List.{filter}
use Rattle.std.proofs.lemmas.Bool.{false≢true, and_parts, cases_eq, cases_order}
use Rattle.std.specs.Ordering.{nat_cmp, is_lt}
use Rattle.std.specs.Cmp.{nat_cmp_total}
use Rattle.std.specs.FinMap.{entries, entries-insert, entries_sorted, find, get-entries, is_sorted, put}
use Rattle.std.specs.FinMap.Entries.{below_all}
use Rattle.fam_machine.specs.declared.cell.Cell.{Cell}
use Rattle.fam_machine.specs.declared.cell.Cell.TheVariants.{Absent, Clean, Dirty}
use Rattle.fam_machine.specs.Caches.{Cache, CachedLine, Mark, asked, asked_lines, cell_at, cell_changed, cell_marked, cell_of, clean, dirty, is_marked_asked, with_cell}
use Rattle.fam_machine.specs.Fences.{IsAmong}
use Rattle.fam_machine.specs.OneLine.{IsAsked, cleaned, is_asked}
use Rattle.fam_machine.proofs.CacheLemmas.{equal, greater, less, other_key, same_key}
use Rattle.fam_machine.proofs.DirtyLemmas.{Lines, below_none, true_of}
use Rattle.fam_machine.proofs.FenceLemmas.{among_is_asked}
use Rattle.fam_cache.specs.Blocks.{AskedWithin, IsFirstAsked, NoneAsked}
use Rattle.fam_cache.proofs.InOrder.{lt_of_less}

asked_in : Lines → List ℕ
asked_in lines = map (λ (e : ℕ × CachedLine). e.0) (filter (λ (e : ℕ × CachedLine). is_marked_asked e.1.mark) lines)

asked_marked : (mark : Mark) (words : List ℕ) → is_asked (cell_marked mark words) ≡ is_marked_asked mark
asked_marked clean words = refl
asked_marked dirty words = refl
asked_marked asked words = refl

found_here : (e : ℕ × CachedLine) (rest : Lines) (q : ℕ) → q ≡ e.0 → is_asked (cell_of (find nat_cmp q (e ∷ rest))) ≡ is_marked_asked e.1.mark
found_here e rest q same = ap (λ (b : Bool). is_asked (cell_of (cond b (Some e.1) (find nat_cmp q rest)))) (same_key q e.0 same) ∙ asked_marked e.1.mark e.1.words

found_later : (e : ℕ × CachedLine) (rest : Lines) (q : ℕ) → q ≢ e.0 → is_asked (cell_of (find nat_cmp q (e ∷ rest))) ≡ is_asked (cell_of (find nat_cmp q rest))
found_later e rest q other = ap (λ (b : Bool). is_asked (cell_of (cond b (Some e.1) (find nat_cmp q rest)))) (other_key q e.0 other)

below_too : (x y : ℕ) (lines : Lines) → x < y → below_all nat_cmp y lines ≡ true → below_all nat_cmp x lines ≡ true
below_too x y [] less_than below = refl
below_too x y (e ∷ lines) less_than below =
    let both = and_parts (is_lt (nat_cmp y e.0)) (below_all nat_cmp y lines) below in
    let h : x < e.0 = omega (arith, less_than, lt_of_less y e.0 both.0) in
    rw (less x e.0 h) (below_too x y lines less_than both.1)

-- one that is asked comes first, and one that isn't is left out
with_first : (b : Bool) (e : ℕ × CachedLine) (rest : Lines) → b ≡ true → map (λ (e : ℕ × CachedLine). e.0) (cond b (e ∷ rest) rest) ≡ e.0 ∷ map (λ (e : ℕ × CachedLine). e.0) rest
with_first true e rest is = refl
with_first false e rest is = absurd (false≢true is)

without_first : (b : Bool) (e : ℕ × CachedLine) (rest : Lines) → (b ≡ true → ⊥) → map (λ (e : ℕ × CachedLine). e.0) (cond b (e ∷ rest) rest) ≡ map (λ (e : ℕ × CachedLine). e.0) rest
without_first true e rest not = absurd (not refl)
without_first false e rest not = refl

module _ (l : ℕ) (words : List ℕ) where
  abbrev sent_line : CachedLine
  sent_line = record { words = words; mark = clean }

  first_in : (lines : Lines) → is_sorted nat_cmp lines ≡ true → is_asked (cell_of (find nat_cmp l lines)) ≡ true
      → ((q : ℕ) → q < l → is_asked (cell_of (find nat_cmp q lines)) ≡ true → ⊥) → asked_in lines ≡ l ∷ asked_in (put nat_cmp l sent_line lines)
  unfolding asked_in
  first_in [] sorted is none = absurd (false≢true is)
  first_in (e ∷ lines) sorted is none =
      let both = and_parts (below_all nat_cmp e.0 lines) (is_sorted nat_cmp lines) sorted in
      let others : Lines = filter (λ (e : ℕ × CachedLine). is_marked_asked e.1.mark) lines in
      elim (cases_order l e.0) [
        | inl same ↦
            with_first (is_marked_asked e.1.mark) e others (sym (found_here e lines l same) ∙ is)
            ∙ ap (λ (k : ℕ). k ∷ asked_in lines) (sym same)
            ∙ ap (λ (ls : Lines). l ∷ asked_in ls) (sym (put_same e lines same))
        | inr d ↦ elim d [
          | inl up ↦ absurd (false≢true (sym
              (ap (λ (o : Option CachedLine). is_asked (cell_of o)) (below_none l lines (below_too l e.0 lines up both.0)))
              ∙ sym (found_later e lines l (λ same. omega (arith, up, same))) ∙ is))
          | inr down ↦
              let unasked : is_marked_asked e.1.mark ≡ true → ⊥ = λ marked. none e.0 down (found_here e lines e.0 refl ∙ marked) in
              without_first (is_marked_asked e.1.mark) e others unasked
              ∙ first_in lines both.1 (sym (found_later e lines l (λ same. omega (arith, down, same))) ∙ is)
              (λ q before found. elim (cases_eq q e.0) [
                | inl same ↦ false≢true (sym (ap (λ (o : Option CachedLine). is_asked (cell_of o)) (ap (λ (k : ℕ). find nat_cmp k lines) same ∙ below_none e.0 lines both.0)) ∙ found)
                | inr other ↦ none q before (found_later e lines q other ∙ found)
              ])
              ∙ ap (λ (ls : List ℕ). l ∷ ls) (sym
              (ap asked_in (put_later e lines down) ∙ without_first (is_marked_asked e.1.mark) e
              (filter (λ (e : ℕ × CachedLine). is_marked_asked e.1.mark) (put nat_cmp l sent_line lines)) unasked))
        ]
      ]
    where
      put_same : (e : ℕ × CachedLine) (lines : Lines) → l ≡ e.0 → put nat_cmp l sent_line (e ∷ lines) ≡ (e.0, sent_line) ∷ lines
      put_same e lines same = rw (equal l e.0 same) refl

      put_later : (e : ℕ × CachedLine) (lines : Lines) → e.0 < l → put nat_cmp l sent_line (e ∷ lines) ≡ e ∷ put nat_cmp l sent_line lines
      put_later e lines down = rw (greater l e.0 down) refl

cleaned_lines_in : (cache : Cache) (l : ℕ) (cell : Cell) → IsAsked cell → is_asked (cell_of (find nat_cmp l (entries cache))) ≡ true
    → ((q : ℕ) → q < l → is_asked (cell_of (find nat_cmp q (entries cache))) ≡ true → ⊥) →
    asked_in (entries cache) ≡ l ∷ asked_lines (with_cell l (cleaned cell) cache)
unfolding asked_in asked_lines
cleaned_lines_in cache l Absent is_so is none = absurd (false≢true is_so)
cleaned_lines_in cache l (Clean words) is_so is none = absurd (false≢true is_so)
cleaned_lines_in cache l (Dirty a words) is_so is none =
    first_in l words (entries cache) (true_of _ (entries_sorted cache)) is none ∙ ap (λ (ls : Lines). l ∷ asked_in ls) (sym (entries-insert nat_cmp_total cache l _))

at_entries : (cache : Cache) (q : ℕ) → is_asked (cell_at cache q) ≡ is_asked (cell_of (find nat_cmp q (entries cache)))
at_entries cache q = ap (λ (o : Option CachedLine). is_asked (cell_of o)) (get-entries cache q)

-- the first asked line is the first that a fence sends
pub first_line : (cache : Cache) (l : ℕ) → IsAsked (cell_at cache l) → ((q : ℕ) → q < l → IsAsked (cell_at cache q) → ⊥) → asked_lines cache ≡ l ∷ asked_lines (cell_changed l cleaned cache)
unfolding asked_in asked_lines
first_line cache l is none =
    cleaned_lines_in cache l (cell_at cache l) is (sym (at_entries cache l) ∙ is) (λ q before found. none q before (at_entries cache q ∙ found))

-- where none is asked it sends none
pub none_left : (cache : Cache) → ((q : ℕ) → IsAsked (cell_at cache q) → ⊥) → asked_lines cache ≡ []
none_left cache none = by (asked_lines cache) refl
  where
    by : (lines : List ℕ) → asked_lines cache ≡ lines → lines ≡ []
    by [] is = refl
    by (x ∷ lines) is = absurd (none x (among_is_asked cache x (subst (IsAmong x) (sym is) (inl refl))))

-- What a walk over the asked lines finds.
module _ (cache : Cache) (from last : ℕ) (within : AskedWithin from last cache) where
  -- nothing more
  pub none_more : NoneAsked from (last + 1) cache → asked_lines cache ≡ []
  none_more none = none_left cache (λ q is. none q (within.low q is) (omega (arith, within.high q is)) is)

  -- the next one, and the others behind it
  module _ (line : ℕ) (first : IsFirstAsked cache from line) where
    none_first : (q : ℕ) → q < line → IsAsked (cell_at cache q) → ⊥
    none_first q below is = first.none q (within.low q is) below is

    pub next_line : asked_lines cache ≡ line ∷ asked_lines (cell_changed line cleaned cache)
    next_line = first_line cache line first.asked none_first

    pub low_then : (q : ℕ) → IsAsked (cell_at cache q) → line ≤ q
    low_then q is = elim (cases_order q line) [
      | inl e ↦ omega (arith, e)
      | inr d ↦ elim d [ inl up ↦ absurd (none_first q up is) | inr down ↦ omega (arith, down) ]
    ]
