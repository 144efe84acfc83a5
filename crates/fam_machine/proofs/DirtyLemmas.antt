-- A cache without dirty lines.
use Rattle.std.proofs.Common.{ℕ, ◌+◌, ◌≡◌, Bool, true, false, T, cond, List, [], ◌∷◌, map, Option, Some, None, inl, inr, refl, sym, ap, ◌∙◌, arith}
use Rattle.std.specs.Prelude.{count_by}
use Rattle.std.proofs.lemmas.Bool.{false≢true, and_parts, cases_eq}
use Rattle.std.proofs.lemmas.List.Sums.{sum_by-cons}
use Rattle.std.specs.Ordering.{nat_cmp, is_eq, is_lt}
use Rattle.std.specs.declared.cmp.Ordering.{Ordering}
use Rattle.std.specs.declared.cmp.Ordering.TheVariants.{Less, Equal, Greater}
use Rattle.std.specs.FinMap.{is_sorted, find, entries, entries_sorted, get-entries}
use Rattle.std.specs.FinMap.Entries.{below_all}
use Rattle.fam_machine.specs.Caches.{Mark, clean, dirty, asked, CachedLine, Cache, cell_of, cell_at, cell_marked, is_marked_dirty, dirty_count}
use Rattle.fam_machine.specs.OneLine.{is_dirty, IsDirty}
use Rattle.fam_machine.proofs.CacheLemmas.{same_key, other_key}

-- the lines of a cache in order
abbrev pub Lines : Type 0
Lines = List (ℕ × CachedLine)

-- how many of them are dirty
unfoldable pub count_lines : Lines → ℕ
count_lines lines = count_by (λ (copy : CachedLine). is_marked_dirty copy.mark) (map (λ (e : ℕ × CachedLine). e.1) lines)

-- the first one counts, and then the others
pub count_first : (e : ℕ × CachedLine) (rest : Lines) → count_lines (e ∷ rest) ≡ cond (is_marked_dirty e.1.mark) 1 0 + count_lines rest
unfolding count_lines
count_first e rest = sum_by-cons {X = CachedLine} (λ x. cond (is_marked_dirty x.mark) 1 0) e.1 (map (λ (e : ℕ × CachedLine). e.1) rest)

dirty_marked : (mark : Mark) (words : List ℕ) → is_dirty (cell_marked mark words) ≡ is_marked_dirty mark
dirty_marked clean words = refl
dirty_marked dirty words = refl
dirty_marked asked words = refl

counted : (b : Bool) (n : ℕ) → cond b 1 0 + n ≡ 0 → (b ≡ false) × (n ≡ 0)
counted true n is = absurd (omega arith)
counted false n is = (refl, omega arith)

-- where no dirty line is counted, none is found
none_found : (lines : Lines) (q : ℕ) → count_lines lines ≡ 0 → IsDirty (cell_of (find nat_cmp q lines)) → ⊥
none_found [] q is found = absurd cc
none_found (e ∷ lines) q is found =
    let both = counted (is_marked_dirty e.1.mark) (count_lines lines) (sym (count_first e lines) ∙ is) in
    elim (cases_eq q e.0) [
      | inl same ↦ false≢true (sym both.0 ∙ sym (dirty_marked e.1.mark e.1.words)
          ∙ sym (ap (λ (b : Bool). is_dirty (cell_of (cond b (Some e.1) (find nat_cmp q lines)))) (same_key q e.0 same)) ∙ found)
      | inr other ↦ none_found lines q both.1 (sym (ap (λ (b : Bool). is_dirty (cell_of (cond b (Some e.1) (find nat_cmp q lines)))) (other_key q e.0 other)) ∙ found)
    ]

less_differs : (o : Ordering) → is_lt o ≡ true → is_eq o ≡ false
less_differs Less h = refl
less_differs Equal h = absurd cc
less_differs Greater h = refl

-- a line below all others isn't among them
pub below_none : (q : ℕ) (lines : Lines) → below_all nat_cmp q lines ≡ true → find nat_cmp q lines ≡ None
below_none q [] h = refl
below_none q (e ∷ lines) h =
    let both = and_parts (is_lt (nat_cmp q e.0)) (below_all nat_cmp q lines) h in
    ap (λ (b : Bool). cond b (Some e.1) (find nat_cmp q lines)) (less_differs (nat_cmp q e.0) both.0) ∙ below_none q lines both.1

not_true : (b : Bool) → (b ≡ true → ⊥) → b ≡ false
not_true true never = absurd (never refl)
not_true false never = refl

no_count : (b : Bool) (n : ℕ) → b ≡ false → n ≡ 0 → cond b 1 0 + n ≡ 0
no_count true n unmarked is = absurd (false≢true (sym unmarked))
no_count false n unmarked is = omega arith

-- where none is found, none is counted
none_counted : (lines : Lines) → is_sorted nat_cmp lines ≡ true → ((q : ℕ) → IsDirty (cell_of (find nat_cmp q lines)) → ⊥) → count_lines lines ≡ 0
unfolding count_lines
none_counted [] sorted none = refl
none_counted (e ∷ lines) sorted none =
    let both = and_parts (below_all nat_cmp e.0 lines) (is_sorted nat_cmp lines) sorted in
    count_first e lines
    ∙ no_count (is_marked_dirty e.1.mark) (count_lines lines)
    (not_true _ (λ is. none e.0 (ap (λ (b : Bool). is_dirty (cell_of (cond b (Some e.1) (find nat_cmp e.0 lines)))) (same_key e.0 e.0 refl) ∙ dirty_marked e.1.mark e.1.words ∙ is)))
    (none_counted lines both.1
    (λ q found. elim (cases_eq q e.0) [
      | inl same ↦ false≢true (sym (ap (λ (o : Option CachedLine). is_dirty (cell_of o)) (ap (λ (k : ℕ). find nat_cmp k lines) same ∙ below_none e.0 lines both.0)) ∙ found)
      | inr other ↦ none q (ap (λ (b : Bool). is_dirty (cell_of (cond b (Some e.1) (find nat_cmp q lines)))) (other_key q e.0 other) ∙ found)
    ]))

-- what is true as a fact is true as a value
pub true_of : (b : Bool) → T b → b ≡ true
true_of true h = refl
true_of false h = absurd h

-- a cache of which no line is counted as dirty has none
pub none_dirty : (cache : Cache) → dirty_count cache ≡ 0 → (line : ℕ) → IsDirty (cell_at cache line) → ⊥
unfolding count_lines
none_dirty cache is line found = none_found (entries cache) line is (sym (ap (λ (o : Option CachedLine). is_dirty (cell_of o)) (get-entries cache line)) ∙ found)

-- and one that has none counts none
pub no_dirty_count : (cache : Cache) → ((line : ℕ) → IsDirty (cell_at cache line) → ⊥) → dirty_count cache ≡ 0
unfolding count_lines
no_dirty_count cache none =
    none_counted (entries cache) (true_of _ (entries_sorted cache))
    (λ q found. none q (ap (λ (o : Option CachedLine). is_dirty (cell_of o)) (get-entries cache q) ∙ found))
