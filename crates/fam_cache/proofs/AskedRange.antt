-- Between which lines the asked ones are.
use Rattle.std.proofs.Common.{◌≡◌, ◌≢◌, ℕ, inl, inr, ◌≤◌, false, List, [], ◌∷◌, take, Option, Some, None, refl, sym, subst, ◌∙◌, arith}
use Rattle.std.proofs.lemmas.Bool.{cases_eq, false≢true}
use Rattle.std.specs.FinMap as map
use Rattle.std.specs.Prelude.{IfSome}
use Rattle.fam_base.specs.Image.{Image, eight}
use Rattle.fam_machine.specs.declared.cell.Cell.{Cell}
use Rattle.fam_machine.specs.declared.cell.Cell.TheVariants.{Absent, Clean, Dirty}
use Rattle.fam_machine.specs.Caches.{Cache, asked_lines, cell_at, cell_changed, with_cell}
use Rattle.fam_machine.specs.OneLine.{IsAsked, asked_for, brought, cleaned, fetched}
use Rattle.fam_machine.specs.Operations.{machine}
use Rattle.fam_machine.proofs.CacheLemmas.{cell_at-empty, cell_at-with_cell_other, cell_at-with_cell_same}
use Rattle.fam_machine.proofs.FenceLemmas.{none_asked}
use Rattle.fam_cache.specs.Effects.{FromMemory}
use Rattle.fam_cache.specs.Operations.{CleansSome, cleaned_lines}
use Rattle.fam_cache.specs.Blocks.{AskedWithin, IsFirstAsked}
use Rattle.fam_cache.proofs.AskedLines.{low_then}
use Rattle.fam_cache.proofs.Fenced.{sent_cleaned}

-- Where no line is asked that wasn't.

kept : (first last : ℕ) (old new : Cache) → ((l : ℕ) → IsAsked (cell_at new l) → IsAsked (cell_at old l)) → AskedWithin first last old → AskedWithin first last new
kept first last old new asks was = record { low = λ l is. was.low l (asks l is); high = λ l is. was.high l (asks l is) }

-- one line is changed
changed : (line : ℕ) (cell : Cell) (old new : Cache) → new ≡ with_cell line cell old → (IsAsked cell → IsAsked (cell_at old line)) → (l : ℕ) → IsAsked (cell_at new l) → IsAsked (cell_at old l)
changed line cell old new is asks l asked =
    let here : IsAsked (cell_at (with_cell line cell old) l) = subst (λ (c : Cache). IsAsked (cell_at c l)) is asked in
    elim (cases_eq l line) [
      | inl e ↦ subst (λ (k : ℕ). IsAsked (cell_at old k)) (sym e)
          (asks (subst IsAsked (cell_at-with_cell_same line cell old) (subst (λ (k : ℕ). IsAsked (cell_at (with_cell line cell old) k)) e here)))
      | inr ne ↦ subst IsAsked (cell_at-with_cell_other line cell old l ne) here
    ]

brought_asked : (memory : List ℕ) (cell : Cell) → IsAsked (brought memory cell) → IsAsked cell
brought_asked memory Absent is = absurd (false≢true is)
brought_asked memory (Clean words) is = is
brought_asked memory (Dirty a words) is = is

fetched_asked : (mask : ℕ) (memory : List ℕ) (cell : Cell) → IsAsked (fetched mask memory cell) → IsAsked cell
fetched_asked mask memory Absent is = absurd (false≢true is)
fetched_asked mask memory (Clean words) is = absurd (false≢true is)
fetched_asked mask memory (Dirty a words) is = is

cleaned_asked : (cell : Cell) → IsAsked (cleaned cell) → IsAsked cell
cleaned_asked Absent is = is
cleaned_asked (Clean words) is = is
cleaned_asked (Dirty a words) is = absurd (false≢true is)

module _ (first last : ℕ) (old new : Cache) (was : AskedWithin first last old) where
  pub within_same : new ≡ old → AskedWithin first last new
  within_same is = subst (AskedWithin first last) (sym is) was

  pub within_absent : (line : ℕ) → new ≡ with_cell line Absent old → AskedWithin first last new
  within_absent line is = kept first last old new (changed line Absent old new is (λ asked. absurd (false≢true asked))) was

  pub within_clean : (line : ℕ) (words : List ℕ) → new ≡ with_cell line (Clean words) old → AskedWithin first last new
  within_clean line words is = kept first last old new (changed line (Clean words) old new is (λ asked. absurd (false≢true asked))) was

  pub within_dirty : (line : ℕ) (words : List ℕ) → new ≡ with_cell line (Dirty false words) old → AskedWithin first last new
  within_dirty line words is = kept first last old new (changed line (Dirty false words) old new is (λ asked. absurd (false≢true asked))) was

  pub within_brought : (modelled : Option Image) (line : ℕ) → FromMemory modelled line (λ memory. new ≡ cell_changed line (brought memory) old) → AskedWithin first last new
  within_brought modelled line from = kept first last old new (changed line (brought from.memory (cell_at old line)) old new from.is (brought_asked from.memory (cell_at old line))) was

  pub within_fetched : (modelled : Option Image) (line mask : ℕ) → FromMemory modelled line (λ memory. new ≡ cell_changed line (fetched mask memory) old) → AskedWithin first last new
  within_fetched modelled line mask from = kept first last old new (changed line (fetched mask from.memory (cell_at old line)) old new from.is (fetched_asked mask from.memory (cell_at old line))) was

  -- a line was brought anew, or nothing was done
  pub within_renewed : (line : ℕ) (renewed : Option (List ℕ)) → IfSome renewed (λ words. new ≡ with_cell line (Clean (eight words)) old) → (renewed ≡ None → new ≡ old) → AskedWithin first last new
  within_renewed line (Some words) is other = within_clean line (eight words) is
  within_renewed line None is other = within_same (other refl)

  -- lines were sent
  pub lines_asked : (lines : List ℕ) (cache : Cache) (l : ℕ) → IsAsked (cell_at (cleaned_lines lines cache) l) → IsAsked (cell_at cache l)
  lines_asked [] cache l is = is
  lines_asked (x ∷ lines) cache l is =
      changed x (cleaned (cell_at cache x)) cache (cell_changed x cleaned cache) refl (cleaned_asked (cell_at cache x)) l (lines_asked lines (cell_changed x cleaned cache) l is)

  pub within_cleaned : CleansSome old new → AskedWithin first last new
  within_cleaned some = kept first last old new (λ l asked. lines_asked (take some.count (asked_lines old)) old l (subst (λ (c : Cache). IsAsked (cell_at c l)) some.is asked)) was

-- A line was asked for.
pub within_asked : (first last first_now last_now line : ℕ) (old new : Cache) → AskedWithin first last old → new ≡ cell_changed line asked_for old
    → first_now ≤ first → first_now ≤ line → last ≤ last_now → line ≤ last_now → AskedWithin first_now last_now new
within_asked first last first_now last_now line old new was is a b c d = record {
  low = λ l asked. elim (cases_eq l line) [
    | inl e ↦ omega (arith, e, b)
    | inr ne ↦ omega (arith, a, was.low l (other l ne asked))
  ];
  high = λ l asked. elim (cases_eq l line) [
    | inl e ↦ omega (arith, e, d)
    | inr ne ↦ omega (arith, c, was.high l (other l ne asked))
  ];
}
  where
    other : (l : ℕ) → l ≢ line → IsAsked (cell_at new l) → IsAsked (cell_at old l)
    other l ne asked = subst IsAsked (cell_at-with_cell_other line (asked_for (cell_at old line)) old l ne) (subst (λ (c : Cache). IsAsked (cell_at c l)) is asked)

-- None is asked.

pub within_none : (first last : ℕ) (cache : Cache) → ((l : ℕ) → IsAsked (cell_at cache l) → ⊥) → AskedWithin first last cache
within_none first last cache none = record { low = λ l is. absurd (none l is); high = λ l is. absurd (none l is) }

pub within_empty : (first last : ℕ) → AskedWithin first last map.empty
within_empty first last = within_none first last map.empty (λ l is. let none : IsAsked Absent = subst IsAsked (cell_at-empty l) is in false≢true none)

-- behind a fence
pub within_sent : (first last : ℕ) (old new : Cache) → new ≡ cleaned_lines (asked_lines old) old → AskedWithin first last new
within_sent first last old new is =
    within_none first last new (λ l asked. none_asked (machine [] old) l (subst (λ (c : Cache). IsAsked (cell_at c l)) (is ∙ sym (sent_cleaned (asked_lines old) (machine [] old))) asked))

-- in a fence: once a line was sent, the others are behind it
pub within_next : (from last line : ℕ) (old new : Cache) → AskedWithin from last old → IsFirstAsked old from line → new ≡ cell_changed line cleaned old → AskedWithin line last new
within_next from last line old new within first is = record {
  low = λ q asked. low_then old from last within line first q (was q asked);
  high = λ q asked. within.high q (was q asked);
}
  where
    was : (q : ℕ) → IsAsked (cell_at new q) → IsAsked (cell_at old q)
    was q asked = changed line (cleaned (cell_at old line)) old new is (cleaned_asked (cell_at old line)) q asked
