-- A cache by its copies, line by line.
use Rattle.std.proofs.Common.{ℕ, ◌<◌, ◌≡◌, ◌≢◌, Bool, true, false, cond, List, Option, Some, None, inl, inr, refl, sym, ap, ◌∙◌, arith}
use Rattle.std.proofs.lemmas.Bool.{lt-ltb, le-ltb, eq-eqb, ne_eqb, cases_order, cases_eq}
use Rattle.std.specs.Ordering.{nat_cmp, eq_by_cmp, is_eq}
use Rattle.std.specs.Cmp.{nat_cmp_total}
use Rattle.std.specs.declared.cmp.Ordering.TheVariants.{Less, Equal, Greater}
use Rattle.std.specs.FinMap as map
use Rattle.std.specs.FinMap.{get-empty, get-insert, get-remove, same_map, nat_cmp-IsAntisymmetric}
use Rattle.fam_machine.specs.declared.cell.Cell.{Cell}
use Rattle.fam_machine.specs.declared.cell.Cell.TheVariants.{Absent, Clean, Dirty}
use Rattle.fam_machine.specs.Caches.{Mark, clean, dirty, asked, unsent_mark, CachedLine, Cache, cell_marked, cell_of, cell_at, with_cell}

-- the order of numbers, case by case
pub less : (k x : ℕ) → k < x → nat_cmp k x ≡ Less
less k x h = rw (lt-ltb k x h) refl

-- the greater one
pub greater : (k x : ℕ) → x < k → nat_cmp k x ≡ Greater
greater k x h = rw (le-ltb k x (omega arith), ne_eqb k x (omega arith)) refl

-- the same one
pub equal : (k x : ℕ) → k ≡ x → nat_cmp k x ≡ Equal
equal k x h = rw (le-ltb k x (omega arith), eq-eqb k x h) refl

-- a key ties with itself
pub same_key : (k x : ℕ) → k ≡ x → eq_by_cmp nat_cmp k x ≡ true
same_key k x e = ap is_eq (equal k x e)

-- and with no other
pub other_key : (k x : ℕ) → k ≢ x → eq_by_cmp nat_cmp k x ≡ false
other_key k x other =
    elim (cases_order k x) [
      | inl e ↦ absurd (other e)
      | inr d ↦ elim d [ inl up ↦ ap is_eq (less k x up) | inr down ↦ ap is_eq (greater k x down) ]
    ]

-- a copy as a map has it
pub copy_of : Cell → Option CachedLine
copy_of Absent = None
copy_of (Clean words) = Some (record { words = words; mark = clean })
copy_of (Dirty a words) = Some (record { words = words; mark = unsent_mark a })

copy_marked : (mark : Mark) (words : List ℕ) → copy_of (cell_marked mark words) ≡ Some (record { words = words; mark = mark })
unfolding copy_of
copy_marked clean words = refl
copy_marked dirty words = refl
copy_marked asked words = refl

copy_back : (o : Option CachedLine) → copy_of (cell_of o) ≡ o
unfolding copy_of
copy_back None = refl
copy_back (Some copy) = copy_marked copy.mark copy.words

cell_back : (cell : Cell) → cell_of (copy_of cell) ≡ cell
unfolding copy_of
cell_back Absent = refl
cell_back (Clean words) = refl
cell_back (Dirty false words) = refl
cell_back (Dirty true words) = refl

-- what a cache with one copy put in has of any line
pub get-with_cell : (line : ℕ) (cell : Cell) (cache : Cache) (q : ℕ) → map.get (with_cell line cell cache) q ≡ cond (eq_by_cmp nat_cmp q line) (copy_of cell) (map.get cache q)
unfolding copy_of
get-with_cell line Absent cache q = get-remove nat_cmp_total cache line q
get-with_cell line (Clean words) cache q = get-insert nat_cmp_total cache line _ q
get-with_cell line (Dirty a words) cache q = get-insert nat_cmp_total cache line _ q

-- the copy of the line itself
pub cell_at-with_cell_same : (line : ℕ) (cell : Cell) (cache : Cache) → cell_at (with_cell line cell cache) line ≡ cell
cell_at-with_cell_same line cell cache =
    ap cell_of (get-with_cell line cell cache line ∙ ap (λ (b : Bool). cond b (copy_of cell) (map.get cache line)) (same_key line line refl)) ∙ cell_back cell

-- and the copies of the others
pub cell_at-with_cell_other : (line : ℕ) (cell : Cell) (cache : Cache) (q : ℕ) → q ≢ line → cell_at (with_cell line cell cache) q ≡ cell_at cache q
cell_at-with_cell_other line cell cache q other =
    ap cell_of (get-with_cell line cell cache q ∙ ap (λ (b : Bool). cond b (copy_of cell) (map.get cache q)) (other_key q line other))

-- an empty cache has no copy
pub cell_at-empty : (q : ℕ) → cell_at map.empty q ≡ Absent
cell_at-empty q = ap cell_of (get-empty {X = CachedLine} nat_cmp q)

-- two caches with the same copies are one
pub same_cells : (m n : Cache) → ((q : ℕ) → cell_at m q ≡ cell_at n q) → m ≡ n
same_cells m n same =
    same_map nat_cmp_total nat_cmp-IsAntisymmetric m n
    (λ q. sym (copy_back (map.get m q)) ∙ ap copy_of (same q) ∙ copy_back (map.get n q))

-- the last copy put in is the one that stays
pub with_cell_twice : (line : ℕ) (first second : Cell) (cache : Cache) → with_cell line second (with_cell line first cache) ≡ with_cell line second cache
with_cell_twice line first second cache =
    same_cells _ _
    (λ q. elim (cases_eq q line) [
      | inl e ↦ ap (cell_at _) e ∙ cell_at-with_cell_same line second _ ∙ sym (cell_at-with_cell_same line second cache) ∙ sym (ap (cell_at _) e)
      | inr other ↦ cell_at-with_cell_other line second _ q other ∙ cell_at-with_cell_other line first cache q other ∙ sym (cell_at-with_cell_other line second cache q other)
    ])

-- to put a line's own copy in changes nothing
pub with_cell_own : (line : ℕ) (cache : Cache) → with_cell line (cell_at cache line) cache ≡ cache
with_cell_own line cache =
    same_cells _ _
    (λ q. elim (cases_eq q line) [
      | inl e ↦ ap (cell_at _) e ∙ cell_at-with_cell_same line _ cache ∙ sym (ap (cell_at cache) e)
      | inr other ↦ cell_at-with_cell_other line _ cache q other
    ])
