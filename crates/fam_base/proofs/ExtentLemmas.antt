-- Extents in their field, and when two lists of them are equal.
use Rattle.std.proofs.Common.{◌≡◌, ℕ, suc, ◌+◌, ◌-◌, List, [], ◌∷◌, ◌++◌, length, take, set, replicate, sym, ap, ◌∙◌, arith, append_assoc, length-append}
use Rattle.std.proofs.Math.Seq.{set-append_seam, take-append_seam}
use Rattle.fam_base.specs.declared.extents.Extent.{Extent}
use Rattle.std.specs.Bool.{Decides}
use Rattle.std.specs.Cmp.Lexicographic.{pointwise_decides}
use Rattle.std.proofs.lemmas.Bool.Decides.{nat_tests}
use Rattle.fam_base.specs.ExtentLists.{extent_limit, no_extent, filled, extent_eq, extents_eq, IsExtentsField}

-- one more member in a field of room members
set_filled : {X : Type 0} (xs : List X) (z x : X) (room more : ℕ) → length xs + suc more ≡ room
    → set (xs ++ replicate (room - length xs) z) (length xs) x ≡ (xs ++ x ∷ []) ++ replicate (room - length (xs ++ x ∷ [])) z
set_filled {X} xs z x room more e =
    let left : room - length xs ≡ suc more = omega arith in
    let right : room - length (xs ++ x ∷ []) ≡ more = omega (arith, length-append xs (x ∷ [])) in
    ap (λ (n : ℕ). set (xs ++ replicate n z) (length xs) x) left
    ∙ set-append_seam xs z (replicate more z) x
    ∙ sym (append_assoc xs (x ∷ []) (replicate more z))
    ∙ ap (λ (n : ℕ). (xs ++ x ∷ []) ++ replicate n z) (sym right)

pub field_more : (items : List Extent) (len : ℕ) (x : Extent) → IsExtentsField items len → (len ≡ extent_limit → ⊥) → (set items len x ≡ filled (take len items ++ x ∷ []))
field_more items len x f free =
    let more : length (take len items) + suc (extent_limit - 1 - len) ≡ extent_limit = omega (arith, f.count, f.fits) in
    ap (λ (n : ℕ). set items n x) (sym f.count) ∙ ap (λ (l : List Extent). set l (length (take len items)) x) f.rest
    ∙ set_filled (take len items) no_extent x extent_limit (extent_limit - 1 - len) more

-- the extents after one more
pub take_more_of_field : (items : List Extent) (len : ℕ) (x : Extent) → IsExtentsField items len → (len ≡ extent_limit → ⊥) → take (len + 1) (set items len x) ≡ take len items ++ x ∷ []
take_more_of_field items len x f free =
    let n : len + 1 ≡ length (take len items ++ x ∷ []) = omega (arith, f.count, length-append (take len items) (x ∷ [])) in
    ap (λ (l : List Extent). take (len + 1) l) (field_more items len x f free)
    ∙ ap (λ (k : ℕ). take k (filled (take len items ++ x ∷ []))) n
    ∙ take-append_seam (take len items ++ x ∷ []) _

pub field_of_more : (items : List Extent) (len : ℕ) (x : Extent) → IsExtentsField items len → (len ≡ extent_limit → ⊥) → IsExtentsField (set items len x) (len + 1)
field_of_more items len x f free =
    let e = take_more_of_field items len x f free in
    record {
      fits = omega (arith, f.fits);
      count = ap length e ∙ length-append (take len items) (x ∷ []) ∙ ap (λ (n : ℕ). n + 1) f.count;
      rest = field_more items len x f free ∙ ap filled (sym e);
    }

-- ---- equality is that of the numbers

same_numbers : (a b : Extent) → a.offset ≡ b.offset → a.length ≡ b.length → a ≡ b
same_numbers a b offset length = λ i. record { offset = offset i; length = length i }

-- two extents are one where the test passes
pub extent_decides : (a b : Extent) → Decides (extent_eq a b) (a ≡ b)
extent_decides a b = (λ same. same_numbers a b (grind (arith, nat_tests)) (grind (arith, nat_tests)), λ same. grind (arith, nat_tests, same))

-- two lists of extents are one where the test passes
pub extents_decides : (a b : List Extent) → Decides (extents_eq a b) (a ≡ b)
extents_decides = pointwise_decides extent_decides
