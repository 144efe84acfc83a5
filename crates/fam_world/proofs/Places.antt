-- The place of the first member that passes, found by a loop.
use Rattle.std.proofs.Common.{◌≡◌, ℕ, ◌+◌, ◌≤◌, Bool, true, false, List, [], ◌∷◌, length, drop, Some, None, refl, ap, ◌∙◌, arith}
use Prim.Native.Nat.{zero, suc}
use Rattle.std.specs.Prelude.{slice_get, if◌then◌else◌}
use Rattle.std.proofs.lemmas.Option.{same_Some}
use Rattle.fam_journal.specs.Calls.{dirty_from}
use Rattle.fam_journal.specs.Machines.{HostState}
use Rattle.fam_journal.specs.Members.{index_from}
use Rattle.fam_world.specs.View.{is_dirty_other}

-- the member passes
pub place_here : {A : Type 0} (test : A → Bool) (xs : List A) (i at : ℕ) (x : A) → slice_get xs at ≡ Some x → test x ≡ true → index_from i test (drop at xs) ≡ Some i
place_here test [] i at x is e = absurd cc
place_here test (a ∷ xs) i zero x is e = ap (λ (b : Bool). if b then Some i else index_from (i + 1) test xs) (ap test (same_Some a x is) ∙ e)
place_here test (a ∷ xs) i (suc at) x is e = place_here test xs i at x is e

-- the member doesn't
next_suc : {A : Type 0} (test : A → Bool) (xs : List A) (i at : ℕ) (x : A) → slice_get xs at ≡ Some x → test x ≡ false → index_from i test (drop at xs) ≡ index_from (i + 1) test (drop (suc at) xs)
next_suc test [] i at x is e = absurd cc
next_suc test (a ∷ xs) i zero x is e = ap (λ (b : Bool). if b then Some i else index_from (i + 1) test xs) (ap test (same_Some a x is) ∙ e)
next_suc test (a ∷ xs) i (suc at) x is e = next_suc test xs i at x is e

pub place_next : {A : Type 0} (test : A → Bool) (xs : List A) (i at : ℕ) (x : A) → slice_get xs at ≡ Some x → test x ≡ false
    → index_from i test (drop at xs) ≡ index_from (i + 1) test (drop (at + 1) xs)
place_next test xs i at x is e =
    let one : suc at ≡ at + 1 = omega arith in
    next_suc test xs i at x is e ∙ ap (λ (n : ℕ). index_from (i + 1) test (drop n xs)) one

-- there is none
pub place_past : {A : Type 0} (test : A → Bool) (xs : List A) (i at : ℕ) → length xs ≤ at → index_from i test (drop at xs) ≡ None
place_past test [] i zero past = refl
place_past test [] i (suc at) past = refl
place_past test (a ∷ xs) i zero past = absurd (omega (arith, past))
place_past test (a ∷ xs) i (suc at) past = place_past test xs i at (omega (arith, past))

-- Of hosts with a dirty line, other than the maker.

pub dirty_here : (maker : ℕ) (xs : List HostState) (i at : ℕ) (x : HostState) → slice_get xs at ≡ Some x → is_dirty_other maker i x ≡ true → dirty_from maker i (drop at xs) ≡ Some i
dirty_here maker [] i at x is e = absurd cc
dirty_here maker (a ∷ xs) i zero x is e =
    ap (λ (b : Bool). if b then Some i else dirty_from maker (i + 1) xs) (ap (is_dirty_other maker i) (same_Some a x is) ∙ e)
dirty_here maker (a ∷ xs) i (suc at) x is e = dirty_here maker xs i at x is e

dirty_suc : (maker : ℕ) (xs : List HostState) (i at : ℕ) (x : HostState) → slice_get xs at ≡ Some x → is_dirty_other maker i x ≡ false
    → dirty_from maker i (drop at xs) ≡ dirty_from maker (i + 1) (drop (suc at) xs)
dirty_suc maker [] i at x is e = absurd cc
dirty_suc maker (a ∷ xs) i zero x is e =
    ap (λ (b : Bool). if b then Some i else dirty_from maker (i + 1) xs) (ap (is_dirty_other maker i) (same_Some a x is) ∙ e)
dirty_suc maker (a ∷ xs) i (suc at) x is e = dirty_suc maker xs i at x is e

pub dirty_next : (maker : ℕ) (xs : List HostState) (i at : ℕ) (x : HostState) → slice_get xs at ≡ Some x → is_dirty_other maker i x ≡ false
    → dirty_from maker i (drop at xs) ≡ dirty_from maker (i + 1) (drop (at + 1) xs)
dirty_next maker xs i at x is e =
    let one : suc at ≡ at + 1 = omega arith in
    dirty_suc maker xs i at x is e ∙ ap (λ (n : ℕ). dirty_from maker (i + 1) (drop n xs)) one

pub dirty_past : (maker : ℕ) (xs : List HostState) (i at : ℕ) → length xs ≤ at → dirty_from maker i (drop at xs) ≡ None
dirty_past maker [] i zero past = refl
dirty_past maker [] i (suc at) past = refl
dirty_past maker (a ∷ xs) i zero past = absurd (omega (arith, past))
dirty_past maker (a ∷ xs) i (suc at) past = dirty_past maker xs i at (omega (arith, past))
