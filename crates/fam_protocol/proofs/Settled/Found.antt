-- What stands at a path of a history: the tree has the entry of the one file there.
use Rattle.std.proofs.Common.{ℕ, zero, suc, refl, ◌+◌, ◌≤◌, ◌<◌, ◌≡◌, List, take, Bool, true, false, cond, sym, ◌∙◌, ap, subst, arith}
use Rattle.std.specs.Prelude.{Some}
use Rattle.std.specs.Option.{option_map}
use Rattle.std.specs.List.{range_with_len, find}
use Rattle.std.specs.FinMap as finmap
use Rattle.fam_base.specs.declared.entry.Params.{Params}
use Rattle.fam_format.specs.Tree.{replay}
use Rattle.fam_format.proofs.JoinLaws.{joins_from}
use Rattle.fam_rules.specs.Asks.{File, entries_of, file_at}
use Rattle.fam_rules.proofs.AskProofs.{file_in_tree}
use Rattle.fam_protocol.specs.Core.{IsHistory}

-- the tree has the entry of the one file at a path
pub found_at : (p : Params) (all : List File) (path : List ℕ) → IsHistory p all → finmap.get (replay (entries_of all)) path ≡ option_map (λ (g : File). g.entry) (file_at all path)
found_at p all path history = sym (file_in_tree p all path (λ i f is. joins_from p (entries_of (take i all)) f.entry (history i f is).joins))

-- Looking for the first number that passes a test.

-- what is known of the number that was found
pub record IsFirst (p : ℕ → Bool) (a n k : ℕ) : Type 0 where
  pub from : a ≤ k
  pub below : k < a + n
  pub passes : p k ≡ true
  pub before : (i : ℕ) → a ≤ i → i < k → p i ≡ false

first_here : (p : ℕ → Bool) (a n k : ℕ) → p a ≡ true → a ≡ k → IsFirst p a (suc n) k
first_here p a n k here same =
    subst (λ (k : ℕ). IsFirst p a (suc n) k) same (record { from = omega arith; below = omega arith; passes = here; before = λ i from below. absurd (omega arith) })

first_further : (p : ℕ → Bool) (a n k : ℕ) → p a ≡ false → IsFirst p (a + 1) n k → IsFirst p a (suc n) k
first_further p a n k here rest = record { from = omega (arith, rest.from); below = omega (arith, rest.below); passes = rest.passes; before = before }
  where
    before : (i : ℕ) → a ≤ i → i < k → p i ≡ false
    before i from below = grind (arith, here, rest.before i)

-- what a search finds is the first
pub first_found : (p : ℕ → Bool) (a n k : ℕ) → find p (range_with_len a n) ≡ Some k → IsFirst p a n k
first_found p a zero k h = absurd (cc)
first_found p a (suc n) k h = go (p a) refl h (first_found p (a + 1) n k)
  where
    go : (b : Bool) → p a ≡ b → cond b (Some a) (find p (range_with_len (a + 1) n)) ≡ Some k → (find p (range_with_len (a + 1) n) ≡ Some k → IsFirst p (a + 1) n k) → IsFirst p a (suc n) k
    go true here h rest = first_here p a n k here (cc)
    go false here h rest = first_further p a n k here (rest h)

-- the first is what a search finds
pub find_first : (p : ℕ → Bool) (a n k : ℕ) → IsFirst p a n k → find p (range_with_len a n) ≡ Some k
find_first p a zero k h = absurd (omega (arith, h.from, h.below))
find_first p a (suc n) k h = go (p a) refl (find_first p (a + 1) n k)
  where
    go : (b : Bool) → p a ≡ b → (IsFirst p (a + 1) n k → find p (range_with_len (a + 1) n) ≡ Some k) → cond b (Some a) (find p (range_with_len (a + 1) n)) ≡ Some k
    go true here rest =
        let same : a ≡ k = grind (arith, h.before a, h.from, here) in
        ap Some same
    go false here rest =
        let other : a ≡ k → ⊥ = λ e. absurd (let o : true ≡ false = sym h.passes ∙ ap p (sym e) ∙ here in cc) in
        rest (record { from = grind (arith, h.from, other); below = omega (arith, h.below); passes = h.passes; before = λ i from below. h.before i (omega arith) below })
