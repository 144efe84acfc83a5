-- Loops over hosts and states that put states among others.
use Rattle.std.proofs.Common.{◌≡◌, ◌<◌, ◌≤◌, ◌⊎◌, inl, inr, ℕ, zero, suc, ◌+◌, List, [], ◌∷◌, ◌++◌, length, map, refl, ap, sym, subst, arith}
use Rattle.std.specs.List.{slice_get}
use Rattle.std.proofs.lemmas.Option.{same_Some}
use Rattle.fam_base.specs.Image.{Image}
use Rattle.fam_journal.specs.Notes.{Note}
use Rattle.fam_journal.specs.Shapes.{IsHead, Met, OfRunning, TaskShape}
use Rattle.fam_judge.specs.Covering.{HasBelow, IsOf, LeadsStates}
use Rattle.fam_judge.specs.Possible.{Elsewhere, MayLead, MeetsEntries, Possible, Progress, StepsTo, Wrote, as_is, left_out_met, shown_met}
use Rattle.fam_judging.specs.Into.{LeadsInto, PutsInto, StepsInto, WritesInto}

-- a state that allows no less stays
pub below_stays : (P : Possible → Type 0) (old new : List Possible) (z : Possible) → PutsInto P old new → HasBelow old z → HasBelow new z
below_stays P old new z puts b = record { state = b.state; is = puts.kept b.state b.is; below = b.below }

-- one list behind another
pub puts_puts : (P : Possible → Type 0) (old mid new : List Possible) → PutsInto P old mid → PutsInto P mid new → PutsInto P old new
puts_puts P old mid new a b = record {
  kept = λ z is. b.kept z (a.kept z is);
  sound = λ z is. elim (b.sound z is) [ inl h ↦ a.sound z h | inr h ↦ inr h ];
}

-- where the line leads from the state at once
pub leads_first : (start : Image) (line : Note) (x : Possible) (old new : List Possible) → StepsInto start line x old new → LeadsInto start line 0 x old new
leads_first start line x old new s = record {
  puts = record {
    kept = s.puts.kept;
    sound = λ z is. elim (s.puts.sound z is) [ inl h ↦ inl h | inr h ↦ inr (record { first = x; before = as_is refl; steps = h }) ];
  };
  own = s.all;
  named = λ w z k less. absurd (omega (arith, less));
}

-- a number below the next one is below this one, or is it
pub less_or_same : (k n : ℕ) → k < n + 1 → (k < n) ⊎ (k ≡ n)
less_or_same zero zero less = inr refl
less_or_same zero (suc n) less = inl (omega arith)
less_or_same (suc k) zero less = absurd (omega (arith, less))
less_or_same (suc k) (suc n) less = elim (less_or_same k n (omega (arith, less))) [ inl h ↦ inl (omega (arith, h)) | inr h ↦ inr (ap suc h) ]

-- where a host more may have named an entry before
pub leads_next : (start : Image) (line : Note) (n : ℕ) (x : Possible) (old mid new : List Possible)
    → LeadsInto start line n x old mid → WritesInto start line n x mid new → LeadsInto start line (n + 1) x old new
leads_next start line n x old mid new a b = record {
  puts = puts_puts (MayLead start x line) old mid new a.puts b.puts;
  own = λ z steps. below_stays (MayLead start x line) mid new z b.puts (a.own z steps);
  named = λ w z k less. by w z k (less_or_same k n less);
}
  where
    By : Possible → Possible → ℕ → Type 0
    By w z k = (wrote : Wrote start k x w) → (Elsewhere k wrote.seq line → ⊥) → StepsTo start w line z → HasBelow new z

    by : (w z : Possible) (k : ℕ) → (k < n) ⊎ (k ≡ n) → By w z k
    by w z k (inl less) = λ wrote other steps. below_stays (MayLead start x line) mid new z b.puts (a.named w z k less wrote other steps)
    by w z k (inr same) = subst (λ (h : ℕ). By w z h) (sym same) (b.all w z)

-- The states of a list, one by one.

-- the states of a list are of it with one more
pub of_front : (xs : List Possible) (x y : Possible) → IsOf xs y → IsOf (xs ++ x ∷ []) y
of_front [] x y is = let no = is.1 in absurd cc
of_front (a ∷ xs) x y (zero, e) = (0, e)
of_front (a ∷ xs) x y (suc i, e) = let at = of_front xs x y (i, e) in (suc at.0, at.1)

-- so is that one
pub of_last : (xs : List Possible) (x : Possible) → IsOf (xs ++ x ∷ []) x
of_last [] x = (0, refl)
of_last (a ∷ xs) x = let at = of_last xs x in (suc at.0, at.1)

-- and no others are
pub of_push : (xs : List Possible) (x y : Possible) → IsOf (xs ++ x ∷ []) y → IsOf xs y ⊎ (y ≡ x)
of_push [] x y (zero, e) = inr (sym (same_Some x y e))
of_push [] x y (suc i, e) = absurd cc
of_push (a ∷ xs) x y (zero, e) = inl (0, e)
of_push (a ∷ xs) x y (suc i, e) = elim (of_push xs x y (i, e)) [ inl h ↦ inl (suc h.0, h.1) | inr h ↦ inr h ]

-- a host that runs a command is one of the hosts
pub running_within : (hosts : List Progress) (k : ℕ) (P : List ℕ → TaskShape → Type 0) → OfRunning (slice_get (map (λ (p : Progress). p.shape) hosts) k) P → k < length hosts
running_within [] k P runs = absurd runs
running_within (p ∷ hosts) zero P runs = omega arith
running_within (p ∷ hosts) (suc k) P runs = omega (arith, running_within hosts k P runs)

-- so is one that named an entry
pub wrote_within : (start : Image) (k : ℕ) (x w : Possible) → Wrote start k x w → k < length x.hosts
wrote_within start k x w wrote = by wrote.met wrote.meets
  where
    by : (met : Possible) → MeetsEntries start k x met → k < length x.hosts
    by met (shown_met n stage same) = running_within x.hosts k (λ me t. t.stage ≡ Met n) stage
    by met (left_out_met n head wishes found is) = running_within x.hosts k (λ me t. IsHead t.stage) head

-- one state more from which the line leads
pub leads_more : (start : Image) (line : Note) (n : ℕ) (xs : List Possible) (x : Possible) (old new : List Possible) → length x.hosts ≤ n
    → LeadsStates start line xs old → LeadsInto start line n x old new → LeadsStates start line (xs ++ x ∷ []) new
leads_more start line n xs x old new within on more = record {
  sound = λ z is. sound z (more.puts.sound z is);
  own = λ y z is. own y z (of_push xs x y is);
  named = λ y w z k is. named y w z k (of_push xs x y is);
}
  where
    P : Possible → Type 0
    P = MayLead start x line

    sound : (z : Possible) → IsOf old z ⊎ MayLead start x line z → (y : Possible) × IsOf (xs ++ x ∷ []) y × MayLead start y line z
    sound z (inl is) = let y = on.sound z is in (y.0, of_front xs x y.0 y.1, y.2)
    sound z (inr leads) = (x, of_last xs x, leads)

    own : (y z : Possible) → IsOf xs y ⊎ (y ≡ x) → StepsTo start y line z → HasBelow new z
    own y z (inl is) = λ steps. below_stays P old new z more.puts (on.own y z is steps)
    own y z (inr same) = subst (λ (v : Possible). StepsTo start v line z → HasBelow new z) (sym same) (more.own z)

    Named : Possible → Possible → Possible → ℕ → Type 0
    Named y w z k = (wrote : Wrote start k y w) → (Elsewhere k wrote.seq line → ⊥) → StepsTo start w line z → HasBelow new z

    named : (y w z : Possible) (k : ℕ) → IsOf xs y ⊎ (y ≡ x) → Named y w z k
    named y w z k (inl is) = λ wrote other steps. below_stays P old new z more.puts (on.named y w z k is wrote other steps)
    named y w z k (inr same) =
        subst (λ (v : Possible). Named v w z k) (sym same) (λ wrote. more.named w z k (omega (arith, within, wrote_within start k x w wrote)) wrote)

-- from no states a line leads nowhere
pub leads_none : (start : Image) (line : Note) → LeadsStates start line [] []
leads_none start line = record {
  sound = λ z is. absurd (none z is);
  own = λ y z is. absurd (none y is);
  named = λ y w z k is. absurd (none y is);
}
  where
    none : (y : Possible) → IsOf [] y → ⊥
    none y is = let no = is.1 in cc
