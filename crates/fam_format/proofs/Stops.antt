-- Tests in an order, and look-ups in a range of places.
use Rattle.std.proofs.Common.{◌≡◌, ℕ, zero, suc, ◌+◌, ◌<◌, ◌≤◌, Bool, true, false, cond, ◌==◌, if◌then◌else◌, Option, Some, None, Result, Ok, inl, inr, refl, ap, ◌∙◌, arith}
use Rattle.std.specs.List.{range_with_len, list_any, find}
use Rattle.std.specs.Option.{option_map}
use Rattle.std.proofs.lemmas.Bool.{cases_eq, or_parts}
use Rattle.std.proofs.lemmas.Bool.Decides.{nat_tests}
use Rattle.fam_format.specs.Stop.{stop}

-- what a result that isn't stopped says of the test before it
record Passed {T E : Type 0} (fault : Option E) (next : Result T E) (x : T) : Type 0 where
  none : fault ≡ None
  rest : next ≡ Ok x

-- a result that is Ok passed the first test
passed : {T E : Type 0} (fault : Option E) (next : Result T E) (x : T) → stop fault next ≡ Ok x → Passed fault next x
passed (Some fault) next x h = absurd (cc)
passed None next x h = record { none = refl; rest = h }

-- seven tests that name no fault
pub record AllPass {E : Type 0} (a b c d e f g : Option E) : Type 0 where
  pub first : a ≡ None
  pub second : b ≡ None
  pub third : c ≡ None
  pub fourth : d ≡ None
  pub fifth : e ≡ None
  pub sixth : f ≡ None
  pub seventh : g ≡ None

-- what comes behind them is the result
pub all_pass : {T E : Type 0} (a b c d e f g : Option E) (x : T) → AllPass a b c d e f g → stop a (stop b (stop c (stop d (stop e (stop f (stop g (Ok x))))))) ≡ Ok x
all_pass a b c d e f g x h = rw (h.first, h.second, h.third, h.fourth, h.fifth, h.sixth, h.seventh) refl

-- and where the result is Ok, they all pass
pub all_passed : {T E : Type 0} (a b c d e f g : Option E) (x y : T) → stop a (stop b (stop c (stop d (stop e (stop f (stop g (Ok x))))))) ≡ Ok y → AllPass a b c d e f g × (x ≡ y)
all_passed a b c d e f g x y h =
    let pa = passed a (stop b (stop c (stop d (stop e (stop f (stop g (Ok x))))))) y h in
    let pb = passed b (stop c (stop d (stop e (stop f (stop g (Ok x)))))) y pa.rest in
    let pc = passed c (stop d (stop e (stop f (stop g (Ok x))))) y pb.rest in
    let pd = passed d (stop e (stop f (stop g (Ok x)))) y pc.rest in
    let pe = passed e (stop f (stop g (Ok x))) y pd.rest in
    let pf = passed f (stop g (Ok x)) y pe.rest in
    let pg = passed g (Ok x) y pf.rest in
    let last = pg.rest in
    let same : x ≡ y = cc in
    (record { first = pa.none; second = pb.none; third = pc.none; fourth = pd.none; fifth = pe.none; sixth = pf.none; seventh = pg.none }, same)

-- two numbers that have to be one
pub none_if_same : {E : Type 0} (a b : ℕ) (fault : E) → a ≡ b → (if a == b then None else Some fault) ≡ None
none_if_same a b fault h = grind (arith, nat_tests)

-- no fault: they are one
pub same_if_none : {E : Type 0} (a b : ℕ) (fault : E) → (if a == b then None else Some fault) ≡ None → a ≡ b
same_if_none a b fault h = grind (arith, nat_tests)

-- a fault that is told by what was found
pub mapped_none : {X E : Type 0} (f : X → E) (o : Option X) → option_map f o ≡ None → o ≡ None
mapped_none f None h = refl
mapped_none f (Some x) h = absurd (cc)

-- nothing found is no fault
pub none_mapped : {X E : Type 0} (f : X → E) (o : Option X) → o ≡ None → option_map f o ≡ None
none_mapped f o h = rw h refl

-- `find` is None where no place passes
pub find_none : (p : ℕ → Bool) (a n : ℕ) → ((i : ℕ) → a ≤ i → i < a + n → p i ≡ false) → find p (range_with_len a n) ≡ None
find_none p a zero h = refl
find_none p a (suc n) h =
    let here : p a ≡ false = h a (omega arith) (omega arith) in
    rw here (find_none p (a + 1) n (λ i from below. h i (omega arith) (omega arith)))

-- the first place fails, and the rest has none
head_fails : (test : Bool) (i : ℕ) (rest : Option ℕ) → cond test (Some i) rest ≡ None → (test ≡ false) × (rest ≡ None)
head_fails true i rest h = absurd (cc)
head_fails false i rest h = (refl, h)

-- and where it is None, no place passes
pub none_found : (p : ℕ → Bool) (a n : ℕ) → find p (range_with_len a n) ≡ None → (i : ℕ) → a ≤ i → i < a + n → p i ≡ false
none_found p a zero h i from below = absurd (omega arith)
none_found p a (suc n) h i from below =
    let both = head_fails (p a) a (find p (range_with_len (a + 1) n)) h in
    elim (cases_eq i a) [
      | inl same ↦ ap p same ∙ both.0
      | inr other ↦ none_found p (a + 1) n both.1 i (omega arith) (omega arith)
    ]

-- the same for `list_any`
pub any_false : (p : ℕ → Bool) (a n : ℕ) → ((i : ℕ) → a ≤ i → i < a + n → p i ≡ false) → list_any p (range_with_len a n) ≡ false
any_false p a zero h = refl
any_false p a (suc n) h =
    let here : p a ≡ false = h a (omega arith) (omega arith) in
    rw here (any_false p (a + 1) n (λ i from below. h i (omega arith) (omega arith)))

-- and the way back
pub each_false : (p : ℕ → Bool) (a n : ℕ) → list_any p (range_with_len a n) ≡ false → (i : ℕ) → a ≤ i → i < a + n → p i ≡ false
each_false p a zero h i from below = absurd (omega arith)
each_false p a (suc n) h i from below =
    let both = or_parts (p a) (list_any p (range_with_len (a + 1) n)) h in
    elim (cases_eq i a) [
      | inl same ↦ ap p same ∙ both.0
      | inr other ↦ each_false p (a + 1) n both.1 i (omega arith) (omega arith)
    ]
