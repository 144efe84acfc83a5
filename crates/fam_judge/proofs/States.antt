-- What is settled behind an answer and a note of another host, in either order.
use Rattle.std.proofs.Common.{◌≡◌, ◌+◌, ◌≤◌, inr, ℕ, Bool, true, false, List, [], ◌∷◌, ◌++◌, length, Option, Some, None, refl, ap, sym, ◌∙◌, subst, arith}
use Rattle.std.specs.Prelude.{◌==◌, if◌then◌else◌}
use Rattle.std.proofs.lemmas.Bool.Decides.{nat_tests}
use Rattle.std.proofs.lemmas.List.{length-append}
use Rattle.std.proofs.lemmas.Option.{same_Some}
use Rattle.fam_base.specs.declared.entry.Params.{Params}
use Rattle.fam_rules.specs.Asks.{File}
use Rattle.fam_journal.specs.Legal.{FoundAllowed}
use Rattle.fam_journal.specs.Past.{Bad, Damage, Origin, Sound, State, finds, pends, shows, shows_count}

-- Nothing pends.

-- a damaged image shows nothing
pub counts_bad : (o : Option ℕ) (origin : Origin) (damage : Damage) (gate : ℕ) → shows_count o (Bad origin damage gate) ≡ Bad origin damage gate
counts_bad None origin damage gate = refl
counts_bad (Some m) origin damage gate = refl

either_way : {A : Type 0} (b : Bool) (x : A) → (if b then x else x) ≡ x
either_way true x = refl
either_way false x = refl

-- what is settled is shown already
pub counts_none : (o : Option ℕ) (p : Params) (history : List File) → shows_count o (Sound p history None) ≡ Sound p history None
counts_none None p history = refl
counts_none (Some m) p history = either_way (m == length history + 1) (Sound p history None)

-- and found
pub finds_none : (n : ℕ) (p : Params) (history : List File) → finds n (Sound p history None) ≡ Sound p history None
finds_none n p history =
    ap (λ (s : State). if n == length history then Sound p history None else s) (counts_none (Some n) p history) ∙ either_way (n == length history) (Sound p history None)

-- An entry pends.

module _ (p : Params) (history : List File) (f : File) where
  -- it pends, has joined, or was dropped
  abbrev pub waits : State
  waits = Sound p history (Some f)

  abbrev pub joined : State
  joined = Sound p (history ++ f ∷ []) None

  abbrev pub dropped : State
  dropped = Sound p history None

  -- one more
  pub joined_length : length (history ++ f ∷ []) ≡ length history + 1
  joined_length = length-append history (f ∷ [])

  -- it joins where it was shown, and else waits on
  pub data Goes (o : Option ℕ) : Type 0 where
    joins : o ≡ Some (length history + 1) → shows_count o waits ≡ joined → Goes o
    stays : (o ≡ Some (length history + 1) → ⊥) → shows_count o waits ≡ waits → Goes o

  -- which of the two
  pub goes : (o : Option ℕ) → Goes o
  goes None = stays (λ e. cc) refl
  goes (Some m) = by (m == length history + 1) refl
    where
      by : (b : Bool) → (m == length history + 1) ≡ b → Goes (Some m)
      by true e =
          let same : m ≡ length history + 1 = grind (arith, nat_tests) in joins (ap Some same) (ap (λ (b : Bool). if b then joined else waits) e)
      by false e =
          stays (λ some. let same : m ≡ length history + 1 = same_Some m (length history + 1) some in grind (arith, nat_tests)) (ap (λ (b : Bool). if b then joined else waits) e)

  -- a master that finds settles it
  pub data Finds (n : ℕ) : Type 0 where
    drops : n ≡ length history → finds n waits ≡ dropped → Finds n
    settles : n ≡ length history + 1 → finds n waits ≡ joined → Finds n
    leaves : finds n waits ≡ waits → Finds n

  -- which of the three
  pub found : (n : ℕ) → Finds n
  found n = by (n == length history) refl (goes (Some n))
    where
      by : (b : Bool) → (n == length history) ≡ b → Goes (Some n) → Finds n
      by true e went = let same : n ≡ length history = grind (arith, nat_tests) in drops same (ap (λ (b : Bool). if b then dropped else shows n waits) e)
      by false e (joins some is) =
          settles (same_Some n (length history + 1) some) (ap (λ (b : Bool). if b then dropped else shows n waits) e ∙ is)
      by false e (stays none is) = leaves (ap (λ (b : Bool). if b then dropped else shows n waits) e ∙ is)

-- Either order.

-- of two answers
pub shows_order : (o k : Option ℕ) (s : State) → shows_count k (shows_count o s) ≡ shows_count o (shows_count k s)
shows_order o k (Bad origin damage gate) =
    ap (shows_count k) (counts_bad o origin damage gate) ∙ counts_bad k origin damage gate ∙ sym (ap (shows_count o) (counts_bad k origin damage gate) ∙ counts_bad o origin damage gate)
shows_order o k (Sound p history None) =
    ap (shows_count k) (counts_none o p history) ∙ counts_none k p history ∙ sym (ap (shows_count o) (counts_none k p history) ∙ counts_none o p history)
shows_order o k (Sound p history (Some f)) = by (goes p history f o) (goes p history f k)
  where
    by : Goes p history f o → Goes p history f k → shows_count k (shows_count o (Sound p history (Some f))) ≡ shows_count o (shows_count k (Sound p history (Some f)))
    by (joins is e) (joins was d) =
        ap (shows_count k) e ∙ counts_none k p (history ++ f ∷ []) ∙ sym (ap (shows_count o) d ∙ counts_none o p (history ++ f ∷ []))
    by (joins is e) (stays was d) = ap (shows_count k) e ∙ counts_none k p (history ++ f ∷ []) ∙ sym (ap (shows_count o) d ∙ e)
    by (stays is e) (joins was d) = ap (shows_count k) e ∙ d ∙ sym (ap (shows_count o) d ∙ counts_none o p (history ++ f ∷ []))
    by (stays is e) (stays was d) = ap (shows_count k) e ∙ d ∙ sym (ap (shows_count o) d ∙ e)

-- of an answer and a master's count that is allowed behind it
pub finds_order : (o : Option ℕ) (n : ℕ) (s : State) → FoundAllowed n (shows_count o s) → finds n (shows_count o s) ≡ shows_count o (finds n s)
finds_order o n (Bad origin damage gate) allowed = ap (finds n) (counts_bad o origin damage gate) ∙ sym (counts_bad o origin damage gate)
finds_order o n (Sound p history None) allowed =
    ap (finds n) (counts_none o p history) ∙ finds_none n p history ∙ sym (ap (shows_count o) (finds_none n p history) ∙ counts_none o p history)
finds_order o n (Sound p history (Some f)) allowed = by (goes p history f o) (found p history f n)
  where
    by : Goes p history f o → Finds p history f n → finds n (shows_count o (Sound p history (Some f))) ≡ shows_count o (finds n (Sound p history (Some f)))
    by (joins is e) (drops m d) =
        let more : n ≡ length (history ++ f ∷ []) = subst (FoundAllowed n) e allowed in
        let long = joined_length p history f in absurd (omega (arith, m, more, long))
    by (joins is e) (settles m d) = ap (finds n) e ∙ finds_none n p (history ++ f ∷ []) ∙ sym (ap (shows_count o) d ∙ counts_none o p (history ++ f ∷ []))
    by (joins is e) (leaves d) = ap (finds n) e ∙ finds_none n p (history ++ f ∷ []) ∙ sym (ap (shows_count o) d ∙ e)
    by (stays is e) (drops m d) = ap (finds n) e ∙ d ∙ sym (ap (shows_count o) d ∙ counts_none o p history)
    by (stays is e) (settles m d) = ap (finds n) e ∙ d ∙ sym (ap (shows_count o) d ∙ counts_none o p (history ++ f ∷ []))
    by (stays is e) (leaves d) = ap (finds n) e ∙ d ∙ sym (ap (shows_count o) d ∙ e)

-- of an answer and an entry that is named where nothing pends
pub pends_order : (o : Option ℕ) (f : File) (p : Params) (history : List File) → ((m : ℕ) → o ≡ Some m → m ≤ length history)
    → pends f (shows_count o (Sound p history None)) ≡ shows_count o (pends f (Sound p history None))
pends_order o f p history bound = by (goes p history f o)
  where
    by : Goes p history f o → pends f (shows_count o (Sound p history None)) ≡ shows_count o (Sound p history (Some f))
    by (joins is e) = let high : length history + 1 ≤ length history = bound (length history + 1) is in absurd (omega (arith, high))
    by (stays is e) = ap (pends f) (counts_none o p history) ∙ sym e

-- what may be found behind an answer may be found before it
pub finds_before : (o : Option ℕ) (n : ℕ) (s : State) → FoundAllowed n (shows_count o s) → FoundAllowed n s
finds_before o n (Bad origin damage gate) allowed = subst (FoundAllowed n) (counts_bad o origin damage gate) allowed
finds_before o n (Sound p history None) allowed = subst (FoundAllowed n) (counts_none o p history) allowed
finds_before o n (Sound p history (Some f)) allowed = by (goes p history f o)
  where
    by : Goes p history f o → FoundAllowed n (Sound p history (Some f))
    by (joins is e) = let more : n ≡ length (history ++ f ∷ []) = subst (FoundAllowed n) e allowed in inr (more ∙ joined_length p history f)
    by (stays is e) = subst (FoundAllowed n) e allowed
