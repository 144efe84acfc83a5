-- What a note settles, as the protocol has it: the history with the pending entry, and the history's length.
use Rattle.std.proofs.Common.{◌≡◌, ◌≢◌, ℕ, ◌+◌, ◌≤◌, ◌⊎◌, inl, inr, Bool, true, false, List, [], ◌∷◌, ◌++◌, length, take, Option, Some, None, refl, ap, ap₂, sym, ◌∙◌, arith}
use Rattle.std.specs.Prelude.{◌==◌, if◌then◌else◌, max}
use Rattle.std.proofs.lemmas.Bool.Decides.{nat_tests}
use Rattle.fam_base.specs.declared.entry.Params.{Params}
use Rattle.fam_format.specs.Reading.{Lines}
use Rattle.fam_rules.specs.Asks.{File}
use Rattle.fam_protocol.specs.Invariant.{Known, Settled}
use Rattle.fam_journal.specs.Kept.{settled_of}
use Rattle.fam_journal.specs.Past.{State, Sound, acknowledges, finds, shows, with_pending}

-- a pending entry is one more
pub length-pending : (history : List File) (f : File) → length (with_pending history (Some f)) ≡ length history + 1
length-pending history f = length_behind history
  where
    length_behind : (xs : List File) → length (xs ++ f ∷ []) ≡ length xs + 1
    length_behind [] = refl
    length_behind (x ∷ xs) = omega (arith, length_behind xs)

-- the history stands before it
pub prefix-pending : (history : List File) (pending : Option File) → take (length history) (with_pending history pending) ≡ history
prefix-pending [] None = refl
prefix-pending [] (Some f) = refl
prefix-pending (x ∷ xs) None = ap (λ (ys : List File). x ∷ ys) (prefix-pending xs None)
prefix-pending (x ∷ xs) (Some f) = ap (λ (ys : List File). x ∷ ys) (prefix-pending xs (Some f))

pub take_whole : (xs : List File) → take (length xs) xs ≡ xs
take_whole [] = refl
take_whole (x ∷ xs) = ap (λ (ys : List File). x ∷ ys) (take_whole xs)

-- the test of two numbers
same_test : {A : Type 0} (a b : ℕ) (x y : A) → a ≡ b → (if a == b then x else y) ≡ x
same_test a b x y same = go (a == b) refl
  where
    go : (t : Bool) → (a == b) ≡ t → (if t then x else y) ≡ x
    go true is = refl
    go false is = absurd (grind (arith, nat_tests))

other_test : {A : Type 0} (a b : ℕ) (x y : A) → a ≢ b → (if a == b then x else y) ≡ y
other_test a b x y other = go (a == b) refl
  where
    go : (t : Bool) → (a == b) ≡ t → (if t then x else y) ≡ y
    go true is = absurd (other (grind (arith, nat_tests)))
    go false is = refl

-- what is settled, over a memory of these lines
abbrev over : Lines → State → Settled
over now s = settled_of s now

module _ (p : Params) (history : List File) where
  -- nothing more than what is settled
  pub shows_less : (m : ℕ) (pending : Option File) → m ≤ length history → shows m (Sound p history pending) ≡ Sound p history pending
  shows_less m pending less = other_test m (length history + 1) (Sound p (with_pending history pending) None) (Sound p history pending) (λ e. omega (arith, e, less))

  -- one more
  pub shows_more : (m : ℕ) (pending : Option File) → m ≡ length history + 1 → shows m (Sound p history pending) ≡ Sound p (with_pending history pending) None
  shows_more m pending more = same_test m (length history + 1) (Sound p (with_pending history pending) None) (Sound p history pending) more

  pub finds_settled : (n : ℕ) (pending : Option File) → n ≡ length history → finds n (Sound p history pending) ≡ Sound p history None
  finds_settled n pending same = same_test n (length history) (Sound p history None) (shows n (Sound p history pending)) same

  pub finds_more : (n : ℕ) (pending : Option File) → n ≡ length history + 1 → finds n (Sound p history pending) ≡ Sound p (with_pending history pending) None
  finds_more n pending more =
      other_test n (length history) (Sound p history None) (shows n (Sound p history pending)) (λ e. omega (arith, e, more)) ∙ shows_more n pending more

  -- an acknowledged entry is the last of all
  pub acknowledged : (seq : ℕ) (pending : Option File) → length (with_pending history pending) ≡ seq + 1 → acknowledges seq (Sound p history pending) ≡ Sound p (with_pending history pending) None
  acknowledged seq None count = other_test seq (length history) (Sound p history None) (Sound p history None) (λ e. omega (arith, e, count))
  acknowledged seq (Some f) count =
      same_test seq (length history) (Sound p (history ++ f ∷ []) None) (Sound p history (Some f)) (omega (arith, count, length-pending history f))

  -- what an answer on m entries settles
  pub shows_settles : (now : Lines) (m : ℕ) (pending : Option File) → m ≤ length (with_pending history pending)
      → settled_of (shows m (Sound p history pending)) now ≡ Known p (with_pending history pending) (max (length history) m)
  shows_settles now m None high =
      ap (over now) (shows_less m None high) ∙ ap (Known p history) (omega (arith, high))
  shows_settles now m (Some f) high = go (m == length history + 1) refl
    where
      go : (t : Bool) → (m == length history + 1) ≡ t
          → settled_of (shows m (Sound p history (Some f))) now ≡ Known p (history ++ f ∷ []) (max (length history) m)
      go true is =
          let same : m ≡ length history + 1 = grind (arith, nat_tests) in
          ap (over now) (shows_more m (Some f) same) ∙ ap (Known p (history ++ f ∷ [])) (omega (arith, length-pending history f, same))
      go false is =
          let less : m ≤ length history = grind (arith, nat_tests, high, length-pending history f) in
          ap (over now) (shows_less m (Some f) less) ∙ ap (Known p (history ++ f ∷ [])) (omega (arith, less))

  pub acknowledges_settles : (now : Lines) (seq : ℕ) (pending : Option File) → length (with_pending history pending) ≡ seq + 1
      → settled_of (acknowledges seq (Sound p history pending)) now ≡ Known p (with_pending history pending) (max (length history) (seq + 1))
  acknowledges_settles now seq None count =
      ap (over now) (acknowledged seq None count) ∙ ap (Known p history) (omega (arith, count))
  acknowledges_settles now seq (Some f) count =
      ap (over now) (acknowledged seq (Some f) count) ∙ ap (Known p (history ++ f ∷ [])) (omega (arith, count, length-pending history f))

  pub finds_settles : (now : Lines) (n : ℕ) (pending : Option File) → (n ≡ length history) ⊎ ((n ≡ length history + 1) × (n ≡ length (with_pending history pending)))
      → settled_of (finds n (Sound p history pending)) now ≡ Known p (take n (with_pending history pending)) n
  finds_settles now n pending (inl same) =
      ap (over now) (finds_settled n pending same)
      ∙ ap₂ (Known p) (sym (ap (λ k. take k (with_pending history pending)) same ∙ prefix-pending history pending)) (sym same)
  finds_settles now n pending (inr more) =
      ap (over now) (finds_more n pending more.0)
      ∙ ap₂ (Known p) (sym (ap (λ k. take k (with_pending history pending)) more.1 ∙ take_whole (with_pending history pending))) (sym more.1)
