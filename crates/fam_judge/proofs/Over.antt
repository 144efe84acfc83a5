-- States of the settled history of which the one allows no less than the other.
use Rattle.std.proofs.Common.{◌≡◌, ◌+◌, ◌≤◌, inl, inr, ℕ, Bool, true, false, List, [], ◌∷◌, ◌++◌, length, Option, Some, None, refl, ap, ap₂, sym, ◌∙◌, subst, arith}
use Rattle.std.specs.Prelude.{◌==◌, if◌then◌else◌, take}
use Rattle.std.proofs.lemmas.Bool.Decides.{nat_tests}
use Rattle.std.proofs.lemmas.List.{take-append-le}
use Rattle.fam_base.specs.declared.entry.Params.{Params}
use Rattle.fam_rules.specs.Asks.{File}
use Rattle.fam_journal.specs.Legal.{FoundAllowed, master_of}
use Rattle.fam_journal.specs.Past.{Bad, Sound, State, finds, settled_length, shows, shows_count, with_pending}
use Rattle.fam_judge.specs.Covering.{StateOver, dropped, joined, same}
use Rattle.fam_judge.specs.Possible.{NonePends}
use Rattle.fam_judge.proofs.States.{Goes, counts_bad, counts_none, finds_none, goes, joined_length, joins, stays}

-- where nothing pends they are the same
pub over_none : (s t : State) → StateOver s t → NonePends s → t ≡ s
over_none s t (same e) none = e
over_none s t (joined p history f es et) none = let no : Some f ≡ None = subst NonePends es none in absurd cc
over_none s t (dropped p history f es et) none = let no : Some f ≡ None = subst NonePends es none in absurd cc

-- the first one has settled no more
pub over_settled : (s t : State) → StateOver s t → settled_length s ≤ settled_length t
over_settled s t (same e) = let is : settled_length t ≡ settled_length s = ap settled_length e in omega (arith, is)
over_settled s t (joined p history f es et) =
    let a : settled_length s ≡ length history = ap settled_length es in
    let b : settled_length t ≡ length (history ++ f ∷ []) = ap settled_length et in
    let more = joined_length p history f in omega (arith, a, b, more)
over_settled s t (dropped p history f es et) =
    let a : settled_length s ≡ length history = ap settled_length es in
    let b : settled_length t ≡ length history = ap settled_length et in omega (arith, a, b)

-- they have the same master
pub over_master : (s t : State) → StateOver s t → master_of s ≡ master_of t
over_master s t (same e) = ap master_of (sym e)
over_master s t (joined p history f es et) = ap master_of es ∙ sym (ap master_of et)
over_master s t (dropped p history f es et) = ap master_of es ∙ sym (ap master_of et)

-- the count is no greater than what may be answered of
abbrev pub Within : Option ℕ → State → Type 0
Within o t = (p : Params) (history : List File) (pending : Option File) → t ≡ Sound p history pending → (m : ℕ) → o ≡ Some m → m ≤ length (with_pending history pending)

-- what is shown is shown in both
pub over_shows : (o : Option ℕ) (s t : State) → StateOver s t → Within o t → StateOver (shows_count o s) (shows_count o t)
over_shows o s t (same e) bound = same (ap (shows_count o) e)
over_shows o s t (joined p history f es et) bound = by (goes p history f o)
  where
    by : Goes p history f o → StateOver (shows_count o s) (shows_count o t)
    by (joins is e) = same (ap (shows_count o) et ∙ counts_none o p (history ++ f ∷ []) ∙ sym (ap (shows_count o) es ∙ e))
    by (stays is e) = joined p history f (ap (shows_count o) es ∙ e) (ap (shows_count o) et ∙ counts_none o p (history ++ f ∷ []))
over_shows o s t (dropped p history f es et) bound = by (goes p history f o)
  where
    by : Goes p history f o → StateOver (shows_count o s) (shows_count o t)
    by (joins is e) = let low : length history + 1 ≤ length history = bound p history None et (length history + 1) is in absurd (omega (arith, low))
    by (stays is e) = dropped p history f (ap (shows_count o) es ∙ e) (ap (shows_count o) et ∙ counts_none o p history)

-- Counts that are found.

-- none more: the pending one is dropped
pub finds_drops : (n : ℕ) (p : Params) (history : List File) (f : File) → n ≡ length history → finds n (Sound p history (Some f)) ≡ Sound p history None
finds_drops n p history f is = by (n == length history) refl
  where
    by : (b : Bool) → (n == length history) ≡ b → (if b then Sound p history None else shows n (Sound p history (Some f))) ≡ Sound p history None
    by true e = refl
    by false e = absurd (grind (arith, nat_tests))

-- one more: it joins
pub finds_joins : (n : ℕ) (p : Params) (history : List File) (f : File) → n ≡ length history + 1 → finds n (Sound p history (Some f)) ≡ Sound p (history ++ f ∷ []) None
finds_joins n p history f is = by (n == length history) refl (n == length history + 1) refl
  where
    by : (b : Bool) → (n == length history) ≡ b → (c : Bool) → (n == length history + 1) ≡ c
        → (if b then Sound p history None else (if c then Sound p (history ++ f ∷ []) None else Sound p history (Some f))) ≡ Sound p (history ++ f ∷ []) None
    by true e c d = absurd (grind (arith, nat_tests))
    by false e true d = refl
    by false e false d = absurd (grind (arith, nat_tests))

-- what may be found in the second one may be in the first one, and comes to the same
pub over_finds : (n : ℕ) (s t : State) → StateOver s t → FoundAllowed n t → FoundAllowed n s × (finds n s ≡ finds n t)
over_finds n s t (same e) found = (subst (FoundAllowed n) e found, ap (finds n) (sym e))
over_finds n s t (joined p history f es et) found =
    let is : n ≡ length (history ++ f ∷ []) = subst (FoundAllowed n) et found in
    let more : n ≡ length history + 1 = is ∙ joined_length p history f in
    (subst (FoundAllowed n) (sym es) (inr more), ap (finds n) es ∙ finds_joins n p history f more ∙ sym (ap (finds n) et ∙ finds_none n p (history ++ f ∷ [])))
over_finds n s t (dropped p history f es et) found =
    let is : n ≡ length history = subst (FoundAllowed n) et found in
    (subst (FoundAllowed n) (sym es) (inl is), ap (finds n) es ∙ finds_drops n p history f is ∙ sym (ap (finds n) et ∙ finds_none n p history))

found_here : (n : ℕ) (s : State) → FoundAllowed n s → StateOver s (finds n s)
found_here n (Bad origin damage gate) found = same refl
found_here n (Sound p history None) found = same (finds_none n p history)
found_here n (Sound p history (Some f)) (inl is) = dropped p history f refl (finds_drops n p history f is)
found_here n (Sound p history (Some f)) (inr is) = joined p history f refl (finds_joins n p history f is)

-- what is found in the second one leaves it below the first one
pub over_hidden : (n : ℕ) (s t : State) → StateOver s t → FoundAllowed n t → StateOver s (finds n t)
over_hidden n s t (same e) found =
    subst (λ (u : State). StateOver s (finds n u)) (sym e) (found_here n s (subst (FoundAllowed n) e found))
over_hidden n s t (joined p history f es et) found = joined p history f es (ap (finds n) et ∙ finds_none n p (history ++ f ∷ []))
over_hidden n s t (dropped p history f es et) found = dropped p history f es (ap (finds n) et ∙ finds_none n p history)

-- nothing pends in the second one: the first one comes to it by a count
pub over_met : (s : State) (p : Params) (history : List File) → StateOver s (Sound p history None)
    → FoundAllowed (length history) s × (finds (length history) s ≡ Sound p history None)
over_met s p history over =
    let both = over_finds (length history) s (Sound p history None) over refl in (both.0, both.1 ∙ finds_none (length history) p history)

-- What is settled doesn't become less.

pub settled_shows : (o : Option ℕ) (s : State) → settled_length s ≤ settled_length (shows_count o s)
settled_shows o (Bad origin damage gate) = let e : settled_length (shows_count o (Bad origin damage gate)) ≡ 0 = ap settled_length (counts_bad o origin damage gate) in omega (arith, e)
settled_shows o (Sound p history None) = let e : settled_length (shows_count o (Sound p history None)) ≡ length history = ap settled_length (counts_none o p history) in omega (arith, e)
settled_shows o (Sound p history (Some f)) = by (goes p history f o)
  where
    by : Goes p history f o → length history ≤ settled_length (shows_count o (Sound p history (Some f)))
    by (joins is e) = let long : settled_length (shows_count o (Sound p history (Some f))) ≡ length history + 1 = ap settled_length e ∙ joined_length p history f in omega (arith, long)
    by (stays is e) = let long : settled_length (shows_count o (Sound p history (Some f))) ≡ length history = ap settled_length e in omega (arith, long)

pub settled_finds : (n : ℕ) (s : State) → FoundAllowed n s → settled_length s ≤ settled_length (finds n s)
settled_finds n s found = over_settled s (finds n s) (found_here n s found)

-- and nothing comes to pend
pub none_shows : (o : Option ℕ) (s : State) → NonePends s → NonePends (shows_count o s)
none_shows o (Bad origin damage gate) none = subst NonePends (sym (counts_bad o origin damage gate)) tt
none_shows o (Sound p history None) none = subst NonePends (sym (counts_none o p history)) refl
none_shows o (Sound p history (Some f)) none = absurd cc

pub none_finds : (n : ℕ) (s : State) → FoundAllowed n s → NonePends (finds n s)
none_finds n (Bad origin damage gate) found = tt
none_finds n (Sound p history None) found = subst NonePends (sym (finds_none n p history)) refl
none_finds n (Sound p history (Some f)) (inl is) = subst NonePends (sym (finds_drops n p history f is)) refl
none_finds n (Sound p history (Some f)) (inr is) = subst NonePends (sym (finds_joins n p history f is)) refl

-- the master stays the same
pub master_shows : (o : Option ℕ) (s : State) → master_of (shows_count o s) ≡ master_of s
master_shows o (Bad origin damage gate) = ap master_of (counts_bad o origin damage gate)
master_shows o (Sound p history None) = ap master_of (counts_none o p history)
master_shows o (Sound p history (Some f)) = by (goes p history f o)
  where
    by : Goes p history f o → master_of (shows_count o (Sound p history (Some f))) ≡ Some p.master
    by (joins is e) = ap master_of e
    by (stays is e) = ap master_of e

pub master_finds : (n : ℕ) (s : State) → FoundAllowed n s → master_of (finds n s) ≡ master_of s
master_finds n s found = sym (over_master s (finds n s) (found_here n s found))

-- Entries that are answered of.

-- the first ones of the second state are those of the first one
pub over_first : (p q : Params) (a b : List File) (x y : Option File) (m : ℕ) → StateOver (Sound p a x) (Sound q b y) → m ≤ length (with_pending b y)
    → (m ≤ length (with_pending a x)) × (take m (with_pending a x) ≡ take m (with_pending b y))
over_first p q a b x y m (same e) high = let one : a ≡ b = cc in let other : x ≡ y = cc in
    (subst (λ (l : List File). m ≤ length (with_pending l x)) (sym one) (subst (λ (o : Option File). m ≤ length (with_pending b o)) (sym other) high), cc)
over_first p q a b x y m (joined r history f es et) high =
    let one : a ≡ history = cc in
    let pend : x ≡ Some f = cc in
    let more : b ≡ history ++ f ∷ [] = cc in
    let none : y ≡ None = cc in
    let all : with_pending a x ≡ with_pending b y = ap₂ with_pending one pend ∙ sym (ap₂ with_pending more none) in
    (subst (λ (l : List File). m ≤ length l) (sym all) high, ap (take m) all)
over_first p q a b x y m (dropped r history f es et) high =
    let one : a ≡ history = cc in
    let pend : x ≡ Some f = cc in
    let same : b ≡ history = cc in
    let none : y ≡ None = cc in
    let fewer : with_pending b y ≡ history = ap₂ with_pending same none in
    let all : with_pending a x ≡ history ++ f ∷ [] = ap₂ with_pending one pend in
    let low : m ≤ length history = subst (λ (l : List File). m ≤ length l) fewer high in
    let long = joined_length r history f in
    let bound : m ≤ length (history ++ f ∷ []) = omega (arith, low, long) in
    (subst (λ (l : List File). m ≤ length l) (sym all) bound, ap (take m) all ∙ take-append-le m history (f ∷ []) low ∙ sym (ap (take m) fewer))
