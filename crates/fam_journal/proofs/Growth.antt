-- Notes behind notes, operations behind operations, and what a call adds behind what another added.
use Prim.Native.Nat.{zero, suc}
use Rattle.std.proofs.Common.{◌≡◌, ℕ, inl, inr, Bool, true, false, List, [], ◌∷◌, ◌++◌, length, map, Option, None, refl, ap, sym, ◌∙◌, subst, arith}
use Rattle.std.specs.Prelude.{drop}
use Rattle.std.proofs.lemmas.List.{append-nil, append_assoc, length-map}
use Rattle.fam_journal.specs.declared.refusal.Refusal.{Refusal}
use Rattle.fam_journal.specs.Calls.{DoesOperations, busy_at}
use Rattle.fam_journal.specs.CallRecords.{Adds, heading, refusal_noted}
use Rattle.fam_journal.specs.Machines.{Machines, Operation}
use Rattle.fam_journal.specs.Names.{AreNamed}
use Rattle.fam_journal.specs.Notes.{Note}
use Rattle.fam_journal.specs.View.{HostView, WorldView}
use Rattle.fam_journal.proofs.Runs.Unique.{faults_both}

-- notes that name hosts
pub named_both : (n : ℕ) (notes more : List Note) → AreNamed n notes → AreNamed n more → AreNamed n (notes ++ more)
named_both n [] more first rest = rest
named_both n (note ∷ notes) more first rest = (first.0, named_both n notes more first.1 rest)

-- notes that tell no refusal
pub none_refused : (notes more : List Note) → None ≡ refusal_noted notes → None ≡ refusal_noted more → None ≡ refusal_noted (notes ++ more)
none_refused [] more first rest = rest
none_refused (note ∷ []) [] first rest = first
none_refused (note ∷ []) (next ∷ more) first rest = refl
none_refused (note ∷ next ∷ notes) more first rest = refl

-- what stands behind the same notes is the same
pub behind_same : (front a b : List Note) → front ++ a ≡ front ++ b → a ≡ b
behind_same [] a b e = e
behind_same (note ∷ front) a b e = behind_same front a b (ap (λ (notes : List Note). drop 1 notes) e)

-- as many hosts
pub count_same : (a b : List HostView) → map heading a ≡ map heading b → length a ≡ length b
count_same a b e = sym (length-map a heading) ∙ ap (λ (xs : List (List ℕ × List ℕ)). length xs) e ∙ length-map b heading

-- one operation more
pub operations_more : (h n : ℕ) (old : Machines) (notes : List Note) (mid : Machines) (more : List Note) (new : Machines)
    → DoesOperations h n old notes mid → busy_at h mid ≡ true → Operation h mid more new → DoesOperations h (suc n) old (notes ++ more) new
operations_more h zero old notes mid more new does busy op =
    let here : mid ≡ old = does.1 in
    inr (
      subst (λ (m : Machines). busy_at h m ≡ true) here busy,
      new,
      more,
      [],
      subst (λ (m : Machines). Operation h m more new) here op,
      (refl, refl),
      ap (λ (z : List Note). z ++ more) does.0 ∙ sym (append-nil more),
    )
operations_more h (suc n) old notes mid more new (inl none) busy op =
    absurd (let idle : busy_at h old ≡ false = none.0 in let same : busy_at h old ≡ true = subst (λ (m : Machines). busy_at h m ≡ true) none.2 busy in cc)
operations_more h (suc n) old notes mid more new (inr x) busy op =
    inr (x.0, x.1, x.2, x.3 ++ more, x.4, operations_more h n x.1 x.3 mid more new x.5 busy op, ap (λ (z : List Note). z ++ more) x.6 ∙ append_assoc x.2 x.3 more)

-- nothing is added
abbrev pub adds_none : (lines faults : ℕ) (world : WorldView) → Adds lines faults faults world world
adds_none lines faults world = record {
  notes = [];
  joined = sym (append-nil world.journal);
  counted = omega arith;
  later = omega arith;
  named = tt;
  hosts = refl;
  fits = λ was. was;
  shaped = λ is. is;
}

-- and more behind what was added
abbrev pub adds_both : (lines before mid now : ℕ) (a b c : WorldView) → Adds lines before mid a b → Adds lines mid now b c → Adds lines before now a c
adds_both lines before mid now a b c x y = record {
  notes = x.notes ++ y.notes;
  joined = y.joined ∙ ap (λ (j : List Note). j ++ y.notes) x.joined ∙ append_assoc a.journal x.notes y.notes;
  counted = let first = x.counted in let rest = y.counted in let sum = faults_both x.notes y.notes in omega (arith, first, rest, sum);
  later = let first = x.later in let rest = y.later in omega (arith, first, rest);
  named = named_both (length c.hosts) x.notes y.notes (subst (λ (n : ℕ). AreNamed n x.notes) (count_same b.hosts c.hosts (sym y.hosts)) x.named) y.named;
  hosts = y.hosts ∙ x.hosts;
  fits = λ was. y.fits (x.fits was);
  shaped = λ is. y.shaped (x.shaped is);
}
