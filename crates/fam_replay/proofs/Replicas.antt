-- What is kept of slots is found again.
use Rattle.std.proofs.Common.{◌≡◌, ℕ, ◌+◌, ◌-◌, ◌<◌, ◌≤◌, List, [], ◌∷◌, ◌++◌, length, take, get_or, Option, Some, None, Result, Ok, Err, sym, ap, subst, ◌∙◌, arith}
use Rattle.std.specs.Prelude.{IfOk, IfSome}
use Rattle.std.specs.List.{slice_get}
use Rattle.std.proofs.lemmas.List.{get_or-take, length-take, length-take-le, take-take, take_all, take_more}
use Rattle.std.proofs.lemmas.Option.{slice_get_within, get_or_from_slice_get, slice_get-get_or}
use Rattle.fam_base.specs.declared.entry.Entry.{Entry}
use Rattle.fam_base.specs.declared.entry.Params.{Params}
use Rattle.fam_format.specs.declared.faults.Reason.{Reason}
use Rattle.fam_format.specs.Slot.{entry_of}
use Rattle.fam_format.specs.Tree.{join_fault}
use Rattle.fam_plan.specs.State.{PlanState, IsHistory}
use Rattle.fam_replay.specs.Replica.{AreKeptAt, AreRead, IsReplica, FindsNext, ReplicaState}
use Rattle.fam_replay.specs.Replay.{entries_in, HasFoundAll, IsAgainst, IsReplayOf, Joins, ReadsNext, Refused}

-- The next entry is one that is kept.
module _ (s : PlanState) (first : ℕ) (slots : List (List ℕ)) (found : ℕ) (words : List ℕ) (is : IsReplica s first slots found) (history : IsHistory s) (kept : AreKeptAt first slots found words) where
  there : first + (found - first) ≡ found
  there = omega (arith, kept.behind)

  pub below : found < length s.entries
  below = omega (arith, there, is.read.few (found - first) (slice_get_within slots (found - first) words kept.here))

  count : length (take found s.entries) ≡ found
  count = length-take-le found s.entries (omega (arith, below))

  entry_there : (e : Entry) × (slice_get s.entries found ≡ Some e)
  entry_there = elim (s.entries) as (λ (l : List Entry). found < length l → (e : Entry) × (slice_get l found ≡ Some e)) [
    | [] ↦ λ h. absurd (omega arith)
    | e ∷ l ↦ λ h. (get_or (e ∷ l) found e, slice_get-get_or (e ∷ l) found e h)
  ] below

  pub finds : FindsNext s.params words (take found s.entries) (take (found + 1) s.entries)
  finds =
      let e = entry_there.0 in
      record {
        entry = e;
        read =
            subst (λ (k : ℕ). entry_of s.params words k ≡ Ok e) (there ∙ sym count)
            (is.read.read (found - first) words e kept.here (ap (slice_get s.entries) there ∙ entry_there.1));
        joins = (history.added found e entry_there.1).joins;
        added = take_more s.entries found e below ∙ ap (λ (x : Entry). take found s.entries ++ x ∷ []) (get_or_from_slice_get s.entries found e e entry_there.1);
      }

-- what stands among the first of a list stands in it
in_front : {A : Type 0} (xs : List A) (n i : ℕ) (x : A) → slice_get (take n xs) i ≡ Some x → slice_get xs i ≡ Some x
in_front xs n i x is =
    let within : i < length (take n xs) = slice_get_within (take n xs) i x is in
    slice_get-get_or xs i x (omega (arith, within, length-take n xs))
    ∙ ap (λ y. Some y) (sym (get_or-take n xs i x (omega (arith, within, length-take n xs))) ∙ get_or_from_slice_get (take n xs) i x x is)

-- the words of the slots among the first tell the entries among these
pub read_first : (p : Params) (first : ℕ) (slots : List (List ℕ)) (entries : List Entry) (n : ℕ) → AreRead p first slots entries → AreRead p first (take (n - first) slots) (take n entries)
read_first p first slots entries n are = record {
  few = λ i within.
      let below = are.few i (omega (arith, within, length-take (n - first) slots)) in
      omega (arith, within, below, length-take (n - first) slots, length-take n entries);
  read = λ i words e kept there. are.read i words e (in_front slots (n - first) i words kept) (in_front entries n (first + i) e there);
}

-- where all entries were found, those that were found are all
pub whole : (entries : List Entry) (found : ℕ) → length entries ≤ found → take found entries ≡ entries
whole entries found is = take_all found entries is

-- where as many were found as the gate counts, nothing more is kept
pub all_found : (p : Params) (gate : ℕ) (o : Option ReplicaState) → IsReplayOf p gate o → length (entries_in o) ≡ gate → HasFoundAll o
all_found p gate None fits all = tt
all_found p gate (Some s) fits all = omega (arith, fits.1, all, length-take s.found s.entries)

-- what comes of an entry that was read
pub reads_by : {E : Type 0} (p : Params) (words : List ℕ) (old new : List Entry) (e : Entry) (result : Result (Option Reason) E)
    → entry_of p words (length old) ≡ Ok e → IfOk result (λ reason. Joins reason p old e new)
    → IfOk result (λ reason. ReadsNext reason p words old new)
reads_by p words old new e (Ok None) read joins = record { entry = e; read = read; joins = joins.0; added = joins.1 }
reads_by p words old new e (Ok (Some reason)) read joins = (Refused e read joins.0, joins.1)
reads_by p words old new e (Err fault) read joins = tt

-- why an entry that was read doesn't join is against its words
pub against_by : {E : Type 0} (p : Params) (words : List ℕ) (list : List Entry) (e : Entry) (result : Result Reason E)
    → entry_of p words (length list) ≡ Ok e → IfOk result (λ reason. join_fault p list e ≡ Some reason) → IfOk result (IsAgainst p words list)
against_by p words list e (Ok reason) read fault = Refused e read fault
against_by p words list e (Err fault) read is = tt

-- Going back behind the first entries that were found.

pub back_within : (o : Option ReplicaState) (found : ℕ) → found ≤ length (entries_in o) → IfSome o (λ s. found ≤ length s.entries)
back_within None found within = tt
back_within (Some s) found within = omega (arith, within, length-take s.found s.entries)

pub back_to : (s : ReplicaState) (found : ℕ) → found ≤ length (take s.found s.entries) → take found s.entries ≡ take found (take s.found s.entries)
back_to s found within = sym (take-take found s.found s.entries (omega (arith, within, length-take s.found s.entries)))
