-- What one entry more changes.
use Rattle.std.proofs.Common.{◌≡◌, ℕ, suc, Bool, true, false, ◌+◌, ◌*◌, ◌<◌, ◌≤◌, ◌%◌, ◌^◌, ◌==◌, ◌||◌, ◌&&◌, List, [], ◌∷◌, ◌++◌, length, get_or, map, cond, Option, Some, None, count_by, refl, sym, ap, ap₂, subst, ◌∙◌, arith}
use Rattle.std.specs.Prelude.{nat_lt, nat_le}
use Rattle.std.specs.List.{All, filter, range_with_len}
use Rattle.std.proofs.lemmas.Bool.{and_parts, leb-true}
use Rattle.std.proofs.lemmas.List.{append-nil, map-append}
use Rattle.std.proofs.lemmas.List.Concat.{flat_map-append}
use Rattle.std.proofs.lemmas.List.Sums.{sum_by-append}
use Rattle.std.proofs.lemmas.List.Elements.{All-push, All-weaker, filter-append}
use Rattle.fam_base.specs.declared.entry.Params.{Params}
use Rattle.fam_base.specs.declared.entry.Entry.{Entry}
use Rattle.fam_base.specs.declared.extents.Extent.{Extent}
use Rattle.fam_format.specs.declared.faults.Reason.{Reason}
use Rattle.fam_format.specs.EntryLaws.{IsInDevice}
use Rattle.fam_format.specs.Layout.{head_units, device_units}
use Rattle.fam_format.specs.Params.{SoundParams}
use Rattle.fam_format.specs.Slot.{Proper}
use Rattle.fam_format.specs.Tree.{replay}
use Rattle.fam_format.specs.Units.{units_in, list_units, is_used}
use Rattle.fam_format.proofs.JoinLaws.{replay_more}
use Rattle.fam_format.proofs.EntryLawsProofs.{proper_inside}
use Rattle.fam_alloc.specs.Taken.{is_taken, taken_units, holds, LieWithin}
use Rattle.fam_alloc.proofs.OverlapLemmas.{holds-append}
use Rattle.fam_rules.specs.Reports.{used_count}
use Rattle.fam_fsck.specs.declared.found.Found.{Found}
use Rattle.fam_fsck.specs.Found.{pair_of, pairs_of, applied_of, found_entries, found_as, tree_after, LiesWithin}

-- Lists.

pairs_one_more : (list : List Found) (i : ℕ) (e : Entry) (fault : Option Reason) → pairs_of (list ++ found_as i e fault ∷ []) ≡ pairs_of list ++ (i, e) ∷ []
pairs_one_more list i e fault = map-append pair_of list (found_as i e fault ∷ [])

applied_one_more : (list : List Found) (i : ℕ) (e : Entry) → applied_of (list ++ found_as i e None ∷ []) ≡ applied_of list ++ e ∷ []
applied_one_more list i e =
    ap (map (λ (f : Found). f.entry)) (filter-append (λ (f : Found). f.applies) list (found_as i e None ∷ []))
    ∙ map-append (λ (f : Found). f.entry) (filter (λ (f : Found). f.applies) list) (found_as i e None ∷ [])

applied_as_before : (list : List Found) (i : ℕ) (e : Entry) (r : Reason) → applied_of (list ++ found_as i e (Some r) ∷ []) ≡ applied_of list
applied_as_before list i e r =
    ap (map (λ (f : Found). f.entry)) (filter-append (λ (f : Found). f.applies) list (found_as i e (Some r) ∷ []) ∙ append-nil (filter (λ (f : Found). f.applies) list))

entries_one_more : (list : List Found) (i : ℕ) (e : Entry) (fault : Option Reason) → found_entries (list ++ found_as i e fault ∷ []) ≡ found_entries list ++ e ∷ []
entries_one_more list i e fault =
    ap (map (λ (f : ℕ × Entry). f.1)) (pairs_one_more list i e fault) ∙ map-append (λ (f : ℕ × Entry). f.1) (pairs_of list) ((i, e) ∷ [])

-- The survey.

-- The tree.

pub tree_more : (list : List Found) (i : ℕ) (e : Entry) (fault : Option Reason) → tree_after fault (replay (applied_of list)) e ≡ replay (applied_of (list ++ found_as i e fault ∷ []))
tree_more list i e None = sym (ap replay (applied_one_more list i e) ∙ replay_more (applied_of list) e)
tree_more list i e (Some r) = sym (ap replay (applied_as_before list i e r))

-- The units.

-- a proper entry's units are the device's
pub lies_within : (p q : Params) (e : Entry) (n : ℕ) → p ≡ q → Proper q e → n ≡ device_units p → LieWithin p.unit n e.extents
lies_within p q e n same proper units =
    let own : Proper p e = subst (λ (r : Params). Proper r e) (sym same) proper in
    subst (λ (m : ℕ). LieWithin p.unit m e.extents) (sym units)
    (All-weaker (IsInDevice p) (λ (x : Extent). x.offset + x.length ≤ device_units p * p.unit) (λ x inside. inside.before) e.extents (proper_inside p e own))

pub placed_more : (unit n : ℕ) (list : List Found) (f : Found) → All (LiesWithin unit n) list → LiesWithin unit n f → All (LiesWithin unit n) (list ++ f ∷ [])
placed_more unit n list f all one = All-push (LiesWithin unit n) list f all one

or_assoc : (x y z : Bool) → (x || (y || z)) ≡ ((x || y) || z)
or_assoc true y z = refl
or_assoc false y z = refl

-- and used after it
pub used_more : (p : Params) (list : List Found) (i : ℕ) (e : Entry) (fault : Option Reason) (u : ℕ)
    → (is_used p (found_entries list) u || holds (units_in p.unit e.extents) u) ≡ is_used p (found_entries (list ++ found_as i e fault ∷ [])) u
used_more p list i e fault u =
    let us : List ℕ = list_units p.unit (found_entries list) in
    let own : List ℕ = units_in p.unit e.extents in
    let longer : list_units p.unit (found_entries (list ++ found_as i e fault ∷ [])) ≡ us ++ own =
    ap (list_units p.unit) (entries_one_more list i e fault)
    ∙ flat_map-append (λ (x : Entry). units_in p.unit x.extents) (found_entries list) (e ∷ [])
    ∙ ap (λ (vs : List ℕ). us ++ vs) (append-nil own) in
    sym (or_assoc (nat_lt u (head_units p)) (holds us u) (holds own u))
    ∙ ap (λ (b : Bool). nat_lt u (head_units p) || b) (sym (holds-append us own u) ∙ ap (λ (vs : List ℕ). holds vs u) (sym longer))

-- Counts.

counted_from : (map : List Bool) (f : ℕ → Bool) (a : ℕ) → ((k : ℕ) → k < length map → get_or map k false ≡ f (a + k)) → count_by (λ b. b) map ≡ count_by f (range_with_len a (length map))
counted_from [] f a same = refl
counted_from (b ∷ more) f a same =
    let first : b ≡ f a = same 0 (omega arith) ∙ ap f (let e : a + 0 ≡ a = omega arith in e) in
    let rest : count_by (λ b. b) more ≡ count_by f (range_with_len (a + 1) (length more)) =
    counted_from more f (a + 1) (λ k below. same (suc k) (omega arith) ∙ ap f (let e : a + suc k ≡ a + 1 + k = omega arith in e)) in
    sum_by-append (λ (c : Bool). cond c 1 0) (b ∷ []) more
    ∙ ap₂ (λ (c : Bool) (n : ℕ). 0 + cond c 1 0 + n) first rest
    ∙ sym (sum_by-append (λ (u : ℕ). cond (f u) 1 0) (a ∷ []) (range_with_len (a + 1) (length more)))

-- the used units of the device
pub used_counted : (p : Params) (list : List Entry) (map : List Bool) → length map ≡ device_units p → ((u : ℕ) → is_taken map u ≡ is_used p list u) → taken_units map ≡ used_count p list
used_counted p list map units same =
    counted_from map (is_used p list) 0 (λ k below. same k ∙ ap (is_used p list) (let e : k ≡ 0 + k = omega arith in e))
    ∙ ap (λ (n : ℕ). count_by (is_used p list) (range_with_len 0 n)) units

-- Parameters.

-- a log has few slots
pub slots_fit : (p : Params) → SoundParams p → p.slots < 2 ^ 64
slots_fit p sound =
    let tests = and_parts (nat_lt 0 p.log_length && (p.log_length % p.unit == 0)) (nat_le p.log_length 67108864) sound.log_length in
    omega (arith, sound.slots, leb-true p.log_length 67108864 tests.1)
