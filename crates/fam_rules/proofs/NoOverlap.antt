-- Entries of which no unit stands in two extents have no overlap to report.
use Rattle.std.proofs.Common.{◌≡◌, ℕ, ◌+◌, ◌≤◌, ◌==◌, false, List, [], ◌∷◌, ◌++◌, length, map, get_or, Option, Some, None, refl, sym, ap, ap₂, subst, ◌∙◌, inl, inr, arith, append_assoc}
use Rattle.std.specs.Prelude.{⊤, MatchOption, find, option_map}
use Rattle.std.specs.List.{list_any, Contains}
use Rattle.std.specs.Option.{option_or}
use Rattle.std.proofs.lemmas.Bool.{ne_eqb, false≢true}
use Rattle.std.proofs.lemmas.List.{length-append}
use Rattle.std.proofs.lemmas.List.Concat.{flat_map-append}
use Rattle.std.proofs.lemmas.List.Elements.{Contains-append_right, Contains-get_or}
use Rattle.std.proofs.lemmas.List.Folds.{find-append, list_any_none}
use Rattle.fam_base.specs.declared.entry.Entry.{Entry}
use Rattle.fam_format.specs.ReadingLaws.{IsFirstOverlap, AreFree}
use Rattle.fam_format.specs.Units.{units_in, list_units, first_overlap}
use Rattle.fam_format.proofs.OverlapLaws.{overlap_found}
use Rattle.fam_format.proofs.SuperLawsProofs.{same_number}
use Rattle.fam_rules.specs.Place.{IsOnce}
use Rattle.fam_rules.specs.Reports.{share_unit, is_overlap, has_unit_twice, overlaps, pairs_after, overlap_of}
use Rattle.fam_rules.proofs.UnitPlaces.{once_left, once_right, once_apart}

-- Entries with their numbers.

-- from number i on
abbrev pub numbered : ℕ → List Entry → List (ℕ × Entry)
numbered i [] = []
numbered i (e ∷ more) = (i, e) ∷ numbered (i + 1) more

-- the entries alone
pub map-numbered : (i : ℕ) (list : List Entry) → map (λ (f : ℕ × Entry). f.1) (numbered i list) ≡ list
map-numbered i [] = refl
map-numbered i (e ∷ more) = ap (λ (es : List Entry). e ∷ es) (map-numbered (i + 1) more)

-- one entry more
numbered-append : (i : ℕ) (list : List Entry) (n : ℕ) (e : Entry) → i + length list ≡ n → numbered i list ++ (n, e) ∷ [] ≡ numbered i (list ++ e ∷ [])
numbered-append i [] n e end = ap (λ (k : ℕ). (k, e) ∷ []) (let same : n ≡ i = omega arith in same)
numbered-append i (x ∷ more) n e end = ap (λ (fs : List (ℕ × Entry)). (i, x) ∷ fs) (numbered-append (i + 1) more n e (omega arith))

-- Units in two entries.

-- lists with no member in common
share_none : (us vs : List ℕ) → ((u : ℕ) → Contains us u → Contains vs u → ⊥) → list_any (λ u. list_any (λ v. v == u) us) vs ≡ false
share_none us vs apart =
    list_any_none (λ u. list_any (λ v. v == u) us) vs (λ j d j_below.
    list_any_none (λ v. v == get_or vs j d) us (λ i c i_below.
    ne_eqb (get_or us i c) (get_or vs j d) (λ same.
    apart (get_or us i c) (Contains-get_or us i c i_below) (subst (Contains vs) (sym same) (Contains-get_or vs j d j_below)))))

-- units that stand once have no overlap
once_none : (units : List ℕ) (r : Option ℕ) → IsOnce units → MatchOption r (AreFree (λ _. false) units) (IsFirstOverlap (λ _. false) units) → is_overlap r ≡ false
once_none units None once first = refl
once_none units (Some u) once first = elim first.taken [
  | inl used ↦ absurd (false≢true used)
  | inr earlier ↦ absurd (once earlier.0 first.place earlier.1 first.below (earlier.2 ∙ sym first.is))
]

-- no unit of the entry stands twice
not_twice : (unit : ℕ) (e : Entry) → IsOnce (units_in unit e.extents) → has_unit_twice unit e ≡ false
not_twice unit e once = once_none (units_in unit e.extents) (first_overlap (λ _. false) (units_in unit e.extents)) once (overlap_found (λ _. false) (units_in unit e.extents))

-- Pairs.

-- none of these overlaps with entry number i
abbrev NoneOverlaps : ℕ → ℕ × Entry → List (ℕ × Entry) → Type 0
NoneOverlaps unit f [] = ⊤
NoneOverlaps unit f (g ∷ more) = (overlaps unit (g, f) ≡ false) × NoneOverlaps unit f more

-- so none is found
none_found : (unit : ℕ) (f : ℕ × Entry) (gs : List (ℕ × Entry)) → NoneOverlaps unit f gs → find (overlaps unit) (map (λ (g : ℕ × Entry). (g, f)) gs) ≡ None
none_found unit f [] clear = refl
none_found unit f (g ∷ more) clear = rw clear.0 (none_found unit f more clear.1)

-- the entries before it, and itself
beside_itself : (unit i : ℕ) (b : Entry) → IsOnce (units_in unit b.extents) → overlaps unit ((i, b), (i, b)) ≡ false
beside_itself unit i b once = rw (same_number i) (not_twice unit b once)

beside_others : (unit k i : ℕ) (prefix : List Entry) (b : Entry) → k + length prefix ≤ i → IsOnce (list_units unit prefix ++ units_in unit b.extents)
    → NoneOverlaps unit (i, b) (numbered k prefix ++ (i, b) ∷ [])
beside_others unit k i [] b end once = (beside_itself unit i b once, tt)
beside_others unit k i (a ∷ more) b end once =
    let us : List ℕ = units_in unit a.extents in
    let rest : List ℕ = list_units unit more ++ units_in unit b.extents in
    let whole : IsOnce (us ++ rest) = subst IsOnce (append_assoc us (list_units unit more) (units_in unit b.extents)) once in
    let apart : share_unit unit a b ≡ false = share_none us (units_in unit b.extents)
    (λ u first second. once_apart us rest whole u first (Contains-append_right (list_units unit more) (units_in unit b.extents) u second)) in
    (rw (ne_eqb k i (λ same. omega arith)) apart, beside_others unit (k + 1) i more b (omega arith) (once_right us rest whole))

-- the units up to an entry stand once
once_up_to : (unit : ℕ) (prefix : List Entry) (b : Entry) (more : List Entry) → IsOnce (list_units unit (prefix ++ b ∷ more)) → IsOnce (list_units unit prefix ++ units_in unit b.extents)
once_up_to unit prefix b more once =
    let parts : list_units unit (prefix ++ b ∷ more) ≡ (list_units unit prefix ++ units_in unit b.extents) ++ list_units unit more =
    flat_map-append (λ (e : Entry). units_in unit e.extents) prefix (b ∷ more) ∙ sym (append_assoc (list_units unit prefix) (units_in unit b.extents) (list_units unit more)) in
    once_left (list_units unit prefix ++ units_in unit b.extents) (list_units unit more) (subst IsOnce parts once)

-- no pair overlaps
none_of_pairs : (unit i : ℕ) (prefix rest : List Entry) → length prefix ≡ i → IsOnce (list_units unit (prefix ++ rest))
    → find (overlaps unit) (pairs_after (numbered 0 prefix) (numbered i rest)) ≡ None
none_of_pairs unit i prefix [] count once = refl
none_of_pairs unit i prefix (b ∷ more) count once =
    let fs : List (ℕ × Entry) = numbered 0 prefix ++ (i, b) ∷ [] in
    let here : find (overlaps unit) (map (λ (g : ℕ × Entry). (g, (i, b))) fs) ≡ None =
    none_found unit (i, b) fs (beside_others unit 0 i prefix b (omega arith) (once_up_to unit prefix b more once)) in
    let longer : fs ≡ numbered 0 (prefix ++ b ∷ []) = numbered-append 0 prefix i b (omega arith) in
    let later : find (overlaps unit) (pairs_after fs (numbered (i + 1) more)) ≡ None =
    ap (λ (gs : List (ℕ × Entry)). find (overlaps unit) (pairs_after gs (numbered (i + 1) more))) longer
    ∙ none_of_pairs unit (i + 1) (prefix ++ b ∷ []) more (omega (arith, length-append prefix (b ∷ [])))
    (subst (λ (es : List Entry). IsOnce (list_units unit es)) (sym (append_assoc prefix (b ∷ []) more)) once) in
    find-append (overlaps unit) (map (λ (g : ℕ × Entry). (g, (i, b))) fs) (pairs_after fs (numbered (i + 1) more))
    ∙ ap₂ (λ (x y : Option ((ℕ × Entry) × (ℕ × Entry))). option_or x y) here later

-- nothing is reported
pub no_overlap : (unit : ℕ) (list : List Entry) → IsOnce (list_units unit list) → overlap_of unit (numbered 0 list) ≡ None
no_overlap unit list once =
    ap (λ (found : Option ((ℕ × Entry) × (ℕ × Entry))). option_map (λ (pair : (ℕ × Entry) × (ℕ × Entry)). (pair.0.0, pair.1.0)) found) (none_of_pairs unit 0 [] list refl once)
