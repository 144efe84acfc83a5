-- Pairs of entries that overlap.
use Rattle.std.proofs.Common.{◌≡◌, ℕ, Bool, true, false, ◌==◌, ◌||◌, List, [], ◌∷◌, ◌++◌, map, Option, Some, None, refl, sym, ap, ap₂, ◌∙◌, inl, inr, append_assoc}
use Rattle.std.specs.Prelude.{find, option_map, nat_lt, is_some, not}
use Rattle.std.specs.List.{list_any}
use Rattle.std.specs.Option.{option_or}
use Rattle.std.proofs.lemmas.Bool.{cases_Bool, cond-false, or_left, or_right, false≢true, eq-eqb}
use Rattle.std.proofs.lemmas.List.{append-nil, map-append}
use Rattle.std.proofs.lemmas.List.Folds.{find-append}
use Rattle.fam_base.specs.declared.entry.Params.{Params}
use Rattle.fam_base.specs.declared.entry.Entry.{Entry}
use Rattle.fam_format.specs.Layout.{head_units}
use Rattle.fam_format.specs.Units.{units_in, list_units, is_used, first_overlap}
use Rattle.fam_alloc.specs.Taken.{holds}
use Rattle.fam_alloc.proofs.MapLemmas.{overlap_head}
use Rattle.fam_alloc.proofs.OverlapLemmas.{holds-append}
use Rattle.fam_rules.specs.Reports.{share_unit, is_overlap, has_unit_twice, overlaps, pairs_after, overlap_of}
use Rattle.fam_fsck.specs.declared.found.Found.{Found}
use Rattle.fam_fsck.specs.Found.{pair_of, pairs_of, found_entries}

-- One entry more.

-- its pairs stand behind those of the others
pairs_more : (before xs : List (ℕ × Entry)) (b : ℕ × Entry) → pairs_after before (xs ++ b ∷ []) ≡ pairs_after before xs ++ map (λ (a : ℕ × Entry). (a, b)) ((before ++ xs) ++ b ∷ [])
pairs_more before [] b =
    append-nil (map (λ (a : ℕ × Entry). (a, b)) (before ++ b ∷ []))
    ∙ ap (λ (fs : List (ℕ × Entry)). map (λ (a : ℕ × Entry). (a, b)) (fs ++ b ∷ [])) (sym (append-nil before))
pairs_more before (x ∷ xs) b =
    let here : List ((ℕ × Entry) × (ℕ × Entry)) = map (λ (a : ℕ × Entry). (a, x)) (before ++ x ∷ []) in
    ap (λ (ps : List ((ℕ × Entry) × (ℕ × Entry))). here ++ ps) (pairs_more (before ++ x ∷ []) xs b)
    ∙ sym (append_assoc here (pairs_after (before ++ x ∷ []) xs) (map (λ (a : ℕ × Entry). (a, b)) (((before ++ x ∷ []) ++ xs) ++ b ∷ [])))
    ∙ ap (λ (fs : List (ℕ × Entry)). (here ++ pairs_after (before ++ x ∷ []) xs) ++ map (λ (a : ℕ × Entry). (a, b)) (fs ++ b ∷ [])) (append_assoc before (x ∷ []) xs)

-- the numbers of the first pair with the last entry
abbrev pub partner_pair : ℕ → List Found → Found → Option (ℕ × ℕ)
partner_pair unit list last =
    option_map (λ (n : ℕ). (n, last.number)) (option_map (λ (f : Found). f.number) (find (λ (f : Found). overlaps unit (pair_of f, pair_of last)) list))

-- the same, among pairs
pair_found : (unit : ℕ) (list : List Found) (last : Found)
    → option_map (λ (pair : (ℕ × Entry) × (ℕ × Entry)). (pair.0.0, pair.1.0))
    (find (overlaps unit) (map (λ (a : ℕ × Entry). (a, pair_of last)) (pairs_of list))) ≡ partner_pair unit list last
pair_found unit [] last = refl
pair_found unit (f ∷ more) last = elim (cases_Bool (overlaps unit (pair_of f, pair_of last))) [
  | inl shared ↦ rw shared refl
  | inr apart ↦ rw apart (pair_found unit more last)
]

option_map_or : {A B : Type 0} (f : A → B) (x y : Option A) → option_map f (option_or x y) ≡ option_or (option_map f x) (option_map f y)
option_map_or f None y = refl
option_map_or f (Some x) y = refl

-- the least pair is an earlier one, or one with the last entry
pub overlap_more : (unit : ℕ) (before : List Found) (last : Found) → overlap_of unit (pairs_of (before ++ last ∷ []))
    ≡ option_or (overlap_of unit (pairs_of before)) (partner_pair unit (before ++ last ∷ []) last)
overlap_more unit before last =
    let numbers : (ℕ × Entry) × (ℕ × Entry) → ℕ × ℕ = λ pair. (pair.0.0, pair.1.0) in
    let fs : List (ℕ × Entry) = pairs_of before in
    let own : List ((ℕ × Entry) × (ℕ × Entry)) = map (λ (a : ℕ × Entry). (a, pair_of last)) (pairs_of (before ++ last ∷ [])) in
    let split : pairs_of (before ++ last ∷ []) ≡ fs ++ pair_of last ∷ [] = map-append pair_of before (last ∷ []) in
    let pairs : pairs_after [] (pairs_of (before ++ last ∷ [])) ≡ pairs_after [] fs ++ own =
    ap (pairs_after []) split ∙ pairs_more [] fs (pair_of last)
    ∙ ap (λ (gs : List (ℕ × Entry)). pairs_after [] fs ++ map (λ (a : ℕ × Entry). (a, pair_of last)) gs) (sym split) in
    ap (λ (ps : List ((ℕ × Entry) × (ℕ × Entry))). option_map numbers (find (overlaps unit) ps)) pairs
    ∙ ap (option_map numbers) (find-append (overlaps unit) (pairs_after [] fs) own)
    ∙ option_map_or numbers (find (overlaps unit) (pairs_after [] fs)) (find (overlaps unit) own)
    ∙ ap (option_or (overlap_of unit fs)) (pair_found unit (before ++ last ∷ []) last)

-- Entries none of whose units is used.

-- what is used less overlaps less
fewer_overlaps : (f g : ℕ → Bool) (us : List ℕ) → ((u : ℕ) → f u ≡ true → g u ≡ true) → first_overlap g us ≡ None → first_overlap f us ≡ None
fewer_overlaps f g [] less h = refl
fewer_overlaps f g (u ∷ us) less h =
    let free : g u ≡ false = overlap_head g u us h in
    let clear : f u ≡ false = elim (cases_Bool (f u)) [ inl taken ↦ absurd (false≢true (sym free ∙ less u taken)) | inr clear ↦ clear ] in
    let rest : first_overlap (λ v. (v == u) || g v) us ≡ None = sym (cond-false (g u) (Some u) (first_overlap (λ v. (v == u) || g v) us) free) ∙ h in
    cond-false (f u) (Some u) (first_overlap (λ v. (v == u) || f v) us) clear
    ∙ fewer_overlaps (λ v. (v == u) || f v) (λ v. (v == u) || g v) us (λ v. kept (v == u) (f v) (g v) (less v)) rest
  where
    kept : (x y z : Bool) → (y ≡ true → z ≡ true) → (x || y) ≡ true → (x || z) ≡ true
    kept true y z imp h = refl
    kept false y z imp h = imp h

-- units that are free are in no list of used ones
none_shared : (used : ℕ → Bool) (vs us : List ℕ) → ((u : ℕ) → holds vs u ≡ true → used u ≡ true) → first_overlap used us ≡ None → list_any (holds vs) us ≡ false
none_shared used vs [] has h = refl
none_shared used vs (u ∷ us) has h =
    let free : used u ≡ false = overlap_head used u us h in
    let out : holds vs u ≡ false = elim (cases_Bool (holds vs u)) [ inl inside ↦ absurd (false≢true (sym free ∙ has u inside)) | inr clear ↦ clear ] in
    let rest : first_overlap (λ v. (v == u) || used v) us ≡ None = sym (cond-false (used u) (Some u) (first_overlap (λ v. (v == u) || used v) us) free) ∙ h in
    ap₂ (λ (x y : Bool). x || y) out (none_shared (λ v. (v == u) || used v) vs us (λ v inside. or_right (v == u) (used v) (has v inside)) rest)

-- the last entry overlaps with none before it, nor with itself
pub none_found : (unit : ℕ) (used : ℕ → Bool) (before : List Found) (last : Found)
    → ((u : ℕ) → holds (list_units unit (found_entries before)) u ≡ true → used u ≡ true) → first_overlap used (units_in unit last.entry.extents)
    ≡ None → find (λ (f : Found). overlaps unit (pair_of f, pair_of last)) (before ++ last ∷ []) ≡ None
none_found unit used before last has free = go before has
  where
    own : List ℕ
    own = units_in unit last.entry.extents

    once : has_unit_twice unit last.entry ≡ false
    once = ap is_overlap (fewer_overlaps (λ _. false) used own (λ u h. absurd (false≢true h)) free)

    test : (f : Found) → share_unit unit f.entry last.entry ≡ false → overlaps unit (pair_of f, pair_of last) ≡ false
    test f apart = elim (cases_Bool (f.number == last.number)) [
      | inl same ↦ rw same once
      | inr other ↦ rw other apart
    ]

    go : (list : List Found) → ((u : ℕ) → holds (list_units unit (found_entries list)) u ≡ true → used u ≡ true)
        → find (λ (f : Found). overlaps unit (pair_of f, pair_of last)) (list ++ last ∷ []) ≡ None
    go [] has = rw (let e : overlaps unit (pair_of last, pair_of last) ≡ false =
        elim (cases_Bool (last.number == last.number)) [ inl same ↦ rw same once | inr other ↦ absurd (false≢true (sym other ∙ same_number)) ] in e)
        refl
      where
        same_number : (last.number == last.number) ≡ true
        same_number = eq-eqb last.number last.number refl
    go (f ∷ more) has =
        let us : List ℕ = units_in unit f.entry.extents in
        let rest : List ℕ = list_units unit (found_entries more) in
        let parts : (u : ℕ) → holds (us ++ rest) u ≡ (holds us u || holds rest u) = holds-append us rest in
        let apart : share_unit unit f.entry last.entry ≡ false = none_shared used us own (λ u h. has u (parts u ∙ or_left (holds us u) (holds rest u) h)) free in
        rw (test f apart) (go more (λ u h. has u (parts u ∙ or_right (holds us u) (holds rest u) h)))

-- the same over the units of a file system
pub none_used : (p : Params) (used : ℕ → Bool) (before : List Found) (last : Found) → ((u : ℕ) → used u ≡ is_used p (found_entries before) u)
    → first_overlap used (units_in p.unit last.entry.extents) ≡ None
    → find (λ (f : Found). overlaps p.unit (pair_of f, pair_of last)) (before ++ last ∷ []) ≡ None
none_used p used before last is free =
    none_found p.unit used before last (λ u h. is u ∙ or_right (nat_lt u (head_units p)) (holds (list_units p.unit (found_entries before)) u) h) free

-- The least pair with one entry more.

-- it is the one known, or one with the last entry
pub least_of : (unit : ℕ) (found before : List Found) (last : Found) (known result : Option (ℕ × ℕ)) → found ≡ before ++ last ∷ []
    → known ≡ overlap_of unit (pairs_of before) → result ≡ option_or known (partner_pair unit found last) → result ≡ overlap_of unit (pairs_of found)
least_of unit found before last known result more is h =
    h
    ∙ ap₂ (λ (o : Option (ℕ × ℕ)) (fs : List Found). option_or o (partner_pair unit fs last)) is more
    ∙ sym (overlap_more unit before last)
    ∙ ap (λ (fs : List Found). overlap_of unit (pairs_of fs)) (sym more)

-- a found one stays
pub least_known : (unit : ℕ) (found : List Found) (last : Found) (known : Option (ℕ × ℕ)) (pair : ℕ × ℕ) → known ≡ Some pair → Some pair ≡ option_or known (partner_pair unit found last)
least_known unit found last known pair h = ap (λ (o : Option (ℕ × ℕ)). option_or o (partner_pair unit found last)) (sym h)

-- none yet
pub least_new : (unit : ℕ) (found : List Found) (last : Found) (known result : Option (ℕ × ℕ)) → known ≡ None → result ≡ partner_pair unit found last
    → result ≡ option_or known (partner_pair unit found last)
least_new unit found last known result h r = r ∙ ap (λ (o : Option (ℕ × ℕ)). option_or o (partner_pair unit found last)) (sym h)

-- none at all
pub none_new : (p : Params) (used : ℕ → Bool) (found before : List Found) (last : Found) → found ≡ before ++ last ∷ []
    → ((u : ℕ) → used u ≡ is_used p (found_entries before) u) → first_overlap used (units_in p.unit last.entry.extents) ≡ None
    → None ≡ partner_pair p.unit found last
none_new p used found before last more is free =
    sym (ap (λ (fs : List Found). partner_pair p.unit fs last) more
    ∙ ap (λ (o : Option Found). option_map (λ (n : ℕ). (n, last.number)) (option_map (λ (f : Found). f.number) o)) (none_used p used before last is free))

-- no option
pub is_none_told : (o : Option ℕ) (b : Bool) → is_some o ≡ not b → b ≡ true → o ≡ None
is_none_told None b h t = refl
is_none_told (Some x) b h t = absurd (false≢true (sym (h ∙ ap not t)))
