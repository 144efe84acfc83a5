-- What becomes of a run's places.
use Rattle.std.proofs.Common.{◌≡◌, ℕ, zero, suc, ◌+◌, ◌<◌, Bool, true, false, List, [], ◌∷◌, ◌++◌, length, get_or, set, map as list_map, take, drop, Result, Ok, Err, IsOk, OnOk, if◌then◌else◌, sym, ap, subst, ◌∙◌, arith, length-append}
use Rattle.std.specs.Bool.{OnTrue}
use Rattle.std.specs.Result.{is_err, is_ok}
use Rattle.std.specs.List.{AllByRecursion, insert}
use Rattle.std.proofs.Math.Seq.{get_or-append_seam}
use Rattle.std.proofs.lemmas.List.{drop-map, map-append, take-append-drop, take-map}
use Rattle.fam_base.specs.declared.entry.Entry.{Entry}
use Rattle.fam_tree.specs.Runs.{AreWithin, IsGap, IsPut, entry_at, no_entry, run_of}
use Rattle.fam_tree.proofs.Ordered.{IsCut, all_back, all_front, all_joined}
use Rattle.fam_tree.proofs.Places.{grown_run, within_more}

pub joined : {X : Type 0} (a b c d : List X) → a ≡ b → c ≡ d → a ++ c ≡ b ++ d
joined a b c d e f = cc (e, f)

-- ---- a function over edits

module _ {X Y : Type 0} (f : X → Y) where
  pub map_insert : (xs : List X) (i : ℕ) (x : X) → list_map f (insert xs i x) ≡ insert (list_map f xs) i (f x)
  map_insert xs i x =
      map-append f (take i xs) (x ∷ drop i xs)
      ∙ joined _ _ _ _ (sym (take-map f i xs)) (ap (λ (l : List Y). f x ∷ l) (sym (drop-map f i xs)))

-- ---- what holds of each element

module _ {X : Type 0} (P : X → Type 0) where
  pub all_insert : (xs : List X) (i : ℕ) (x : X) → AllByRecursion P xs → P x → AllByRecursion P (insert xs i x)
  all_insert xs i x all one =
      let parts : AllByRecursion P (take i xs ++ drop i xs) = subst (AllByRecursion P) (sym (take-append-drop i xs)) all in
      all_joined P (take i xs) (x ∷ drop i xs) (all_front P (take i xs) (drop i xs) parts) (one, all_back P (take i xs) (drop i xs) parts)

  pub all_set : (xs : List X) (i : ℕ) (x : X) → AllByRecursion P xs → P x → AllByRecursion P (set xs i x)
  all_set [] i x all one = tt
  all_set (y ∷ xs) zero x all one = (one, all.1)
  all_set (y ∷ xs) (suc i) x all one = (all.0, all_set xs i x all.1 one)

  pub all_at : (xs : List X) (i : ℕ) (d : X) → AllByRecursion P xs → i < length xs → P (get_or xs i d)
  all_at [] i d all within = absurd (omega arith)
  all_at (x ∷ xs) zero d all within = all.0
  all_at (x ∷ xs) (suc i) d all within = all_at xs i d all.1 (omega arith)

-- ---- entries

-- a gap cuts the entries
pub cut_of_gap : (es : List Entry) (q : List ℕ) (i : ℕ) → IsGap es q i → IsCut q es (take i es) (drop i es)
cut_of_gap es q i gap = record { whole = sym (take-append-drop i es); below = gap.below; above = gap.above }

-- ---- an entry that is put into a run, behind all entries

module _ (es more : List Entry) (xs ys : List ℕ) (i : ℕ) (e : Entry) (within : AreWithin (length es) xs) (longer : more ≡ es ++ e ∷ []) (is : ys ≡ insert xs i (length es)) where
  pub put_is : IsGap (run_of es xs) e.path i → IsPut (run_of es xs) (run_of more ys) e
  put_is gap = record {
    place = i;
    gap = gap;
    more =
        ap (λ (l : List Entry). run_of l ys) longer
        ∙ ap (run_of (es ++ e ∷ [])) is
        ∙ map_insert (entry_at (es ++ e ∷ [])) xs i (length es)
        ∙ ap (λ (l : List Entry). insert l i (entry_at (es ++ e ∷ []) (length es))) (grown_run es (e ∷ []) xs within)
        ∙ ap (λ (x : Entry). insert (run_of es xs) i x) (get_or-append_seam es e [] no_entry);
  }

  pub put_within : AreWithin (length more) ys
  put_within =
      let count : length more ≡ length es + 1 = ap length longer ∙ length-append es (e ∷ []) in
      subst (λ (l : List ℕ). AreWithin (length more) l) (sym is)
      (all_insert (λ (k : ℕ). k < length more) xs i (length es) (within_more (length es) (length more) xs (omega (arith, count)) within) (omega (arith, count)))

-- the same, where a test tells that the entry was put
pub put_where : (t : Bool) (es more : List Entry) (xs ys zs : List ℕ) (i : ℕ) (e : Entry) → AreWithin (length es) xs → zs ≡ xs
    → OnTrue t (ys ≡ insert zs i (length es)) → OnTrue t (more ≡ es ++ e ∷ []) → IsGap (run_of es xs) e.path i → OnTrue t (IsPut (run_of es xs) (run_of more ys) e)
put_where true es more xs ys zs i e within same put longer gap = put_is es more xs ys i e within longer (put ∙ ap (λ (l : List ℕ). insert l i (length es)) same) gap
put_where false es more xs ys zs i e within same put longer gap = tt

pub within_where : (t : Bool) (es more : List Entry) (xs ys zs : List ℕ) (i : ℕ) (e : Entry) → AreWithin (length es) xs → zs ≡ xs
    → OnTrue t (ys ≡ insert zs i (length es)) → OnTrue t (more ≡ es ++ e ∷ []) → OnTrue t (AreWithin (length more) ys)
within_where true es more xs ys zs i e within same put longer = put_within es more xs ys i e within longer (put ∙ ap (λ (l : List ℕ). insert l i (length es)) same)
within_where false es more xs ys zs i e within same put longer = tt

-- ---- what didn't fail

pub where_ok : {T E : Type 0} (r : Result T E) (P : Type 0) → is_err r ≡ false → OnOk r P → P
where_ok (Ok x) P not p = p
where_ok (Err e) P not p = absurd (cc (not))

pub chosen : {T E X : Type 0} (r : Result T E) (x y z : X) → IsOk r → z ≡ (if is_ok r then x else y) → z ≡ x
chosen (Ok t) x y z ok is = is
chosen (Err e) x y z ok is = absurd (cc (ok))
