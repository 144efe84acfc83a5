-- Scans over a list of entries and over a list of units.
use Rattle.std.proofs.Common.{◌≡◌, ℕ, zero, suc, Bool, true, false, ◌+◌, ◌*◌, ◌/◌, ◌^◌, ◌<◌, ◌≤◌, ◌==◌, ◌||◌, nat_lt, Option, Some, List, [], ◌∷◌, ◌++◌, length, take, drop, get_or, cond, refl, sym, ap, ◌∙◌, add-one, arith}
use Rattle.std.specs.FinMap as finmap
use Rattle.std.specs.FinMap.{get-insert}
use Rattle.std.specs.Cmp.{eq_by_cmp_equiv}
use Rattle.std.specs.Cmp.Lexicographic.{nat_list_cmp_total, texts_ties}
use Rattle.std.specs.List.{list_any, range_with_len}
use Rattle.std.proofs.Math.Seq.{drop-cons}
use Rattle.std.proofs.lemmas.Bool.{cond-false}
use Rattle.std.proofs.lemmas.Cmp.{nat_eq_equiv}
use Rattle.std.proofs.lemmas.List.{take_more}
use Rattle.std.proofs.lemmas.List.FromFn.{length-range_with_len}
use Rattle.std.proofs.lemmas.List.Folds.{list_any-append}
use Rattle.std.proofs.Math.Nat.{div-mul-le_self, mul-div-le, mul-le-mul_left}
use Rattle.fam_base.specs.declared.entry.Entry.{Entry}
use Rattle.fam_base.specs.declared.entry.Params.{Params}
use Rattle.std.specs.List.{count_by}
use Rattle.std.proofs.lemmas.List.Sums.{count_by-le-length}
use Rattle.fam_format.specs.Layout.{device_units}
use Rattle.fam_rules.specs.Reports.{used_count}
use Rattle.fam_base.specs.PathOrder.{path_cmp, path_eq}
use Rattle.fam_format.specs.Tree.{replay}
use Rattle.fam_format.specs.Units.{first_overlap, is_used}
use Rattle.fam_format.proofs.JoinLaws.{replay_more}
use Rattle.fam_plain.specs.Joining.{is_seen}

-- ---- entries

-- what stands at a path after one entry more
pub at_more : (list : List Entry) (i : ℕ) (e : Entry) (path : List ℕ) → i < length list → e ≡ get_or list i e →
    finmap.get (replay (take (i + 1) list)) path ≡ cond (path_eq e.path path) (Some e) (finmap.get (replay (take i list)) path)
at_more list i e path below is =
    let more : take (i + 1) list ≡ take i list ++ e ∷ [] = take_more list i e below ∙ ap (λ (x : Entry). take i list ++ x ∷ []) (sym is) in
    ap (λ (l : List Entry). finmap.get (replay l) path) more
    ∙ ap (λ (t : finmap.FinMap path_cmp Entry). finmap.get t path) (replay_more (take i list) e)
    ∙ get-insert nat_list_cmp_total (replay (take i list)) e.path e path
    ∙ ap (λ (b : Bool). cond b (Some e) (finmap.get (replay (take i list)) path))
    ((eq_by_cmp_equiv nat_list_cmp_total).symm path e.path ∙ sym (texts_ties e.path path))

-- ---- units

number_more : (a n : ℕ) → range_with_len a (suc n) ≡ range_with_len a n ++ (a + n) ∷ []
number_more a zero = ap (λ (x : ℕ). x ∷ []) (let e : a ≡ a + 0 = omega arith in e)
number_more a (suc n) =
    ap (λ (l : List ℕ). a ∷ l)
    (number_more (a + 1) n ∙ ap (λ (x : ℕ). range_with_len (a + 1) n ++ x ∷ []) (let e : a + 1 + n ≡ a + suc n = omega arith in e))

-- one number more
pub range_more : (a n : ℕ) → range_with_len a (n + 1) ≡ range_with_len a n ++ (a + n) ∷ []
range_more a n = ap (range_with_len a) (add-one n) ∙ number_more a n

-- two quotients of words of 64 bits
pub quotients_fit : (x y unit : ℕ) → 2 ≤ unit → x < 2 ^ 64 → y < 2 ^ 64 → x / unit + y / unit ≤ 2 ^ 64
quotients_fit x y unit some fx fy =
    let half_x : 2 * (x / unit) ≤ x = omega (arith, mul-le-mul_left (x / unit) some, div-mul-le_self x unit, mul-div-le x unit) in
    let half_y : 2 * (y / unit) ≤ y = omega (arith, mul-le-mul_left (y / unit) some, div-mul-le_self y unit, mul-div-le y unit) in
    omega arith

-- tests that answer alike have one first overlap
overlap_same : (f g : ℕ → Bool) (us : List ℕ) → ((u : ℕ) → f u ≡ g u) → first_overlap f us ≡ first_overlap g us
overlap_same f g [] same = refl
overlap_same f g (u ∷ us) same =
    ap (λ (b : Bool). cond b (Some u) (first_overlap (λ v. (v == u) || f v) us)) (same u)
    ∙ ap (λ (o : Option ℕ). cond (g u) (Some u) o) (overlap_same (λ v. (v == u) || f v) (λ v. (v == u) || g v) us (λ v. ap (λ (b : Bool). (v == u) || b) (same v)))

swap_or : (a b c d : Bool) → c ≡ d → (a || (b || (c || false))) ≡ (d || (a || b))
swap_or true true true d e = rw (← e) refl
swap_or true true false d e = rw (← e) refl
swap_or true false true d e = rw (← e) refl
swap_or true false false d e = rw (← e) refl
swap_or false true true d e = rw (← e) refl
swap_or false true false d e = rw (← e) refl
swap_or false false true d e = rw (← e) refl
swap_or false false false d e = rw (← e) refl

-- one unit more was seen
seen_more : (head : ℕ) (seen : List ℕ) (u v : ℕ) → is_seen head (seen ++ u ∷ []) v ≡ ((v == u) || is_seen head seen v)
seen_more head seen u v =
    ap (λ (b : Bool). nat_lt v head || b) (list_any-append (λ other. other == v) seen (u ∷ []))
    ∙ swap_or (nat_lt v head) (list_any (λ other. other == v) seen) (u == v) (v == u) (nat_eq_equiv.symm u v)

-- a unit that wasn't seen is passed
pub overlap_more : (head : ℕ) (seen units : List ℕ) (i u : ℕ) → i < length units → get_or units i 0 ≡ u → is_seen head seen u ≡ false →
    first_overlap (is_seen head (seen ++ u ∷ [])) (drop (i + 1) units) ≡ first_overlap (is_seen head seen) (drop i units)
overlap_more head seen units i u below is fresh =
    let here : drop i units ≡ u ∷ drop (i + 1) units = drop-cons units i 0 below ∙ ap (λ (x : ℕ). x ∷ drop (suc i) units) is ∙ ap (λ (n : ℕ). u ∷ drop n units) (sym (add-one i)) in
    overlap_same (is_seen head (seen ++ u ∷ [])) (λ v. (v == u) || is_seen head seen v) (drop (i + 1) units) (seen_more head seen u)
    ∙ sym (ap (first_overlap (is_seen head seen)) here ∙ cond-false (is_seen head seen u) (Some u) (first_overlap (λ v. (v == u) || is_seen head seen v) (drop (i + 1) units)) fresh)

-- no more units are used than the device has
pub used_few : (p : Params) (list : List Entry) → used_count p list ≤ device_units p
used_few p list =
    let all : count_by (is_used p list) (range_with_len 0 (device_units p)) ≤ length (range_with_len 0 (device_units p)) = count_by-le-length (is_used p list) (range_with_len 0 (device_units p)) in
    let so_many : length (range_with_len 0 (device_units p)) ≡ device_units p = length-range_with_len 0 (device_units p) in
    omega (arith, all, so_many)
