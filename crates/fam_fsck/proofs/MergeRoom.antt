-- The counts of a pass stay below the numbers of entries.
use Rattle.std.proofs.Common.{◌≡◌, ◌↔◌, ℕ, suc, ◌+◌, ◌^◌, ◌<◌, ◌≤◌, Bool, true, false, cond, List, [], ◌∷◌, Option, length, refl, ap, ap₂, sym, subst, ◌∙◌, arith}
use Rattle.std.specs.Prelude.{IsTrue}
use Rattle.std.specs.Ordering.{is_lt}
use Rattle.std.specs.declared.cmp.Ordering.TheVariants.{Less, Equal, Greater}
use Rattle.fam_base.specs.PathOrder.{path_cmp, path_eq}
use Rattle.fam_base.specs.declared.entry.Entry.{Entry}
use Rattle.fam_rules.specs.declared.answers.Checked.{Checked}
use Rattle.fam_rules.specs.Checks.{entry_eq}
use Rattle.fam_fsck.specs.Merge.{first_path, with_extra, with_changed, with_pair, with_missing, passed, left, met, listing_after, compared_lists}
use Rattle.fam_fsck.proofs.EntryTests.{same_test}

-- so many entries may yet be counted
pub record HasRoom (c : Checked) (ts ls : List Entry) : Type 0 where
  pub missing : c.missing + length ts < 2 ^ 64
  pub extra : c.extra + length ls < 2 ^ 64
  pub changed : c.changed + length ls < 2 ^ 64

passed_extra : (path : List ℕ) (c : Checked) (ls : List Entry) → (passed path c ls).extra + length (left path ls) ≡ c.extra + length ls
passed_extra path c [] = refl
passed_extra path c (e ∷ ls) =
    let rest = passed_extra path (with_extra c e) ls in
    let sum : (passed path (with_extra c e) ls).extra + length (left path ls) ≡ c.extra + suc (length ls) = omega (arith, rest) in
    elim (path_cmp e.path path) as (λ r. (cond (is_lt r) (passed path (with_extra c e) ls) c).extra + length (cond (is_lt r) (left path ls) (e ∷ ls)) ≡ c.extra + suc (length ls)) [
      | Less ↦ sum
      | Equal ↦ refl
      | Greater ↦ refl
    ]

passed_missing : (path : List ℕ) (c : Checked) (ls : List Entry) → (passed path c ls).missing ≡ c.missing
passed_missing path c [] = refl
passed_missing path c (e ∷ ls) =
    let rest = passed_missing path (with_extra c e) ls in
    elim (path_cmp e.path path) as (λ r. (cond (is_lt r) (passed path (with_extra c e) ls) c).missing ≡ c.missing) [ Less ↦ rest | Equal ↦ refl | Greater ↦ refl ]

passed_changed : (path : List ℕ) (c : Checked) (ls : List Entry) → (passed path c ls).changed ≡ c.changed
passed_changed path c [] = refl
passed_changed path c (e ∷ ls) =
    let rest = passed_changed path (with_extra c e) ls in
    elim (path_cmp e.path path) as (λ r. (cond (is_lt r) (passed path (with_extra c e) ls) c).changed ≡ c.changed) [ Less ↦ rest | Equal ↦ refl | Greater ↦ refl ]

left_shorter : (path : List ℕ) (ls : List Entry) → length (left path ls) ≤ length ls
left_shorter path [] = omega arith
left_shorter path (e ∷ ls) =
    let rest = left_shorter path ls in
    let more : length (left path ls) ≤ suc (length ls) = omega (arith, rest) in
    let all : suc (length ls) ≤ suc (length ls) = omega arith in
    elim (path_cmp e.path path) as (λ r. length (cond (is_lt r) (left path ls) (e ∷ ls)) ≤ suc (length ls)) [ Less ↦ more | Equal ↦ all | Greater ↦ all ]

pair_missing : (same : Bool) (c : Checked) (e : Entry) → (cond same c (with_changed c e)).missing ≡ c.missing
pair_missing true c e = refl
pair_missing false c e = refl

pair_extra : (same : Bool) (c : Checked) (e : Entry) → (cond same c (with_changed c e)).extra ≡ c.extra
pair_extra true c e = refl
pair_extra false c e = refl

pair_changed : (same : Bool) (c : Checked) (e : Entry) → (cond same c (with_changed c e)).changed ≤ c.changed + 1
pair_changed true c e = omega arith
pair_changed false c e = omega arith

met_missing : (t : Entry) (c : Checked) (ls : List Entry) → (met t c ls).missing ≤ c.missing + 1
met_missing t c [] = omega arith
met_missing t c (e ∷ ls) =
    let pair : (with_pair c t e).missing ≤ c.missing + 1 = omega (arith, pair_missing (entry_eq t e) c e) in
    let none : c.missing + 1 ≤ c.missing + 1 = omega arith in
    elim (path_eq e.path t.path) as (λ b. (cond b (with_pair c t e) (with_missing c t)).missing ≤ c.missing + 1) [ true ↦ pair | false ↦ none ]

met_extra : (t : Entry) (c : Checked) (ls : List Entry) → (met t c ls).extra ≡ c.extra
met_extra t c [] = refl
met_extra t c (e ∷ ls) =
    elim (path_eq e.path t.path) as (λ b. (cond b (with_pair c t e) (with_missing c t)).extra ≡ c.extra) [ true ↦ pair_extra (entry_eq t e) c e | false ↦ refl ]

met_changed : (t : Entry) (c : Checked) (ls : List Entry) → (met t c ls).changed + length (listing_after t ls) ≤ c.changed + length ls
met_changed t c [] = omega arith
met_changed t c (e ∷ ls) =
    let pair : (with_pair c t e).changed + length ls ≤ c.changed + suc (length ls) = omega (arith, pair_changed (entry_eq t e) c e) in
    let none : c.changed + suc (length ls) ≤ c.changed + suc (length ls) = omega arith in
    elim (path_eq e.path t.path) as (λ b. (cond b (with_pair c t e) (with_missing c t)).changed + length (cond b ls (e ∷ ls)) ≤ c.changed + suc (length ls)) [ true ↦ pair | false ↦ none ]

behind_shorter : (t : Entry) (ls : List Entry) → length (listing_after t ls) ≤ length ls
behind_shorter t [] = omega arith
behind_shorter t (e ∷ ls) =
    let more : length ls ≤ suc (length ls) = omega arith in
    let all : suc (length ls) ≤ suc (length ls) = omega arith in
    elim (path_eq e.path t.path) as (λ b. length (cond b ls (e ∷ ls)) ≤ suc (length ls)) [ true ↦ more | false ↦ all ]

module _ (c : Checked) (t : Entry) (ts ls : List Entry) (room : HasRoom c (t ∷ ts) ls) where
  -- when the entries before the tree's first are counted
  pub room_missing : (passed t.path c ls).missing + 1 < 2 ^ 64
  room_missing = omega (arith, room.missing, passed_missing t.path c ls)

  pub room_changed : (passed t.path c ls).changed + length (left t.path ls) < 2 ^ 64
  room_changed = omega (arith, room.changed, passed_changed t.path c ls, left_shorter t.path ls)

  -- and when it is looked at
  pub room_more : HasRoom (met t (passed t.path c ls) (left t.path ls)) ts (listing_after t (left t.path ls))
  room_more = record {
    missing = omega (arith, room.missing, passed_missing t.path c ls, met_missing t (passed t.path c ls) (left t.path ls));
    extra = omega (arith, room.extra, passed_extra t.path c ls, met_extra t (passed t.path c ls) (left t.path ls), behind_shorter t (left t.path ls));
    changed = omega (arith, room.changed, passed_changed t.path c ls, left_shorter t.path ls, met_changed t (passed t.path c ls) (left t.path ls));
  }

-- An entry at the same path.

module _ (c : Checked) (t e : Entry) (b : Bool) (is : IsTrue b ↔ (t ≡ e)) where
  -- it differs
  pub pair_other : b ≡ false → (first : Option (List ℕ)) → first ≡ first_path c.first e → record { missing = c.missing; extra = c.extra; changed = c.changed + 1; first = first } ≡ with_pair c t e
  pair_other other first kept =
      let test : entry_eq t e ≡ false = sym (same_test b t e is) ∙ other in
      (λ i. record { missing = c.missing; extra = c.extra; changed = c.changed + 1; first = kept i })
      ∙ ap (λ (same : Bool). cond same c (with_changed c e)) (sym test)

  -- it doesn't
  pub pair_same : b ≡ true → c ≡ with_pair c t e
  pair_same same = ap (λ (x : Bool). cond x c (with_changed c e)) (sym (sym (same_test b t e is) ∙ same))

-- One entry of the tree more.

module _ (c passed_c met_c : Checked) (t : Entry) (ts ls rest later : List Entry) (counted : passed_c ≡ passed t.path c ls) (left_is : rest ≡ left t.path ls) where
  pub passed_room : HasRoom c (t ∷ ts) ls → passed_c.missing + 1 < 2 ^ 64
  passed_room room = subst (λ (d : Checked). d.missing + 1 < 2 ^ 64) (sym counted) (room_missing c t ts ls room)

  pub passed_left : HasRoom c (t ∷ ts) ls → passed_c.changed + length rest < 2 ^ 64
  passed_left room =
      subst (λ (d : Checked). d.changed + length rest < 2 ^ 64) (sym counted)
      (subst (λ (l : List Entry). (passed t.path c ls).changed + length l < 2 ^ 64) (sym left_is) (room_changed c t ts ls room))

  module _ (met_is : met_c ≡ met t passed_c rest) (later_is : later ≡ listing_after t rest) where
    met_whole : met_c ≡ met t (passed t.path c ls) (left t.path ls)
    met_whole = met_is ∙ ap₂ (met t) counted left_is

    later_whole : later ≡ listing_after t (left t.path ls)
    later_whole = later_is ∙ ap (listing_after t) left_is

    -- the pass goes on
    pub one_compared : compared_lists met_c ts later ≡ compared_lists c (t ∷ ts) ls
    one_compared = ap₂ (λ (d : Checked) (l : List Entry). compared_lists d ts l) met_whole later_whole

    pub one_room : HasRoom c (t ∷ ts) ls → HasRoom met_c ts later
    one_room room =
        subst (λ (d : Checked). HasRoom d ts later) (sym met_whole)
        (subst (λ (l : List Entry). HasRoom (met t (passed t.path c ls) (left t.path ls)) ts l) (sym later_whole) (room_more c t ts ls room))
