-- Each table holds the register after so many bits of zero, for every byte. A table is found by computing what the highest
-- bit of a byte makes alone: the next lower one makes the same and a step more, and the numbers are sums of these.
use Rattle.std.proofs.Common.{◌≡◌, ℕ, zero, suc, ◌+◌, ◌-◌, ◌*◌, ◌^◌, ◌<◌, List, [], ◌∷◌, ◌++◌, map, length, get_or, inl, inr, refl, sym, ap, subst, ◌∙◌, arith}
use Rattle.std.proofs.Math.Nat.{pow-suc}
use Rattle.std.proofs.lemmas.Bool.{cases_lt}
use Rattle.std.proofs.lemmas.List.{get_or-map, get_or_append_left, get_or-append_right, length-append, length-map}
use Rattle.std.specs.Int.Bits.{bit_xor, xor_shifted}
use Rattle.fam_crc.specs.Crc.{reflected_polynomial, step, steps}
use Rattle.fam_crc.proofs.Steps.{steps_xor, steps-add, steps_above, steps_zero}
use Rattle.fam_crc.specs.declared.tables.bits_8_to_24.TheConstants.{AFTER_8, AFTER_16, AFTER_24}
use Rattle.fam_crc.specs.declared.tables.bits_32_to_48.TheConstants.{AFTER_32, AFTER_40, AFTER_48}
use Rattle.fam_crc.specs.declared.tables.bits_56_to_64.TheConstants.{AFTER_56, AFTER_64}
use Rattle.fam_crc.specs.declared.tables.bits_168_to_176.TheConstants.{AFTER_168, AFTER_176}
use Rattle.fam_crc.specs.declared.tables.bits_184_to_192.TheConstants.{AFTER_184, AFTER_192}
use Rattle.fam_crc.specs.declared.tables.bits_1000_to_1008.TheConstants.{AFTER_1000, AFTER_1008}
use Rattle.fam_crc.specs.declared.tables.bits_1016_to_1024.TheConstants.{AFTER_1016, AFTER_1024}
use Rattle.fam_crc.specs.declared.tables.bits_2304_to_2368.TheConstants.{AFTER_2304, AFTER_2360, AFTER_2368}
use Rattle.fam_crc.specs.declared.tables.bits_2424_to_2488.TheConstants.{AFTER_2424, AFTER_2432, AFTER_2488}
use Rattle.fam_crc.specs.declared.tables.bits_2496_to_2672.TheConstants.{AFTER_2496, AFTER_2624, AFTER_2672}
use Rattle.fam_crc.specs.declared.tables.bits_2680_to_2688.TheConstants.{AFTER_2680, AFTER_2688}

-- numbers without a bit, and behind them the same ones with it; h is what the bit makes alone
unfoldable doubled : ℕ → List ℕ → List ℕ
doubled h low = low ++ map (bit_xor h) low

-- the table of m bits, of which the highest makes h
unfoldable table : ℕ → ℕ → List ℕ
table zero h = 0 ∷ []
table (suc m) h = doubled h (table m (step h))

-- the numbers of m bits stand in a list at their places, each after n bits of zero
record AreAfter (n m : ℕ) (numbers : List ℕ) : Type 0 where
  size : length numbers ≡ 2 ^ m
  each : (i : ℕ) → i < 2 ^ m → get_or numbers i 0 ≡ steps n i

-- a step more
step_more : (n r : ℕ) → step (steps n r) ≡ steps (suc n) r
unfolding steps
step_more zero r = refl
step_more (suc n) r = step_more n (step r)

-- what bit m makes alone
bit_alone : (n m : ℕ) → steps n reflected_polynomial ≡ steps (n + suc m) (2 ^ m)
unfolding steps
bit_alone n m =
    let order : m + suc n ≡ n + suc m = omega arith in
    let one : 1 * 2 ^ m ≡ 2 ^ m = omega arith in
    sym (ap (λ (k : ℕ). steps k (2 ^ m)) (sym order) ∙ steps-add m (suc n) (2 ^ m) ∙ ap (steps (suc n)) (ap (steps m) (sym one) ∙ steps_above m 1))

-- a bit more
doubled_after : (n m h : ℕ) (low : List ℕ) → h ≡ steps n (2 ^ m) → AreAfter n m low → AreAfter n (suc m) (doubled h low)
unfolding doubled
doubled_after n m h low alone a =
    let p : 2 ^ suc m ≡ 2 ^ m * 2 = pow-suc 2 m in
    record {
      size = omega (arith, p, a.size, length-append low (map (bit_xor h) low), length-map low (bit_xor h));
      each = λ i below.
          elim (cases_lt i (2 ^ m)) [
            | inl under ↦ get_or_append_left low (map (bit_xor h) low) 0 i (omega (arith, a.size, under)) ∙ a.each i under
            | inr from ↦
                let k : ℕ = i - 2 ^ m in
                let inside : k < 2 ^ m = omega (arith, p, below, from) in
                let whole : 1 * 2 ^ m + k ≡ i = omega (arith, from) in
                let one : 1 * 2 ^ m ≡ 2 ^ m = omega arith in
                get_or-append_right low (map (bit_xor h) low) (2 ^ m) i 0 a.size from
                ∙ get_or-map (bit_xor h) low k 0 0 (omega (arith, a.size, inside))
                ∙ ap (bit_xor h) (a.each k inside)
                ∙ ap (λ (x : ℕ). bit_xor x (steps n k)) alone
                ∙ sym (steps_xor n (2 ^ m) k)
                ∙ ap (steps n) (ap (λ (x : ℕ). bit_xor x k) (sym one) ∙ xor_shifted 1 m k inside ∙ whole)
          ];
    }

-- so a table has them all
table_after : (m n h : ℕ) → h ≡ steps n reflected_polynomial → AreAfter (n + m) m (table m h)
unfolding table
table_after zero n h e = record {
  size = refl;
  each = λ i below. let none : i ≡ 0 = omega arith in ap (λ (k : ℕ). get_or (0 ∷ []) k 0) none ∙ sym (ap (steps (n + 0)) none ∙ steps_zero (n + 0));
}
table_after (suc m) n h e =
    let order : suc n + m ≡ n + suc m = omega arith in
    doubled_after (n + suc m) m h (table m (step h)) (e ∙ bit_alone n m)
    (subst (λ (k : ℕ). AreAfter k m (table m (step h))) order (table_after m (suc n) (step h) (ap step e ∙ step_more n reflected_polynomial)))

-- a look-up in a table of bytes
look_up : (n : ℕ) (numbers : List ℕ) → numbers ≡ table 8 (steps n reflected_polynomial) → (i : ℕ) → i < 256 → get_or numbers i 0 ≡ steps (n + 8) i
look_up n numbers e i below =
    let a : AreAfter (n + 8) 8 (table 8 (steps n reflected_polynomial)) = table_after 8 n (steps n reflected_polynomial) refl in
    ap (λ (t : List ℕ). get_or t i 0) e ∙ a.each i below

-- the table for 8 bits
table_8 : AFTER_8 ≡ table 8 (steps 0 reflected_polynomial)
unfolding steps table doubled
table_8 = refl

-- a look-up in the table for 8 bits
pub at_8 : (i : ℕ) → i < 256 → get_or AFTER_8 i 0 ≡ steps 8 i
at_8 i below = look_up 0 AFTER_8 table_8 i below

-- the table for 16 bits
table_16 : AFTER_16 ≡ table 8 (steps 8 reflected_polynomial)
unfolding steps table doubled
table_16 = refl

-- a look-up in the table for 16 bits
pub at_16 : (i : ℕ) → i < 256 → get_or AFTER_16 i 0 ≡ steps 16 i
at_16 i below = look_up 8 AFTER_16 table_16 i below

-- the table for 24 bits
table_24 : AFTER_24 ≡ table 8 (steps 16 reflected_polynomial)
unfolding steps table doubled
table_24 = refl

-- a look-up in the table for 24 bits
pub at_24 : (i : ℕ) → i < 256 → get_or AFTER_24 i 0 ≡ steps 24 i
at_24 i below = look_up 16 AFTER_24 table_24 i below

-- the table for 32 bits
table_32 : AFTER_32 ≡ table 8 (steps 24 reflected_polynomial)
unfolding steps table doubled
table_32 = refl

-- a look-up in the table for 32 bits
pub at_32 : (i : ℕ) → i < 256 → get_or AFTER_32 i 0 ≡ steps 32 i
at_32 i below = look_up 24 AFTER_32 table_32 i below

-- the table for 40 bits
table_40 : AFTER_40 ≡ table 8 (steps 32 reflected_polynomial)
unfolding steps table doubled
table_40 = refl

-- a look-up in the table for 40 bits
pub at_40 : (i : ℕ) → i < 256 → get_or AFTER_40 i 0 ≡ steps 40 i
at_40 i below = look_up 32 AFTER_40 table_40 i below

-- the table for 48 bits
table_48 : AFTER_48 ≡ table 8 (steps 40 reflected_polynomial)
unfolding steps table doubled
table_48 = refl

-- a look-up in the table for 48 bits
pub at_48 : (i : ℕ) → i < 256 → get_or AFTER_48 i 0 ≡ steps 48 i
at_48 i below = look_up 40 AFTER_48 table_48 i below

-- the table for 56 bits
table_56 : AFTER_56 ≡ table 8 (steps 48 reflected_polynomial)
unfolding steps table doubled
table_56 = refl

-- a look-up in the table for 56 bits
pub at_56 : (i : ℕ) → i < 256 → get_or AFTER_56 i 0 ≡ steps 56 i
at_56 i below = look_up 48 AFTER_56 table_56 i below

-- the table for 64 bits
table_64 : AFTER_64 ≡ table 8 (steps 56 reflected_polynomial)
unfolding steps table doubled
table_64 = refl

-- a look-up in the table for 64 bits
pub at_64 : (i : ℕ) → i < 256 → get_or AFTER_64 i 0 ≡ steps 64 i
at_64 i below = look_up 56 AFTER_64 table_64 i below

-- the table for 168 bits
table_168 : AFTER_168 ≡ table 8 (steps 160 reflected_polynomial)
unfolding steps table doubled
table_168 = refl

-- a look-up in the table for 168 bits
pub at_168 : (i : ℕ) → i < 256 → get_or AFTER_168 i 0 ≡ steps 168 i
at_168 i below = look_up 160 AFTER_168 table_168 i below

-- the table for 176 bits
table_176 : AFTER_176 ≡ table 8 (steps 168 reflected_polynomial)
unfolding steps table doubled
table_176 = refl

-- a look-up in the table for 176 bits
pub at_176 : (i : ℕ) → i < 256 → get_or AFTER_176 i 0 ≡ steps 176 i
at_176 i below = look_up 168 AFTER_176 table_176 i below

-- the table for 184 bits
table_184 : AFTER_184 ≡ table 8 (steps 176 reflected_polynomial)
unfolding steps table doubled
table_184 = refl

-- a look-up in the table for 184 bits
pub at_184 : (i : ℕ) → i < 256 → get_or AFTER_184 i 0 ≡ steps 184 i
at_184 i below = look_up 176 AFTER_184 table_184 i below

-- the table for 192 bits
table_192 : AFTER_192 ≡ table 8 (steps 184 reflected_polynomial)
unfolding steps table doubled
table_192 = refl

-- a look-up in the table for 192 bits
pub at_192 : (i : ℕ) → i < 256 → get_or AFTER_192 i 0 ≡ steps 192 i
at_192 i below = look_up 184 AFTER_192 table_192 i below

-- the table for 1000 bits
table_1000 : AFTER_1000 ≡ table 8 (steps 992 reflected_polynomial)
unfolding steps table doubled
table_1000 = refl

-- a look-up in the table for 1000 bits
pub at_1000 : (i : ℕ) → i < 256 → get_or AFTER_1000 i 0 ≡ steps 1000 i
at_1000 i below = look_up 992 AFTER_1000 table_1000 i below

-- the table for 1008 bits
table_1008 : AFTER_1008 ≡ table 8 (steps 1000 reflected_polynomial)
unfolding steps table doubled
table_1008 = refl

-- a look-up in the table for 1008 bits
pub at_1008 : (i : ℕ) → i < 256 → get_or AFTER_1008 i 0 ≡ steps 1008 i
at_1008 i below = look_up 1000 AFTER_1008 table_1008 i below

-- the table for 1016 bits
table_1016 : AFTER_1016 ≡ table 8 (steps 1008 reflected_polynomial)
unfolding steps table doubled
table_1016 = refl

-- a look-up in the table for 1016 bits
pub at_1016 : (i : ℕ) → i < 256 → get_or AFTER_1016 i 0 ≡ steps 1016 i
at_1016 i below = look_up 1008 AFTER_1016 table_1016 i below

-- the table for 1024 bits
table_1024 : AFTER_1024 ≡ table 8 (steps 1016 reflected_polynomial)
unfolding steps table doubled
table_1024 = refl

-- a look-up in the table for 1024 bits
pub at_1024 : (i : ℕ) → i < 256 → get_or AFTER_1024 i 0 ≡ steps 1024 i
at_1024 i below = look_up 1016 AFTER_1024 table_1024 i below

-- the table for 2304 bits
table_2304 : AFTER_2304 ≡ table 8 (steps 2296 reflected_polynomial)
unfolding steps table doubled
table_2304 = refl

-- a look-up in the table for 2304 bits
pub at_2304 : (i : ℕ) → i < 256 → get_or AFTER_2304 i 0 ≡ steps 2304 i
at_2304 i below = look_up 2296 AFTER_2304 table_2304 i below

-- the table for 2360 bits
table_2360 : AFTER_2360 ≡ table 8 (steps 2352 reflected_polynomial)
unfolding steps table doubled
table_2360 = refl

-- a look-up in the table for 2360 bits
pub at_2360 : (i : ℕ) → i < 256 → get_or AFTER_2360 i 0 ≡ steps 2360 i
at_2360 i below = look_up 2352 AFTER_2360 table_2360 i below

-- the table for 2368 bits
table_2368 : AFTER_2368 ≡ table 8 (steps 2360 reflected_polynomial)
unfolding steps table doubled
table_2368 = refl

-- a look-up in the table for 2368 bits
pub at_2368 : (i : ℕ) → i < 256 → get_or AFTER_2368 i 0 ≡ steps 2368 i
at_2368 i below = look_up 2360 AFTER_2368 table_2368 i below

-- the table for 2424 bits
table_2424 : AFTER_2424 ≡ table 8 (steps 2416 reflected_polynomial)
unfolding steps table doubled
table_2424 = refl

-- a look-up in the table for 2424 bits
pub at_2424 : (i : ℕ) → i < 256 → get_or AFTER_2424 i 0 ≡ steps 2424 i
at_2424 i below = look_up 2416 AFTER_2424 table_2424 i below

-- the table for 2432 bits
table_2432 : AFTER_2432 ≡ table 8 (steps 2424 reflected_polynomial)
unfolding steps table doubled
table_2432 = refl

-- a look-up in the table for 2432 bits
pub at_2432 : (i : ℕ) → i < 256 → get_or AFTER_2432 i 0 ≡ steps 2432 i
at_2432 i below = look_up 2424 AFTER_2432 table_2432 i below

-- the table for 2488 bits
table_2488 : AFTER_2488 ≡ table 8 (steps 2480 reflected_polynomial)
unfolding steps table doubled
table_2488 = refl

-- a look-up in the table for 2488 bits
pub at_2488 : (i : ℕ) → i < 256 → get_or AFTER_2488 i 0 ≡ steps 2488 i
at_2488 i below = look_up 2480 AFTER_2488 table_2488 i below

-- the table for 2496 bits
table_2496 : AFTER_2496 ≡ table 8 (steps 2488 reflected_polynomial)
unfolding steps table doubled
table_2496 = refl

-- a look-up in the table for 2496 bits
pub at_2496 : (i : ℕ) → i < 256 → get_or AFTER_2496 i 0 ≡ steps 2496 i
at_2496 i below = look_up 2488 AFTER_2496 table_2496 i below

-- the table for 2624 bits
table_2624 : AFTER_2624 ≡ table 8 (steps 2616 reflected_polynomial)
unfolding steps table doubled
table_2624 = refl

-- a look-up in the table for 2624 bits
pub at_2624 : (i : ℕ) → i < 256 → get_or AFTER_2624 i 0 ≡ steps 2624 i
at_2624 i below = look_up 2616 AFTER_2624 table_2624 i below

-- the table for 2672 bits
table_2672 : AFTER_2672 ≡ table 8 (steps 2664 reflected_polynomial)
unfolding steps table doubled
table_2672 = refl

-- a look-up in the table for 2672 bits
pub at_2672 : (i : ℕ) → i < 256 → get_or AFTER_2672 i 0 ≡ steps 2672 i
at_2672 i below = look_up 2664 AFTER_2672 table_2672 i below

-- the table for 2680 bits
table_2680 : AFTER_2680 ≡ table 8 (steps 2672 reflected_polynomial)
unfolding steps table doubled
table_2680 = refl

-- a look-up in the table for 2680 bits
pub at_2680 : (i : ℕ) → i < 256 → get_or AFTER_2680 i 0 ≡ steps 2680 i
at_2680 i below = look_up 2672 AFTER_2680 table_2680 i below

-- the table for 2688 bits
table_2688 : AFTER_2688 ≡ table 8 (steps 2680 reflected_polynomial)
unfolding steps table doubled
table_2688 = refl

-- a look-up in the table for 2688 bits
pub at_2688 : (i : ℕ) → i < 256 → get_or AFTER_2688 i 0 ≡ steps 2688 i
at_2688 i below = look_up 2680 AFTER_2688 table_2688 i below
