-- The bytes of a word: those above the lowest, and the first ones.
use Rattle.std.proofs.Common.{◌≡◌, ℕ, zero, suc, ◌+◌, ◌*◌, ◌/◌, ◌%◌, ◌^◌, ◌<◌, nat_lt, if◌then◌else◌, refl, sym, ap, ◌∙◌, arith}
use Rattle.std.proofs.Math.Nat.{div-div-eq-div-mul, pow-succ'}
use Rattle.std.proofs.lemmas.Nat.{mod-pow-add}
use Rattle.std.proofs.lemmas.Bool.Decides.{nat_tests}
use Rattle.fam_base.specs.Image.{byte_of}

-- a byte above the lowest is a byte of the word without the lowest
pub byte_above : (x i : ℕ) → byte_of x (suc i) ≡ byte_of (x / 256) i
byte_above x i =
    ap (λ (p : ℕ). x / p % 256) (pow-succ' 256 i) ∙ ap (λ (y : ℕ). y % 256) (sym (div-div-eq-div-mul x 256 (256 ^ i)))

-- zero has no byte but zero
byte_of_zero : (i : ℕ) → byte_of 0 i ≡ 0
byte_of_zero zero = refl
byte_of_zero (suc i) = byte_above 0 i ∙ byte_of_zero i

-- a cut behind the lowest byte
cut_split : (n x : ℕ) → x % 2 ^ (8 * suc n) ≡ x / 256 % 2 ^ (8 * n) * 256 + x % 256
cut_split n x =
    let e : 8 * suc n ≡ 8 * n + 8 = omega arith in
    ap (λ (k : ℕ). x % 2 ^ k) e ∙ mod-pow-add x (8 * n) 8

-- one step of counting up both sides
same_choice : (i n v : ℕ) → (if nat_lt i n then v else 0) ≡ (if nat_lt (suc i) (suc n) then v else 0)
same_choice i n v = grind (arith, nat_tests)

-- byte i of the first n bytes of a word
pub prefix_byte : (n x i : ℕ) → byte_of (x % 2 ^ (8 * n)) i ≡ if nat_lt i n then byte_of x i else 0
prefix_byte zero x i =
    let none : x % 2 ^ (8 * 0) ≡ 0 = omega arith in
    let past : (if nat_lt i 0 then byte_of x i else 0) ≡ 0 = grind (arith, nat_tests) in
    ap (λ (y : ℕ). byte_of y i) none ∙ byte_of_zero i ∙ sym past
prefix_byte (suc n) x zero =
    let here : (if nat_lt 0 (suc n) then byte_of x 0 else 0) ≡ byte_of x 0 = grind (arith, nat_tests) in
    let low : x % 2 ^ (8 * suc n) / 1 % 256 ≡ x / 1 % 256 = omega (arith, cut_split n x) in
    low ∙ sym here
prefix_byte (suc n) x (suc i) =
    let above : x % 2 ^ (8 * suc n) / 256 ≡ x / 256 % 2 ^ (8 * n) = omega (arith, cut_split n x) in
    byte_above (x % 2 ^ (8 * suc n)) i
    ∙ ap (λ (y : ℕ). byte_of y i) above
    ∙ prefix_byte n (x / 256) i
    ∙ ap (λ (v : ℕ). if nat_lt i n then v else 0) (sym (byte_above x i))
    ∙ same_choice i n (byte_of x (suc i))

-- the power that cuts a word fits into a word
pub power_fits : (n : ℕ) → n < 8 → 1 * 2 ^ (8 * n) % 2 ^ 64 ≡ 2 ^ (8 * n)
power_fits zero h = refl
power_fits (suc zero) h = refl
power_fits (suc (suc zero)) h = refl
power_fits (suc (suc (suc zero))) h = refl
power_fits (suc (suc (suc (suc zero)))) h = refl
power_fits (suc (suc (suc (suc (suc zero))))) h = refl
power_fits (suc (suc (suc (suc (suc (suc zero)))))) h = refl
power_fits (suc (suc (suc (suc (suc (suc (suc zero))))))) h = refl
power_fits (suc (suc (suc (suc (suc (suc (suc (suc n)))))))) h = absurd (omega arith)
