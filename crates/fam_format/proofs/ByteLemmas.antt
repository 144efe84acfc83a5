-- Bytes of words by their places.
use Rattle.std.proofs.Common.{◌≡◌, ℕ, zero, suc, ◌+◌, ◌*◌, ◌/◌, ◌%◌, ◌^◌, refl, sym, ap, ◌∙◌, arith}
use Rattle.std.proofs.Math.Nat.{pow-suc}
use Rattle.std.proofs.lemmas.Nat.{pow-add}

-- eight bits are a byte
bytes_of_bits : (j : ℕ) → 2 ^ (8 * j) ≡ 256 ^ j
bytes_of_bits zero = refl
bytes_of_bits (suc j) =
    let e : 8 * suc j ≡ 8 * j + 8 = omega arith in
    ap (λ (n : ℕ). 2 ^ n) e ∙ pow-add 2 (8 * j) 8 ∙ ap (λ (p : ℕ). p * 256) (bytes_of_bits j) ∙ sym (pow-suc 256 j)

-- byte j of a word is what a shift by 8 j bits leaves at the low end
pub byte_place : (w j : ℕ) → w / 2 ^ (8 * j) % 256 ≡ w / 256 ^ j % 256
byte_place w j = ap (λ (p : ℕ). w / p % 256) (bytes_of_bits j)
