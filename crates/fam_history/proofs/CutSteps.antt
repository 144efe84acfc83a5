-- A loop that looks for a byte, at the byte i.
use Rattle.std.proofs.Common.{◌≡◌, ℕ, ◌+◌, ◌-◌, ◌<◌, ◌≤◌, Bool, List, [], ◌∷◌, ◌++◌, length, get_or, take, drop, refl, ap, cond, sym, ◌∙◌, arith, add-one, append-nil, drop-cons, take-suc, rules}
use Rattle.std.specs.Prelude.{◌==◌}
use Rattle.std.proofs.lemmas.Bool.{eq-eqb, ne_eqb}
use Rattle.std.proofs.lemmas.Grind.{common_steps}
use Rattle.fam_tree.specs.Cuts.{back, front}
use Rattle.fam_tree.proofs.Cutting.{CutFrom}

pub none_read : (c : ℕ) (bytes : List ℕ) → CutFrom c bytes 0
none_read c bytes = record { front = refl; back = refl }

pub one_more : (c : ℕ) (bytes : List ℕ) (i : ℕ) → CutFrom c bytes i → i < length bytes → (get_or bytes i 0 ≡ c → ⊥) → CutFrom c bytes (i + 1)
one_more c bytes i was within other = record {
  front = grind (arith, common_steps, was.front);
  back = grind (arith, common_steps, was.back);
}

pub found_front : (c : ℕ) (bytes : List ℕ) (i : ℕ) → CutFrom c bytes i → i < length bytes → get_or bytes i 0 ≡ c → take i bytes ≡ front c bytes
found_front c bytes i was within here = grind (arith, common_steps, was.front)

pub found_back : (c : ℕ) (bytes : List ℕ) (i : ℕ) → CutFrom c bytes i → i < length bytes → get_or bytes i 0 ≡ c
    → take (length bytes - (i + 1)) (drop (i + 1) bytes) ≡ back c bytes
found_back c bytes i was within here = grind (arith, common_steps, was.back)

pub all_front : (c : ℕ) (bytes : List ℕ) (i : ℕ) → CutFrom c bytes i → i ≤ length bytes → length bytes ≤ i → bytes ≡ front c bytes
all_front c bytes i was within all = grind (arith, common_steps, was.front)

pub all_back : (c : ℕ) (bytes : List ℕ) (i : ℕ) → CutFrom c bytes i → i ≤ length bytes → length bytes ≤ i → [] ≡ back c bytes
all_back c bytes i was within all = grind (arith, common_steps, was.back)
