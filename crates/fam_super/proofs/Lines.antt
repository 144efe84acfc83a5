-- Two lines as one list of words.
use Rattle.std.proofs.Common.{◌≡◌, ℕ, List, [], ◌++◌, length, take, drop, get_or, refl, sym, ap, ap₂, ◌∙◌, arith, length-append, append-nil}
use Rattle.std.proofs.Math.Seq.{drop-append_seam, take-append_seam}
use Rattle.std.proofs.lemmas.List.{drop_all, length-drop, length-take-le}
use Rattle.std.proofs.lemmas.List.FromFn.{fill_by_all}
use Rattle.fam_base.specs.Image.{eight}
use borrow.Rule.Slice.PartMut.{put_mid}

-- a line of eight words is its eight words
pub eight_is : (xs : List ℕ) → length xs ≡ 8 → eight xs ≡ xs
eight_is xs len = sym (fill_by_all (λ k. get_or xs k 0) xs 8 0 len (λ k below. refl))

-- the part behind the first half
behind : (n : ℕ) (a rest : List ℕ) → length a ≡ n → drop n (a ++ rest) ≡ rest
behind n a rest la = ap (λ (k : ℕ). drop k (a ++ rest)) (sym la) ∙ drop-append_seam a rest

prefix : (n : ℕ) (a rest : List ℕ) → length a ≡ n → take n (a ++ rest) ≡ a
prefix n a rest la = ap (λ (k : ℕ). take k (a ++ rest)) (sym la) ∙ take-append_seam a rest

-- the second half has room for as many words as the first
pub second_half : (n : ℕ) (a rest : List ℕ) → length a ≡ n → length rest ≡ n → length (take n (drop n (a ++ rest))) ≡ n
second_half n a rest la lr = length-take-le n (drop n (a ++ rest)) (omega (arith, length-drop n (a ++ rest), length-append a rest))

-- a second half written over the rest of a first one
pub halves : (n : ℕ) (a b rest : List ℕ) → length a ≡ n → length rest ≡ n → put_mid n n (a ++ rest) b ≡ a ++ b
halves n a b rest la lr =
    let nothing : drop n (drop n (a ++ rest)) ≡ [] = drop_all n (drop n (a ++ rest)) (omega (arith, length-drop n (a ++ rest), length-append a rest)) in
    ap₂ (λ (x y : List ℕ). x ++ (b ++ y)) (prefix n a rest la) nothing ∙ ap (λ (x : List ℕ). a ++ x) (append-nil b)
