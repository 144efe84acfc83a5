-- The words of lines, as one list.
use Rattle.std.proofs.Common.{ℕ, zero, suc, ◌≡◌, ◌+◌, ◌<◌, ◌≤◌, List, [], ◌∷◌, ◌++◌, length, slice_index_or, take, refl, sym, ap, ap₂, ◌∙◌, arith}
use Rattle.std.specs.List.{flat_map}
use Rattle.std.proofs.lemmas.Grind.{flat_map-append}
use Rattle.std.proofs.lemmas.List.{append-nil, take_more}
use Rattle.fam_machine.proofs.WideLines.{eight_whole}
use Rattle.fam_tasks.specs.SlotLines.{words_in}

-- those of the first n lines, each of which has eight words
pub flat_words : (lines : List (List ℕ)) (n : ℕ) → n ≤ length lines → ((k : ℕ) → k < n → length (slice_index_or lines k []) ≡ 8) → flat_map (λ (line : List ℕ). line) (take n lines) ≡ words_in lines n
flat_words lines zero few wide = refl
flat_words lines (suc n) few wide =
    let number : suc n ≡ n + 1 = omega arith in
    let line : List ℕ = slice_index_or lines n [] in
    ap (λ (m : ℕ). flat_map (λ (l : List ℕ). l) (take m lines)) number
    ∙ ap (flat_map (λ (l : List ℕ). l)) (take_more lines n [] (omega (arith, few)))
    ∙ flat_map-append (λ (l : List ℕ). l) (take n lines) (line ∷ [])
    ∙ ap₂ (λ (x y : List ℕ). x ++ y) (flat_words lines n (omega (arith, few)) (λ k below. wide k (omega (arith, below)))) (append-nil line ∙ sym (eight_whole line (wide n (omega arith))))
