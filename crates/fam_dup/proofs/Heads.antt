-- The superblock's lines as they are spelled, and lines put one after another.
use Rattle.std.proofs.Common.{◌≡◌, ℕ, zero, suc, ◌<◌, List, [], ◌∷◌, ◌++◌, length, get_or, refl, sym, ap, ap₂, ◌∙◌, arith}
use Rattle.std.specs.Prelude.{slice_range}
use Rattle.std.proofs.lemmas.List.{ext_get_or}
use Rattle.fam_base.specs.declared.entry.Params.{Params}
use Rattle.fam_base.specs.Image.{eight}
use Rattle.fam_format.specs.Layout.{gate_line, log_line}
use Rattle.fam_format.specs.Log.{log_words}
use Rattle.fam_format.specs.Super.{super_words}
use Rattle.fam_rules.specs.Written.{Put}
use Rattle.fam_dup.specs.Lines.{gate_words, head_puts}

-- a word of eight
pub eight_word : (words : List ℕ) (i : ℕ) → i < 8 → get_or (eight words) i 0 ≡ get_or words i 0
eight_word words zero h = refl
eight_word words (suc zero) h = refl
eight_word words (suc (suc zero)) h = refl
eight_word words (suc (suc (suc zero))) h = refl
eight_word words (suc (suc (suc (suc zero)))) h = refl
eight_word words (suc (suc (suc (suc (suc zero))))) h = refl
eight_word words (suc (suc (suc (suc (suc (suc zero)))))) h = refl
eight_word words (suc (suc (suc (suc (suc (suc (suc zero))))))) h = refl
eight_word words (suc (suc (suc (suc (suc (suc (suc (suc i)))))))) h = absurd (omega arith)

-- of eight they are all
pub eight_of_eight : (words : List ℕ) → length words ≡ 8 → eight words ≡ words
eight_of_eight words count = ext_get_or 0 (eight words) words (sym count) (λ i below. eight_word words i below)

-- the first eight of the superblock's words
pub first_words : (p : Params) (first second : List ℕ) → length first ≡ 8 → eight first ++ eight second ≡ super_words p → first ≡ slice_range (super_words p) 0 8
first_words p first second count words = sym (eight_of_eight first count) ∙ ap (λ (w : List ℕ). slice_range w 0 8) words

-- and the others
pub other_words : (p : Params) (first second : List ℕ) → length second ≡ 8 → eight first ++ eight second ≡ super_words p → second ≡ slice_range (super_words p) 8 16
other_words p first second count words = sym (eight_of_eight second count) ∙ ap (λ (w : List ℕ). slice_range w 8 16) words

-- gate, header and superblock, line by line
pub head_parts : (p : Params) (count : ℕ) (header first second : List ℕ) → header ≡ log_words p → first ≡ slice_range (super_words p) 0 8 → second ≡ slice_range (super_words p) 8 16
    → head_puts p count ≡ [] ++ (((gate_line, gate_words count) ∷ []) ++ (((log_line, header) ∷ []) ++ (((1, first) ∷ []) ++ ((2, second) ∷ []))))
head_parts p count header first second is_header is_first is_second =
    let puts : List ℕ → List ℕ → List ℕ → List Put = λ h f s. (gate_line, gate_words count) ∷ (log_line, h) ∷ (1, f) ∷ (2, s) ∷ [] in
    ap (λ (h : List ℕ). puts h (slice_range (super_words p) 0 8) (slice_range (super_words p) 8 16)) (sym is_header)
    ∙ ap₂ (λ (f s : List ℕ). puts header f s) (sym is_first) (sym is_second)
