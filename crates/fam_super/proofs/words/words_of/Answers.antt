use Rattle.std.proofs.Common.{◌≡◌, ℕ, List, [], ◌∷◌, ◌++◌, length, refl, sym, ap, ap₂, ◌∙◌}
use Rattle.fam_base.specs.Image.{eight}
use Rattle.fam_super.proofs.Lines.{eight_is, halves, second_half}
use Rattle.fam_super.proofs.words.words_of.Goals as goal

pub returns : goal.returns
returns c =
    let room : List ℕ = 0 ∷ 0 ∷ 0 ∷ 0 ∷ 0 ∷ 0 ∷ 0 ∷ 0 ∷ [] in
    let first : length c.copy_from_slice.new.self ≡ 8 = c.copy_from_slice.auto.self in
    let second : length c.copy_from_slice-2.new.self ≡ 8 = c.copy_from_slice-2.auto.self ∙ second_half 8 c.copy_from_slice.new.self room first refl in
    halves 8 c.copy_from_slice.new.self c.copy_from_slice-2.new.self room first refl
    ∙ ap₂ (λ (a b : List ℕ). a ++ b)
    (sym (eight_is _ first) ∙ ap eight c.copy_from_slice.ensures.after)
    (sym (eight_is _ second) ∙ ap eight c.copy_from_slice-2.ensures.after)
