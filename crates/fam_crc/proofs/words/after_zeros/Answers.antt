use Rattle.std.proofs.Common.{◌∙◌, ◌∷◌, ℕ, List, ap, fold}
use Rattle.fam_crc.specs.Crc.{after_byte, bytes_of_words}
use Rattle.fam_crc.proofs.Steps.{behind_sixteen, behind_three}
use Rattle.fam_crc.proofs.words.after_zeros.Goals as goal

pub returns-in-Some-clause-after : goal.returns-in-Some-clause-after
returns-in-Some-clause-after c =
    ap (λ (x : ℕ). fold after_byte x (bytes_of_words c.in-Some.behind.now)) c.sixteen_step.ensures
    ∙ behind_sixteen c.args.register c.args.words.now c.in-Some.behind.now (c.in_ok-behind.ensures ∙ ap (λ (l : List ℕ). 0 ∷ 0 ∷ 0 ∷ l) c.in-Some.ensures)

pub returns-in-None-clause-after : goal.returns-in-None-clause-after
returns-in-None-clause-after c =
    ap (λ (x : ℕ). fold after_byte x (bytes_of_words c.in_ok-behind.behind.now)) c.three_step.ensures
    ∙ behind_three c.args.register c.args.words.now c.in_ok-behind.behind.now c.in_ok-behind.ensures

pub returns-in-Some-clause-zeros : goal.returns-in-Some-clause-zeros
returns-in-Some-clause-zeros c = record {
  count = 16;
  is = c.in_ok-behind.ensures ∙ ap (λ (l : List ℕ). 0 ∷ 0 ∷ 0 ∷ l) c.in-Some.ensures;
}

pub returns-in-None-clause-zeros : goal.returns-in-None-clause-zeros
returns-in-None-clause-zeros c = record { count = 3; is = c.in_ok-behind.ensures }
