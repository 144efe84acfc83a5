use Rattle.std.proofs.Common.{◌≡◌, ◌∙◌, refl, string_bytes}
use Rattle.std.proofs.lemmas.List.{append_assoc}
use Rattle.std.proofs.lemmas.Result.{IfOk-weaker}
use Rattle.fam_outcomes.specs.Texts.{format_text}
use Rattle.fam_script.proofs.notes.made_text.Goals as goal

pub returns : goal.returns
returns c =
    let same : string_bytes c.in_ok-format.format ≡ format_text c.args.params.now.format = c.in_ok-format.ensures in
    IfOk-weaker c.format.result _ _ (λ s e. e ∙ rw same (simp append_assoc refl)) c.format.ensures.ok
