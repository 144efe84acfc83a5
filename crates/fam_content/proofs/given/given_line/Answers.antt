use Rattle.std.proofs.Common.{ℕ, List, ◌≡◌, ◌++◌, length, drop, replicate, get_or, ap, ◌∙◌}
use Rattle.fam_rules.specs.Content.{byte_in}
use Rattle.fam_content.proofs.LittleEndian.{padded_byte}
use Rattle.fam_content.proofs.given.given_line.Goals as goal

pub returns-else-rest-ge64 : goal.returns-else-rest-ge64
returns-else-rest-ge64 c = λ b small.
    let rest : List ℕ = c.rest_from-rest.result.now in
    let read : byte_in c.whole_line-else-rest-ge64.result b ≡ get_or (c.copy_from_slice.new.self ++ drop (length rest) (replicate 64 0)) b 0 = c.whole_line-else-rest-ge64.ensures b small in
    read
    ∙ ap (λ (copy : List ℕ). get_or (copy ++ drop (length rest) (replicate 64 0)) b 0) c.copy_from_slice.ensures.after
    ∙ padded_byte rest 64 b small
    ∙ c.rest_from-rest.ensures b
