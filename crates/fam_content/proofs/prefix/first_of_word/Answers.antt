use Rattle.std.proofs.Common.{ℕ, ◌%◌, ap, ◌∙◌}
use Rattle.fam_base.specs.Image.{byte_of}
use Rattle.fam_content.proofs.Cutting.{prefix_byte, power_fits}
use Rattle.fam_content.proofs.prefix.first_of_word.Goals as goal

pub returns-then-count-lt8 : goal.returns-then-count-lt8
returns-then-count-lt8 c = λ i small.
    ap (λ (m : ℕ). byte_of (c.args.word % m) i) (power_fits c.args.count c.if-count-lt8.true)
    ∙ prefix_byte c.args.count c.args.word i
