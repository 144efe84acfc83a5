use Rattle.std.proofs.Common.{ap, ◌∙◌, List, ℕ}
use Rattle.fam_format.specs.Log.{log_fault}
use Rattle.fam_format.proofs.LogLawsProofs.{header_passes, header_spelled}
use Rattle.fam_format.proofs.super_laws.header_is_read.Goals as goal

pub returns : goal.returns
returns c = λ p w count. (header_spelled p w count, λ same. ap (λ (v : List ℕ). log_fault v p) same ∙ header_passes p)
