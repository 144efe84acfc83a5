use Rattle.fam_protocol.proofs.Damaged.Finds.{bad_found, bad_master, bad_noted}
use Rattle.fam_protocol.proofs.findings.a_damaged_gate_is_found.Goals as goal

pub returns : goal.returns
returns c = record {
  found = λ image lines n t step. bad_found image lines step n t;
  noted = λ image lines slot reason wish step. bad_noted image lines step slot reason wish;
  master = λ image lines wish step. bad_master image lines step wish;
}
