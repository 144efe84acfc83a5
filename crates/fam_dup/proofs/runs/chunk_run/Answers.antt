use Rattle.std.proofs.Common.{arith}
use Rattle.fam_dup.proofs.RunPuts.{behind_in_chunk}
use Rattle.fam_dup.proofs.runs.chunk_run.Goals as goal

pub returns-clause-place : goal.returns-clause-place
returns-clause-place c = λ d below. behind_in_chunk c.args.chunk c.args.offset d (omega (arith, below))
