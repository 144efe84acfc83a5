use Rattle.std.proofs.Common.{sym, ap, ◌∙◌}
use Rattle.fam_journal.specs.Past.{settled_length}
use Rattle.fam_settled.proofs.Files.{length-files_of}
use Rattle.fam_judging.specs.declared.candidate.Settled.{Settled}
use Rattle.fam_judging.specs.Candidates.{settled_state}
use Rattle.fam_judging.proofs.settled.settled_count.Goals as goal

pub returns-in-Log : goal.returns-in-Log
returns-in-Log c start given has =
    c.count.ensures ∙ sym (length-files_of c.in-Log.log.entries c.in-Log.log.bytes) ∙ ap (λ (s : Settled). settled_length (settled_state start s)) (sym c.in-Log.is)
