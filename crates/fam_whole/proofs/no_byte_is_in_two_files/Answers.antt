use Rattle.std.proofs.Common.{[], subst}
use Rattle.fam_journal.specs.Events.{first_session}
use Rattle.fam_journal.specs.Past.{State}
use Rattle.fam_journal.proofs.Runs.Following.{first_kept, follows_kept}
use Rattle.fam_whole.specs.Whole.{IsStateOf}
use Rattle.fam_whole.proofs.Exact.{exact}
use Rattle.fam_whole.proofs.Files.{files_apart, files_held}
use Rattle.fam_whole.proofs.no_byte_is_in_two_files.Goals as goal

pub returns-clause-apart : goal.returns-clause-apart
returns-clause-apart c = λ files events start journal last p history pending image sound follows is.
    files_apart start last.machines journal (follows_kept start files events sound (first_session start) last [] journal (first_kept start image files events sound) follows) p history pending is

pub returns-clause-held : goal.returns-clause-held
returns-clause-held c = λ files events start p history image sound run is.
    files_held run.last.machines.memory p history (subst (λ (z : State). IsStateOf z run.last.machines.memory) is (exact start files events image sound run).settled)
