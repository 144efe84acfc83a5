use Rattle.std.proofs.Common.{[]}
use Rattle.fam_journal.specs.Events.{first_session}
use Rattle.fam_journal.proofs.Runs.Following.{first_kept, follows_kept}
use Rattle.fam_journal.proofs.Runs.LeftAlone.{left_alone}
use Rattle.fam_journal.proofs.laws.a_damaged_image_stays.Goals as goal

pub returns : goal.returns
returns c = record {
  stays = λ start files events ending old new before notes origin damage gate kept is sound uncut done none.
      left_alone start files origin damage gate ending uncut events sound old new before notes kept is none done;
  reached = λ start files events journal last image sound follows. follows_kept start files events sound (first_session start) last [] journal (first_kept start image files events sound) follows;
}
