use Rattle.fam_journal.specs.Events.{first_session}
use Rattle.fam_journal.specs.Past.{first_past}
use Rattle.fam_outcomes.proofs.Names.{follows_named, named_added, names_of_past, render_more}
use Rattle.fam_outcomes.proofs.laws.a_text_only_grows.Goals as goal

pub returns : goal.returns
returns c = record {
  more = λ old added. render_more old added;
  named = λ files events image journal last follows. (follows_named files events (first_session image) last journal follows).named;
  adds = λ old added are more. named_added old added are more;
  names = λ image journal. names_of_past (first_past image) journal;
}
