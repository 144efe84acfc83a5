use Rattle.fam_journal.specs.Ends.{AllDone}
use Rattle.fam_judge.proofs.Acting.{call_placed}
use Rattle.fam_judge.proofs.Running.{ends_placed}
use Rattle.fam_judge.proofs.laws.answers_stand_at_their_places.Goals as goal

pub returns : goal.returns
returns c = record {
  follows = λ files events image journal last done. ends_placed files events image journal last AllDone done;
  ends = λ files events image journal last ending done. ends_placed files events image journal last ending done;
  row = λ lines state left hosts notes call shaped does. call_placed lines state hosts shaped notes left call does;
}
