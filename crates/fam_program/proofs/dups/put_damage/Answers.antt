use Rattle.fam_program.proofs.dups.put_damage.Goals as goal

pub returns-clause-put : goal.returns-clause-put
returns-clause-put g c = c.put_made.ensures.put _ c.answer_text.ensures
