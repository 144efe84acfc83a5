use Rattle.fam_program.proofs.dups.put_refusal.Goals as goal

pub returns-clause-put : goal.returns-clause-put
returns-clause-put g c = c.put_made.ensures.put _ c.refusal_line.ensures
