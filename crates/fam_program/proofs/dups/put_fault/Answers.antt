use Rattle.fam_program.proofs.dups.put_fault.Goals as goal

pub returns-in-NoSuper-clause-put : goal.returns-in-NoSuper-clause-put
returns-in-NoSuper-clause-put g c = rw c.in-NoSuper.is c.put_damage.ensures.put

pub returns-in-BadSuper-clause-put : goal.returns-in-BadSuper-clause-put
returns-in-BadSuper-clause-put g c = rw c.in-BadSuper.is c.put_bad_super.ensures.put

pub returns-in-TooSmall-clause-put : goal.returns-in-TooSmall-clause-put
returns-in-TooSmall-clause-put g c = rw c.in-TooSmall.is c.put_refusal-in-TooSmall.ensures.put

pub returns-in-HasSuper-clause-put : goal.returns-in-HasSuper-clause-put
returns-in-HasSuper-clause-put g c = rw c.in-HasSuper.is c.put_refusal-in-HasSuper.ensures.put

pub returns-in-Stopped-clause-put : goal.returns-in-Stopped-clause-put
returns-in-Stopped-clause-put g c = rw c.in-Stopped.is (c.put_made.ensures.put _ c.stopped_line.ensures)

pub returns-in-FromFault-clause-put : goal.returns-in-FromFault-clause-put
returns-in-FromFault-clause-put g c = rw c.in-FromFault.is c.put_number.ensures.put

pub returns-in-ToFault-clause-put : goal.returns-in-ToFault-clause-put
returns-in-ToFault-clause-put g c = rw c.in-ToFault.is c.put_number-in-ToFault.ensures.put
