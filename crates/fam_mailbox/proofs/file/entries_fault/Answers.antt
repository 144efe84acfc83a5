use Rattle.std.proofs.Common.{inl}
use Rattle.fam_mailbox.proofs.file.entries_fault.Goals as goal

pub returns-in-NoSuper-clause-is : goal.returns-in-NoSuper-clause-is
returns-in-NoSuper-clause-is c = rw c.in-NoSuper.is (λ path image enough tells asked. record { enough = enough; reads = tells })

pub returns-in-BadSuper-clause-is : goal.returns-in-BadSuper-clause-is
returns-in-BadSuper-clause-is c = rw c.in-BadSuper.is (λ path image enough tells asked. record { enough = enough; reads = tells })

pub returns-in-BadLog-clause-is : goal.returns-in-BadLog-clause-is
returns-in-BadLog-clause-is c = rw c.in-BadLog.is (λ path image enough tells asked. record { enough = enough; reads = tells })

pub returns-in-BadEntry-clause-is : goal.returns-in-BadEntry-clause-is
returns-in-BadEntry-clause-is c = rw c.in-BadEntry.is (λ path image enough tells asked. record { enough = enough; reads = tells })

pub returns-in-MediaFault-clause-is : goal.returns-in-MediaFault-clause-is
returns-in-MediaFault-clause-is c = rw c.in-MediaFault.is (λ path image enough tells asked. inl (enough, asked))

pub returns-in-MediaFault-clause-cause : goal.returns-in-MediaFault-clause-cause
returns-in-MediaFault-clause-cause c = rw c.in-MediaFault.is (λ lines media cause line. (cause, line))
