use Rattle.std.proofs.Common.{◌≡◌, drop, ◌+◌}
use Rattle.fam_mail.specs.Records.{first_set}
use Rattle.fam_mail.proofs.record.wrong_word.Given as goal

-- what was looked at is zero
abbrev pub invariant-loop-k : goal.invariant-loop-k
invariant-loop-k l = first_set (drop (l.count + 1) l.words) (l.count + 1) ≡ first_set (drop l.k l.words) l.k
