use Rattle.std.proofs.Common.{◌≡◌, ◌+◌, length, subst, arith}
use Rattle.std.specs.Result.{OnOk}
use Rattle.fam_journal.specs.Past.{State}
use Rattle.fam_settled.specs.Settled.{settled_files, joined, settled_log_state}
use Rattle.fam_settled.proofs.Files.{length-files_of}
use Rattle.fam_settled.proofs.Choices.{chosen, not_chosen}
use Rattle.fam_settled.proofs.log.Log.shows.Goals as goal
use Rattle.fam_settled.proofs.log.Log.shows.Goals.{else-m-gt0-via-then-m-gt0+else-m-count, else-m-gt0-via-else-m-gt0}

pub returns-then-m-count-clause-shown : goal.returns-then-m-count-clause-shown
returns-then-m-count-clause-shown c =
    let s = c.args.self.now in
    let same : c.args.m ≡ length (settled_files s) + 1 = omega (arith, c.if-m-gt0.true, c.if-m-count.true, c.count.ensures, length-files_of s.entries s.bytes) in
    subst (λ (x : State). OnOk c.join.result (settled_log_state c.join.new.self ≡ x))
    (chosen c.args.m (length (settled_files s) + 1) (joined (settled_log_state s)) (settled_log_state s) same) c.join.ensures.joined

pub returns-else-m-gt0-clause-shown : goal.returns-else-m-gt0-clause-shown
returns-else-m-gt0-clause-shown c =
    let s = c.args.self.now in
    not_chosen c.args.m (length (settled_files s) + 1) (joined (settled_log_state s)) (settled_log_state s) (λ same.
    elim c.else-m-gt0.branch [
      | else-m-gt0-via-then-m-gt0+else-m-count w ↦ w.if-m-count.false (omega (arith, same, w.count.ensures, length-files_of s.entries s.bytes))
      | else-m-gt0-via-else-m-gt0 w ↦ absurd (omega (arith, same, w.if-m-gt0.false))
    ])
