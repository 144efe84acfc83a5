use Rattle.std.proofs.Common.{◌≡◌, length, sym, subst, ◌∙◌}
use Rattle.std.specs.Result.{OnOk}
use Rattle.fam_journal.specs.Past.{State}
use Rattle.fam_settled.specs.Settled.{settled_files, joined, settled_log_state}
use Rattle.fam_settled.proofs.Files.{length-files_of}
use Rattle.fam_settled.proofs.Choices.{chosen, not_chosen}
use Rattle.fam_settled.proofs.log.Log.acknowledge.Goals as goal

pub returns-then-seq-count-clause-acknowledged : goal.returns-then-seq-count-clause-acknowledged
returns-then-seq-count-clause-acknowledged c =
    let s = c.args.self.now in
    let same : c.args.seq ≡ length (settled_files s) = c.if-seq-count.true ∙ c.count.ensures ∙ sym (length-files_of s.entries s.bytes) in
    subst (λ (x : State). OnOk c.join.result (settled_log_state c.join.new.self ≡ x))
    (chosen c.args.seq (length (settled_files s)) (joined (settled_log_state s)) (settled_log_state s) same) c.join.ensures.joined

pub returns-else-seq-count-clause-acknowledged : goal.returns-else-seq-count-clause-acknowledged
returns-else-seq-count-clause-acknowledged c =
    let s = c.args.self.now in
    not_chosen c.args.seq (length (settled_files s)) (joined (settled_log_state s)) (settled_log_state s)
    (λ same. c.if-seq-count.false (same ∙ length-files_of s.entries s.bytes ∙ sym c.count.ensures))
