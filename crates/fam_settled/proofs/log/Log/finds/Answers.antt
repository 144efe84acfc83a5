use Rattle.std.proofs.Common.{◌≡◌, None, length, sym, ap, subst, ◌∙◌}
use Rattle.std.specs.Result.{OnOk}
use Rattle.fam_journal.specs.Past.{Sound, State, shows}
use Rattle.fam_settled.specs.Settled.{settled_files, SettledLog, settled_log_state}
use Rattle.fam_settled.proofs.Files.{length-files_of}
use Rattle.fam_settled.proofs.Choices.{chosen, not_chosen}
use Rattle.fam_settled.proofs.log.Log.finds.Goals as goal

-- nothing pends any more
dropped : SettledLog → State
dropped s = Sound s.params (settled_files s) None

pub returns-then-n-count-clause-found : goal.returns-then-n-count-clause-found
unfolding dropped
returns-then-n-count-clause-found c =
    let s = c.args.self.now in
    let same : c.args.n ≡ length (settled_files s) = c.if-n-count.true ∙ c.count.ensures ∙ sym (length-files_of s.entries s.bytes) in
    ap dropped c.self.view_is
    ∙ chosen c.args.n (length (settled_files s)) (dropped s) (shows c.args.n (settled_log_state s)) same

pub returns-else-n-count-clause-found : goal.returns-else-n-count-clause-found
unfolding dropped
returns-else-n-count-clause-found c =
    let s = c.args.self.now in
    subst (λ (x : State). OnOk c.shows.result (settled_log_state c.shows.new.self ≡ x))
    (not_chosen c.args.n (length (settled_files s)) (dropped s) (shows c.args.n (settled_log_state s)) (λ same. c.if-n-count.false (same ∙ length-files_of s.entries s.bytes ∙ sym c.count.ensures)))
    c.shows.ensures.shown
