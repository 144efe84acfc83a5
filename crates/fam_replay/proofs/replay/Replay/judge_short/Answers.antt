use Rattle.std.proofs.Common.{sym, ap, ◌∙◌}
use Rattle.fam_format.specs.Slot.{entry_of}
use Rattle.fam_replay.proofs.Replicas.{reads_by}
use Rattle.fam_replay.proofs.replay.Replay.judge_short.Goals as goal

pub returns-in-Ok-clause-reads : goal.returns-in-Ok-clause-reads
returns-in-Ok-clause-reads c =
    reads_by c.args.params.now c.args.words.now _ _ _ c.join.result
    (ap (entry_of c.args.params.now c.args.words.now) (sym c.count.ensures) ∙ c.in-Ok.ensures.value)
    c.join.ensures.joins
