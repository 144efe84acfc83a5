use Rattle.std.proofs.Common.{Option, sym, ap, ◌∙◌}
use Rattle.std.specs.FinMap as map
use Rattle.fam_format.specs.Tree.{replay}
use Rattle.fam_replay.specs.Replica.{ReplicaState}
use Rattle.fam_replay.specs.Replay.{entries_in}
use Rattle.fam_replay.proofs.Found.{nothing_found}
use Rattle.fam_replay.proofs.replay.Replay.at.Goals as goal

pub returns-in-None-clause-value : goal.returns-in-None-clause-value
returns-in-None-clause-value c =
    sym (ap (λ (o : Option ReplicaState). map.get (replay (entries_in o)) c.args.path.now) (sym c.self.view_is ∙ c.in-None.is) ∙ nothing_found c.args.path.now)
