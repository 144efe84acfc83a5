use Rattle.std.proofs.Common.{refl}
use Rattle.std.proofs.lemmas.Bool.{false≢true}
use Rattle.fam_base.specs.HostNames.{is_host_name}
use Rattle.fam_program.proofs.shots.own_name.Goals as goal

pub unreachable-requires : goal.unreachable-requires
unfolding is_host_name
unreachable-requires c = false≢true (c.in_default.ensures.ok.1 refl)
