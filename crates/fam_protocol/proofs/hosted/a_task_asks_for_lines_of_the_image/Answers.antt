use Rattle.fam_protocol.proofs.Hosts.Inside.{asks_inside}
use Rattle.fam_protocol.proofs.hosted.a_task_asks_for_lines_of_the_image.Goals as goal

pub returns : goal.returns
returns c = λ settled lines hosts s host r m limit invariant runs of same. asks_inside settled lines hosts s limit invariant.stage host r runs m of same
