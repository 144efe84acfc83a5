use Rattle.std.proofs.Common.{subst}
use Rattle.fam_machine.specs.Cuts.{HasFailed}
use Rattle.fam_machine.specs.Operations.{machine}
use Rattle.fam_media.specs.Outside.{IfModelled}
use Rattle.fam_cache.specs.Faults.{IfMediaFault}
use Rattle.fam_cache.specs.declared.fault.OperationFault.{OperationFault}
use Rattle.fam_cache.proofs.Performed.{others_left, sends_one}
use Rattle.fam_cache.proofs.Runs.{one_cut}
use Rattle.fam_mkfs.proofs.lines.operate.Goals as goal

pub returns-in-Ok-clause-others : goal.returns-in-Ok-clause-others
returns-in-Ok-clause-others g c = others_left c.args.op _ _ _ c.in-Ok.ensures.cache c.requires.one

pub returns-in-Err-MediaFault-clause-cut : goal.returns-in-Err-MediaFault-clause-cut
returns-in-Err-MediaFault-clause-cut g c = one_cut c.args.op c.in-Err-MediaFault.line (g.M.Media.state c.args.media.now).image
    (g.M.Media.state c.perform.new.media).image c.args.cache.now.lines c.perform.new.self.lines
    (subst (λ (fault : OperationFault).
    IfMediaFault fault (λ line. IfModelled (g.M.Media.state c.args.media.now).image
    (λ image. HasFailed c.args.op (machine image c.args.cache.now.lines) line (g.M.Media.state c.perform.new.media).image c.perform.new.self.lines)))
    c.in-Err-MediaFault.field-0-is c.in-Err-MediaFault.ensures.failed)

pub perform-requires-clause-asked : goal.perform-requires-clause-asked
perform-requires-clause-asked g c = sends_one c.args.op _ _ c.requires.one
