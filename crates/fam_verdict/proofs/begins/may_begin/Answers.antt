use Rattle.fam_verdict.proofs.Beginnings.{begins_host, begins_start}
use Rattle.fam_verdict.proofs.Faces.{faces_so, shapes_of}
use Rattle.fam_verdict.proofs.begins.may_begin.Goals as goal

pub returns-in-Host : goal.returns-in-Host
returns-in-Host c =
    begins_host c.args.lines c.args.hosts.now c.args.line.now c.in-Host.field-0 c.in-Host.field-1 c.stands.result c.in-Host.is
    (c.stands.ensures.is (shapes_of c.args.hosts.now) (faces_so c.args.hosts.now))

pub returns-in-Start : goal.returns-in-Start
returns-in-Start c =
    begins_start c.args.lines c.args.hosts.now c.args.line.now c.in-Start.field-0 c.in-Start.field-1 c.stands-in-Start.result c.in-Start.is
    (c.stands-in-Start.ensures.is (shapes_of c.args.hosts.now) (faces_so c.args.hosts.now))
