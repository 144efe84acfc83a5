use Rattle.std.proofs.Common.{ℕ, ◌*◌, ◌≤◌, length, subst, sym, arith}
use Rattle.fam_base.specs.Image.{line_at}
use Rattle.fam_format.specs.Layout.{least_lines}
use Rattle.fam_media.specs.States.{change}
use Rattle.fam_replay.specs.Sources.{FailsAt, IsAskedFor}
use Rattle.fam_rules.specs.Place.{line_bytes}
use Rattle.fam_mailbox.proofs.Faults.{files_found, no_files, no_files_counted}
use Rattle.fam_mailbox.proofs.file.find_file.Goals as goal

pub returns-in-Ok-clause-found : goal.returns-in-Ok-clause-found
returns-in-Ok-clause-found g c =
    files_found c.args.path.now (g.M.Media.state c.args.media.now).image c.in-Ok.plan.params c.in-Ok.plan.entries c.file_in.result
    (λ image told. record {
      enough = omega (arith, c.if-lines-lt-LEAST_LINES.false, c.lines-lines.ensures.count, g.met.M.Media.modelled c.args.media.now image told);
      reads = c.in-Ok.ensures.told image told;
    })
    c.file_in.ensures.there c.file_in.ensures.file

pub returns-in-Ok-clause-fault : goal.returns-in-Ok-clause-fault
returns-in-Ok-clause-fault g c =
    no_files c.args.path.now (g.M.Media.state c.args.media.now).image c.in-Ok.plan.params c.in-Ok.plan.entries c.file_in.result
    (λ image told. record {
      enough = omega (arith, c.if-lines-lt-LEAST_LINES.false, c.lines-lines.ensures.count, g.met.M.Media.modelled c.args.media.now image told);
      reads = c.in-Ok.ensures.told image told;
    })
    c.file_in.ensures.none

pub returns-in-Err-clause-fault : goal.returns-in-Err-clause-fault
returns-in-Err-clause-fault g c = λ image told.
    let enough : least_lines ≤ length image = omega (arith, c.if-lines-lt-LEAST_LINES.false, c.lines-lines.ensures.count, g.met.M.Media.modelled c.args.media.now image told) in
    let count = g.met.M.Media.modelled c.args.media.now image told in
    c.entries_fault.ensures.is c.args.path.now image enough (c.in-Err.ensures.fault image told)
    (subst (λ (n : ℕ). FailsAt (IsAskedFor (line_at image) (line_bytes * n)) c.in-Err.fault) (sym count) (c.in-Err.ensures.asked image told))

pub returns-in-Err-clause-cause : goal.returns-in-Err-clause-cause
returns-in-Err-clause-cause g c =
    c.entries_fault.ensures.cause (g.M.Media.size c.args.media.now) (change g.M.Media.state c.args.media.now c.read_source.new.media) c.in-Err.ensures.cause c.in-Err.ensures.line

pub returns-in-Ok-clause-counted : goal.returns-in-Ok-clause-counted
returns-in-Ok-clause-counted g c =
    no_files_counted c.in-Ok.plan.entries c.args.path.now g.M.Media.exact (g.M.Media.state c.args.media.now).faults (g.M.Media.state c.read_source.new.media).faults c.file_in.result
    c.file_in.ensures.none c.in-Ok.ensures.quiet

pub returns-in-Err-clause-counted : goal.returns-in-Err-clause-counted
returns-in-Err-clause-counted g c = λ exact.
    c.entries_fault.ensures.counted (g.M.Media.state c.args.media.now).faults (g.M.Media.state c.read_source.new.media).faults (c.in-Err.ensures.counted exact)
