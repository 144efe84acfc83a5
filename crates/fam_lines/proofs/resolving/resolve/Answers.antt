use Rattle.fam_lines.proofs.Finding.{result_only}
use Rattle.fam_lines.proofs.Rising.{result_rises}
use Rattle.fam_lines.proofs.Telling.{result_tells, result_untold, result_whole}
use Rattle.fam_lines.proofs.resolving.resolve.Goals as goal

pub returns : goal.returns
returns c =
    let is = c.line_of.ensures.is in
    record {
      tells = result_tells c.args.hosts.now c.args.told c.args.entries c.args.report c.line_of.result is;
      whole = result_whole c.args.hosts.now c.args.told c.args.entries c.args.report c.line_of.result is;
      untold = result_untold c.args.hosts.now c.args.told c.args.entries c.args.report c.line_of.result is;
      rises = result_rises c.args.hosts.now c.args.told c.args.entries c.args.report c.line_of.result is;
      only = λ distinct n. result_only c.args.hosts.now c.args.told c.args.entries c.args.report c.line_of.result is c.line_of.ensures.names distinct n;
    }
