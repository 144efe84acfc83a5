use Rattle.std.proofs.Common.{rules}
use Rattle.fam_plain.proofs.Scans.{quotients_fit}
use Rattle.fam_plain.proofs.units.push_extent.Goals as goal

pub push_range-requires : goal.push_range-requires
push_range-requires c = quotients_fit c.args.extent.offset c.args.extent.length c.args.unit c.requires (search rules) (search rules)
