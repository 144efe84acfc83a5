use Rattle.std.proofs.Common.{refl}
use Rattle.fam_causes.proofs.line_causes.found_cause.Goals as goal

pub returns-in-Some : goal.returns-in-Some
returns-in-Some c hosts marks name answers =
    let found = c.in-Some.ensures in
    record { host = c.args.at; line_is = refl; one = found.0; first_is = found.1; may = found.2; other = found.3; only = found.4 }
