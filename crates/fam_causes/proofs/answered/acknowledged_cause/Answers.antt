use Rattle.std.proofs.Common.{length, refl, arith}
use Rattle.std.proofs.lemmas.Option.{slice_get_read}
use Rattle.fam_causes.proofs.answered.acknowledged_cause.Goals as goal

pub returns-then-is_unacknowledged : goal.returns-then-is_unacknowledged
returns-then-is_unacknowledged c given marks name answers =
    let seen = c.args.hosts.now.seen.items in
    let host = c.index.result.now in
    record {
      host = c.args.at;
      cmd = c.args.cmd.now;
      answers = record { line_is = refl; runs = c.requires.runs };
      seen = host;
      seen_is = slice_get_read seen (length seen) c.args.at host refl (omega (arith, c.if-at-len.false, c.len.ensures)) c.index.ensures;
      none = c.if-is_unacknowledged.ensures refl;
    }
