use Rattle.std.proofs.Common.{length, refl, arith}
use Rattle.std.proofs.lemmas.Option.{slice_get_read}
use Rattle.fam_causes.proofs.line_causes.named_cause.Goals as goal

pub returns-then-is_unnamed : goal.returns-then-is_unnamed
returns-then-is_unnamed c given marks name answers =
    let seen = c.args.hosts.now.seen.items in
    let host = c.index.result.now in
    record {
      host = c.args.at;
      seq = c.args.seq;
      entry = c.args.entry.now;
      line_is = refl;
      cmd = c.args.cmd.now;
      runs = c.requires.runs;
      seen = host;
      seen_is = slice_get_read seen (length seen) c.args.at host refl (omega (arith, c.if-at-len.false, c.len.ensures)) c.index.ensures;
      none = c.if-is_unnamed.ensures refl;
    }
