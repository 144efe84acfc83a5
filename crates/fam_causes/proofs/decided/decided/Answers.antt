use Rattle.std.proofs.Common.{vec_len, length, refl, sym, arith}
use Rattle.std.proofs.lemmas.Option.{slice_get_read}
use Rattle.fam_causes.proofs.Loops.{first_read, some_then}
use Rattle.fam_causes.proofs.decided.decided.Goals as goal

pub returns : goal.returns
returns c =
    let one = c.index.result.now in
    let seen = c.args.hosts.now.seen.items in
    let host = c.index-2.result.now in
    some_then c.decided_in.result c.decided_in.ensures (λ wanted is. record {
      host = host;
      host_is = slice_get_read seen (length seen) c.args.at host refl (omega (arith, c.if-at-len.false, c.len.ensures)) c.index-2.ensures;
      one = one;
      first = first_read c.args.candidates.now.items one (vec_len c.args.candidates.now) (omega arith) (sym c.if-is_empty.ensures) c.index.ensures;
      decides = is;
    })
