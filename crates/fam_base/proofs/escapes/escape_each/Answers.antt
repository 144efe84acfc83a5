use Rattle.std.proofs.Common.{◌++◌, take, get_or, sym, ap, ◌∙◌, append-nil, append_assoc, arith}
use Rattle.fam_base.specs.Escapes.{escaped, escaped_byte}
use Rattle.fam_base.proofs.EscapeLemmas.{escaped-nil, escaped_more}
use Rattle.fam_base.proofs.escapes.escape_each.Goals as goal

pub loop-byte-init : goal.loop-byte-init
loop-byte-init c = sym (append-nil _) ∙ ap (λ l. c.args.into.now.items ++ l) (sym escaped-nil)

pub loop-byte-preserved : goal.loop-byte-preserved
loop-byte-preserved c =
    let more = escaped_more c.args.bytes.now c.loop-byte.byte-index (omega arith) in
    let joined = append_assoc c.args.into.now.items (escaped (take c.loop-byte.byte-index c.args.bytes.now)) (escaped_byte (get_or c.args.bytes.now c.loop-byte.byte-index 0)) in
    cc (more, joined, c.in_ok-escape_byte.ensures.added, c.loop-byte.invariant)
