use Rattle.std.proofs.Common.{◌∙◌, arith}
use Rattle.std.proofs.lemmas.List.FromFn.{fill_by_all}
use Rattle.fam_format.specs.Words.{byte_from, bytes_from}
use Rattle.fam_super.proofs.read.uuid_from.Goals as goal

pub returns : goal.returns
unfolding bytes_from
returns c =
    c.from_bytes.ensures
    ∙ fill_by_all (byte_from c.args.first c.args.words.now) c.loop-i.bytes 16 0 c.loop-i.invariant.long (λ k below. c.loop-i.invariant.filled k (omega arith))
