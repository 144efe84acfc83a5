use Rattle.std.proofs.lemmas.Bool.{OnTrue_from}
use Rattle.fam_base.specs.Escapes.{is_plain}
use Rattle.fam_base.proofs.Eights.{each_of_eight}
use Rattle.fam_base.proofs.escapes.begin_plain.Goals as goal

pub returns-in-len8-up-clause-plain : goal.returns-in-len8-up-clause-plain
returns-in-len8-up-clause-plain c =
    OnTrue_from _ _ (each_of_eight is_plain c.args.bytes.now _ _ _ _ _ _ _ _ c.is_plain.ensures c.is_plain-in-len8-up.ensures
    c.is_plain-in-len8-up-2.ensures c.is_plain-in-len8-up-3.ensures c.is_plain-in-len8-up-4.ensures c.is_plain-in-len8-up-5.ensures
    c.is_plain-in-len8-up-6.ensures c.is_plain-in-len8-up-7.ensures)
