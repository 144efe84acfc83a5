use Rattle.std.proofs.Common.{◌∷◌, [], take, arith}
use Rattle.fam_machine.specs.declared.op.Op.TheVariants.{Invalidate}
use Rattle.fam_machine.specs.Mkfs.{put_ops}
use Rattle.fam_machine.specs.Operations.{line_no}
use Rattle.fam_mkfs.specs.Parts.{stores}
use Rattle.fam_cache.proofs.Runs.{cut_as, cut_first, cut_second, done_as, done_both}
use Rattle.fam_mkfs.proofs.WholeLines.{all_put, cut_as_told, cut_on, done_on, few_stored}
use Rattle.fam_mkfs.proofs.lines.write_line.Goals as goal

pub returns-then-most-le8-clause-done : goal.returns-then-most-le8-clause-done
returns-then-most-le8-clause-done g c =
    done_on _ _ _ _ _ (few_stored c.args.line.0 c.args.words.now c.args.most c.if-most-le8.true) c.store_words.ensures.done

pub returns-then-most-le8-clause-cut : goal.returns-then-most-le8-clause-cut
returns-then-most-le8-clause-cut g c =
    cut_as_told _ _ _ _ _ (few_stored c.args.line.0 c.args.words.now c.args.most c.if-most-le8.true) c.store_words.ensures.cut

pub returns-in_err-store_words-clause-cut : goal.returns-in_err-store_words-clause-cut
returns-in_err-store_words-clause-cut g c =
    cut_on (take c.args.most (put_ops (c.args.line.0, c.args.words.now))) _ _ c.in_err-store_words.field-0.0 c.from_residual.result c.from_residual.ensures
    (cut_as _ _ _ _ _ (all_put c.args.line.0 c.args.words.now c.args.most (omega arith))
    (cut_first (stores c.args.line.0 c.args.words.now 8) (Invalidate (line_no c.args.line.0) ∷ []) _ _ _ c.in_err-store_words.ensures.cut))

pub returns-in_err-operate-clause-cut : goal.returns-in_err-operate-clause-cut
returns-in_err-operate-clause-cut g c =
    cut_on (take c.args.most (put_ops (c.args.line.0, c.args.words.now))) _ _ c.in_err-operate.field-0.0 c.from_residual-in_err-operate.result c.from_residual-in_err-operate.ensures
    (cut_as _ _ _ _ _ (all_put c.args.line.0 c.args.words.now c.args.most (omega arith))
    (cut_second (stores c.args.line.0 c.args.words.now 8) (Invalidate (line_no c.args.line.0) ∷ []) _ _ _ _ c.in_ok-store_words.ensures.done c.in_err-operate.ensures.cut))

pub returns-clause-done : goal.returns-clause-done
returns-clause-done g c =
    done_as _ _ _ _ (all_put c.args.line.0 c.args.words.now c.args.most (omega arith))
    (done_both (stores c.args.line.0 c.args.words.now 8) (Invalidate (line_no c.args.line.0) ∷ []) _ _ _ c.in_ok-store_words.ensures.done c.in_ok-operate.ensures.done)
