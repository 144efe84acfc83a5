use Rattle.std.proofs.Common.{arith, ap, sym, subst, ◌∙◌}
use Rattle.fam_cache.specs.States.{CacheState}
use Rattle.fam_machine.specs.Caches.{cell_at}
use Rattle.fam_machine.specs.OneLine.{IsHeld}
use Rattle.fam_mkfs.specs.Parts.{stores}
use Rattle.fam_mkfs.proofs.WholeLines.{all_stored, cut_on, store_cut, store_more, held_spare_kept, line_differs, spare_kept}
use Rattle.fam_cache.proofs.Performed.{held_after_store}
use Rattle.fam_mkfs.proofs.lines.store_words.Goals as goal

pub returns-in_err-operate-clause-cut : goal.returns-in_err-operate-clause-cut
returns-in_err-operate-clause-cut g c =
    cut_on (stores c.args.line.0 c.args.words.now c.args.count) _ _ c.in_err-operate.field-0.0 c.from_residual.result c.from_residual.ensures
    (store_cut c.args.line.0 c.args.words.now c.loop-word.word c.args.count _ _ _ _ c.loop-word-test.true c.loop-word.invariant.done c.in_err-operate.ensures.cut)

pub loop-word-preserved : goal.loop-word-preserved
loop-word-preserved g c =
    let v = c.loop-word.invariant in
    let e = c.in_ok-operate.ensures in
    record {
      done = store_more c.args.line.0 c.args.words.now c.loop-word.word _ _ _ v.done e.done;
      held = λ some. held_after_store _ c.args.line.0 _ _ _ _ e.cache;
      others = λ other differs. e.others other (line_differs c.args.line other differs) ∙ v.others other differs;
      first = λ none. absurd (omega arith);
      spare = spare_kept c.loop-word.word c.args.cache.now.spare c.loop-word.cache.spare c.operate.new.cache.spare
          (IsHeld (cell_at c.loop-word.cache.lines c.args.line.0)) v.held e.held_spare e.spare
          (λ none. omega (arith, ap (λ (s : CacheState). s.spare) (v.first none))) v.spare;
      held_spare = λ held. held_spare_kept c.loop-word.word c.args.cache.now.spare c.loop-word.cache.spare c.operate.new.cache.spare (IsHeld (cell_at c.loop-word.cache.lines c.args.line.0)) v.held
          (λ none. subst (λ (s : CacheState). IsHeld (cell_at s.lines c.args.line.0)) (sym (v.first none)) held) e.held_spare (v.held_spare held);
      steady = record { size = e.steady.size ∙ v.steady.size; later = omega (arith, e.steady.later, v.steady.later) };
    }

pub returns-clause-done : goal.returns-clause-done
returns-clause-done g c =
    all_stored c.args.line.0 c.args.words.now c.loop-word.word c.args.count _ _ (omega arith) c.loop-word.invariant.done

pub returns-clause-held : goal.returns-clause-held
returns-clause-held g c some = c.loop-word.invariant.held (omega arith)
