use Rattle.std.proofs.Common.{arith, rules, ◌≡◌, ◌∙◌, get_or}
use Rattle.fam_machine.specs.Caches.{cell_at}
use Rattle.fam_machine.specs.OneLine.{words_of}
use Rattle.fam_machine.specs.Operations.{load_ops}
use Rattle.std.proofs.lemmas.List.{length-set}
use Rattle.fam_mkfs.proofs.WholeLines.{cut_on, drop_cut, eight_words, load_cut, load_more, line_differs, spare_kept, words_more}
use Rattle.fam_cache.proofs.Performed.{held_after_load}
use Rattle.fam_mkfs.proofs.lines.read_line.Goals as goal

pub returns-in_err-operate-clause-cut : goal.returns-in_err-operate-clause-cut
returns-in_err-operate-clause-cut g c =
    cut_on (load_ops c.args.line.0 8) _ _ c.in_err-operate.field-0.0 c.from_residual.result c.from_residual.ensures
    (drop_cut c.args.line.0 _ _ _ c.in_err-operate.ensures.cut)

pub returns-in_err-loaded-clause-cut : goal.returns-in_err-loaded-clause-cut
returns-in_err-loaded-clause-cut g c =
    cut_on (load_ops c.args.line.0 8) _ _ c.in_err-loaded.field-0.0 c.from_residual-in_err-loaded.result c.from_residual-in_err-loaded.ensures
    (load_cut c.args.line.0 c.loop-word.word _ _ _ _ c.loop-word-test.true c.loop-word.invariant.done c.in_err-loaded.ensures.cut)

pub loop-word-preserved : goal.loop-word-preserved
loop-word-preserved g c =
    let v = c.loop-word.invariant in
    let e = c.in_ok-loaded.ensures in
    let read : c.unwrap_or.result ≡ get_or (words_of (cell_at c.operate-in-loop-word.new.cache.lines c.args.line.0)) c.loop-word.word 0 = search rules in
    record {
      wide = length-set c.loop-word.words c.loop-word.word c.unwrap_or.result ∙ v.wide;
      done = load_more c.args.line.0 c.loop-word.word _ _ _ v.done e.done;
      words = words_more c.loop-word.words c.loop-word.word c.unwrap_or.result _ c.args.line.0 _ _ v.wide c.loop-word-test.true v.words v.held e.cache read;
      held = λ some. held_after_load _ c.args.line.0 _ _ e.cache;
      others = λ other differs. e.others other (line_differs c.args.line other differs) ∙ v.others other differs;
      first = λ none. absurd (omega arith);
      spare = spare_kept c.loop-word.word _ _ _ _ v.held e.held_spare e.spare v.first v.spare;
      steady = record { size = e.steady.size ∙ v.steady.size; later = omega (arith, e.steady.later, v.steady.later) };
    }

pub returns-clause-words : goal.returns-clause-words
returns-clause-words g c =
    let v = c.loop-word.invariant in
    eight_words c.loop-word.words _ v.wide (λ k below. v.words k (omega arith))
