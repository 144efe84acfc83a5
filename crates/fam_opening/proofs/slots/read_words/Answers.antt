use Rattle.std.proofs.Common.{◌∙◌, ap, arith}
use Rattle.fam_base.specs.Image.{line_at}
use Rattle.fam_format.proofs.Formats.{slot_short}
use Rattle.fam_rules.proofs.LinesApart.{slot_within}
use Rattle.fam_opening.proofs.SlotWords.{words_all, words_more}
use Rattle.fam_opening.proofs.slots.read_words.Goals as goal

pub read_line-requires : goal.read_line-requires
read_line-requires g c = record {
  within = omega (
    arith,
    slot_within c.args.params.now c.args.slot c.lines.line (g.M.Media.size c.args.media.now) c.requires.sound c.requires.slot
        (omega (arith, c.lines-test.true, c.shape_of-line-end.ensures.lines)) c.requires.device,
    c.line_of_slot.ensures,
    c.lines.invariant.steady.size,
  );
}

pub lines-preserved : goal.lines-preserved
lines-preserved g c =
    let v = c.lines.invariant in
    let e = c.in_ok-part.ensures in
    record {
      count = c.type_inv.words;
      words = λ image told.
          words_more (line_at image) c.args.params.now c.args.slot c.lines.line c.lines.words c.put_words.new.slot c.in_ok-part.part
          (v.words image told) c.put_words.ensures.here c.put_words.ensures.before
          (e.words image (v.same ∙ told) ∙ ap (line_at image) c.line_of_slot.ensures);
      same = e.same ∙ v.same;
      steady = record { size = e.steady.size ∙ v.steady.size; later = omega (arith, e.steady.later, v.steady.later) };
    }

pub returns-clause-words : goal.returns-clause-words
returns-clause-words g c = λ image told.
    words_all (line_at image) c.args.params.now c.args.slot c.lines.words c.lines.line
    (omega (arith, c.lines.invariant.count, slot_short c.args.params.now)) (omega (arith, c.lines-test.false, c.shape_of-line-end.ensures.lines))
    (c.lines.invariant.words image told)
