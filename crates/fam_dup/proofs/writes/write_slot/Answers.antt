use Rattle.std.proofs.Common.{◌≡◌, ℕ, ◌∙◌, List, [], ◌∷◌, length, ap, ap₂, subst, arith}
use Rattle.std.proofs.lemmas.Result.{err_from_is_err_and}
use Rattle.fam_format.specs.Layout.{geometry, slot_line}
use Rattle.fam_format.specs.Slot.{spelling}
use Rattle.fam_format.proofs.EntryLawsProofs.{spelling_count}
use Rattle.fam_format.proofs.Formats.{shape}
use Rattle.fam_rules.specs.Written.{Put, slot_part, slot_puts}
use Rattle.fam_rules.proofs.LinesApart.{slot_within}
use Rattle.fam_dup.specs.Lines.{ArePut, AreCutAt}
use Rattle.fam_dup.specs.Ends.{IsToStep}
use Rattle.fam_dup.proofs.Rows.{row_cut, row_end, row_part}
use Rattle.fam_dup.proofs.writes.write_slot.Goals as goal

pub write_to-requires : goal.write_to-requires
write_to-requires g c = record {
  within = omega (
    arith,
    slot_within c.args.params.now c.args.seq c.lines.j (g.N.Media.size c.args.to.now) c.requires.sound c.requires.slot
        (omega (arith, c.lines-test.true, c.shape_of-j-end.ensures.lines)) c.requires.device,
    c.line_of_slot.ensures,
    c.lines.invariant.steady.size,
  );
}

pub part_of-requires : goal.part_of-requires
part_of-requires g c =
    let p = c.args.params.now in
    let words : length c.words.result.now ≡ length (spelling (geometry p) c.args.copy.now c.args.seq) = ap (λ (w : List ℕ). length w) (c.words.ensures.same ∙ c.spell-slot.ensures) in
    omega (arith, words, spelling_count p c.args.copy.now c.args.seq, (shape p).words, c.lines-test.true, c.shape_of-j-end.ensures.lines)

pub lines-preserved : goal.lines-preserved
lines-preserved g c =
    let v = c.lines.invariant in
    let e = c.in_ok-write_to.ensures in
    let p = c.args.params.now in
    let words : List ℕ = spelling (geometry p) c.args.copy.now c.args.seq in
    let is : ◌≡◌ {A = Put} (c.line_of_slot.result.0, c.part_of.result) (slot_line p c.args.seq c.lines.j, slot_part words c.lines.j) =
    ap₂ (λ (l : ℕ) (w : List ℕ). (l, w)) c.line_of_slot.ensures (c.part_of.ensures ∙ ap (λ (w : List ℕ). slot_part w c.lines.j) (c.words.ensures.same ∙ c.spell-slot.ensures)) in
    record {
      passed = row_part (slot_line p c.args.seq) (slot_part words) (slot_puts p c.args.seq c.args.copy.now) c.lines.j (geometry p).lines
          (g.N.Media.state c.args.to.now).image (g.N.Media.state c.lines.to).image (g.N.Media.state c.write_to.new.to).image
          (omega (arith, c.lines-test.true, c.shape_of-j-end.ensures.lines)) v.passed
          (subst (λ (put : Put). ArePut (put ∷ []) (g.N.Media.state c.lines.to).image (g.N.Media.state c.write_to.new.to).image) is e.puts);
      quiet = λ exact. e.quiet exact ∙ v.quiet exact;
      steady = record { size = e.steady.size ∙ v.steady.size; later = omega (arith, e.steady.later, v.steady.later) };
    }

pub returns-in_err-write_to-clause-puts : goal.returns-in_err-write_to-clause-puts
returns-in_err-write_to-clause-puts g c =
    let v = c.lines.invariant in
    let p = c.args.params.now in
    let words : List ℕ = spelling (geometry p) c.args.copy.now c.args.seq in
    let is : ◌≡◌ {A = Put} (c.line_of_slot.result.0, c.part_of.result) (slot_line p c.args.seq c.lines.j, slot_part words c.lines.j) =
    ap₂ (λ (l : ℕ) (w : List ℕ). (l, w)) c.line_of_slot.ensures (c.part_of.ensures ∙ ap (λ (w : List ℕ). slot_part w c.lines.j) (c.words.ensures.same ∙ c.spell-slot.ensures)) in
    let q = err_from_is_err_and c.from_residual.result c.from_residual.ensures.1 in
    rw (q.1, q.2)
    (row_cut (slot_line p c.args.seq) (slot_part words) (slot_puts p c.args.seq c.args.copy.now) c.lines.j (geometry p).lines
    (g.N.Media.state c.args.to.now).image (g.N.Media.state c.lines.to).image (g.N.Media.state c.write_to.new.to).image
    (omega (arith, c.lines-test.true, c.shape_of-j-end.ensures.lines)) v.passed
    (subst (λ (put : Put). AreCutAt (IsToStep c.in_err-write_to.field-0.0) (put ∷ []) (g.N.Media.state c.lines.to).image (g.N.Media.state c.write_to.new.to).image) is c.in_err-write_to.ensures.puts))

pub returns-clause-puts : goal.returns-clause-puts
returns-clause-puts g c =
    let p = c.args.params.now in
    let words : List ℕ = spelling (geometry p) c.args.copy.now c.args.seq in
    row_end (slot_line p c.args.seq) (slot_part words) (slot_puts p c.args.seq c.args.copy.now) c.lines.j (geometry p).lines
    (g.N.Media.state c.args.to.now).image (g.N.Media.state c.lines.to).image (omega (arith, c.lines-test.false, c.shape_of-j-end.ensures.lines))
    c.lines.invariant.passed
