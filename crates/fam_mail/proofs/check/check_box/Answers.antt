use Rattle.std.proofs.Common.{◌≡◌, ℕ, ◌+◌, List, length, rules, ap, le_trans, sym, ◌∙◌, arith}
use Rattle.fam_base.specs.Image.{line_at}
use Rattle.fam_machine.proofs.WideLines.{eight_whole}
use Rattle.fam_rules.specs.Written.{file_line}
use Rattle.fam_mail.specs.Boxes.{capacity_of}
use Rattle.fam_mail.proofs.Checking.{all_right, failed_record, no_word, one_more, one_right, one_wrong, rose_later, some_word}
use Rattle.fam_mail.proofs.check.check_box.Goals as goal

pub returns-then-is_some-clause-wrong : goal.returns-then-is_some-clause-wrong
returns-then-is_some-clause-wrong g c = λ image told.
    let inv = c.loop-i.invariant in
    let place : ℕ → ℕ = file_line c.args.entry.now in
    let words : List ℕ = c.in-Ok-read.words in
    let long : length c.in-Ok-read.words ≡ 8 = search rules in
    let line : words ≡ line_at image (place (1 + c.loop-i.i)) =
    sym (eight_whole c.in-Ok-read.words long) ∙ c.in-Ok-read.ensures.words image (inv.same ∙ told) ∙ ap (line_at image) c.file_line-line.ensures.value in
    let some = some_word c.wrong_word.result (sym c.is_some.ensures ∙ c.if-is_some.true) in
    one_wrong place (capacity_of c.args.entry.now.size) (line_at image) _ c.loop-i.i c.loop-i-test.true inv.room (inv.gate_is image told) words line (inv.front image told) some.0
    (sym c.wrong_word.ensures ∙ some.1)

pub loop-i-preserved : goal.loop-i-preserved
loop-i-preserved g c =
    let inv = c.loop-i.invariant in
    let place : ℕ → ℕ = file_line c.args.entry.now in
    record {
      size_is = c.in-Ok-read.ensures.size ∙ inv.size_is;
      same = c.in-Ok-read.ensures.same ∙ inv.same;
      later = le_trans inv.later c.in-Ok-read.ensures.cause.later;
      quiet = λ exact. c.in-Ok-read.ensures.counted exact ∙ inv.quiet exact;
      room = inv.room;
      gate_is = inv.gate_is;
      right = λ image told.
          let long : length c.in-Ok-read.words ≡ 8 = search rules in
          let line : c.in-Ok-read.words ≡ line_at image (place (1 + c.loop-i.i)) =
          sym (eight_whole c.in-Ok-read.words long) ∙ c.in-Ok-read.ensures.words image (inv.same ∙ told) ∙ ap (line_at image) c.file_line-line.ensures.value in
          one_more place (capacity_of c.args.entry.now.size) (line_at image) _ c.loop-i.i c.loop-i-test.true inv.room (inv.gate_is image told) c.in-Ok-read.words line (inv.front image told)
          (sym c.wrong_word.ensures ∙ no_word c.wrong_word.result (sym c.is_some.ensures ∙ c.if-is_some.false)) (inv.right image told);
      front = λ image told.
          let long : length c.in-Ok-read.words ≡ 8 = search rules in
          let line : c.in-Ok-read.words ≡ line_at image (place (1 + c.loop-i.i)) =
          sym (eight_whole c.in-Ok-read.words long) ∙ c.in-Ok-read.ensures.words image (inv.same ∙ told) ∙ ap (line_at image) c.file_line-line.ensures.value in
          one_right place (capacity_of c.args.entry.now.size) (line_at image) _ c.loop-i.i c.loop-i-test.true inv.room (inv.gate_is image told) c.in-Ok-read.words line (inv.front image told)
          (sym c.wrong_word.ensures ∙ no_word c.wrong_word.result (sym c.is_some.ensures ∙ c.if-is_some.false));
    }

pub returns-in-Err-read-clause-line : goal.returns-in-Err-read-clause-line
returns-in-Err-read-clause-line g c =
    let inv = c.loop-i.invariant in
    failed_record (file_line c.args.entry.now) (capacity_of c.args.entry.now.size) (g.M.Media.state c.args.media.now).image _ c.loop-i.i _ c.loop-i-test.true inv.room
    c.file_line-line.ensures.value inv.gate_is inv.right

pub returns-clause-read : goal.returns-clause-read
returns-clause-read g c = λ image told.
    let inv = c.loop-i.invariant in
    all_right (file_line c.args.entry.now) (capacity_of c.args.entry.now.size) (line_at image) _ c.loop-i.i (omega (arith, c.loop-i-test.false)) inv.room (inv.gate_is image told)
    (inv.front image told)

pub returns-in-Err-clause-cause : goal.returns-in-Err-clause-cause
returns-in-Err-clause-cause g c = c.in-Err.ensures.cause.failed

pub returns-in-Err-clause-same : goal.returns-in-Err-clause-same
returns-in-Err-clause-same g c = c.in-Err.ensures.same

pub returns-in-Err-clause-steady : goal.returns-in-Err-clause-steady
returns-in-Err-clause-steady g c = record { size = c.in-Err.ensures.size; later = c.in-Err.ensures.cause.later }

pub returns-then-capacity-gate-clause-same : goal.returns-then-capacity-gate-clause-same
returns-then-capacity-gate-clause-same g c = c.in-Ok.ensures.same

pub returns-then-capacity-gate-clause-steady : goal.returns-then-capacity-gate-clause-steady
returns-then-capacity-gate-clause-steady g c = record { size = c.in-Ok.ensures.size; later = c.in-Ok.ensures.cause.later }

pub returns-then-is_some-clause-same : goal.returns-then-is_some-clause-same
returns-then-is_some-clause-same g c = c.in-Ok-read.ensures.same ∙ c.loop-i.invariant.same

pub returns-then-is_some-clause-steady : goal.returns-then-is_some-clause-steady
returns-then-is_some-clause-steady g c = record {
  size = c.in-Ok-read.ensures.size ∙ c.loop-i.invariant.size_is;
  later = le_trans c.loop-i.invariant.later c.in-Ok-read.ensures.cause.later;
}

pub returns-in-Err-read-clause-cause : goal.returns-in-Err-read-clause-cause
returns-in-Err-read-clause-cause g c = rose_later _ _ _ c.loop-i.invariant.later c.in-Err-read.ensures.cause.failed

pub returns-in-Err-read-clause-same : goal.returns-in-Err-read-clause-same
returns-in-Err-read-clause-same g c = c.in-Err-read.ensures.same ∙ c.loop-i.invariant.same

pub returns-in-Err-read-clause-steady : goal.returns-in-Err-read-clause-steady
returns-in-Err-read-clause-steady g c = record {
  size = c.in-Err-read.ensures.size ∙ c.loop-i.invariant.size_is;
  later = le_trans c.loop-i.invariant.later c.in-Err-read.ensures.cause.later;
}

pub returns-clause-same : goal.returns-clause-same
returns-clause-same g c = c.loop-i.invariant.same

pub returns-clause-steady : goal.returns-clause-steady
returns-clause-steady g c = record { size = c.loop-i.invariant.size_is; later = c.loop-i.invariant.later }
