use Rattle.std.proofs.Common.{◌≡◌, ◌<◌, ◌+◌, List, length, ap₂, refl, sym, ◌∙◌, rules}
use Rattle.fam_grammar.specs.declared.words.Line.{Line}
use Rattle.fam_grammar.specs.Words.{Word}
use Rattle.fam_records.specs.Histories.{lines_left}
use Rattle.fam_records.specs.Lines.{ALine, Left}
use Rattle.fam_records.proofs.LinesLeft.{no_line, none_left, passes, room_left, shorter, tells}
use Rattle.fam_records.proofs.records.Records.next_line.Goals as goal

pub returns-in-Some-clause-value : goal.returns-in-Some-clause-value
returns-in-Some-clause-value c =
    let some : 0 < length c.loop-number.self.rest.now = search rules in
    let event = c.in-Some.ensures.words in
    let number = c.loop-number.self.number in
    let behind : Left = lines_left (record { number = number + 1; rest = c.cut.result.1 }) in
    c.loop-number.invariant.same
    ∙ tells number c.loop-number.self.rest.now c.cut.result.0.now c.cut.result.1.now some c.cut.ensures.front c.cut.ensures.back event.0
    ∙ ap₂ (λ (line : Line) (words : List Word). ALine line words behind) (sym c.in-Some.ensures.line) (sym event.1)

pub returns-in-Some-clause-room : goal.returns-in-Some-clause-room
returns-in-Some-clause-room c =
    let some : 0 < length c.loop-number.self.rest.now = search rules in
    room_left c.loop-number.self.number c.loop-number.self.rest.now c.cut.result.0.now c.cut.result.1.now some c.cut.ensures.front c.cut.ensures.back c.loop-number.invariant.room

pub loop-number-smaller : goal.loop-number-smaller
loop-number-smaller c =
    let some : 0 < length c.loop-number.self.rest.now = search rules in
    shorter c.loop-number.self.number c.loop-number.self.rest.now c.cut.result.0.now c.cut.result.1.now some c.cut.ensures.front c.cut.ensures.back

pub loop-number-preserved : goal.loop-number-preserved
loop-number-preserved c =
    let some : 0 < length c.loop-number.self.rest.now = search rules in
    record {
      same = c.loop-number.invariant.same
          ∙ passes c.loop-number.self.number c.loop-number.self.rest.now c.cut.result.0.now c.cut.result.1.now some c.cut.ensures.front c.cut.ensures.back
          (c.in_default.ensures.none refl);
      room = room_left c.loop-number.self.number c.loop-number.self.rest.now c.cut.result.0.now c.cut.result.1.now some c.cut.ensures.front c.cut.ensures.back
          c.loop-number.invariant.room;
    }

pub returns-clause-value : goal.returns-clause-value
returns-clause-value c =
    let none : length c.loop-number.self.rest.now ≡ 0 = search rules in
    (c.loop-number.invariant.same ∙ no_line c.loop-number.self.number c.loop-number.self.rest.now none, none_left c.loop-number.self.rest.now none)
