use Rattle.fam_program.proofs.Texts.NumberLines.{last_long, last_text, none_long}
use Rattle.fam_program.proofs.numbers.last_number.Goals as goal

pub returns-in-Some-clause-text : goal.returns-in-Some-clause-text
returns-in-Some-clause-text c =
    last_text c.in-Some.field-0-1.now c.in-Some.last.now c.args.notes.now c.in-Some.ensures.cases.0 c.note_number.result c.note_number.ensures.text

pub returns-in-Some-clause-none : goal.returns-in-Some-clause-none
returns-in-Some-clause-none c = λ none.
    last_long c.in-Some.field-0-1.now c.in-Some.last.now c.args.notes.now c.in-Some.ensures.cases.0 (c.note_number.ensures.none none)

pub returns-in-None-clause-none : goal.returns-in-None-clause-none
returns-in-None-clause-none c = λ none. none_long c.args.notes.now c.in-None.ensures.cases
