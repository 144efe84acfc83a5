use Rattle.std.proofs.Common.{refl, subst, sym, ◌≡◌}
use Rattle.std.proofs.lemmas.Result.{err_from_is_err_and}
use Rattle.fam_journal.specs.declared.event.Event.{Event}
use Rattle.fam_journal.specs.declared.event.Event.TheVariants as event
use Rattle.fam_grammar.specs.Cursor.{Tells, words_left}
use Rattle.fam_grammar.specs.Lines.{fetch_line}
use Rattle.fam_grammar.specs.Numbers.{number_of_text}
use Rattle.fam_grammar.specs.Reading.{Reading, ends_with, word_of}
use Rattle.fam_grammar.specs.Spellings.{mask_of, name_of}
use Rattle.fam_grammar.proofs.Exits.{stopped}
use Rattle.fam_grammar.proofs.events.fetch.Goals as goal

pub returns-in_err-name-clause-value : goal.returns-in_err-name-clause-value
returns-in_err-name-clause-value c =
    let p = err_from_is_err_and c.from_residual.result c.from_residual.ensures.1 in
    rw (p.1, p.2) (stopped c.args.line c.in_err-name.field-0.0 (word_of name_of c.args.line.end (words_left c.args.words.now))
    (fetch_line c.args.line.end (words_left c.args.words.now)) (λ column is. rw is refl) c.in_err-name.ensures.value)

pub returns-in_err-name-clause-short : goal.returns-in_err-name-clause-short
returns-in_err-name-clause-short c = c.name.ensures.short

pub returns-in_err-at-clause-value : goal.returns-in_err-at-clause-value
returns-in_err-at-clause-value c =
    let p = err_from_is_err_and c.from_residual-in_err-at.result c.from_residual-in_err-at.ensures.1 in
    rw (p.1, p.2) (stopped c.args.line c.in_err-at.field-0.0 (word_of number_of_text c.args.line.end (words_left c.name.new.self))
    (fetch_line c.args.line.end (words_left c.args.words.now)) (λ column is. rw (c.in_ok-name.ensures.value, is) refl) c.in_err-at.ensures.value)

pub returns-in_err-at-clause-short : goal.returns-in_err-at-clause-short
returns-in_err-at-clause-short c = c.number.ensures.short

pub returns-in_err-mask-clause-value : goal.returns-in_err-mask-clause-value
returns-in_err-mask-clause-value c =
    let p = err_from_is_err_and c.from_residual-in_err-mask.result c.from_residual-in_err-mask.ensures.1 in
    rw (p.1, p.2) (stopped c.args.line c.in_err-mask.field-0.0 (word_of mask_of c.args.line.end (words_left c.number.new.self))
    (fetch_line c.args.line.end (words_left c.args.words.now)) (λ column is. rw (c.in_ok-name.ensures.value, c.in_ok-at.ensures.value, is) refl)
    c.in_err-mask.ensures.value)

pub returns-in_err-mask-clause-short : goal.returns-in_err-mask-clause-short
returns-in_err-mask-clause-short c = c.mask.ensures.short

pub returns-clause-value : goal.returns-clause-value
returns-clause-value c =
    let whole : fetch_line c.args.line.end (words_left c.args.words.now)
    ≡ ends_with (event.Fetch c.in_ok-name.name (record { 0 = c.in_ok-at.at }) (record { 0 = c.in_ok-mask.mask })) (words_left c.mask.new.self) =
    rw (c.in_ok-name.ensures.value, c.in_ok-at.ensures.value, c.in_ok-mask.ensures.value) refl in
    subst (λ (r : Reading Event). Tells c.args.line (words_left c.ended.new.self) c.ended.result r) (sym whole) c.ended.ensures.value

pub returns-clause-short : goal.returns-clause-short
returns-clause-short c = c.ended.ensures.short
