use Rattle.std.proofs.Common.{Ok, Err, Option, subst, sym, ◌∙◌}
use Rattle.std.proofs.lemmas.Bool.{eqb-true}
use Rattle.std.proofs.lemmas.List.{nil_from_length}
use Rattle.fam_journal.specs.declared.event.Event.{Event}
use Rattle.fam_program.specs.LineByLine.{StartsWith}
use Rattle.fam_program.proofs.Runs.Turns.{fits_here, next_sound, steady_here, turned}
use Rattle.fam_program.proofs.Scripts.LinesRun.{first_run, left_is, lines_end, none_read, one_done, one_ends, rest_good, short_end}
use Rattle.fam_program.proofs.line_by_line.run_lines.Goals as goal

pub lines-init : goal.lines-init
lines-init g c = first_run c.requires.good c.what_reads_is_sound.ensures c.requires.fresh c.is_image.ensures

pub next_event-requires : goal.next_event-requires
next_event-requires g c = record { good = rest_good c.lines.invariant }

pub returns-in-Err : goal.returns-in-Err
returns-in-Err g c = record { ended = short_end c.lines.invariant; steady = steady_here c.lines.invariant.turns; shelf = c.lines.invariant.turns.shelf_steady }

pub lines-preserved-in_default : goal.lines-preserved-in_default
lines-preserved-in_default g c =
    none_read c.lines.invariant (subst (λ (event : Option Event). StartsWith c.lines.rest.now event c.in-Ok.read.1.now) c.in_default.is c.in-Ok.ensures.starts)

pub happen-requires : goal.happen-requires
happen-requires g c =
    let s = subst (λ (event : Option Event). StartsWith c.lines.rest.now event c.in-Ok.read.1.now) c.in-Some.is c.in-Ok.ensures.starts in
    record {
      sound = next_sound c.lines.invariant.turns (left_is c.lines.invariant s);
      shaped = c.lines.invariant.turns.far.shaped;
      fits = fits_here c.lines.invariant.turns;
    }

pub lines-preserved : goal.lines-preserved
lines-preserved g c =
    let s = subst (λ (event : Option Event). StartsWith c.lines.rest.now event c.in-Ok.read.1.now) c.in-Some.is c.in-Ok.ensures.starts in
    one_done c.lines.invariant s
    (turned c.lines.invariant.turns (left_is c.lines.invariant s) c.happen.new.media c.happen.new.shelf c.happen.new.world c.happen.new.copied
    (Ok tt) c.happen.ensures.size c.happen.ensures.steady c.in-Ok-happen.ensures.says)

pub returns-in-Err-happen : goal.returns-in-Err-happen
returns-in-Err-happen g c =
    let s = subst (λ (event : Option Event). StartsWith c.lines.rest.now event c.in-Ok.read.1.now) c.in-Some.is c.in-Ok.ensures.starts in
    let t = turned c.lines.invariant.turns (left_is c.lines.invariant s) c.happen.new.media c.happen.new.shelf c.happen.new.world c.happen.new.copied
    (Err c.in-Err-happen.fault) c.happen.ensures.size c.happen.ensures.steady c.in-Err-happen.ensures.says in
    record { ended = one_ends c.lines.invariant t; steady = t.steady; shelf = t.shelf_steady }

pub returns : goal.returns
returns g c =
    let none = nil_from_length c.lines.rest.now (eqb-true _ 0 (sym c.is_empty.ensures ∙ c.lines-test.false)) in
    record { ended = lines_end c.lines.invariant none; steady = steady_here c.lines.invariant.turns; shelf = c.lines.invariant.turns.shelf_steady }
