use Rattle.std.proofs.Common.{◌≡◌, true, Ok, Err, refl, ap, sym, ◌∙◌}
use Rattle.std.proofs.lemmas.Bool.{false≢true}
use Rattle.fam_outcomes.specs.Statuses.{last_stops}
use Rattle.fam_program.proofs.Runs.Alone.{before_run, ends_alone, none_before, shown_alone}
use Rattle.fam_program.proofs.Runs.Stops.{none_stops}
use Rattle.fam_program.proofs.Runs.Turns.{fits_here, goes_on, turned}
use Rattle.fam_program.proofs.Runs.TurnedEnds.{done_goes_on}
use Rattle.fam_program.proofs.unprinted.run_alone.Goals as goal

pub happen-requires : goal.happen-requires
happen-requires g c =
    let t = before_run g.M.Media.size g.M.Media.state g.S.Shelf.state c.args.name c.args.me c.args.what c.args.media.now c.args.shelf.now
    c.args.world.now c.requires.sound c.requires.fresh c.is_image.ensures in
    record { sound = tt; shaped = t.far.shaped; fits = fits_here t }

pub run_last-requires : goal.run_last-requires
run_last-requires g c =
    let first = before_run g.M.Media.size g.M.Media.state g.S.Shelf.state c.args.name c.args.me c.args.what c.args.media.now c.args.shelf.now
    c.args.world.now c.requires.sound c.requires.fresh c.is_image.ensures in
    let t = goes_on first refl (turned first refl c.happen.new.media c.happen.new.shelf c.happen.new.world c.happen.new.copied
    (Ok tt) c.happen.ensures.size c.happen.ensures.steady c.in-Ok.ensures.says) in
    record { sound = c.requires.sound; shaped = t.far.shaped; fits = fits_here t }

pub returns-in-Err : goal.returns-in-Err
returns-in-Err g c =
    let first = before_run g.M.Media.size g.M.Media.state g.S.Shelf.state c.args.name c.args.me c.args.what c.args.media.now c.args.shelf.now
    c.args.world.now c.requires.sound c.requires.fresh c.is_image.ensures in
    let x = ends_alone first refl (none_before c.args.world.now c.requires.fresh) tt c.happen.new.media c.happen.new.shelf c.happen.new.copied
    c.happen.ensures.size c.happen.ensures.steady (Err c.in-Err.fault) c.happen.new.world c.in-Err.ensures.says c.in-Err.ensures.same
    (λ ok. absurd cc) in
    record { ended = x.ended; same = x.same; steady = x.steady; shelf = x.shelf_steady }

pub returns-then-last_stops : goal.returns-then-last_stops
returns-then-last_stops g c =
    let first = before_run g.M.Media.size g.M.Media.state g.S.Shelf.state c.args.name c.args.me c.args.what c.args.media.now c.args.shelf.now
    c.args.world.now c.requires.sound c.requires.fresh c.is_image.ensures in
    let stops : last_stops c.happen.new.world.journal ≡ true = sym (c.last_stops.ensures ∙ ap last_stops c.journal.ensures) ∙ c.if-last_stops.true in
    let x = ends_alone first refl (none_before c.args.world.now c.requires.fresh) tt c.happen.new.media c.happen.new.shelf c.happen.new.copied
    c.happen.ensures.size c.happen.ensures.steady (Ok tt) c.happen.new.world c.in-Ok.ensures.says (λ run. tt)
    (λ ok last. absurd (false≢true (sym last ∙ stops))) in
    record { ended = x.ended; same = x.same; steady = x.steady; shelf = x.shelf_steady }

pub returns : goal.returns
returns g c =
    let first = before_run g.M.Media.size g.M.Media.state g.S.Shelf.state c.args.name c.args.me c.args.what c.args.media.now c.args.shelf.now
    c.args.world.now c.requires.sound c.requires.fresh c.is_image.ensures in
    let none = none_before c.args.world.now c.requires.fresh in
    let one = turned first refl c.happen.new.media c.happen.new.shelf c.happen.new.world c.happen.new.copied (Ok tt) c.happen.ensures.size c.happen.ensures.steady c.in-Ok.ensures.says in
    let goes = none_stops c.happen.new.world.journal (done_goes_on one tt none) (sym (c.last_stops.ensures ∙ ap last_stops c.journal.ensures) ∙ c.if-last_stops.false) in
    let last = c.run_last.new in
    let x = shown_alone (goes_on first refl one) refl goes tt last.media last.shelf last.copied c.run_last.ensures.size c.run_last.ensures.steady
    c.run_last.result last.world c.run_last.ensures.says (λ run. c.run_last.ensures.same) refl in
    record { ended = x.ended; same = x.same; steady = x.steady; shelf = x.shelf_steady }
