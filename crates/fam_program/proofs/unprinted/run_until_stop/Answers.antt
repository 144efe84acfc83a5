use Rattle.std.proofs.Common.{◌≡◌, true, suc, length, Ok, Err, arith, ap, subst, sym, ◌∙◌}
use Rattle.std.specs.List.{list_any}
use Rattle.std.proofs.lemmas.Bool.{false≢true}
use Rattle.std.proofs.lemmas.List.{nil_from_length}
use Rattle.fam_journal.specs.View.{WorldView}
use Rattle.fam_outcomes.specs.Statuses.{last_stops, note_stops}
use Rattle.fam_program.specs.Far.{base_of, now_of}
use Rattle.fam_program.specs.Unprinted.{AreShotEvents}
use Rattle.fam_program.proofs.Commands.ImageLeft.{done_spares}
use Rattle.fam_program.proofs.Runs.Stops.{all_go, none_stops}
use Rattle.fam_program.proofs.Runs.Turns.{all_passed, first_turns, fits_here, goes_on, next_sound, steady_here, turned}
use Rattle.fam_program.proofs.Runs.TurnedEnds.{done_ends, done_far, done_goes_on, fault_ends, fault_goes_on, fault_is_told, fault_leaves, passed_end}
use Rattle.fam_program.proofs.unprinted.run_until_stop.Goals as goal

pub events-init : goal.events-init
events-init g c = record {
  turns = first_turns c.args.media.now c.args.shelf.now c.into_iter-event-iterator.ensures.into_iter_gives.0 c.requires.sound c.requires.fresh c.is_image.ensures;
  shot = subst AreShotEvents (sym c.into_iter-event-iterator.ensures.into_iter_gives.0) c.requires.shot;
  goes = ap (λ (w : WorldView). list_any note_stops w.journal) c.requires.fresh;
}

pub happen-requires : goal.happen-requires
happen-requires g c = record {
  sound = next_sound c.events.invariant.turns c.in-Some.ensures.steps.0;
  shaped = c.events.invariant.turns.far.shaped;
  fits = fits_here c.events.invariant.turns;
}

pub events-preserved : goal.events-preserved
events-preserved g c =
    let t = turned c.events.invariant.turns c.in-Some.ensures.steps.0 c.happen.new.media c.happen.new.shelf c.happen.new.world c.happen.new.copied
    (Ok tt) c.happen.ensures.size c.happen.ensures.steady c.in-Ok.ensures.says in
    let shot = subst AreShotEvents c.in-Some.ensures.steps.0 c.events.invariant.shot in
    record {
      turns = goes_on c.events.invariant.turns c.in-Some.ensures.steps.0 t;
      shot = shot.1;
      goes = none_stops c.happen.new.world.journal (done_goes_on t shot.0 c.events.invariant.goes) (sym (c.last_stops.ensures ∙ ap last_stops c.journal.ensures) ∙ c.if-last_stops.false);
    }

pub returns-then-last_stops : goal.returns-then-last_stops
returns-then-last_stops g c =
    let t = turned c.events.invariant.turns c.in-Some.ensures.steps.0 c.happen.new.media c.happen.new.shelf c.happen.new.world c.happen.new.copied
    (Ok tt) c.happen.ensures.size c.happen.ensures.steady c.in-Ok.ensures.says in
    let shot = subst AreShotEvents c.in-Some.ensures.steps.0 c.events.invariant.shot in
    let stops : last_stops c.happen.new.world.journal ≡ true = sym (c.last_stops.ensures ∙ ap last_stops c.journal.ensures) ∙ c.if-last_stops.true in
    record {
      ended = λ sink. record {
        count = suc (length c.events.yielded);
        ended = done_ends t sink;
        goes_on = done_goes_on t shot.0 c.events.invariant.goes;
        all = λ h. absurd (false≢true (sym h ∙ stops));
      };
      same = λ one lacks. done_spares
          (base_of c.args.events.items (g.M.Media.size c.args.media.now) (g.M.Media.state c.args.media.now) (g.S.Shelf.state c.args.shelf.now)) one
          (suc (length c.events.yielded))
          (now_of c.happen.new.world (g.M.Media.state c.happen.new.media) c.happen.new.copied) (done_far t) lacks;
      steady = t.steady;
      shelf = t.shelf_steady;
    }

pub returns-in-Err : goal.returns-in-Err
returns-in-Err g c =
    let t = turned c.events.invariant.turns c.in-Some.ensures.steps.0 c.happen.new.media c.happen.new.shelf c.happen.new.world c.happen.new.copied
    (Err c.in-Err.fault) c.happen.ensures.size c.happen.ensures.steady c.in-Err.ensures.says in
    let shot = subst AreShotEvents c.in-Some.ensures.steps.0 c.events.invariant.shot in
    record {
      ended = λ sink. (fault_ends t sink, fault_goes_on t shot.0 c.events.invariant.goes, fault_is_told t shot.0 c.events.invariant.goes);
      same = λ one lacks. fault_leaves t one c.in-Err.ensures.same;
      steady = t.steady;
      shelf = t.shelf_steady;
    }

pub returns : goal.returns
returns g c =
    let t = c.events.invariant.turns in
    let all = all_passed t (nil_from_length c.events.event-iterator.rest.items (let ok = c.events.event-iterator.rest.ok in let none = c.in-None.ensures.steps.0 in omega (arith, ok, none))) in
    record {
      ended = λ sink. record {
        count = length c.events.yielded;
        ended = passed_end t sink;
        goes_on = all_go c.events.world.journal c.events.invariant.goes;
        all = λ h. all;
      };
      same = λ one lacks. done_spares
          (base_of c.args.events.items (g.M.Media.size c.args.media.now) (g.M.Media.state c.args.media.now) (g.S.Shelf.state c.args.shelf.now)) one
          (length c.events.yielded)
          (now_of c.events.world (g.M.Media.state c.events.media) c.events.copied) t.far lacks;
      steady = steady_here t;
      shelf = t.shelf_steady;
    }
