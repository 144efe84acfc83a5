use Rattle.std.proofs.Common.{[], length, drop, option_map, Ok, Err, arith, ap, subst, sym, ◌∙◌}
use Rattle.std.proofs.lemmas.List.{nil_from_length}
use Rattle.fam_media.specs.Outside.{with_piece}
use Rattle.fam_media.specs.States.{change}
use Rattle.fam_journal.specs.View.{WorldView}
use Rattle.fam_outcomes.specs.Texts.{names_behind, render}
use Rattle.fam_program.specs.Runs.{outside_of}
use Rattle.fam_program.specs.Scripts.{ScriptRan}
use Rattle.fam_program.proofs.Runs.Passed.{none_put}
use Rattle.fam_program.proofs.Runs.Turns.{all_passed, first_turns, fits_here, goes_on, next_sound, steady_here, turned}
use Rattle.fam_program.proofs.Scripts.Turned.{all_named, all_put, failed_put, from_within, notes_before, short_put, stop_put, text_put}
use Rattle.fam_program.proofs.Texts.Pieces.{short_some}
use Rattle.fam_program.proofs.script.run_script.Goals as goal

pub events-init : goal.events-init
events-init g c = record {
  turns = first_turns c.args.media.now c.args.shelf.now c.into_iter-event-iterator.ensures.into_iter_gives.0 c.requires.sound c.new-world.ensures c.is_image.ensures;
  names = c.new-names.ensures.items ∙ ap (λ (w : WorldView). names_behind [] w.journal) (sym c.new-world.ensures);
  put = none_put (g.K.Sink.state c.args.out.now).bytes ∙ ap (λ (w : WorldView). option_map (with_piece (render w.journal)) (g.K.Sink.state c.args.out.now).bytes) (sym c.new-world.ensures);
  later = omega arith;
}

pub happen-requires : goal.happen-requires
happen-requires g c = record {
  sound = next_sound c.events.invariant.turns c.in-Some.ensures.steps.0;
  shaped = c.events.invariant.turns.far.shaped;
  fits = fits_here c.events.invariant.turns;
}

pub put_stop-requires : goal.put_stop-requires
put_stop-requires g c =
    let t = turned c.events.invariant.turns c.in-Some.ensures.steps.0 c.happen.new.media c.happen.new.shelf c.happen.new.world c.happen.new.copied
    (Err c.in-Err.fault) c.happen.ensures.size c.happen.ensures.steady c.in-Err.ensures.says in
    record {
      within = from_within g.K.Sink.state c.args.out.now t c.journal-from.result.now c.journal-from.ensures;
      named = all_named g.K.Sink.state c.args.out.now t;
      names = c.events.invariant.names ∙ ap (names_behind []) (sym (notes_before g.K.Sink.state c.args.out.now t c.journal-from.result.now c.journal-from.ensures));
    }

pub put_notes-requires : goal.put_notes-requires
put_notes-requires g c =
    let t = turned c.events.invariant.turns c.in-Some.ensures.steps.0 c.happen.new.media c.happen.new.shelf c.happen.new.world c.happen.new.copied
    (Ok tt) c.happen.ensures.size c.happen.ensures.steady c.in-Ok.ensures.says in
    record {
      within = from_within g.K.Sink.state c.args.out.now t c.journal-from.result.now c.journal-from.ensures;
      named = all_named g.K.Sink.state c.args.out.now t;
      names = c.events.invariant.names ∙ ap (names_behind []) (sym (notes_before g.K.Sink.state c.args.out.now t c.journal-from.result.now c.journal-from.ensures));
    }

pub events-preserved : goal.events-preserved
events-preserved g c =
    let t = turned c.events.invariant.turns c.in-Some.ensures.steps.0 c.happen.new.media c.happen.new.shelf c.happen.new.world c.happen.new.copied
    (Ok tt) c.happen.ensures.size c.happen.ensures.steady c.in-Ok.ensures.says in
    record {
      turns = goes_on c.events.invariant.turns c.in-Some.ensures.steps.0 t;
      names = c.in-Ok-put_notes.ensures.names;
      put = text_put g.K.Sink.state c.args.out.now t c.journal-from.result.now c.journal-from.ensures c.events.names.items c.events.invariant.names
          c.events.out c.put_notes.new.out c.events.invariant.put c.in-Ok-put_notes.ensures.put;
      later = let x = c.events.invariant.later in let y = c.put_notes.ensures.later in omega (arith, x, y);
    }

pub returns-in-Err : goal.returns-in-Err
returns-in-Err g c =
    let t = turned c.events.invariant.turns c.in-Some.ensures.steps.0 c.happen.new.media c.happen.new.shelf c.happen.new.world c.happen.new.copied
    (Err c.in-Err.fault) c.happen.ensures.size c.happen.ensures.steady c.in-Err.ensures.says in
    record {
      ran = stop_put g.K.Sink.state c.args.out.now c.journal-from.result.now c.journal-from.ensures c.events.names.items c.events.invariant.names
          c.events.out c.put_stop.new.out c.events.invariant.later c.events.invariant.put t c.put_stop.ensures.says;
      steady = t.steady;
      shelf = t.shelf_steady;
      later = let x = c.events.invariant.later in let y = c.put_stop.ensures.later in omega (arith, x, y);
    }

pub returns-in-Err-Sink : goal.returns-in-Err-Sink
returns-in-Err-Sink g c =
    let t = turned c.events.invariant.turns c.in-Some.ensures.steps.0 c.happen.new.media c.happen.new.shelf c.happen.new.world c.happen.new.copied
    (Ok tt) c.happen.ensures.size c.happen.ensures.steady c.in-Ok.ensures.says in
    record {
      ran = failed_put g.K.Sink.state c.args.out.now c.journal-from.result.now c.journal-from.ensures c.events.names.items c.events.invariant.names
          c.events.out c.put_notes.new.out c.events.invariant.later c.events.invariant.put t
          (c.put_notes.ensures.part (c.in-Err-Sink.is ∙ ap Err c.in-Err-Sink.field-0-is));
      steady = t.steady;
      shelf = t.shelf_steady;
      later = let x = c.events.invariant.later in let y = c.put_notes.ensures.later in omega (arith, x, y);
    }

pub returns-in-Err-OutOfMemory : goal.returns-in-Err-OutOfMemory
returns-in-Err-OutOfMemory g c =
    let t = turned c.events.invariant.turns c.in-Some.ensures.steps.0 c.happen.new.media c.happen.new.shelf c.happen.new.world c.happen.new.copied
    (Ok tt) c.happen.ensures.size c.happen.ensures.steady c.in-Ok.ensures.says in
    record {
      ran = short_put g.K.Sink.state c.args.out.now c.journal-from.result.now c.journal-from.ensures c.events.names.items c.events.invariant.names
          c.events.out c.put_memory.new.out c.events.invariant.later c.events.invariant.put t
          (short_some c.events.names.items (drop (length c.journal-from.result.now) c.happen.new.world.journal) (g.K.Sink.state c.events.out)
          (g.K.Sink.state c.put_notes.new.out) (g.K.Sink.state c.put_memory.new.out)
          c.put_notes.ensures.later c.put_memory.result (c.put_notes.ensures.some (c.in-Err-OutOfMemory.is ∙ ap Err c.in-Err-OutOfMemory.field-0-is)) c.put_memory.ensures.put);
      steady = t.steady;
      shelf = t.shelf_steady;
      later = let x = c.events.invariant.later in let y = c.put_notes.ensures.later in let z = c.put_memory.ensures.later in omega (arith, x, y, z);
    }

pub returns : goal.returns
returns g c =
    let t = c.events.invariant.turns in
    let all = all_passed t (nil_from_length c.events.event-iterator.rest.items (let ok = c.events.event-iterator.rest.ok in let none = c.in-None.ensures.steps.0 in omega (arith, ok, none))) in
    record {
      ran =
          subst (ScriptRan c.args.events.items
          (outside_of g.M.Media.size g.M.Media.state c.args.media.now c.events.media (change g.S.Shelf.state c.args.shelf.now c.events.shelf)
          (change g.K.Sink.state c.args.out.now c.events.out)))
          (sym c.end_status.ensures) (all_put g.K.Sink.state c.args.out.now t all c.events.out c.events.invariant.put);
      steady = steady_here t;
      shelf = t.shelf_steady;
      later = c.events.invariant.later;
    }
