use Rattle.std.proofs.Common.{◌≡◌, ◌+◌, List, length, drop, Some, Ok, Err, refl, arith, ap, subst, sym, ◌∙◌}
use Rattle.std.specs.Prelude.{slice_get}
use Rattle.std.proofs.lemmas.Option.{slice_get-get_or}
use Rattle.fam_mail.proofs.Counting.{both_counted, none_counted}
use Rattle.fam_mail.specs.declared.note.MailNote.{MailNote}
use Rattle.fam_mail_script.specs.Texts.{mail_text}
use Rattle.fam_media.specs.States.{change}
use Rattle.fam_program.specs.Puts.{PutWhole}
use Rattle.fam_program.proofs.Texts.Pieces.{nothing_put}
use Rattle.fam_mailbox.proofs.Found.{proper_entry}
use Rattle.fam_mailbox.proofs.Running.{all_ran, counted_whole, cut_ran, first_going, from_within, goes_on, noted, part_put, short_put, short_ran, sink_ran, text_put}
use Rattle.fam_mailbox.specs.Runs.{PutsFirst, PutsPart}
use Rattle.fam_mailbox.proofs.LastEvents.{ends_in}
use Rattle.fam_mailbox.proofs.Rendering.{short_some}
use Rattle.fam_mailbox.proofs.run.run_mail.Goals as goal

pub new-world-requires : goal.new-world-requires
new-world-requires g c = record { file = proper_entry (g.M.Media.size c.args.media.now) c.args.entry.now c.requires.placed; room = c.requires.room }

pub events-init : goal.events-init
events-init g c = record {
  going =
      first_going g.M.Media.size g.M.Media.state c.args.entry.now c.args.events.now c.args.media.now c.new-world.result c.new-world.ensures.entry c.new-world.ensures.hosts
      c.new-world.ensures.journal c.requires.placed c.requires.room (g.met.M.Media.normal c.args.media.now)
      (λ image is. sym (g.met.M.Media.modelled c.args.media.now image is)) c.requires.reads;
  exactly = λ exact. none_counted _ _ _ _ c.new-world.ensures.journal refl;
  put = subst (λ (ns : List MailNote). PutWhole (mail_text ns) (change g.K.Sink.state c.args.out.now c.args.out.now)) (sym c.new-world.ensures.journal)
      (nothing_put (g.K.Sink.state c.args.out.now).bytes);
  later = omega arith;
}

pub happen-requires : goal.happen-requires
happen-requires g c = record { fits = c.events.invariant.going.fits }

pub put_cut-requires : goal.put_cut-requires
put_cut-requires g c =
    let n = noted g.M.Media.state c.events.media c.happen.new.media c.event-item.result c.events.world c.happen.new.self c.happen.result c.happen.ensures.says in
    record {
      within = from_within g.M.Media.size g.M.Media.state c.args.entry.now c.args.events.now c.args.media.now c.events.event-index c.events.media c.happen.new.media c.events.world
          c.happen.new.self c.events.invariant.going n (length c.journal-from.result.now) (ap (λ (ns : List MailNote). length ns) c.journal-from.ensures);
    }

pub put_notes-requires : goal.put_notes-requires
put_notes-requires g c =
    let n = noted g.M.Media.state c.events.media c.happen.new.media c.event-item.result c.events.world c.happen.new.self c.happen.result c.happen.ensures.says in
    record {
      within = from_within g.M.Media.size g.M.Media.state c.args.entry.now c.args.events.now c.args.media.now c.events.event-index c.events.media c.happen.new.media c.events.world
          c.happen.new.self c.events.invariant.going n (length c.journal-from.result.now) (ap (λ (ns : List MailNote). length ns) c.journal-from.ensures);
    }

pub events-preserved : goal.events-preserved
events-preserved g c =
    let n = noted g.M.Media.state c.events.media c.happen.new.media c.event-item.result c.events.world c.happen.new.self c.happen.result c.happen.ensures.says in
    let is : slice_get c.args.events.now c.events.event-index ≡ Some c.event-item.result = slice_get-get_or c.args.events.now c.events.event-index c.event-item.result c.events-test.true
    ∙ ap Some (sym c.event-item.is) in
    let inv = c.events.invariant in
    record {
      going = goes_on g.M.Media.size g.M.Media.state c.args.entry.now c.args.events.now c.args.media.now c.events.event-index c.events.media c.happen.new.media c.events.world c.happen.new.self
          inv.going n c.event-item.result is c.happen.ensures.steady c.happen.ensures.fits c.in-Ok.ensures.runs;
      exactly = λ exact. both_counted _ _ _ _ _ _ (inv.exactly exact) (c.happen.ensures.counted exact);
      put =
          text_put g.M.Media.size g.M.Media.state c.args.entry.now c.args.events.now c.args.media.now c.events.event-index c.events.media c.happen.new.media c.events.world c.happen.new.self
          inv.going n (length c.journal-from.result.now) (ap (λ (ns : List MailNote). length ns) c.journal-from.ensures)
          (g.K.Sink.state c.args.out.now) (g.K.Sink.state c.events.out) (g.K.Sink.state c.put_notes.new.out) inv.later inv.put c.in-Ok-put_notes.ensures.put;
      later = let x = inv.later in let y = c.put_notes.ensures.later in omega (arith, x, y);
    }

pub returns-in-Err : goal.returns-in-Err
returns-in-Err g c =
    let n = noted g.M.Media.state c.events.media c.happen.new.media c.event-item.result c.events.world c.happen.new.self c.happen.result c.happen.ensures.says in
    let is : slice_get c.args.events.now c.events.event-index ≡ Some c.event-item.result = slice_get-get_or c.args.events.now c.events.event-index c.event-item.result c.events-test.true
    ∙ ap Some (sym c.event-item.is) in
    let inv = c.events.invariant in
    record {
      ran =
          cut_ran g.M.Media.size g.M.Media.state c.args.entry.now c.args.events.now c.args.media.now g.K.Sink.state c.args.out.now c.put_cut.new.out g.M.Media.exact c.events.event-index c.events.media
          c.happen.new.media c.events.world c.happen.new.self c.put_cut.result c.event-item.result (record {})
          (λ exact. counted_whole _ _ _ (both_counted _ _ _ _ _ _ (inv.exactly exact) (c.happen.ensures.counted exact)))
          inv.going n is c.in-Err.ensures.runs
          (short_put g.M.Media.size g.M.Media.state c.args.entry.now c.args.events.now c.args.media.now c.events.event-index c.events.media c.happen.new.media c.events.world c.happen.new.self
          inv.going n (length c.journal-from.result.now) (ap (λ (ns : List MailNote). length ns) c.journal-from.ensures)
          (g.K.Sink.state c.args.out.now) (g.K.Sink.state c.events.out) (g.K.Sink.state c.put_cut.new.out) inv.later inv.put c.put_cut.result c.put_cut.ensures.says)
          (ends_in g.M.Media.size g.M.Media.state c.args.entry.now c.args.events.now c.args.media.now c.events.event-index c.events.media c.happen.new.media c.events.world c.happen.new.self
          inv.going n (length c.journal-from.result.now) (ap (λ (ns : List MailNote). length ns) c.journal-from.ensures)
          c.event-item.result is (Err (record {})) c.in-Err.ensures.runs (PutsFirst c.put_cut.result) (g.K.Sink.state c.args.out.now) (g.K.Sink.state c.events.out)
          (g.K.Sink.state c.put_cut.new.out) inv.later inv.put c.put_cut.ensures.says);
      steady = record { size = c.happen.ensures.steady.size ∙ inv.going.size_is; later = let x = inv.going.later in let y = c.happen.ensures.steady.later in omega (arith, x, y) };
      later = let x = inv.later in let y = c.put_cut.ensures.later in omega (arith, x, y);
    }

pub returns-in-Err-Sink : goal.returns-in-Err-Sink
returns-in-Err-Sink g c =
    let n = noted g.M.Media.state c.events.media c.happen.new.media c.event-item.result c.events.world c.happen.new.self c.happen.result c.happen.ensures.says in
    let is : slice_get c.args.events.now c.events.event-index ≡ Some c.event-item.result = slice_get-get_or c.args.events.now c.events.event-index c.event-item.result c.events-test.true
    ∙ ap Some (sym c.event-item.is) in
    let inv = c.events.invariant in
    record {
      ran =
          sink_ran g.M.Media.size g.M.Media.state c.args.entry.now c.args.events.now c.args.media.now g.K.Sink.state c.args.out.now c.put_notes.new.out g.M.Media.exact (c.events.event-index + 1)
          c.happen.new.media c.happen.new.self
          (λ exact. counted_whole _ _ _ (both_counted _ _ _ _ _ _ (inv.exactly exact) (c.happen.ensures.counted exact)))
          (goes_on g.M.Media.size g.M.Media.state c.args.entry.now c.args.events.now c.args.media.now c.events.event-index c.events.media c.happen.new.media c.events.world c.happen.new.self
          inv.going n c.event-item.result is c.happen.ensures.steady c.happen.ensures.fits c.in-Ok.ensures.runs)
          (part_put g.M.Media.size g.M.Media.state c.args.entry.now c.args.events.now c.args.media.now c.events.event-index c.events.media c.happen.new.media c.events.world c.happen.new.self
          inv.going n (length c.journal-from.result.now) (ap (λ (ns : List MailNote). length ns) c.journal-from.ensures)
          (g.K.Sink.state c.args.out.now) (g.K.Sink.state c.events.out) (g.K.Sink.state c.put_notes.new.out) inv.later inv.put
          (c.put_notes.ensures.part (c.in-Err-Sink.is ∙ ap Err c.in-Err-Sink.field-0-is)))
          (ends_in g.M.Media.size g.M.Media.state c.args.entry.now c.args.events.now c.args.media.now c.events.event-index c.events.media c.happen.new.media c.events.world c.happen.new.self
          inv.going n (length c.journal-from.result.now) (ap (λ (ns : List MailNote). length ns) c.journal-from.ensures)
          c.event-item.result is (Ok tt) c.in-Ok.ensures.runs PutsPart (g.K.Sink.state c.args.out.now) (g.K.Sink.state c.events.out) (g.K.Sink.state c.put_notes.new.out) inv.later inv.put
          (c.put_notes.ensures.part (c.in-Err-Sink.is ∙ ap Err c.in-Err-Sink.field-0-is)));
      steady = record { size = c.happen.ensures.steady.size ∙ inv.going.size_is; later = let x = inv.going.later in let y = c.happen.ensures.steady.later in omega (arith, x, y) };
      later = let x = inv.later in let y = c.put_notes.ensures.later in omega (arith, x, y);
    }

pub returns-in-Err-OutOfMemory : goal.returns-in-Err-OutOfMemory
returns-in-Err-OutOfMemory g c =
    let n = noted g.M.Media.state c.events.media c.happen.new.media c.event-item.result c.events.world c.happen.new.self c.happen.result c.happen.ensures.says in
    let is : slice_get c.args.events.now c.events.event-index ≡ Some c.event-item.result = slice_get-get_or c.args.events.now c.events.event-index c.event-item.result c.events-test.true
    ∙ ap Some (sym c.event-item.is) in
    let inv = c.events.invariant in
    record {
      ran =
          short_ran g.M.Media.size g.M.Media.state c.args.entry.now c.args.events.now c.args.media.now g.K.Sink.state c.args.out.now c.put_memory.new.out g.M.Media.exact (c.events.event-index + 1)
          c.happen.new.media c.happen.new.self c.put_memory.result
          (λ exact. counted_whole _ _ _ (both_counted _ _ _ _ _ _ (inv.exactly exact) (c.happen.ensures.counted exact)))
          (goes_on g.M.Media.size g.M.Media.state c.args.entry.now c.args.events.now c.args.media.now c.events.event-index c.events.media c.happen.new.media c.events.world c.happen.new.self
          inv.going n c.event-item.result is c.happen.ensures.steady c.happen.ensures.fits c.in-Ok.ensures.runs)
          (short_put g.M.Media.size g.M.Media.state c.args.entry.now c.args.events.now c.args.media.now c.events.event-index c.events.media c.happen.new.media c.events.world c.happen.new.self
          inv.going n (length c.journal-from.result.now) (ap (λ (ns : List MailNote). length ns) c.journal-from.ensures)
          (g.K.Sink.state c.args.out.now) (g.K.Sink.state c.events.out) (g.K.Sink.state c.put_memory.new.out) inv.later inv.put c.put_memory.result
          (short_some (drop (length c.journal-from.result.now) c.happen.new.self.journal) (g.K.Sink.state c.events.out) (g.K.Sink.state c.put_notes.new.out) (g.K.Sink.state c.put_memory.new.out)
          c.put_notes.ensures.later c.put_memory.result
          (c.put_notes.ensures.some (c.in-Err-OutOfMemory.is ∙ ap Err c.in-Err-OutOfMemory.field-0-is)) c.put_memory.ensures.put))
          (ends_in g.M.Media.size g.M.Media.state c.args.entry.now c.args.events.now c.args.media.now c.events.event-index c.events.media c.happen.new.media c.events.world c.happen.new.self
          inv.going n (length c.journal-from.result.now) (ap (λ (ns : List MailNote). length ns) c.journal-from.ensures)
          c.event-item.result is (Ok tt) c.in-Ok.ensures.runs (PutsFirst c.put_memory.result) (g.K.Sink.state c.args.out.now) (g.K.Sink.state c.events.out) (g.K.Sink.state c.put_memory.new.out)
          inv.later inv.put
          (short_some (drop (length c.journal-from.result.now) c.happen.new.self.journal) (g.K.Sink.state c.events.out) (g.K.Sink.state c.put_notes.new.out) (g.K.Sink.state c.put_memory.new.out)
          c.put_notes.ensures.later c.put_memory.result
          (c.put_notes.ensures.some (c.in-Err-OutOfMemory.is ∙ ap Err c.in-Err-OutOfMemory.field-0-is)) c.put_memory.ensures.put));
      steady = record { size = c.happen.ensures.steady.size ∙ inv.going.size_is; later = let x = inv.going.later in let y = c.happen.ensures.steady.later in omega (arith, x, y) };
      later = let x = inv.later in let y = c.put_notes.ensures.later in let z = c.put_memory.ensures.later in omega (arith, x, y, z);
    }

pub returns : goal.returns
returns g c =
    let inv = c.events.invariant in
    record {
      ran =
          all_ran g.M.Media.size g.M.Media.state c.args.entry.now c.args.events.now c.args.media.now g.K.Sink.state c.args.out.now c.events.out
          g.M.Media.exact c.events.event-index c.events.media c.events.world
          c.end_status.result (λ exact. counted_whole _ _ _ (inv.exactly exact)) (omega (arith, c.events-test.false)) inv.going c.end_status.ensures inv.put;
      steady = record { size = inv.going.size_is; later = inv.going.later };
      later = inv.later;
    }
