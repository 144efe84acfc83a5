use Rattle.std.proofs.Common.{ℕ, ◌+◌, List, option_map, take, drop, arith, refl, ap, subst, sym, ◌∙◌}
use Rattle.fam_media.specs.Outside.{with_piece}
use Rattle.fam_media.specs.States.{change, SinkChange}
use Rattle.fam_outcomes.specs.Texts.{names_behind, note_line, render_behind}
use Rattle.fam_notes.specs.Notes.{note_view, notes_view}
use Rattle.fam_script.proofs.Printing.{are_named, is_named}
use Rattle.fam_program.specs.Puts.{PutPart}
use Rattle.fam_program.proofs.Texts.Names.{names_taken, text_front, text_taken}
use Rattle.fam_program.proofs.Texts.Pieces.{nothing_put, part_both, part_longer, whole_both}
use Rattle.fam_program.proofs.puts.put_each.Goals as goal

pub notes-init : goal.notes-init
notes-init g c = record { named = c.requires; names = refl; put = nothing_put (g.K.Sink.state c.args.out.now).bytes; later = omega arith }

pub put_note-requires : goal.put_note-requires
put_note-requires g c =
    is_named c.args.notes.now c.notes.note-index c.note-item.result c.notes-test.true c.note-item.is c.notes.names.items c.notes.invariant.named

pub notes-preserved : goal.notes-preserved
notes-preserved g c =
    let inv = c.notes.invariant in
    let taken = text_taken c.args.notes.now c.notes.note-index c.note-item.result c.notes-test.true c.note-item.is c.args.names.now.items c.notes.names.items inv.names in
    record {
      named = are_named c.args.notes.now c.notes.note-index c.note-item.result c.notes-test.true c.note-item.is c.notes.names.items inv.named c.put_note.new.names.items c.in-Ok.ensures.names;
      names = names_taken c.args.notes.now c.notes.note-index c.note-item.result c.notes-test.true c.note-item.is c.args.names.now.items
          c.notes.names.items inv.names c.put_note.new.names.items c.in-Ok.ensures.names;
      put =
          whole_both (render_behind c.args.names.now.items (take c.notes.note-index (notes_view c.args.notes.now)))
          (note_line c.notes.names.items (note_view c.note-item.result)) (g.K.Sink.state c.args.out.now) (g.K.Sink.state c.notes.out)
          (g.K.Sink.state c.put_note.new.out) inv.later inv.put c.in-Ok.ensures.put
          ∙ ap (λ (t : List ℕ). option_map (with_piece t) (g.K.Sink.state c.args.out.now).bytes) (sym taken);
      later = let x = inv.later in let y = c.put_note.ensures.later in omega (arith, x, y);
    }

pub returns-in-Err-clause-part : goal.returns-in-Err-clause-part
returns-in-Err-clause-part g c = λ e.
    let inv = c.notes.invariant in
    let s : SinkChange = change g.K.Sink.state c.args.out.now c.put_note.new.out in
    let front : List ℕ = render_behind c.args.names.now.items (take (c.notes.note-index + 1) (notes_view c.args.notes.now)) in
    let taken = text_taken c.args.notes.now c.notes.note-index c.note-item.result c.notes-test.true c.note-item.is c.args.names.now.items c.notes.names.items inv.names in
    let part = part_both (render_behind c.args.names.now.items (take c.notes.note-index (notes_view c.args.notes.now)))
    (note_line c.notes.names.items (note_view c.note-item.result)) (g.K.Sink.state c.args.out.now) (g.K.Sink.state c.notes.out)
    (g.K.Sink.state c.put_note.new.out) inv.later inv.put (c.in-Err.ensures.part e) in
    subst (λ (t : List ℕ). PutPart t s) (sym (text_front c.args.names.now.items (notes_view c.args.notes.now) (c.notes.note-index + 1)))
    (part_longer front (render_behind (names_behind c.args.names.now.items (take (c.notes.note-index + 1) (notes_view c.args.notes.now)))
    (drop (c.notes.note-index + 1) (notes_view c.args.notes.now))) s
    (subst (λ (t : List ℕ). PutPart t s) (sym taken) part))

pub returns-in-Err-clause-some : goal.returns-in-Err-clause-some
returns-in-Err-clause-some g c = λ e. (c.notes.note-index, ap (λ k. (g.K.Sink.state k).bytes) (c.in-Err.ensures.undone e) ∙ c.notes.invariant.put)
