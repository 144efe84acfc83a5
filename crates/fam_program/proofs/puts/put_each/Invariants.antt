use Rattle.std.proofs.Common.{◌≡◌, ◌≤◌, drop, length, take}
use Rattle.fam_media.specs.States.{change}
use Rattle.fam_journal.specs.Names.{NameDeclared}
use Rattle.fam_outcomes.specs.Texts.{names_behind, render_behind}
use Rattle.fam_notes.specs.Notes.{notes_view}
use Rattle.fam_program.specs.Puts.{PutWhole}
use Rattle.fam_program.proofs.puts.put_each.Given as goal

abbrev pub invariant-notes : goal.invariant-notes
invariant-notes g l = record {
  named : NameDeclared (length l.names.items) (notes_view (drop l.note-index l.notes));
  names : l.names.items ≡ names_behind l.fn.names.items (take l.note-index (notes_view l.notes));
  put : PutWhole (render_behind l.fn.names.items (take l.note-index (notes_view l.notes))) (change g.K.Sink.state l.fn.out l.out);
  later : (g.K.Sink.state l.fn.out).faults ≤ (g.K.Sink.state l.out).faults;
}
