use Rattle.std.proofs.Common.{◌++◌, [], ℕ, List, append-nil, refl, sym, ap, subst, ◌∙◌, length}
use Rattle.std.proofs.lemmas.List.{at_drop_all}
use Rattle.fam_crc.specs.Crc.{crc32}
use Rattle.fam_journal.specs.Names.{NameDeclared}
use Rattle.fam_outcomes.specs.Texts.{render_behind}
use Rattle.fam_notes.specs.declared.note.Note.{Note}
use Rattle.fam_notes.specs.Notes.{notes_view}
use Rattle.fam_script.proofs.Printing.{are_named, crc_of_none, is_named, line_put, render_is}
use Rattle.fam_script.proofs.texts.text_crc.Goals as goal

pub notes-init : goal.notes-init
notes-init c = record {
  named = subst (λ (names : List (List ℕ)). NameDeclared (length names) (notes_view c.args.notes.now)) (sym c.new-names.ensures.items) c.requires;
  so_far = ([], crc_of_none, ap (λ (names : List (List ℕ)). render_behind names (notes_view c.args.notes.now)) c.new-names.ensures.items ∙ render_is (notes_view c.args.notes.now));
}

pub note_line-requires : goal.note_line-requires
note_line-requires c =
    is_named c.args.notes.now c.notes.note-index c.note-item.result c.notes-test.true c.note-item.is c.notes.names.items c.notes.invariant.named

pub notes-preserved : goal.notes-preserved
notes-preserved c =
    let old = c.notes.invariant.so_far in record {
      named = are_named c.args.notes.now c.notes.note-index c.note-item.result c.notes-test.true c.note-item.is c.notes.names.items
          c.notes.invariant.named c.note_line.new.names.items c.in_ok-line.ensures.names;
      so_far = (
        old.0 ++ c.as_slice.result.now,
        sym (c.crc_more-crc.ensures.more old.0 old.1),
        line_put c.args.notes.now c.notes.note-index c.note-item.result c.notes-test.true c.note-item.is c.notes.names.items
            c.note_line.new.names.items old.0 c.as_slice.result.now (old.0 ++ c.as_slice.result.now) _ c.in_ok-line.ensures.names
            (c.as_slice.ensures.value ∙ c.in_ok-line.ensures.line) refl old.2,
      );
    }

pub returns : goal.returns
returns c =
    let old = c.notes.invariant.so_far in
    let all = at_drop_all (λ (l : List Note). old.0 ++ render_behind c.notes.names.items (notes_view l)) c.args.notes.now c.notes.note-index c.notes-test.false in
    sym old.1 ∙ ap crc32 (sym (all ∙ append-nil old.0) ∙ old.2)
