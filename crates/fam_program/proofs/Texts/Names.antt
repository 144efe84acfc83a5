-- Notes from a place on, and the names of hosts that are declared before and behind it.
use Rattle.std.proofs.Common.{◌≡◌, ℕ, ◌+◌, ◌-◌, ◌<◌, get_or, List, [], ◌∷◌, ◌++◌, length, take, drop, refl, ap, sym, ◌∙◌, subst, arith}
use Rattle.std.proofs.lemmas.List.{append-nil, append_assoc, drop-map, length-append, length-drop, map_more, take-append-drop, take-map, take_all}
use Rattle.fam_journal.specs.Names.{NameDeclared, declared_after}
use Rattle.fam_journal.specs.Notes.{Note, Host}
use Rattle.fam_outcomes.specs.Texts.{names_after, names_behind, note_line, render_behind}
use Rattle.fam_notes.specs.declared.note.Note.{Note as Kept}
use Rattle.fam_notes.specs.Notes.{note_view, notes_view}

pub notes_from : (kept : List Kept) (from : ℕ) (journal : List Note) → notes_view kept ≡ journal → notes_view (take (length kept - from) (drop from kept)) ≡ drop from journal
notes_from kept from journal is =
    ap notes_view (take_all (length kept - from) (drop from kept) (let rest = length-drop from kept in omega (arith, rest))) ∙ sym (drop-map note_view from kept) ∙ ap (drop from) is

-- a note declares as many hosts as it adds names
name_count : (names : List (List ℕ)) (note : Note) → length (names_after names note) ≡ declared_after (length names) note
name_count names (Host name uuid) = length-append names (name ∷ [])
name_count names e = refl

named_rest : (names : List (List ℕ)) (a b : List Note) → NameDeclared (length names) (a ++ b) → NameDeclared (length (names_behind names a)) b
named_rest names [] b named = named
named_rest names (note ∷ a) b named = named_rest (names_after names note) a b (subst (λ (n : ℕ). NameDeclared n (a ++ b)) (sym (name_count names note)) named.1)

pub names_both : (names : List (List ℕ)) (a b : List Note) → names_behind names (a ++ b) ≡ names_behind (names_behind names a) b
names_both names [] b = refl
names_both names (note ∷ a) b = names_both (names_after names note) a b

module _ (journal : List Note) (from : ℕ) (names : List (List ℕ)) (names_are : names ≡ names_behind [] (take from journal)) where
  whole : take from journal ++ drop from journal ≡ journal
  whole = take-append-drop from journal

  -- the notes from there on name hosts that are declared
  pub named_from : NameDeclared 0 journal → NameDeclared (length names) (drop from journal)
  named_from named =
      subst (λ (ns : List (List ℕ)). NameDeclared (length ns) (drop from journal)) (sym names_are)
      (named_rest [] (take from journal) (drop from journal) (subst (NameDeclared 0) (sym whole) named))

  -- and behind them all names are known
  pub names_all : names_behind names (drop from journal) ≡ names_behind [] journal
  names_all =
      ap (λ (ns : List (List ℕ)). names_behind ns (drop from journal)) names_are
      ∙ sym (names_both [] (take from journal) (drop from journal))
      ∙ ap (names_behind []) whole

-- The text of a list's first notes, and the names behind them.

-- the text of notes, one behind another
text_both : (names : List (List ℕ)) (a b : List Note) → render_behind names (a ++ b) ≡ render_behind names a ++ render_behind (names_behind names a) b
text_both names [] b = refl
text_both names (note ∷ a) b =
    ap (λ (t : List ℕ). note_line names note ++ t) (text_both (names_after names note) a b)
    ∙ sym (append_assoc (note_line names note) (render_behind (names_after names note) a) (render_behind (names_behind (names_after names note) a) b))

-- it is the front of the text of all
pub text_front : (names : List (List ℕ)) (notes : List Note) (k : ℕ) → render_behind names notes ≡ render_behind names (take k notes)
    ++ render_behind (names_behind names (take k notes)) (drop k notes)
text_front names notes k = ap (render_behind names) (sym (take-append-drop k notes)) ∙ text_both names (take k notes) (drop k notes)

-- one note more
module _ (kept : List Kept) (i : ℕ) (note : Kept) (below : i < length kept) (is : note ≡ get_or kept i note) where
  one_taken : take (i + 1) (notes_view kept) ≡ take i (notes_view kept) ++ note_view note ∷ []
  one_taken =
      take-map note_view (i + 1) kept
      ∙ map_more note_view kept i note below
      ∙ ap (λ (x : Kept). notes_view (take i kept) ++ note_view x ∷ []) (sym is)
      ∙ ap (λ (ns : List Note). ns ++ note_view note ∷ []) (sym (take-map note_view i kept))

  module _ (first names : List (List ℕ)) (names_are : names ≡ names_behind first (take i (notes_view kept))) where
    pub text_taken : render_behind first (take (i + 1) (notes_view kept)) ≡ render_behind first (take i (notes_view kept)) ++ note_line names (note_view note)
    text_taken =
        ap (render_behind first) one_taken
        ∙ text_both first (take i (notes_view kept)) (note_view note ∷ [])
        ∙ ap (λ (t : List ℕ). render_behind first (take i (notes_view kept)) ++ t) (append-nil (note_line (names_behind first (take i (notes_view kept))) (note_view note)))
        ∙ ap (λ (ns : List (List ℕ)). render_behind first (take i (notes_view kept)) ++ note_line ns (note_view note)) (sym names_are)

    pub names_taken : (new : List (List ℕ)) → new ≡ names_after names (note_view note) → new ≡ names_behind first (take (i + 1) (notes_view kept))
    names_taken new new_is =
        new_is
        ∙ ap (λ (ns : List (List ℕ)). names_after ns (note_view note)) names_are
        ∙ sym (ap (names_behind first) one_taken ∙ names_both first (take i (notes_view kept)) (note_view note ∷ []))
