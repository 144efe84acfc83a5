use Rattle.std.proofs.Common.{◌≡◌, ◌++◌, ℕ, List, refl, subst, ap, ◌∙◌}
use Rattle.std.specs.Prelude.{OnOk}
use Rattle.fam_base.specs.declared.entry.Entry.{Entry}
use Rattle.fam_tree.specs.Borrowed.{made_of}
use Rattle.fam_tree.specs.FirstWords.{first_words}
use Rattle.fam_tree.specs.Lines.{kind_letter, mode_text}
use Rattle.fam_tree.proofs.Words.{six_words, words_are}
use Rattle.fam_tree.proofs.lines.put_first_words.Goals as goal

pub returns : goal.returns
returns c =
    let e = c.args.entry.now in
    let own : Entry = made_of c.kind.result c.map.result c.size.result c.mode.result c.uid.result c.gid.result e.path c.extents.result.now in
    let same : own ≡ e = rw (c.kind.ensures, c.map.ensures, c.size.ensures, c.mode.ensures, c.uid.ensures, c.gid.ensures, c.extents.ensures.same) refl in
    let line = six_words c.args.into.now.items (kind_letter own.kind) (mode_text own.mode) _ _ _ _ _ _ _ _ _ _ _ _
    c.in_ok-put_kind_and_mode.ensures c.in_ok-put_decimal.ensures c.in_ok-put_byte.ensures c.in_ok-put_decimal-2.ensures c.in_ok-put_byte-2.ensures
    c.in_ok-put_decimal-3.ensures c.in_ok-put_byte-3.ensures c.in_ok-put_map.ensures in
    subst (λ (l : List ℕ). OnOk c.put_byte-4.result (c.put_byte-4.new.into.items ≡ l))
    (line ∙ ap (λ (l : List ℕ). c.args.into.now.items ++ l) (words_are own) ∙ ap (λ (w : Entry). c.args.into.now.items ++ first_words w) same) c.put_byte-4.ensures
