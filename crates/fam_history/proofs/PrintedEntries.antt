-- An entry in print reads as it is.
use Rattle.std.proofs.Common.{◌≡◌, ℕ, ◌^◌, ◌<◌, [], ◌∷◌, ◌++◌, Some, refl, ap, ◌∙◌, arith, decimal}
use Rattle.fam_base.specs.declared.entry.Entry.{Entry}
use Rattle.fam_base.specs.Escapes.{escaped}
use Rattle.fam_tree.specs.Lines.{entry_line, entry_words, kind_letter, map_text, mode_text}
use Rattle.fam_tree.specs.Listings.{IsListed}
use Rattle.fam_grammar.specs.Reading.{Reads}
use Rattle.fam_grammar.specs.Spellings.{id_of}
use Rattle.fam_grammar.specs.Words.{words_from}
use Rattle.fam_grammar.proofs.Joined.{AreWords, joined_words, placed}
use Rattle.fam_grammar.proofs.Respelled.{below-some, decimal_word, mode-mode_text, mode_no_blank, number-decimal, path-escaped, path_word}
use Rattle.fam_history.specs.ListedEntries.{listed_entry}
use Rattle.fam_history.proofs.ListedWords.{kind_back, kind_is, map_back, map_is}
use Rattle.fam_history.proofs.Spaced.{joined, spaced}

pub entry_are : (e : Entry) → IsListed e → AreWords (entry_words e)
entry_are e is = (
  kind_is e.kind,
  (
    mode_no_blank e.mode,
    (
      decimal_word e.uid (omega (arith, is.uid)),
      (
        decimal_word e.gid (omega (arith, is.gid)),
        (decimal_word e.size is.size, (map_is e.map e.extents is.map is.extents, (path_word e.path is.path, tt))),
      ),
    ),
  ),
)

-- a user or a group
id_back : (n : ℕ) → n < 2 ^ 32 → id_of (decimal n) ≡ Some n
id_back n small = rw (number-decimal n (omega arith)) (below-some (2 ^ 32) n small)

-- its words are read as the entry
pub entry_placed : (e : Entry) (column end : ℕ) → IsListed e → listed_entry end (placed column (entry_words e)) ≡ Reads e []
unfolding listed_entry
entry_placed e column end is =
    rw (
      kind_back e.kind,
      mode-mode_text e.mode is.mode,
      id_back e.uid is.uid,
      id_back e.gid is.gid,
      number-decimal e.size is.size,
      map_back e.map e.extents is.map is.extents,
      path-escaped e.path is.path,
    ) refl

-- the line is the words with a space between
pub entry_spaced : (e : Entry) → entry_line e ≡ kind_letter e.kind
    ++ spaced (mode_text e.mode ∷ decimal e.uid ∷ decimal e.gid ∷ decimal e.size ∷ map_text e.map e.extents ∷ escaped e.path ∷ [])
unfolding entry_line
entry_spaced e = joined (kind_letter e.kind) (mode_text e.mode ∷ decimal e.uid ∷ decimal e.gid ∷ decimal e.size ∷ map_text e.map e.extents ∷ escaped e.path ∷ [])

line_words : (e : Entry) (column : ℕ) → IsListed e → words_from column (entry_line e) ≡ placed column (entry_words e)
unfolding entry_line
line_words e column is = joined_words column (entry_words e) (entry_are e is)

pub entry_reads : (e : Entry) (column end : ℕ) → IsListed e → listed_entry end (words_from column (entry_line e)) ≡ Reads e []
entry_reads e column end is = ap (listed_entry end) (line_words e column is) ∙ entry_placed e column end is
