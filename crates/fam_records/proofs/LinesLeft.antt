-- The lines that are left of a text, the first of which is cut off.
use Rattle.std.proofs.Common.{◌≡◌, ℕ, ◌+◌, ◌^◌, ◌<◌, Bool, true, false, cond, List, [], ◌∷◌, length, refl, ap, sym, subst, ◌∙◌, arith}
use Rattle.fam_tree.specs.Cuts.{front, back}
use Rattle.fam_tree.specs.Lines.{line_feed}
use Rattle.fam_tree.specs.Listings.{text_lines}
use Rattle.fam_tree.proofs.Cutting.{back_shorter, lines_more, no_lines}
use Rattle.fam_grammar.specs.Scripts.{AreEvent, AreNoEvent, words_in}
use Rattle.fam_grammar.specs.Words.{Word}
use Rattle.fam_records.specs.Lines.{ALine, NoLine, is_passed, next_from, numbered_line}

is_none : (words : List Word) → AreNoEvent words → is_passed words ≡ true
is_none [] none = refl
is_none (word ∷ words) none = none

is_some : (words : List Word) → AreEvent words → is_passed words ≡ false
is_some [] some = absurd some
is_some (word ∷ words) some = some

-- no line is left
pub none_left : (bytes : List ℕ) → length bytes ≡ 0 → text_lines bytes ≡ []
none_left [] none = no_lines
none_left (byte ∷ bytes) none = absurd (omega (arith, none))

-- so there is no next one
pub no_line : (number : ℕ) (bytes : List ℕ) → length bytes ≡ 0 → next_from number (text_lines bytes) ≡ NoLine number
no_line number bytes none = ap (next_from number) (none_left bytes none)

module _ (number : ℕ) (bytes line behind : List ℕ) (some : 0 < length bytes) (first : line ≡ front line_feed bytes) (rest : behind ≡ back line_feed bytes) where
  lines_are : text_lines bytes ≡ line ∷ text_lines behind
  lines_are =
      lines_more bytes some ∙ sym (ap (λ (l : List ℕ). l ∷ text_lines (back line_feed bytes)) first)
      ∙ sym (ap (λ (l : List ℕ). line ∷ text_lines l) rest)

  by_words : (t : Bool) → is_passed (words_in line) ≡ t
      → next_from number (text_lines bytes)
      ≡ cond t (next_from (number + 1) (text_lines behind)) (ALine (numbered_line number line) (words_in line) (record { number = number + 1; lines = text_lines behind }))
  by_words t is =
      ap (next_from number) lines_are
      ∙ ap (λ (t : Bool). cond t (next_from (number + 1) (text_lines behind))
      (ALine (numbered_line number line) (words_in line) (record { number = number + 1; lines = text_lines behind }))) is

  -- the line is passed over
  pub passes : AreNoEvent (words_in line) → next_from number (text_lines bytes) ≡ next_from (number + 1) (text_lines behind)
  passes none = by_words true (is_none (words_in line) none)

  -- or it is the next one
  pub tells : AreEvent (words_in line) → next_from number (text_lines bytes)
      ≡ ALine (numbered_line number line) (words_in line) (record { number = number + 1; lines = text_lines behind })
  tells event = by_words false (is_some (words_in line) event)

  -- what is left is shorter
  pub shorter : length behind < length bytes
  shorter = subst (λ (l : List ℕ). length l < length bytes) (sym rest) (back_shorter line_feed bytes some)

  pub room_left : number + length bytes < 2 ^ 64 → number + 1 + length behind < 2 ^ 64
  room_left room = omega (arith, room, shorter)
