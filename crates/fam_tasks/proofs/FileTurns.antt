-- What comes of a line of a file that was loaded.
use Rattle.std.proofs.Common.{◌≡◌, ℕ, ◌+◌, ◌-◌, ◌*◌, ◌%◌, ◌<◌, ◌≤◌, nat_lt, List, [], ◌∷◌, length, get_or, slice_range, Option, Some, None, refl, sym, ap, subst, ◌∙◌, arith}
use Rattle.std.specs.Prelude.{find, not, ◌==◌, min}
use Rattle.std.specs.List.{range_with_len}
use Rattle.std.proofs.lemmas.Bool.{cond-true, cond-false, lt-ltb, le-ltb}
use Rattle.std.proofs.lemmas.List.{take_all}
use Rattle.std.proofs.lemmas.List.FromFn.{fill_by_all}
use Rattle.fam_base.specs.declared.cmd.Cmd.{Cmd}
use Rattle.fam_base.specs.declared.cmd.Content.{Content}
use Rattle.fam_rules.specs.Content.{byte_in, content_byte, content_line, HoldsBytes}
use Rattle.fam_rules.specs.Reply.{Reply, Same}
use Rattle.fam_commands.specs.declared.phase.Part.TheVariants.{File}
use Rattle.fam_commands.specs.declared.phase.Phase.TheVariants as at
use Rattle.fam_commands.specs.Task.{Task, size_of, wanted_end, wanted_lines, wanted_start}
use Rattle.fam_commands.specs.Turns as turns
use Rattle.fam_commands.specs.Turns.{Goes, Ends, file_turn, line_difference, line_or, loaded_bytes}
use Rattle.fam_commands.specs.Classes.{IsVerify}
use Rattle.fam_content.specs.Difference.{DiffersAt, IsFirst}
use Rattle.fam_tasks.specs.declared.answer.Answer.{Answer}
use Rattle.fam_tasks.specs.declared.answer.Answer.TheVariants as answer
use Rattle.fam_tasks.specs.declared.answer.Turn.{Turn}
use Rattle.fam_tasks.specs.declared.answer.Turn.TheVariants.{Go, Done}
use Rattle.fam_tasks.specs.Answers.{reply_of}
use Rattle.fam_tasks.specs.Commands.{content_used}
use Rattle.fam_tasks.specs.Tells.{Replies, Tells}
use Rattle.fam_tasks.proofs.Compared.{Differing, nothing_differs, something_differs}
use Rattle.fam_tasks.proofs.FileLines.{differs_turn, same_turn}

-- eight words are one line
pub one_line : (words line : List ℕ) → length words ≡ 8 → line ≡ slice_range words 0 8 → line ≡ words
one_line words line count is = is ∙ take_all 8 words (omega arith)

-- no words are none
pub no_words : (words : List ℕ) → length words ≡ 0 → words ≡ []
no_words [] none = refl
no_words (word ∷ words) none = absurd cc

-- the task answers
pub replies : (wanted : turns.Turn) (turn : Turn) (new : Task) (reply : Reply) (given : Answer) → wanted ≡ Ends reply → turn ≡ Done given → reply_of given ≡ Some reply → Tells wanted turn new
replies wanted turn new reply given is gives says =
    subst (λ (w : turns.Turn). Tells w turn new) (sym is) (subst (λ (x : Turn). Replies x reply) (sym gives) says)

-- the task goes on
pub goes : (wanted : turns.Turn) (next new : Task) → wanted ≡ Goes next → new ≡ next → Tells wanted Go new
goes wanted next new is same = subst (λ (w : turns.Turn). Tells w Go new) (sym is) (refl, same)

-- the next line of the file, or what comes behind its last one
module _ (t : Task) (j lines : ℕ) (turn : turns.Turn) (count : lines ≡ wanted_lines t.cmd (size_of t.entry)) where
  pub next_line : j + 1 < lines → line_or t File j turn ≡ Goes (record t { phase = at.Drop File (j + 1) })
  next_line more = cond-true (nat_lt (j + 1) (wanted_lines t.cmd (size_of t.entry))) _ turn (lt-ltb (j + 1) (wanted_lines t.cmd (size_of t.entry)) (omega (arith, count)))

  pub last_line : lines ≤ j + 1 → line_or t File j turn ≡ turn
  last_line last = cond-false (nat_lt (j + 1) (wanted_lines t.cmd (size_of t.entry))) _ turn (le-ltb (j + 1) (wanted_lines t.cmd (size_of t.entry)) (omega (arith, count)))

-- A line that is compared.

-- the first byte below the size that isn't the content's
search_in : Content → ℕ → List ℕ → ℕ → Option ℕ
search_in against j words size = find (λ b. not (byte_in words b == content_byte against (64 * j + b))) (range_with_len 0 (min 64 (size - 64 * j)))

module _ (t : Task) (cmd : Cmd) (j size : ℕ) (found wanted : List ℕ) (is : IsVerify cmd) (words : found ≡ t.words) (sized : size ≡ size_of t.entry)
    (line : wanted ≡ content_line (content_used cmd) size j) (holds : HoldsBytes (content_used cmd)) where
  same_search : (r : Option ℕ) → find (λ b. not (byte_in found b == content_byte (content_used cmd) (64 * j + b)))
      (range_with_len 0 (min 64 (size - 64 * j))) ≡ r → line_difference t (content_used cmd) j ≡ r
  unfolding search_in
  same_search r searched =
      sym (ap (λ (w : List ℕ). search_in (content_used cmd) j w size) words ∙ ap (search_in (content_used cmd) j t.words) sized) ∙ searched

  -- a byte differs
  pub differs_told : (o x y m : ℕ) (turn : Turn) (new : Task) → IsFirst found wanted (64 * j) size o x y → m ≡ length t.entries
      → turn ≡ Done (answer.Differs m o x y) → Tells (file_turn cmd t j) turn new
  differs_told o x y m turn new first count gives =
      let d : Differing found wanted (content_used cmd) size j holds line o x y = something_differs found wanted (content_used cmd) size j holds line o x y first in
      let place = d.place in
      let byte : byte_in found d.at ≡ byte_in t.words d.at = ap (λ (w : List ℕ). byte_in w d.at) words in
      let same : answer.Differs m o x y ≡ answer.Differs (length t.entries) (64 * j + d.at) (byte_in t.words d.at)
      (content_byte (content_used cmd) (64 * j + d.at)) = cc (count, place, d.byte_found, byte, d.byte_wanted) in
      replies (file_turn cmd t j) turn new _ (answer.Differs m o x y) (differs_turn cmd t j d.at is (same_search (Some d.at) d.found)) gives (ap reply_of same)

  -- none does
  pub same_told : ((o : ℕ) → DiffersAt found wanted (64 * j) size o → ⊥) → file_turn cmd t j ≡ line_or (record t { words = [] }) File j (Ends (Same (length t.entries)))
  same_told none = same_turn cmd t j is (same_search None (nothing_differs found wanted (content_used cmd) size j holds line none))

-- A line that is read.

pub bytes_told : (t : Task) (bytes : List ℕ) (first : ℕ) → length bytes ≡ wanted_end t.cmd (size_of t.entry) - wanted_start t.cmd
    → first ≡ wanted_start t.cmd % 64 → ((i : ℕ) → i < length bytes → get_or bytes i 0 ≡ byte_in t.words (first + i))
    → bytes ≡ loaded_bytes t (wanted_start t.cmd)
bytes_told t bytes first count at each =
    fill_by_all (λ i. byte_in t.words (wanted_start t.cmd % 64 + i)) bytes (wanted_end t.cmd (size_of t.entry) - wanted_start t.cmd) 0 count
    (λ k below. each k (omega arith) ∙ ap (λ (n : ℕ). byte_in t.words (n + k)) at)
