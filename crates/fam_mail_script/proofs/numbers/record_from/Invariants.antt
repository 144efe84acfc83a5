use Rattle.std.proofs.Common.{◌≡◌, ◌≤◌, [], ◌∷◌, length, take}
use Rattle.fam_grammar.specs.Cursor.{words_left, IsShort}
use Rattle.fam_mail_script.specs.Lines.{numbers_behind}
use Rattle.fam_mail_script.proofs.numbers.record_from.Given as goal

abbrev pub invariant-loop-word : goal.invariant-loop-word
invariant-loop-word l = record {
  so_far : numbers_behind (take l.count l.numbers) (words_left l.words) ≡ numbers_behind (l.first ∷ []) (words_left l.initial.words);
  some : 1 ≤ l.count;
  few : l.count ≤ 7;
  long : length l.numbers ≡ 7;
  short : IsShort l.words;
}

abbrev pub decreases-loop-word : goal.decreases-loop-word
decreases-loop-word l = length (words_left l.words)
