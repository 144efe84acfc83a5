-- Lines of the new file, one behind another: each is stored word by word, and sent.
use Rattle.std.proofs.Common.{ℕ, zero, suc, ◌≡◌, ◌+◌, ◌<◌, ◌≤◌, List, Option, Some, None, cond, nat_lt, refl, sym, ap, subst, ◌∙◌, arith}
use Rattle.std.specs.Prelude.{slice_index}
use Rattle.std.proofs.lemmas.Bool.{cond-false, cond-true, le-ltb, lt-ltb}
use Rattle.std.proofs.lemmas.Grind.{div_ceil_times}
use Rattle.fam_base.specs.declared.cmd.Content.{Content}
use Rattle.fam_base.specs.declared.entry.Entry.{Entry}
use Rattle.fam_base.specs.declared.line.LineNo.{LineNo}
use Rattle.fam_machine.specs.declared.op.Op.TheVariants.{Invalidate, Store}
use Rattle.fam_machine.specs.Operations.{IsWithin, line_no}
use Rattle.fam_rules.specs.Content.{content_line}
use Rattle.fam_rules.specs.Written.{lines_of}
use Rattle.fam_commands.specs.declared.phase.Phase.{Phase}
use Rattle.fam_commands.specs.declared.phase.Phase.TheVariants as at
use Rattle.fam_commands.specs.Task.{Task, content_of, data_words, line_of, op_of, size_of}
use Rattle.fam_commands.specs.Turns.{Goes, turn_of}
use Rattle.fam_content.specs.Stream.{line_in}
use Rattle.fam_tasks.specs.declared.task.Task.TheInside.{Inside}
use Rattle.fam_tasks.specs.Contents.{ContentsState}
use Rattle.fam_tasks.specs.Invariant.{IsTask}
use Rattle.fam_tasks.specs.Model.{task_of}
use Rattle.fam_tasks.specs.Rest.{IsFileLineDue, Stores, StoresFileLine, begins, stores}
use Rattle.fam_tasks.specs.Sound.{HasSpelledSlot, HasSuper, IsFileLine, IsProperFor, IsSound, IsSoundAt}
use Rattle.fam_tasks.specs.StoreRuns.{IsRow, StoresNext, StoresRun, none, more}
use Rattle.fam_tasks.proofs.FileLines.{same_proper}
use Rattle.fam_tasks.proofs.Found.{within_image}
use Rattle.fam_tasks.proofs.Phases.{same_gate}
use Rattle.fam_tasks.proofs.Slots.{some_line}

-- the device's line of a line of the file is one of the image's
pub line_within_image : (o : Option Entry) (t : Task) (j line : ℕ) → t.entry ≡ o → HasSuper t → IsFileLine j t → line ≡ line_of o j → line < t.lines
line_within_image None t j line is super file at = absurd (subst (IsProperFor t) is file.proper)
line_within_image (Some e) t j line is super file at = within_image t e j line is super file at

module _ (t : Task) (j : ℕ) (line : LineNo) (words : List ℕ) (sound : IsSound t) (spelled : HasSpelledSlot t) (file : IsFileLine j t)
    (is : line.0 ≡ line_of t.entry j) (words_are : (k : ℕ) → k < 8 → slice_index words k ≡ slice_index (data_words t j) k)
    (within : line.0 < t.lines) where
  -- before word k, and before the line's sending
  abbrev at_word : ℕ → Task
  at_word k = record t { phase = at.StoreData j k }

  abbrev sends : Task
  sends = record t { phase = at.SendData j }

  spelled_in : (phase : Phase) → HasSpelledSlot (record t { phase = phase })
  spelled_in phase = record {
    found = same_gate t (record t { phase = phase }) refl refl refl spelled.found;
    room = spelled.room;
    words = spelled.words;
  }

  file_in : (phase : Phase) → IsFileLine j (record t { phase = phase })
  file_in phase = record { proper = same_proper t.entry t (record t { phase = phase }) refl file.proper; below = file.below }

  pub word_sound : (k : ℕ) → k < 8 → IsSound (at_word k)
  word_sound k small = record {
    command = sound.command;
    least = sound.least;
    most = sound.most;
    stands = (spelled_in (at.StoreData j k), file_in (at.StoreData j k), small);
    kept = sound.kept;
  }

  pub sends_sound : IsSound sends
  sends_sound = record {
    command = sound.command;
    least = sound.least;
    most = sound.most;
    stands = (spelled_in (at.SendData j), file_in (at.SendData j));
    kept = sound.kept;
  }

  word_op : (k : ℕ) → k < 8 → op_of (at_word k) ≡ Store line k (slice_index words k)
  word_op k small =
      ap (λ (l : ℕ). Store (line_no l) k (slice_index (data_words t j) k)) (sym is) ∙ ap (Store line k) (sym (words_are k small))

  word_within : (k : ℕ) → k < 8 → IsWithin t.lines (op_of (at_word k))
  word_within k small = subst (IsWithin t.lines) (sym (word_op k small)) (within, small)

  word_turn : (k : ℕ) → k < 7 → turn_of (at_word k) None ≡ Goes (at_word (suc k))
  word_turn k small =
      let up : k + 1 ≡ suc k = omega arith in
      ap (λ (p : Phase). Goes (record t { phase = p })) (cond-true (nat_lt k 7) (at.StoreData j (k + 1)) (at.SendData j) (lt-ltb k 7 small) ∙ ap (at.StoreData j) up)

  words_stored : (n : ℕ) → n ≤ 6 → Stores line words (at_word 1) (at_word (suc n)) n
  words_stored zero few = begins
  words_stored (suc n) few =
      stores (words_stored n (omega (arith, few))) (word_sound (suc n) (omega (arith, few))) (word_op (suc n) (omega (arith, few)))
      (word_within (suc n) (omega (arith, few))) (word_turn (suc n) (omega (arith, few)))

  pub line_due : IsFileLineDue line words (at_word 0)
  line_due = record { j = j; phase = refl; is = is; words_are = words_are; within = within }

  -- all words of the line
  pub line_stored : StoresFileLine line words (at_word 0) sends
  line_stored = record {
    begun = at_word 1;
    op = word_op 0 (omega arith);
    within = within;
    turn = word_turn 0 (omega arith);
    rest = stores (words_stored 6 (omega arith)) (word_sound 7 (omega arith)) (word_op 7 (omega arith)) (word_within 7 (omega arith)) refl;
    sends = ap (λ (l : ℕ). Invalidate (line_no l)) (sym is);
    reads_on = refl;
    lines = refl;
  }

module _ (t : Task) (j first n : ℕ) (lines : List (List ℕ)) (sound : IsSound t) (phase : t.phase ≡ at.StoreData j 0) (row : IsRow first j n t)
    (some : 0 < n) (words : (k : ℕ) → k < n → line_in lines k ≡ data_words t (j + k)) where
  stands : IsSoundAt (at.StoreData j 0) t
  stands = subst (λ (p : Phase). IsSoundAt p t) phase sound.stands

  -- behind the first k lines
  abbrev phase_behind : ℕ → Phase
  phase_behind k = cond (nat_lt (j + k) (lines_of (size_of t.entry))) (at.StoreData (j + k) 0) (at.StoreSlot 0 0)

  abbrev mid : ℕ → Task
  mid k = record t { phase = at.StoreData (j + k) 0 }

  file_at : (k : ℕ) → k < n → IsFileLine (j + k) t
  file_at k below = record { proper = stands.1.proper; below = row.below k below }

  goes_on : (k : ℕ) → k < n → phase_behind k ≡ at.StoreData (j + k) 0
  goes_on k below =
      let ceil = div_ceil_times (size_of t.entry) 64 (omega arith) in
      cond-true (nat_lt (j + k) (lines_of (size_of t.entry))) _ _ (lt-ltb (j + k) (lines_of (size_of t.entry)) (omega (arith, ceil.0, ceil.1, row.below k below)))

  next_at : (k : ℕ) → k < n → StoresNext first lines k (mid k) (record t { phase = at.SendData (j + k) })
  next_at k below =
      let at_line : first + k ≡ line_of t.entry (j + k) = sym (row.each k below) in
      let words_are : (w : ℕ) → w < 8 → slice_index (line_in lines k) w ≡ slice_index (data_words t (j + k)) w = λ w small. ap (λ (l : List ℕ). slice_index l w) (words k below) in
      let within : first + k < t.lines = line_within_image t.entry t (j + k) (first + k) refl stands.0.found.super (file_at k below) at_line in
      record {
        sound = word_sound t (j + k) (line_no (first + k)) (line_in lines k) sound stands.0 (file_at k below) at_line words_are within 0 (omega arith);
        due = line_due t (j + k) (line_no (first + k)) (line_in lines k) sound stands.0 (file_at k below) at_line words_are within;
        stores = line_stored t (j + k) (line_no (first + k)) (line_in lines k) sound stands.0 (file_at k below) at_line words_are within;
        sending_sound = sends_sound t (j + k) (line_no (first + k)) (line_in lines k) sound stands.0 (file_at k below) at_line words_are within;
      }

  pub run_stored : (k : ℕ) → k ≤ n → (next : Task) → next ≡ record t { phase = phase_behind k } → StoresRun first lines t next k
  run_stored zero few next same =
      let none_more : j + 0 ≡ j = omega arith in
      let back : next ≡ t = same ∙ ap (λ (p : Phase). record t { phase = p }) (goes_on 0 some ∙ ap (λ (i : ℕ). at.StoreData i 0) none_more ∙ sym phase) in
      subst (λ (u : Task). StoresRun first lines t u 0) (sym back) none
  run_stored (suc k) few next same =
      let up : j + suc k ≡ j + k + 1 = omega arith in
      more (run_stored k (omega (arith, few)) (mid k) (ap (λ (p : Phase). record t { phase = p }) (sym (goes_on k (omega (arith, few)))))) (next_at k (omega (arith, few)))
      (refl, same ∙ ap (λ (i : ℕ). record t { phase = cond (nat_lt i (lines_of (size_of t.entry))) (at.StoreData i 0) (at.StoreSlot 0 0) }) up)

-- The lines that are handed out are those of the file from line j on, where this one is at hand.
pub words_handed : (t : Task) (j size n taken : ℕ) (content : Content) (line : List ℕ) (lines : List (List ℕ)) → content ≡ content_of t.cmd
    → taken ≡ j + 1 → size ≡ size_of t.entry → line ≡ data_words t j
    → line_in lines 0 ≡ line → ((k : ℕ) → k + 1 < n → line_in lines (k + 1) ≡ content_line content size (taken + k)) → (k : ℕ) → k < n → line_in lines k ≡ data_words t (j + k)
words_handed t j size n taken content line lines content_is taken_is size_is line_is first others zero below =
    let none_more : j ≡ j + 0 = omega arith in
    first ∙ line_is ∙ ap (data_words t) none_more
words_handed t j size n taken content line lines content_is taken_is size_is line_is first others (suc k) below =
    let up : suc k ≡ k + 1 = omega arith in
    let at_line : taken + k ≡ j + suc k = omega (arith, taken_is) in
    ap (line_in lines) up
    ∙ others k (omega (arith, below))
    ∙ ap (λ (x : Content). content_line x size (taken + k)) content_is
    ∙ ap (λ (s : ℕ). content_line (content_of t.cmd) s (taken + k)) size_is
    ∙ ap (data_words t) at_line

-- The phase behind them.
module _ (t : Task) (j n line lines size : ℕ) (at_line : line ≡ j + n) (lines_are : lines ≡ lines_of size) (sized : size ≡ size_of t.entry) where
  total : lines ≡ lines_of (size_of t.entry)
  total = lines_are ∙ ap lines_of sized

  pub next_line : line < lines → at.StoreData line 0 ≡ cond (nat_lt (j + n) (lines_of (size_of t.entry))) (at.StoreData (j + n) 0) (at.StoreSlot 0 0)
  next_line below =
      ap (λ (i : ℕ). at.StoreData i 0) at_line
      ∙ sym (cond-true (nat_lt (j + n) (lines_of (size_of t.entry))) _ _ (lt-ltb (j + n) (lines_of (size_of t.entry)) (omega (arith, at_line, total, below))))

  pub no_line : lines ≤ line → at.StoreSlot 0 0 ≡ cond (nat_lt (j + n) (lines_of (size_of t.entry))) (at.StoreData (j + n) 0) (at.StoreSlot 0 0)
  no_line past = sym (cond-false (nat_lt (j + n) (lines_of (size_of t.entry))) _ _ (le-ltb (j + n) (lines_of (size_of t.entry)) (omega (arith, at_line, total, past))))

-- Behind the file's last line the slot is stored.
pub slot_comes : (t : Inside) (j k : ℕ) (contents : ContentsState) → IsTask t → t.phase ≡ at.StoreData j k → IsTask (record t { phase = at.StoreSlot 0 0; contents = contents })
slot_comes t j k contents task phase =
    let u : Inside = record t { phase = at.StoreSlot 0 0; contents = contents } in
    let stands : IsSoundAt (at.StoreData j k) (task_of t) = subst (λ (p : Phase). IsSoundAt p (task_of t)) phase task.sound.stands in
    record {
      sound = record {
        command = task.sound.command;
        least = task.sound.least;
        most = task.sound.most;
        stands = (
          record { found = same_gate (task_of t) (task_of u) refl refl refl stands.0.found; room = stands.0.room; words = stands.0.words },
          some_line t.params,
          omega arith,
        );
        kept = task.sound.kept;
      };
      held = tt;
    }
