-- Operations of a task on copies of its host alone.
use Rattle.std.proofs.Common.{ℕ, zero, suc, ◌≡◌, ◌≤◌, List, [], ◌∷◌, length, Option, Some, false, refl, sym, ap, subst, ◌∙◌, arith}
use Rattle.std.specs.Prelude.{slice_index, slice_set}
use Rattle.fam_base.specs.Image.{Image, IsNormal, line_at, with_line}
use Rattle.fam_base.proofs.ImageLemmas.{with_line-line_at}
use Rattle.fam_base.specs.declared.line.LineNo.{LineNo}
use Rattle.fam_machine.specs.declared.cell.Cell.{Cell}
use Rattle.fam_machine.specs.declared.cell.Cell.TheVariants.{Absent, Clean, Dirty}
use Rattle.fam_machine.specs.declared.op.Op.{Op}
use Rattle.fam_machine.specs.declared.op.Op.TheVariants.{Load, Store, WriteBack, Fence, Invalidate, Digest}
use Rattle.fam_machine.specs.Caches.{Cache, cell_at, cell_changed, with_cell}
use Rattle.fam_machine.specs.OneLine.{IsDirty, IsHeld, brought, current, sent, stored, words_of}
use Rattle.fam_machine.specs.Operations.{IsWithin, given, machine, operated}
use Rattle.fam_machine.proofs.CacheLemmas.{cell_at-with_cell_same, with_cell_own, with_cell_twice}
use Rattle.fam_cache.specs.Operations.{LeavesCache, rest_stored, word_of}
use Rattle.fam_cache.proofs.MemoryLemmas.{from_any, held_still}
use Rattle.fam_commands.specs.Task.{Task, op_of}
use Rattle.fam_commands.specs.Turns as turns
use Rattle.fam_commands.specs.Turns.{Goes, turn_of}
use Rattle.fam_media.specs.Outside.{IfModelled}
use Rattle.fam_tasks.specs.declared.answer.Turn.TheVariants.{Go}
use Rattle.fam_tasks.specs.Rest.{DropsLine, Loads, Stores}
use Rattle.fam_tasks.specs.Rest as rest
use Rattle.fam_tasks.specs.Sound.{IsSound}
use Rattle.fam_tasks.specs.Tells.{Tells}
use Rattle.fam_run.specs.Cached.{CachedRun, IsCached, cached_after, none, more}
use Rattle.fam_run.specs.Operation.{GoesOn, HasTurned}
use Rattle.fam_run.proofs.Left.{left}
use Rattle.fam_run.proofs.Running.{kept_on}

-- loads of a line that the cache holds
pub loads_held : (line : LineNo) (words : List ℕ) (t next : Task) (held : Cache) {n : ℕ} → IsHeld (cell_at held line.0)
    → words ≡ words_of (cell_at held line.0) → Loads line words t next n → CachedRun t held next held n
loads_held line words t _ held there same rest.none = none
loads_held line words t next held there same (rest.more {mid = mid} before sound k op within turn) =
    let word : Some (slice_index words k) ≡ word_of (op_of mid) held = ap (λ (w : List ℕ). Some (slice_index w k)) same ∙ sym (ap (λ (o : Op). word_of o held) op) in
    more (loads_held line words t mid held there same before) sound within
    (subst (λ (o : Op). IsCached o held) (sym op) there)
    (sym (ap (λ (o : Op). cached_after o held) op))
    (sym (ap (turn_of mid) word) ∙ turn)

-- what stores into such a line leave of the cache, word by word from word 1 on
pub stored_words : LineNo → List ℕ → Cache → ℕ → Cache
stored_words line words held zero = held
stored_words line words held (suc n) = cached_after (Store line (suc n) (slice_index words (suc n))) (stored_words line words held n)

-- the line is held still
held_still_stored : (line : LineNo) (words : List ℕ) (held : Cache) (n : ℕ) → IsHeld (cell_at held line.0) → IsHeld (cell_at (stored_words line words held n) line.0)
unfolding stored_words
held_still_stored line words held zero there = there
held_still_stored line words held (suc n) there =
    let now = stored_words line words held n in
    let cell : Cell = Dirty false (slice_set (words_of (cell_at now line.0)) (suc n) (slice_index words (suc n))) in
    subst IsHeld {x = cell} (sym (cell_at-with_cell_same line.0 cell now)) refl

stores_run : (line : LineNo) (words : List ℕ) (t next : Task) (held : Cache) (n : ℕ) → IsHeld (cell_at held line.0) → Stores line words t next n
    → CachedRun t held next (stored_words line words held n) n
unfolding stored_words
stores_run line words t _ held _ there rest.begins = none
stores_run line words t next held _ there (rest.stores {mid = mid} {n = n} before sound op within turn) =
    let now = stored_words line words held n in
    more (stores_run line words t mid held n there before) sound within
    (subst (λ (o : Op). IsCached o now) (sym op) (held_still_stored line words held n there))
    (sym (ap (λ (o : Op). cached_after o now) op))
    (ap (λ (o : Op). turn_of mid (word_of o now)) op ∙ turn)

-- one store behind another is both into the words of one copy
store_behind : (line : LineNo) (k value : ℕ) (words : List ℕ) (held : Cache)
    → cached_after (Store line k value) (with_cell line.0 (Dirty false words) held) ≡ with_cell line.0 (Dirty false (slice_set words k value)) held
store_behind line k value words held =
    ap (λ (cell : Cell). with_cell line.0 (Dirty false (slice_set (words_of cell) k value)) (with_cell line.0 (Dirty false words) held)) (cell_at-with_cell_same line.0 (Dirty false words) held)
    ∙ with_cell_twice line.0 (Dirty false words) (Dirty false (slice_set words k value)) held

-- the words of a copy after stores of so many words from word 1 on
set_words : List ℕ → List ℕ → ℕ → List ℕ
set_words words old zero = old
set_words words old (suc n) = slice_set (set_words words old n) (suc n) (slice_index words (suc n))

stored_are : (line : LineNo) (words : List ℕ) (held : Cache) (n : ℕ)
    → stored_words line words held (suc n) ≡ with_cell line.0 (Dirty false (set_words words (words_of (cell_at held line.0)) (suc n))) held
unfolding stored_words set_words
stored_are line words held zero = refl
stored_are line words held (suc n) =
    ap (cached_after (Store line (suc (suc n)) (slice_index words (suc (suc n))))) (stored_are line words held n)
    ∙ store_behind line (suc (suc n)) (slice_index words (suc (suc n))) (set_words words (words_of (cell_at held line.0)) (suc n)) held

all_set : (words old : List ℕ) → length old ≡ 8 → set_words words old 7 ≡ rest_stored words old
unfolding set_words
all_set words (a ∷ b ∷ c ∷ d ∷ e ∷ f ∷ g ∷ h ∷ []) count = refl
all_set words old count = absurd cc

-- the seven stores of a line that the cache holds
pub stores_held : (line : LineNo) (words : List ℕ) (t next : Task) (held after : Cache) → IsHeld (cell_at held line.0)
    → length (words_of (cell_at held line.0)) ≡ 8 → after ≡ with_cell line.0 (Dirty false (rest_stored words (words_of (cell_at held line.0)))) held
    → Stores line words t next 7 → CachedRun t held next after 7
stores_held line words t next held after there whole is run =
    subst (λ (c : Cache). CachedRun t held next c 7)
    (stored_are line words held 6 ∙ ap (λ (w : List ℕ). with_cell line.0 (Dirty false w) held) (all_set words (words_of (cell_at held line.0)) whole) ∙ sym is)
    (stores_run line words t next held 7 there run)

-- One of them.

-- the words that are read of a line that is held
current_held : (cell : Cell) → IsHeld cell → (memory : List ℕ) → current memory cell ≡ words_of cell
current_held Absent is memory = absurd cc
current_held (Clean words) is memory = refl
current_held (Dirty a words) is memory = refl

-- a line that isn't dirty is not sent
not_sent : (cell : Cell) → ¬ (IsDirty cell) → (memory : List ℕ) → sent memory cell ≡ memory
not_sent Absent is memory = refl
not_sent (Clean words) is memory = refl
not_sent (Dirty a words) is memory = absurd (is refl)

-- it leaves memory, and the cache that was said
pub machine_after : (op : Op) (image : Image) (now : Cache) → IsNormal (Some image) → IsCached op now → operated op (machine image now) ≡ machine image (cached_after op now)
machine_after (Load line k) image now normal is =
    ap (machine image) (ap (λ (cell : Cell). with_cell line.0 cell now) (held_still (cell_at now line.0) is (line_at image line.0)) ∙ with_cell_own line.0 now)
machine_after (Store line k value) image now normal is =
    ap (λ (words : List ℕ). machine image (with_cell line.0 (Dirty false (slice_set words k value)) now)) (current_held (cell_at now line.0) is (line_at image line.0))
machine_after (WriteBack line) image now normal is = absurd is
machine_after Fence image now normal is = absurd is
machine_after (Invalidate line) image now normal is =
    ap (λ (words : List ℕ). machine (with_line line.0 words image) (with_cell line.0 Absent now)) (not_sent (cell_at now line.0) is (line_at image line.0))
    ∙ ap (λ (i : Image). machine i (with_cell line.0 Absent now)) (with_line-line_at image normal line.0)
machine_after Digest image now normal is = absurd is

-- the machine gives the word of the copy
pub given_held : (op : Op) (image : Image) (now : Cache) → IsCached op now → given op (machine image now) ≡ word_of op now
given_held (Load line k) image now is = ap (λ (words : List ℕ). Some (slice_index words k)) (current_held (cell_at now line.0) is (line_at image line.0))
given_held (Store line k value) image now is = refl
given_held (WriteBack line) image now is = absurd is
given_held Fence image now is = absurd is
given_held (Invalidate line) image now is = refl
given_held Digest image now is = absurd is

-- and the copy has it still
word_after : (op : Op) (now : Cache) → IsCached op now → word_of op (cached_after op now) ≡ word_of op now
word_after (Load line k) now is = refl
word_after (Store line k value) now is = refl
word_after (WriteBack line) now is = absurd is
word_after Fence now is = absurd is
word_after (Invalidate line) now is = refl
word_after Digest now is = absurd is

-- on any media
pub cached_leaves : (op : Op) (modelled : Option Image) (now after : Cache) → IsCached op now → after ≡ cached_after op now → LeavesCache op modelled now after
cached_leaves (Load line k) modelled now after of is =
    from_any modelled line.0 (λ memory. after ≡ cell_changed line.0 (brought memory) now)
    (λ memory. is ∙ sym (ap (λ (cell : Cell). with_cell line.0 cell now) (held_still (cell_at now line.0) of memory) ∙ with_cell_own line.0 now))
cached_leaves (Store line k value) modelled now after of is =
    from_any modelled line.0 (λ memory. after ≡ cell_changed line.0 (stored k value memory) now)
    (λ memory. is ∙ ap (λ (words : List ℕ). with_cell line.0 (Dirty false (slice_set words k value)) now) (sym (current_held (cell_at now line.0) of memory)))
cached_leaves (WriteBack line) modelled now after of is = absurd of
cached_leaves Fence modelled now after of is = absurd of
cached_leaves (Invalidate line) modelled now after of is = is
cached_leaves Digest modelled now after of is = absurd of

pub tells_go : (wanted : turns.Turn) (next : Task) → wanted ≡ Goes next → Tells wanted Go next
tells_go wanted next is = subst (λ (w : turns.Turn). Tells w Go next) (sym is) (refl, refl)

module _ (mid next : Task) (now after : Cache) (of : IsCached (op_of mid) now) (is : after ≡ cached_after (op_of mid) now) (turn : turn_of mid (word_of (op_of mid) now) ≡ Goes next) where
  pub cached_goes : GoesOn mid after Go next
  cached_goes =
      tells_go (turn_of mid (word_of (op_of mid) after)) next
      (ap (λ (c : Cache). turn_of mid (word_of (op_of mid) c)) is ∙ ap (turn_of mid) (word_after (op_of mid) now of) ∙ turn)

  pub cached_turned : (modelled : Option Image) → IsNormal modelled → IfModelled modelled (λ (i : Image). HasTurned mid (machine i now) Go next modelled after)
  cached_turned modelled normal image modelled_is =
      let left = machine_after (op_of mid) image now (subst IsNormal modelled_is normal) of in
      record {
        is = record { image = modelled_is ∙ sym (ap (λ m. Some m.image) left); cache = is ∙ sym (ap (λ m. m.cache) left) };
        tells = tells_go (turn_of mid (given (op_of mid) (machine image now))) next (ap (turn_of mid) (given_held (op_of mid) image now of) ∙ turn);
      }

-- All of them.

-- the drop of a line that isn't dirty
pub drop_held : (line : LineNo) (t next : Task) (held : Cache) → IsSound t → DropsLine line t next → ¬ (IsDirty (cell_at held line.0)) → CachedRun t held next (with_cell line.0 Absent held) 1
drop_held line t next held sound drops clean =
    more none sound
    (subst (IsWithin t.lines) (sym drops.op) drops.within)
    (subst (λ (o : Op). IsCached o held) (sym drops.op) clean)
    (sym (ap (λ (o : Op). cached_after o held) drops.op))
    (ap (λ (o : Op). turn_of t (word_of o held)) drops.op ∙ drops.turn)

pub cached_lines : (t next : Task) (held after : Cache) {n : ℕ} → CachedRun t held next after n → next.lines ≡ t.lines
cached_lines t _ held _ none = refl
cached_lines t next held after (more {mid = mid} {now = now} before sound within of is turn) =
    (kept_on after mid next Go refl sound (cached_goes mid next now after of is turn)).lines ∙ cached_lines t mid held now before

-- no more operations may come than before
pub cached_left : (t next : Task) (held after : Cache) {n : ℕ} → CachedRun t held next after n → IsSound next → left next ≤ left t
cached_left t _ held _ none sound_next = omega arith
cached_left t next held after (more {mid = mid} {now = now} before sound within of is turn) sound_next =
    let here = (kept_on after mid next Go refl sound (cached_goes mid next now after of is turn)).falls sound_next.stands in
    let up_to = cached_left t mid held now before sound in
    omega (arith, here, up_to)
