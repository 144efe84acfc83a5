-- What an operation at one line leaves of a cache that lacks clean copies of another, it leaves of the other so too.
use Rattle.std.proofs.Common.{◌≡◌, ℕ, inl, inr, List, Option, Some, None, refl, sym, ap, subst, ◌∙◌}
use Rattle.std.specs.Prelude.{⊤, option_map, slice_index}
use Rattle.std.specs.FinMap as map
use Rattle.std.proofs.lemmas.Bool.{cases_eq}
use Rattle.fam_base.specs.declared.line.LineNo.{LineNo}
use Rattle.fam_base.specs.Image.{Image, line_at, with_line}
use Rattle.fam_machine.specs.declared.cell.Cell.{Cell}
use Rattle.fam_machine.specs.declared.cell.Cell.TheVariants.{Absent, Clean, Dirty}
use Rattle.fam_machine.specs.declared.op.Op.{Op}
use Rattle.fam_machine.specs.declared.op.Op.TheVariants.{Load, Store, WriteBack, Fence, Invalidate, Digest}
use Rattle.fam_machine.specs.Caches.{Cache, cell_at, cell_changed, dirty_count, with_cell}
use Rattle.fam_machine.specs.Cuts.{HasFailed, IsMachine}
use Rattle.fam_machine.specs.OneLine.{IsDirty, asked_for, brought, current, failed_send, sent, stored, words_of}
use Rattle.fam_machine.specs.Operations.{Failure, Machine, failed, given, machine, not_brought, not_sent, operated, torn_at}
use Rattle.fam_machine.proofs.CacheLemmas.{cell_at-empty, cell_at-with_cell_other, cell_at-with_cell_same}
use Rattle.fam_machine.proofs.DirtyLemmas.{none_dirty}
use Rattle.fam_machine.proofs.Failing.{brought_fails, send_fails}
use Rattle.fam_cache.specs.Operations.{IsOneLine, LeavesCache, word_of}
use Rattle.fam_cache.specs.Shed.{IsShed, IsShedCopy, WantsSame}

-- of a line that was loaded, stored into or dropped both have the same copy
abbrev pub HasSame : Op → Cache → Cache → Type 0
HasSame (Load line k) real shown = cell_at real line.0 ≡ cell_at shown line.0
HasSame (Store line k value) real shown = cell_at real line.0 ≡ cell_at shown line.0
HasSame (WriteBack line) real shown = ⊤
HasSame Fence real shown = ⊤
HasSame (Invalidate line) real shown = cell_at real line.0 ≡ cell_at shown line.0
HasSame Digest real shown = ⊤

-- an operation was done on the one cache, and so it may have been on the other
pub record ShownStep (op : Op) (modelled : Option Image) (real left shown : Cache) : Type 0 where
  pub after : Cache
  pub leaves : LeavesCache op modelled shown after
  pub shed : IsShed left after
  pub same : HasSame op left after
  pub word : word_of op left ≡ word_of op after
  pub done : (image : Image) → modelled ≡ Some image → (now : Option Image) → IsMachine (operated op (machine image real)) now left → IsMachine (operated op (machine image shown)) now after
  pub gives : (image : Image) → given op (machine image real) ≡ given op (machine image shown)

-- One copy.

-- nothing is sent of one that isn't dirty, as of none
undirty_sent : (memory : List ℕ) (shown : Cell) → ¬ (IsDirty shown) → memory ≡ sent memory shown
undirty_sent memory Absent clean = refl
undirty_sent memory (Clean words) clean = refl
undirty_sent memory (Dirty a words) clean = absurd (clean refl)

shed_sent : (memory : List ℕ) (real shown : Cell) → IsShedCopy real shown → sent memory real ≡ sent memory shown
shed_sent memory real shown (inl same) = ap (sent memory) same
shed_sent memory real shown (inr lacks) = ap (sent memory) lacks.0 ∙ undirty_sent memory shown lacks.1

undirty_asked : (shown : Cell) → ¬ (IsDirty shown) → ¬ (IsDirty (asked_for shown))
undirty_asked Absent clean = clean
undirty_asked (Clean words) clean = clean
undirty_asked (Dirty a words) clean = absurd (clean refl)

shed_asked : (real shown : Cell) → IsShedCopy real shown → IsShedCopy (asked_for real) (asked_for shown)
shed_asked real shown (inl same) = inl (ap asked_for same)
shed_asked real shown (inr lacks) = inr (ap asked_for lacks.0, undirty_asked shown lacks.1)

-- what is dirty in the one is so in the other, and what isn't there isn't here
pub shed_undirty : (real shown : Cell) → IsShedCopy real shown → ¬ (IsDirty real) → ¬ (IsDirty shown)
shed_undirty real shown (inl same) clean = subst (λ (c : Cell). ¬ (IsDirty c)) same clean
shed_undirty real shown (inr lacks) clean = lacks.1

-- One line of both is changed.

pub with_shed : (real shown : Cache) → IsShed real shown → (line : ℕ) (a b : Cell) → IsShedCopy a b → IsShed (with_cell line a real) (with_cell line b shown)
with_shed real shown shed line a b copy = λ q.
    elim (cases_eq q line) [
      | inl e ↦ subst (λ (z : ℕ). IsShedCopy (cell_at (with_cell line a real) z) (cell_at (with_cell line b shown) z)) (sym e)
          (subst (λ (c : Cell). IsShedCopy c (cell_at (with_cell line b shown) line)) (sym (cell_at-with_cell_same line a real))
          (subst (λ (c : Cell). IsShedCopy a c) (sym (cell_at-with_cell_same line b shown)) copy))
      | inr other ↦ subst (λ (c : Cell). IsShedCopy c (cell_at (with_cell line b shown) q)) (sym (cell_at-with_cell_other line a real q other))
          (subst (λ (c : Cell). IsShedCopy (cell_at real q) c) (sym (cell_at-with_cell_other line b shown q other)) (shed q))
    ]

-- to the same copy
same_now : (line : ℕ) (a b : Cell) (real shown : Cache) → a ≡ b → cell_at (with_cell line a real) line ≡ cell_at (with_cell line b shown) line
same_now line a b real shown e = cell_at-with_cell_same line a real ∙ e ∙ sym (cell_at-with_cell_same line b shown)

-- One operation.

pub shown_step : (op : Op) → IsOneLine op → (modelled : Option Image) (real left shown : Cache) → IsShed real shown → WantsSame op real shown
    → LeavesCache op modelled real left → ShownStep op modelled real left shown
shown_step (Load line k) one modelled real left shown shed same leaves =
    let now : cell_at left line.0 ≡ cell_at (cell_changed line.0 (brought leaves.memory) shown) line.0 =
    ap (λ (c : Cache). cell_at c line.0) leaves.is
    ∙ same_now line.0 (brought leaves.memory (cell_at real line.0)) (brought leaves.memory (cell_at shown line.0)) real shown (ap (brought leaves.memory) same) in
    record {
      after = cell_changed line.0 (brought leaves.memory) shown;
      leaves = record { memory = leaves.memory; whole = leaves.whole; modelled_is = leaves.modelled_is; is = refl };
      shed = subst (λ (c : Cache). IsShed c (cell_changed line.0 (brought leaves.memory) shown)) (sym leaves.is)
          (with_shed real shown shed line.0 (brought leaves.memory (cell_at real line.0)) (brought leaves.memory (cell_at shown line.0)) (inl (ap (brought leaves.memory) same)));
      same = now;
      word = ap (λ (c : Cell). Some (slice_index (words_of c) k)) now;
      done = λ image is told m. record {
        image = m.image;
        cache = ap (λ (memory : List ℕ). cell_changed line.0 (brought memory) shown) (leaves.modelled_is image is);
      };
      gives = λ image. ap (λ (c : Cell). Some (slice_index (current (line_at image line.0) c) k)) same;
    }
shown_step (Store line k value) one modelled real left shown shed same leaves =
    let now : cell_at left line.0 ≡ cell_at (cell_changed line.0 (stored k value leaves.memory) shown) line.0 =
    ap (λ (c : Cache). cell_at c line.0) leaves.is
    ∙ same_now line.0 (stored k value leaves.memory (cell_at real line.0)) (stored k value leaves.memory (cell_at shown line.0)) real shown (ap (stored k value leaves.memory) same) in
    record {
      after = cell_changed line.0 (stored k value leaves.memory) shown;
      leaves = record { memory = leaves.memory; whole = leaves.whole; modelled_is = leaves.modelled_is; is = refl };
      shed = subst (λ (c : Cache). IsShed c (cell_changed line.0 (stored k value leaves.memory) shown)) (sym leaves.is)
          (with_shed real shown shed line.0 (stored k value leaves.memory (cell_at real line.0)) (stored k value leaves.memory (cell_at shown line.0)) (inl (ap (stored k value leaves.memory) same)));
      same = now;
      word = refl;
      done = λ image is told m. record {
        image = m.image;
        cache = ap (λ (memory : List ℕ). cell_changed line.0 (stored k value memory) shown) (leaves.modelled_is image is);
      };
      gives = λ image. refl;
    }
shown_step (WriteBack line) one modelled real left shown shed same leaves = record {
  after = cell_changed line.0 asked_for shown;
  leaves = refl;
  shed = subst (λ (c : Cache). IsShed c (cell_changed line.0 asked_for shown)) (sym leaves)
      (with_shed real shown shed line.0 (asked_for (cell_at real line.0)) (asked_for (cell_at shown line.0)) (shed_asked (cell_at real line.0) (cell_at shown line.0) (shed line.0)));
  same = tt;
  word = refl;
  done = λ image is told m. record { image = m.image; cache = refl };
  gives = λ image. refl;
}
shown_step Fence one modelled real left shown shed same leaves = absurd one
shown_step (Invalidate line) one modelled real left shown shed same leaves = record {
  after = with_cell line.0 Absent shown;
  leaves = refl;
  shed = subst (λ (c : Cache). IsShed c (with_cell line.0 Absent shown)) (sym leaves) (with_shed real shown shed line.0 Absent Absent (inl refl));
  same = ap (λ (c : Cache). cell_at c line.0) leaves ∙ same_now line.0 Absent Absent real shown refl;
  word = refl;
  done = λ image is told m. record {
    image = m.image ∙ ap (λ (words : List ℕ). Some (with_line line.0 words image)) (shed_sent (line_at image line.0) (cell_at real line.0) (cell_at shown line.0) (shed line.0));
    cache = refl;
  };
  gives = λ image. refl;
}
shown_step Digest one modelled real left shown shed same leaves = record {
  after = shown;
  leaves = refl;
  shed = subst (λ (c : Cache). IsShed c shown) (sym leaves) shed;
  same = tt;
  word = refl;
  done = λ image is told m. record { image = m.image; cache = refl };
  gives = λ image. refl;
}

-- One that fails leaves the cache, and such memory.

unbrought : (l : LineNo) (m n : Machine) (c : Cell) (failure : Failure) → not_brought l m c ≡ Some failure → not_brought l n c ≡ Some (record { line = l; left = n })
unbrought l m n Absent failure is = refl
unbrought l m n (Clean words) failure is = absurd cc
unbrought l m n (Dirty a words) failure is = absurd cc

module _ (op : Op) (image : Image) (real left shown : Cache) (line : LineNo) (now : Option Image) (x : HasFailed op (machine image real) line now left) where
  abbrev failure : Failure
  failure = record { line = line; left = x.left }

  bring_shown : (l : LineNo) → cell_at real l.0 ≡ cell_at shown l.0
      → ((c : Cache) → failed x.fails.through op (machine image c) ≡ not_brought l (machine image c) (cell_at c l.0))
      → HasFailed op (machine image shown) line now shown
  bring_shown l same brings =
      let fails : not_brought l (machine image real) (cell_at real l.0) ≡ Some failure = sym (brings real) ∙ x.fails.is in
      let is : failure ≡ record { line = l; left = machine image real } = brought_fails l (machine image real) (cell_at real l.0) failure fails in
      record {
        left = machine image shown;
        fails = record {
          through = x.fails.through;
          fits = x.fails.fits;
          is = brings shown ∙ ap (not_brought l (machine image shown)) (sym same) ∙ unbrought l (machine image real) (machine image shown) (cell_at real l.0) failure fails
              ∙ ap (λ (f : Failure). Some (record { line = f.line; left = machine image shown })) (sym is);
        };
        is = record { image = x.is.image ∙ ap (λ (f : Failure). Some f.left.image) is; cache = refl };
      }

  -- a send fails of a dirty line alone
  shed_fails : (through : ℕ) (memory words : List ℕ) (a b : Cell) → IsShedCopy a b → failed_send through memory a ≡ Some words → failed_send through memory b ≡ Some words
  shed_fails through memory words a b (inl same) fails = ap (failed_send through memory) (sym same) ∙ fails
  shed_fails through memory words a b (inr lacks) fails = absurd (let none : None ≡ Some words = sym (ap (failed_send through memory) lacks.0) ∙ fails in cc)

  send_shown : (l : LineNo) → IsShedCopy (cell_at real l.0) (cell_at shown l.0)
      → ((c : Cache) → failed x.fails.through op (machine image c) ≡ not_sent x.fails.through.mask l (machine image c))
      → HasFailed op (machine image shown) line now shown
  send_shown l copy sends =
      let torn = send_fails l (machine image real) (failed_send x.fails.through.mask (line_at image l.0) (cell_at real l.0)) failure (sym (sends real) ∙ x.fails.is) in
      let words : List ℕ = torn.0 in
      record {
        left = (torn_at l (machine image shown) words).left;
        fails = record {
          through = x.fails.through;
          fits = x.fails.fits;
          is = sends shown ∙ ap (option_map (torn_at l (machine image shown))) (shed_fails x.fails.through.mask (line_at image l.0) words (cell_at real l.0) (cell_at shown l.0) copy torn.1)
              ∙ ap (λ (f : Failure). Some (record { line = f.line; left = (torn_at l (machine image shown) words).left })) (sym torn.2);
        };
        is = record { image = x.is.image ∙ ap (λ (f : Failure). Some f.left.image) torn.2; cache = refl };
      }

pub shown_failed : (op : Op) → IsOneLine op → (image : Image) (real left shown : Cache) (line : LineNo) (now : Option Image) → IsShed real shown
    → WantsSame op real shown → HasFailed op (machine image real) line now left → HasFailed op (machine image shown) line now shown
shown_failed (Load l k) one image real left shown line now shed same x = bring_shown (Load l k) image real left shown line now x l same (λ c. refl)
shown_failed (Store l k value) one image real left shown line now shed same x = bring_shown (Store l k value) image real left shown line now x l same (λ c. refl)
shown_failed (WriteBack l) one image real left shown line now shed same x = absurd (let none = x.fails.is in cc)
shown_failed Fence one image real left shown line now shed same x = absurd one
shown_failed (Invalidate l) one image real left shown line now shed same x = send_shown (Invalidate l) image real left shown line now x l (shed l.0) (λ c. refl)
shown_failed Digest one image real left shown line now shed same x = absurd (let none = x.fails.is in cc)

-- Copies may be forgotten at any time.

shed_twice : (less real shown : Cell) → IsShedCopy less real → IsShedCopy real shown → IsShedCopy less shown
shed_twice less real shown (inl same) shed = subst (λ (c : Cell). IsShedCopy c shown) (sym same) shed
shed_twice less real shown (inr lacks) (inl same) = inr (lacks.0, subst (λ (c : Cell). ¬ (IsDirty c)) same lacks.1)
shed_twice less real shown (inr lacks) (inr more) = inr (lacks.0, more.1)

pub shed_more : (less real shown : Cache) → IsShed less real → IsShed real shown → IsShed less shown
shed_more less real shown forgot shed = λ line. shed_twice (cell_at less line) (cell_at real line) (cell_at shown line) (forgot line) (shed line)

-- none is lacking
pub shed_none : (cache : Cache) → IsShed cache cache
shed_none cache = λ line. inl refl

-- an empty cache lacks all of one that has no dirty line
pub shed_all : (cache : Cache) → dirty_count cache ≡ 0 → IsShed map.empty cache
shed_all cache none = λ line. inr (cell_at-empty line, none_dirty cache none line)
