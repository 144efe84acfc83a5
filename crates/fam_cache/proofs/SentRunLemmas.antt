-- Lines that stand one behind another, and are sent by one call.
use Rattle.std.proofs.Common.{◌≡◌, ◌≢◌, ℕ, zero, suc, ◌+◌, ◌<◌, ◌≤◌, true, List, ◌∷◌, take, Option, Some, None, refl, sym, ap, subst, ◌∙◌, arith}
use Rattle.std.specs.Option.{option_map}
use Rattle.std.proofs.lemmas.Bool.{false≢true}
use Rattle.fam_base.specs.declared.line.LineNo.{LineNo}
use Rattle.fam_base.specs.Image.{Image, eight, with_line}
use Rattle.fam_machine.specs.declared.cell.Cell.{Cell}
use Rattle.fam_machine.specs.declared.cell.Cell.TheVariants.{Absent, Clean, Dirty}
use Rattle.fam_machine.specs.declared.op.Op.TheVariants.{Fence}
use Rattle.fam_machine.specs.Caches.{Cache, asked_lines, cell_at, line_changed}
use Rattle.fam_machine.specs.Cuts.{HasFailed}
use Rattle.fam_machine.specs.OneLine.{IsAsked, cleaned, failed_send, is_asked, sent}
use Rattle.fam_machine.specs.Operations.{machine}
use Rattle.fam_machine.proofs.CacheLemmas.{cell_at-with_cell_other, cell_at-with_cell_same}
use Rattle.fam_media.specs.Outside.{IfModelled}
use Rattle.fam_media.specs.Runs.{line_in, run_written}
use Rattle.fam_cache.specs.declared.blocks.Mark.{Mark}
use Rattle.fam_cache.specs.declared.blocks.Mark.TheVariants.{Empty, Fresh, Stored, Asked}
use Rattle.fam_cache.specs.Blocks.{AskedWithin, IsFirstAsked, marked, normal}
use Rattle.fam_cache.specs.Effects.{FailsTo}
use Rattle.fam_cache.specs.Operations.{CleansSome}
use Rattle.fam_cache.specs.Runs.{CacheOver, over}
use Rattle.fam_cache.specs.SentRuns.{BreaksOff, IsAskedLine, SendsRun, cleaned_run}
use Rattle.fam_cache.proofs.AskedLines.{low_then, next_line}
use Rattle.fam_cache.proofs.AskedRange.{lines_asked, within_next}
use Rattle.fam_cache.proofs.Fenced.{HasSent, not_all_sent, sent_next, some_cleaned, was_asked}
use Rattle.fam_cache.proofs.MemoryLemmas.{torn_send}

-- a copy with a mark by which it was asked for
pub marked_asked : (mark : Mark) (words : List ℕ) → is_asked (marked mark words) ≡ true → marked mark words ≡ Dirty true (eight words)
marked_asked Empty words is = absurd (false≢true is)
marked_asked Fresh words is = absurd (false≢true is)
marked_asked Stored words is = absurd (false≢true is)
marked_asked Asked words is = refl

-- a line behind those that are clean
run_other : (first k : ℕ) (cache : Cache) (q : ℕ) → first + k ≤ q → cell_at (cleaned_run first k cache) q ≡ cell_at cache q
run_other first zero cache q behind = refl
run_other first (suc k) cache q behind =
    cell_at-with_cell_other (first + k) (cleaned (cell_at (cleaned_run first k cache) (first + k))) (cleaned_run first k cache) q (λ e. omega (arith, e, behind))
    ∙ run_other first k cache q (omega (arith, behind))

-- what is cleaned isn't asked for
cleaned_unasked : (cell : Cell) → IsAsked (cleaned cell) → ⊥
cleaned_unasked Absent is = false≢true is
cleaned_unasked (Clean words) is = false≢true is
cleaned_unasked (Dirty a words) is = false≢true is

asked_dirty : (copy : Cell) (words : List ℕ) → copy ≡ Dirty true words → IsAsked copy
asked_dirty copy words is = ap is_asked is

-- what is sent of an asked line are its words
sent_dirty : (o : Option Image) (line : ℕ) (copy : Cell) (words : List ℕ) → copy ≡ Dirty true words
    → option_map (with_line line words) o ≡ option_map (line_changed line (λ memory. sent memory copy)) o
sent_dirty None line copy words is = refl
sent_dirty (Some image) line copy words is = rw is refl

run_more : (first k : ℕ) (lines : List (List ℕ)) (o : Option Image) → run_written first lines (suc k) o ≡ option_map (with_line (first + k) (line_in lines k)) (run_written first lines k o)
run_more first k lines None = refl
run_more first k lines (Some image) = refl

-- What a fence has done, and the first line that is asked yet.
module _ (start before : CacheOver) (from last first : ℕ) (has : HasSent start before) (within : AskedWithin from last before.lines)
    (next : IsFirstAsked before.lines from first) (lines : List (List ℕ)) where
  abbrev behind : ℕ → CacheOver
  behind k = over (run_written first lines k before.image) (cleaned_run first k before.lines)

  -- so many more lines were sent
  record HasMore (k : ℕ) : Type 0 where
    sends : HasSent start (behind k)
    bounds : AskedWithin (first + k) last (cleaned_run first k before.lines)

  none_more : HasMore 0
  none_more = record {
    sends = subst (λ (o : Option Image). HasSent start (over o before.lines)) (sym (same before.image)) has;
    bounds = record { low = λ q is. omega (arith, low_then before.lines from last within first next q is); high = λ q is. within.high q is };
  }
    where
      same : (o : Option Image) → run_written first lines 0 o ≡ o
      same None = refl
      same (Some image) = refl

  module _ (k : ℕ) (more : HasMore k) (asked : IsAskedLine before.lines first lines k) where
    here : cell_at (cleaned_run first k before.lines) (first + k) ≡ Dirty true (line_in lines k)
    here = run_other first k before.lines (first + k) (omega arith) ∙ asked.is ∙ ap (λ (ws : List ℕ). Dirty true ws) asked.whole

    first_here : IsFirstAsked (cleaned_run first k before.lines) (first + k) (first + k)
    first_here = record { from_there = omega arith; asked = asked_dirty _ _ here; none = λ q low high is. omega (arith, low, high) }

    line_next : asked_lines (cleaned_run first k before.lines) ≡ (first + k) ∷ asked_lines (cleaned_run first (suc k) before.lines)
    line_next = next_line (cleaned_run first k before.lines) (first + k) last more.bounds (first + k) first_here

    one_more : HasMore (suc k)
    one_more = record {
      sends = sent_next start (behind k) more.sends (behind (suc k)) (first + k) (asked_lines (cleaned_run first (suc k) before.lines)) line_next refl refl
          (run_more first k lines before.image ∙ sent_dirty (run_written first lines k before.image) (first + k) (cell_at (cleaned_run first k before.lines) (first + k)) (line_in lines k) here);
      bounds =
          let then = within_next (first + k) last (first + k) (cleaned_run first k before.lines) (cleaned_run first (suc k) before.lines) more.bounds first_here refl in
          record { low = λ q is. omega (arith, then.low q is, not_there q is); high = then.high };
    }
      where
        not_there : (q : ℕ) → IsAsked (cell_at (cleaned_run first (suc k) before.lines) q) → q ≢ first + k
        not_there q is e =
            cleaned_unasked (cell_at (cleaned_run first k before.lines) (first + k))
            (subst IsAsked (cell_at-with_cell_same (first + k) (cleaned (cell_at (cleaned_run first k before.lines) (first + k))) (cleaned_run first k before.lines))
            (subst (λ (z : ℕ). IsAsked (cell_at (cleaned_run first (suc k) before.lines) z)) e is))

  all_more : (count : ℕ) → ((k : ℕ) → k < count → IsAskedLine before.lines first lines k) → HasMore count
  all_more zero asked = none_more
  all_more (suc count) asked = one_more count (all_more count (λ k below. asked k (omega (arith, below)))) (asked count (omega arith))

-- a line that is asked for yet was asked for at first
pub still_asked : (first last : ℕ) (start now : CacheOver) → AskedWithin first last start.lines → HasSent start now → (line : ℕ) → IsAsked (cell_at now.lines line) → IsAsked (cell_at start.lines line)
still_asked first last start now was has line is =
    lines_asked first last start.lines now.lines was (take has.count (asked_lines start.lines)) start.lines line (subst (λ (c : Cache). IsAsked (cell_at c line)) has.lines is)

-- Behind a run that was sent, and where one broke off.
module _ (start before : CacheOver) (from last first : ℕ) (has : HasSent start before) (within : AskedWithin from last before.lines) (next : IsFirstAsked before.lines from first) where
  pub run_sent : (count : ℕ) (now : CacheOver) → SendsRun first count before now → HasSent start now
  run_sent count now run =
      subst (HasSent start) (sym (whole now run.sent.sends run.sent.cleans)) (all_more start before from last first has within next run.lines count run.sent.asked).sends
    where
      whole : (now : CacheOver) → now.image ≡ run_written first run.lines count before.image → now.lines ≡ cleaned_run first count before.lines
          → now ≡ over (run_written first run.lines count before.image) (cleaned_run first count before.lines)
      whole now image lines = rw (image, lines) refl

  pub run_within : (count : ℕ) (now : CacheOver) → SendsRun first count before now → AskedWithin (first + count) last now.lines
  run_within count now run =
      subst (AskedWithin (first + count) last) (sym run.sent.cleans) (all_more start before from last first has within next run.lines count run.sent.asked).bounds

  pub run_fails : (line : LineNo) (after : CacheOver) → BreaksOff first line.0 before after →
      IfModelled start.image (λ image. HasFailed Fence (machine image start.lines) line after.image after.lines)
  run_fails line after off =
      let most = all_more start before from last first has within next off.lines off.count off.sent.asked in
      let now = behind start before from last first has within next off.lines off.count in
      let is : cell_at now.lines line.0 ≡ normal (Dirty true (line_in off.lines off.count)) =
      ap (cell_at now.lines) off.at ∙ run_other first off.count before.lines (first + off.count) (omega arith) ∙ off.next.is in
      not_all_sent start now most.sends line (asked_lines (cleaned_run first (suc off.count) before.lines)) after.image after.lines off.sent.cleans
      (line_next start before from last first has within next off.lines off.count most off.next ∙ ap (λ (l : ℕ). l ∷ asked_lines (cleaned_run first (suc off.count) before.lines)) (sym off.at))
      (subst (λ (o : Option Image). IfModelled o (λ image. FailsTo line.0 (λ through memory. failed_send through memory (cell_at now.lines line.0)) image after.image)) off.sent.sends
      (subst (λ (c : Cell). IfModelled off.left (λ image. FailsTo line.0 (λ through memory. failed_send through memory c) image after.image)) (sym is)
      (torn_send off.left after.image line.0 (line_in off.lines off.count) (Dirty true (line_in off.lines off.count)) refl off.torn)))

  pub fails_asked : (line : LineNo) (after : CacheOver) → BreaksOff first line.0 before after → IsAsked (cell_at start.lines line.0)
  fails_asked line after off =
      let most = all_more start before from last first has within next off.lines off.count off.sent.asked in
      subst (λ (l : ℕ). IsAsked (cell_at start.lines l)) (sym off.at)
      (was_asked start (behind start before from last first has within next off.lines off.count) most.sends (first + off.count) _
      (line_next start before from last first has within next off.lines off.count most off.next))

  pub fails_cleans : (line : LineNo) (after : CacheOver) → BreaksOff first line.0 before after → CleansSome start.lines after.lines
  fails_cleans line after off =
      let most = all_more start before from last first has within next off.lines off.count off.sent.asked in
      subst (CleansSome start.lines) (sym off.sent.cleans) (some_cleaned start (behind start before from last first has within next off.lines off.count) most.sends)
