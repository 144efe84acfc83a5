-- Lines of a file that is compared, dropped and brought by one call, one behind another, up to one with which the task is done:
-- those behind it are dropped again.
use Rattle.std.proofs.Common.{◌≡◌, ℕ, zero, suc, ◌+◌, ◌<◌, ◌≤◌, List, Option, inl, inr, refl, sym, ap, subst, ◌∙◌, arith}
use Rattle.std.proofs.lemmas.Bool.{cases_eq, false≢true}
use Rattle.fam_base.specs.Image.{Image, IsNormal, eight}
use Rattle.fam_machine.specs.declared.cell.Cell.{Cell}
use Rattle.fam_machine.specs.declared.cell.Cell.TheVariants.{Absent, Clean}
use Rattle.fam_machine.specs.Caches.{Cache, cell_at, with_cell}
use Rattle.fam_machine.specs.OneLine.{IsDirty}
use Rattle.fam_machine.specs.Operations.{line_no}
use Rattle.fam_machine.proofs.CacheLemmas.{cell_at-with_cell_other, cell_at-with_cell_same, with_cell_own, with_cell_twice}
use Rattle.fam_commands.specs.Task.{Task}
use Rattle.fam_media.specs.Causes.{Rose}
use Rattle.fam_media.specs.Outside.{IfModelled}
use Rattle.fam_media.specs.Runs.{AreRead, line_in}
use Rattle.fam_cache.specs.BroughtRuns.{LacksNone, brought_run}
use Rattle.fam_tasks.specs.CompareRuns.{ComparesRun, IsComparedRow, more, none}
use Rattle.fam_tasks.specs.declared.answer.Turn.{Turn}
use Rattle.fam_tasks.specs.declared.answer.Turn.TheVariants.{Go}
use Rattle.fam_tasks.specs.Rest.{ComparesLine, DropsLine}
use Rattle.fam_tasks.specs.Sound.{IsSound}
use Rattle.fam_run.specs.Led.{HasBrokenOff, HasDone}
use Rattle.fam_run.specs.Runs.{AreAbsent}
use Rattle.fam_run.proofs.Joined.{done_then}
use Rattle.fam_run.proofs.Matched.{line_matched}
use Rattle.fam_run.proofs.SlotRuns.{breaks_behind, brought_other, change, line_breaks}

-- memory lacks no word of lines that were brought
pub lacks_brought : (first : ℕ) (lines : List (List ℕ)) (n : ℕ) (cache : Cache) → LacksNone (brought_run first lines n cache) first n
lacks_brought first lines zero cache = λ k below. absurd (omega (arith, below))
lacks_brought first lines (suc n) cache = λ k below.
    let earlier : Cache = brought_run first lines n cache in
    elim (cases_eq k n) [
      | inl last ↦ λ dirty. false≢true
          (subst IsDirty (ap (λ (i : ℕ). cell_at (with_cell (first + n) (Clean (eight (line_in lines n))) earlier) (first + i)) last
          ∙ cell_at-with_cell_same (first + n) (Clean (eight (line_in lines n))) earlier) dirty)
      | inr other ↦ subst (λ (c : Cell). ¬ (IsDirty c))
          (sym (cell_at-with_cell_other (first + n) (Clean (eight (line_in lines n))) earlier (first + k) (λ e. omega (arith, e, other))))
          (lacks_brought first lines n cache k (omega (arith, below, other)))
    ]

-- nor of those before one that is dropped
pub lacks_dropped : (first n : ℕ) (cache : Cache) → LacksNone cache first (suc n) → LacksNone (with_cell (first + n) Absent cache) first n
lacks_dropped first n cache clean = λ k below.
    subst (λ (c : Cell). ¬ (IsDirty c)) (sym (cell_at-with_cell_other (first + n) Absent cache (first + k) (λ e. omega (arith, e, below)))) (clean k (omega (arith, below)))

-- the last line that was brought is dropped again
pub last_dropped : (first : ℕ) (lines : List (List ℕ)) (n : ℕ) (before cache : Cache) → AreAbsent before first (suc n) → cache ≡ brought_run first lines (suc n) before
    → with_cell (first + n) Absent cache ≡ brought_run first lines n before
last_dropped first lines n before cache absent is =
    let earlier : Cache = brought_run first lines n before in
    let none_there : cell_at earlier (first + n) ≡ Absent = brought_other first lines n before (first + n) (omega arith) ∙ absent n (omega arith) in
    ap (with_cell (first + n) Absent) is
    ∙ with_cell_twice (first + n) (Clean (eight (line_in lines n))) Absent earlier
    ∙ ap (λ (c : Cell). with_cell (first + n) c earlier) (sym none_there)
    ∙ with_cell_own (first + n) earlier

-- one that could not be brought isn't held still
pub absent_still : (first : ℕ) (lines : List (List ℕ)) (n : ℕ) (before : Cache) → cell_at before (first + n) ≡ Absent
    → with_cell (first + n) Absent (brought_run first lines n before) ≡ brought_run first lines n before
absent_still first lines n before absent =
    let earlier : Cache = brought_run first lines n before in
    ap (λ (c : Cell). with_cell (first + n) c earlier) (sym (brought_other first lines n before (first + n) (omega arith) ∙ absent)) ∙ with_cell_own (first + n) earlier

-- fewer lines of a row are one
pub fewer : (first m n : ℕ) (t : Task) → n ≤ m → IsComparedRow first m t → IsComparedRow first n t
fewer first m n t few row = record {
  j = row.j;
  phase = row.phase;
  verify = row.verify;
  more = omega (arith, few, row.more);
  each = λ k below. row.each k (omega (arith, below, few));
}

module _ (first : ℕ) (lines : List (List ℕ)) (modelled shown : Option Image) (same : shown ≡ modelled) (normal : IsNormal modelled) (size before now : ℕ) (old : Cache) (t : Task) where
  -- so many lines were read
  abbrev Read : ℕ → Type 0
  Read n = IfModelled modelled (λ image. AreRead image first lines n)

  -- one more line
  line_done : (n : ℕ) (mid next : Task) (said : Turn) → IsSound mid → ComparesLine (line_no (first + n)) (eight (line_in lines n)) mid next said → LacksNone old first (suc n)
      → Read (suc n) → HasDone (change size before now modelled shown mid (brought_run first lines n old) next (brought_run first lines (suc n) old)) said
  line_done n mid next said sound compares clean read =
      line_matched (line_no (first + n)) (line_in lines n) mid next said modelled (brought_run first lines n old) normal sound compares
      (subst (λ (c : Cell). ¬ (IsDirty c)) (sym (brought_other first lines n old (first + n) (omega arith))) (clean n (omega arith)))
      (λ image is. read image is n (omega arith)) size before now (brought_run first lines (suc n) old) shown same refl

  -- all that were compared
  all_done : (n : ℕ) (next : Task) (said : Turn) → ComparesRun first lines t next (suc n) said → LacksNone old first (suc n) → Read (suc n)
      → HasDone (change size before now modelled shown t old next (brought_run first lines (suc n) old)) said
  all_done zero next said (more none sound compares) clean read = line_done 0 t next said sound compares clean read
  all_done (suc n) next said (more {mid = mid} run sound compares) clean read =
      done_then (change size before now modelled shown t old mid (brought_run first lines (suc n) old)) same
      (all_done n mid Go run (λ k below. clean k (omega (arith, below))) (λ image is k below. read image is k (omega (arith, below))))
      next (brought_run first lines (suc (suc n)) old) shown now size before said
      (subst (λ (m : Option Image). HasDone (change size before now m shown mid (brought_run first lines (suc n) old) next (brought_run first lines (suc (suc n)) old)) said) (sym same)
      (line_done (suc n) mid next said sound compares clean read))

  -- the same of a cache that is the one behind them
  pub run_done : (n : ℕ) → 0 < n → (next : Task) (said : Turn) → ComparesRun first lines t next n said → LacksNone old first n → Read n
      → (new : Cache) → new ≡ brought_run first lines n old → HasDone (change size before now modelled shown t old next new) said
  run_done zero some next said run clean read new is = absurd (omega (arith, some))
  run_done (suc n) some next said run clean read new is =
      subst (λ (c : Cache). HasDone (change size before now modelled shown t old next c) said) (sym is) (all_done n next said run clean read)

  -- the next line is dropped, and can't be brought
  run_breaks : (n : ℕ) (mid dropped : Task) → ComparesRun first lines t mid n Go → IsSound mid → DropsLine (line_no (first + n)) mid dropped → IsSound dropped
      → LacksNone old first (suc n) → Read n → Rose before now → first + n < size
      → HasBrokenOff (change size before now modelled shown t old dropped (with_cell (first + n) Absent (brought_run first lines n old))) (line_no (first + n))
  run_breaks zero mid dropped none sound drops dropped_sound clean read rose inside =
      line_breaks first lines modelled shown same normal size before now old t 0 t dropped sound drops dropped_sound clean rose inside
  run_breaks (suc n) mid dropped run sound drops dropped_sound clean read rose inside =
      breaks_behind first lines modelled shown same normal size before now old t (suc n) mid dropped
      (all_done n mid Go run (λ k below. clean k (omega (arith, below))) read) sound drops dropped_sound clean rose inside

  pub run_failed : (n : ℕ) (mid dropped : Task) → ComparesRun first lines t mid n Go → IsSound mid → DropsLine (line_no (first + n)) mid dropped → IsSound dropped
      → LacksNone old first (suc n) → Read n → Rose before now → first + n < size → (new : Cache) → new ≡ with_cell (first + n) Absent (brought_run first lines n old)
      → HasBrokenOff (change size before now modelled shown t old dropped new) (line_no (first + n))
  run_failed n mid dropped run sound drops dropped_sound clean read rose inside new is =
      subst (λ (c : Cache). HasBrokenOff (change size before now modelled shown t old dropped c) (line_no (first + n))) (sym is)
      (run_breaks n mid dropped run sound drops dropped_sound clean read rose inside)
